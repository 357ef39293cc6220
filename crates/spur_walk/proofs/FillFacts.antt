-- A block that is filled: its frame, its line, and what the tags ask of the entry.
use Rattle.std.proofs.Common.{◌≡◌, ◌≢◌, ◌∙◌, ℕ, ◌+◌, ◌*◌, ◌/◌, ◌%◌, ◌^◌, ◌<◌, ◌≤◌, ◌&&◌, ◌||◌, nat_lt, Bool, true, false, not, ap, sym, refl, List, [], get_or, length, slice_index, Option, None, arith}
use Rattle.std.proofs.lemmas.Bool.{lt-ltb, ltb-true}
use Rattle.spur_addr.specs.Address.{block_of, block_start_of, entry_address_of, table_start, root_start}
use Rattle.spur_addr.specs.PageEntry.{is_valid, is_referenced, is_dirty, is_leaving, number_of, protection_of}
use Rattle.spur_cache.specs.declared.line.Line.{Line}
use Rattle.spur_cache.proofs.CacheFacts.{found_held}
use Rattle.spur_snoop.specs.declared.BlockState.{BlockState}
use Rattle.spur_snoop.specs.declared.BlockState.TheVariants.{Invalid, UnOwned, OwnedNonExclusive, OwnedExclusive}
use Rattle.spur_snoop.specs.declared.Need.{Need}
use Rattle.spur_snoop.specs.declared.Need.TheVariants.{Read, Write}
use Rattle.spur_snoop.specs.Protocol.{is_owned, is_alive}
use Rattle.spur_flat.specs.declared.flat.Flat.{Flat}
use Rattle.spur_flat.specs.declared.tag.Tag.{Tag}
use Rattle.spur_flat.specs.declared.entry.Layer.{Layer}
use Rattle.spur_flat.specs.declared.entry.Layer.TheVariants.{RootBlock, PteBlock, UserBlock}
use Rattle.spur_flat.specs.Access.{allows}
use Rattle.spur_flat.specs.Blocks.{entry_block, is_layer, layer_from, layer_of, root_word_of, wired_frame}
use Rattle.spur_flat.specs.Pager.{word_of}
use Rattle.spur_flat.specs.TagLines.{filled_state}
use Rattle.spur_flat.specs.TagLines as T
use Rattle.spur_flat.specs.TagRules.{access_of, tag_condition, is_read, may_fill, state_number, table_refusal}
use Rattle.spur_bus.specs.declared.place.Place.{Place}
use Rattle.spur_bus.specs.Calls.{Gives, read_line, tags_of}
use Rattle.spur_bus.proofs.CallFacts.{tags_in}
use Rattle.spur_walk.specs.Tables.{HasTablesOf, StandsIn, block_address, logical_flat}
use Rattle.spur_walk.specs.Tables as stands
use Rattle.spur_walk.specs.Present.{IsPresent, MayWalk}
use Rattle.spur_walk.specs.Steps.{HasBlock, IsFilled, OfUserBlock, OfPteBlock, OfRootBlock}
use Rattle.spur_walk.proofs.TableFacts.{page_start, root_word_start, same_word, wired_start, word_start}
use Rattle.spur_walk.proofs.PlanFacts.{own_cache}

-- the first byte of a block is where the address is
pub start_low : (g : ℕ) → g < table_start → block_start_of g < table_start
start_low g low = let l : g < 255 * 2 ^ 30 = low in let r : g / 2 ^ 5 * 2 ^ 5 < 255 * 2 ^ 30 = omega arith in r

pub start_from_table : (g : ℕ) → table_start ≤ g → table_start ≤ block_start_of g
start_from_table g low = let l : 255 * 2 ^ 30 ≤ g = low in let r : 255 * 2 ^ 30 ≤ g / 2 ^ 5 * 2 ^ 5 = omega arith in r

pub start_below_root : (g : ℕ) → g < root_start → block_start_of g < root_start
start_below_root g low = let l : g < 255 * 2 ^ 30 + 255 * 2 ^ 20 = low in let r : g / 2 ^ 5 * 2 ^ 5 < 255 * 2 ^ 30 + 255 * 2 ^ 20 = omega arith in r

pub start_from_root : (g : ℕ) → root_start ≤ g → root_start ≤ block_start_of g
start_from_root g low = let l : 255 * 2 ^ 30 + 255 * 2 ^ 20 ≤ g = low in let r : 255 * 2 ^ 30 + 255 * 2 ^ 20 ≤ g / 2 ^ 5 * 2 ^ 5 = omega arith in r

pub start_in_root : (g : ℕ) → g < root_start + 2 ^ 18 → block_start_of g < root_start + 2 ^ 18
start_in_root g low = let l : g < 255 * 2 ^ 30 + 255 * 2 ^ 20 + 2 ^ 18 = low in let r : g / 2 ^ 5 * 2 ^ 5 < 255 * 2 ^ 30 + 255 * 2 ^ 20 + 2 ^ 18 = omega arith in r

-- what lets a user's block be filled
pub record Lets (e : ℕ) (need : Need) : Type 0 where
  pub valid : is_valid e ≡ true
  pub allowed : allows e (access_of need) ≡ true
  pub dirty : (is_dirty e || is_read need) ≡ true

lets_if : (v r l a d w : Bool) → (v && r && not l && a && (d || w)) ≡ true → (v ≡ true) × (a ≡ true) × ((d || w) ≡ true)
lets_if true true false true true w h = (refl, refl, refl)
lets_if true true false true false true h = (refl, refl, refl)
lets_if true true false true false false h = cc
lets_if true true false false d w h = cc
lets_if true true true a d w h = cc
lets_if true false l a d w h = cc
lets_if false r l a d w h = cc

pub lets : (e : ℕ) (need : Need) → may_fill e need ≡ true → Lets e need
lets e need h =
    let all = lets_if (is_valid e) (is_referenced e) (is_leaving e) (allows e (access_of need)) (is_dirty e) (is_read need) h in
    record { valid = all.0; allowed = all.1; dirty = all.2 }

-- the frame
pub fills_stands : (F : Flat) (caches : List (List (Option Line))) (b : ℕ) (l : Layer) (n : Need) (g : ℕ) (place : Place) → IsFilled F caches b l n g place → StandsIn F (block_of g) place.frame
fills_stands F caches b UserBlock n g place (OfUserBlock m k p low above may is) =
    stands.OfPage (start_low g low) (ap (λ (w : ℕ). is_valid w) (word_start F g) ∙ (lets (word_of F g) n may).valid) (ap (λ (w : ℕ). number_of w) (word_start F g) ∙ sym (ap (λ (q : Place). q.frame) is))
fills_stands F caches b PteBlock n g place (OfPteBlock m k p from to above valid is) =
    stands.OfTable (start_from_table g from) (start_below_root g to) (ap (λ (r : ℕ). is_valid (slice_index F.words r)) (root_word_start g) ∙ valid)
    (ap (λ (r : ℕ). number_of (slice_index F.words r)) (root_word_start g) ∙ sym (ap (λ (q : Place). q.frame) is))
fills_stands F caches b RootBlock Read g place (OfRootBlock k p from to is) = stands.OfRoot (start_from_root g from) (start_in_root g to) (ap (λ (q : Place). q.frame) is ∙ sym (wired_start g))
fills_stands F caches b RootBlock Write g place f = elim f [ ]

-- a line and present pages
pub record Suits (F : Flat) (line : Line) : Type 0 where
  pub user : block_address line.tag < table_start → IsPresent F line
  pub table : table_start ≤ block_address line.tag → block_address line.tag < root_start → number_of (slice_index F.words (root_word_of (block_address line.tag))) ≡ line.frame
  pub root : root_start ≤ block_address line.tag → line.frame ≡ wired_frame (block_address line.tag)
  pub unowned : root_start ≤ block_address line.tag → is_owned line.state ≡ false

pub fills_suits : (F : Flat) (caches : List (List (Option Line))) (b : ℕ) (l : Layer) (n : Need) (g : ℕ) (place : Place) (words : List ℕ) → IsFilled F caches b l n g place → Suits F (read_line g (filled_state n) place words)
fills_suits F caches b UserBlock n g place words (OfUserBlock m k p low above may is) =
    let below : block_start_of g < table_start = start_low g low in
    record {
      user = λ (u : block_start_of g < table_start). record {
        valid = ap (λ (w : ℕ). is_valid w) (word_start F g) ∙ (lets (word_of F g) n may).valid;
        frame = ap (λ (w : ℕ). number_of w) (word_start F g) ∙ sym (ap (λ (q : Place). q.frame) is);
        prot = ap (λ (w : ℕ). protection_of w) (word_start F g) ∙ sym (ap (λ (q : Place). q.prot) is);
        dirty = λ (d : place.dirty ≡ true). ap (λ (w : ℕ). is_dirty w) (word_start F g) ∙ sym (ap (λ (q : Place). q.dirty) is) ∙ d;
      };
      table = λ (from : table_start ≤ block_start_of g) (to : block_start_of g < root_start). absurd (omega arith);
      root = λ (from : root_start ≤ block_start_of g). absurd (omega arith);
      unowned = λ (from : root_start ≤ block_start_of g). absurd (omega arith);
    }
fills_suits F caches b PteBlock n g place words (OfPteBlock m k p from to above valid is) =
    let low : table_start ≤ block_start_of g = start_from_table g from in
    let high : block_start_of g < root_start = start_below_root g to in
    record {
      user = λ (u : block_start_of g < table_start). absurd (omega arith);
      table = λ (f : table_start ≤ block_start_of g) (t : block_start_of g < root_start). ap (λ (r : ℕ). number_of (slice_index F.words r)) (root_word_start g) ∙ sym (ap (λ (q : Place). q.frame) is);
      root = λ (f : root_start ≤ block_start_of g). absurd (omega arith);
      unowned = λ (f : root_start ≤ block_start_of g). absurd (omega arith);
    }
fills_suits F caches b RootBlock Read g place words (OfRootBlock k p from to is) =
    let low : root_start ≤ block_start_of g = start_from_root g from in
    record {
      user = λ (u : block_start_of g < table_start). absurd (omega arith);
      table = λ (f : table_start ≤ block_start_of g) (t : block_start_of g < root_start). absurd (omega arith);
      root = λ (f : root_start ≤ block_start_of g). ap (λ (q : Place). q.frame) is ∙ sym (wired_start g);
      unowned = λ (f : root_start ≤ block_start_of g). refl;
    }
fills_suits F caches b RootBlock Write g place words f = elim f [ ]

-- the layer of the entry's address
not_ltb : (a b : ℕ) (t : Bool) → b ≤ a → nat_lt a b ≡ t → t ≡ false
not_ltb a b true low is = let less : a < b = ltb-true a b is in absurd (omega arith)
not_ltb a b false low is = refl

ge_ltb : (a b : ℕ) → b ≤ a → nat_lt a b ≡ false
ge_ltb a b low = not_ltb a b (nat_lt a b) low refl

layer_user : (s : ℕ) → s < table_start → is_layer (layer_of s) UserBlock ≡ true
layer_user s low = ap (λ (t : Bool). is_layer (layer_from t (nat_lt s root_start) (nat_lt s (root_start + 2 ^ 18))) UserBlock) (lt-ltb s table_start low)

layer_table : (s : ℕ) → table_start ≤ s → s < root_start → is_layer (layer_of s) PteBlock ≡ true
layer_table s from to =
    ap (λ (t : Bool). is_layer (layer_from t (nat_lt s root_start) (nat_lt s (root_start + 2 ^ 18))) PteBlock) (ge_ltb s table_start from)
    ∙ ap (λ (t : Bool). is_layer (layer_from false t (nat_lt s (root_start + 2 ^ 18))) PteBlock) (lt-ltb s root_start to)

layer_root : (s : ℕ) → root_start ≤ s → s < root_start + 2 ^ 18 → is_layer (layer_of s) RootBlock ≡ true
layer_root s from to =
    ap (λ (t : Bool). is_layer (layer_from t (nat_lt s root_start) (nat_lt s (root_start + 2 ^ 18))) RootBlock) (ge_ltb s table_start (omega arith))
    ∙ ap (λ (t : Bool). is_layer (layer_from false t (nat_lt s (root_start + 2 ^ 18))) RootBlock) (ge_ltb s root_start from)
    ∙ ap (λ (t : Bool). is_layer (layer_from false false t) RootBlock) (lt-ltb s (root_start + 2 ^ 18) to)

pub fills_layer : (F : Flat) (caches : List (List (Option Line))) (b : ℕ) (l : Layer) (n : Need) (g : ℕ) (place : Place) → IsFilled F caches b l n g place → is_layer (layer_of (block_start_of g)) l ≡ true
fills_layer F caches b UserBlock n g place (OfUserBlock m k p low above may is) = layer_user (block_start_of g) (start_low g low)
fills_layer F caches b PteBlock n g place (OfPteBlock m k p from to above valid is) = layer_table (block_start_of g) (start_from_table g from) (start_below_root g to)
fills_layer F caches b RootBlock Read g place (OfRootBlock k p from to is) = layer_root (block_start_of g) (start_from_root g from) (start_in_root g to)
fills_layer F caches b RootBlock Write g place f = elim f [ ]

-- the block of the entry above is there
pub alive : (state : BlockState) → state ≢ Invalid → is_alive state ≡ true
alive Invalid h = absurd (h refl)
alive UnOwned h = refl
alive OwnedNonExclusive h = refl
alive OwnedExclusive h = refl

pub above_start : (g : ℕ) → entry_block (block_start_of g) ≡ block_of (entry_address_of g)
above_start g = ap (λ (n : ℕ). (255 * 2 ^ 30 + 4 * n) / 2 ^ 5) (page_start g)

pub above_state : (caches : List (List (Option Line))) (memory : List ℕ) (b g : ℕ) → MayWalk caches memory → b < length caches → HasBlock caches b (entry_address_of g)
    → is_alive (T.block_state (T.tag_at (tags_of caches) b (entry_block (block_start_of g)))) ≡ true
above_state caches memory b g may within above =
    ap (λ (n : ℕ). is_alive (T.block_state (T.tag_at (tags_of caches) b n))) (above_start g)
    ∙ ap (λ (t : Option Tag). is_alive (T.block_state t)) (tags_in caches b (entry_address_of g) above.line within above.there)
    ∙ alive above.line.state (found_held (get_or caches b []) (entry_address_of g) above.line (own_cache caches b may.agree within) above.there).valid

two_held : (a c : Bool) (m n x y : ℕ) → a ≡ true → c ≡ true → tag_condition a m x (tag_condition c n y None) ≡ None
two_held true true m n x y ha hc = refl
two_held true false m n x y ha hc = cc
two_held false c m n x y ha hc = cc

root_index_small : (g : ℕ) → root_word_of g < 2 ^ 16
root_index_small g = let r : g / 2 ^ 12 % 2 ^ 16 < 2 ^ 16 = omega arith in r

-- in a flat state with the same tables the entry is the same
pub same_start : (F L : Flat) (g : ℕ) → HasTablesOf F L.words → g < table_start → word_of F (block_start_of g) ≡ word_of L g
same_start F L g has low = word_start F g ∙ same_word F L g has low

same_root : (F L : Flat) (g : ℕ) → HasTablesOf F L.words → slice_index F.words (root_word_of (block_start_of g)) ≡ slice_index L.words (root_word_of g)
same_root F L g has = ap (slice_index F.words) (root_word_start g) ∙ has.root (root_word_of g) (root_index_small g)

pub fills_tables : (F L : Flat) (caches : List (List (Option Line))) (memory : List ℕ) (b : ℕ) (l : Layer) (n : Need) (g : ℕ) (place : Place) → MayWalk caches memory → b < length caches → HasTablesOf F L.words → IsFilled L caches b l n g place
    → table_refusal F l n (block_start_of g) (T.block_state (T.tag_at (tags_of caches) b (entry_block (block_start_of g)))) ≡ None
fills_tables F L caches memory b UserBlock n g place may within has (OfUserBlock m k p low above lets is) =
    two_held (is_alive (T.block_state (T.tag_at (tags_of caches) b (entry_block (block_start_of g))))) (may_fill (word_of F (block_start_of g)) n) 8 10
    (state_number (T.block_state (T.tag_at (tags_of caches) b (entry_block (block_start_of g))))) (word_of F (block_start_of g))
    (above_state caches memory b g may within above)
    (ap (λ (w : ℕ). may_fill w n) (same_start F L g has low) ∙ lets)
fills_tables F L caches memory b PteBlock n g place may within has (OfPteBlock m k p from to above valid is) =
    two_held (is_alive (T.block_state (T.tag_at (tags_of caches) b (entry_block (block_start_of g))))) (is_valid (slice_index F.words (root_word_of (block_start_of g)))) 9 11
    (state_number (T.block_state (T.tag_at (tags_of caches) b (entry_block (block_start_of g))))) (slice_index F.words (root_word_of (block_start_of g)))
    (above_state caches memory b g may within above)
    (ap (λ (w : ℕ). is_valid w) (same_root F L g has) ∙ valid)
fills_tables F L caches memory b RootBlock Read g place may within has (OfRootBlock k p from to is) = refl
fills_tables F L caches memory b RootBlock Write g place may within has f = elim f [ ]

-- and the line has what the entry's tag step gives it
pub fills_gives : (F L : Flat) (caches : List (List (Option Line))) (b : ℕ) (l : Layer) (n : Need) (g : ℕ) (place : Place) → HasTablesOf F L.words → IsFilled L caches b l n g place → Gives F l n (block_start_of g) place
fills_gives F L caches b UserBlock n g place has (OfUserBlock m k p low above may is) =
    let word : word_of F (block_start_of g) ≡ word_of L g = same_start F L g has low in
    record {
      frame = ap (λ (w : ℕ). number_of w) word ∙ sym (ap (λ (q : Place). q.frame) is);
      prot = ap (λ (w : ℕ). protection_of w) word ∙ sym (ap (λ (q : Place). q.prot) is);
      dirty = ap (λ (w : ℕ). is_dirty w) word ∙ sym (ap (λ (q : Place). q.dirty) is);
    }
fills_gives F L caches b PteBlock n g place has (OfPteBlock m k p from to above valid is) = record {
  frame = ap (λ (w : ℕ). number_of w) (same_root F L g has) ∙ sym (ap (λ (q : Place). q.frame) is);
  prot = sym (ap (λ (q : Place). q.prot) is);
  dirty = sym (ap (λ (q : Place). q.dirty) is);
}
fills_gives F L caches b RootBlock Read g place has (OfRootBlock k p from to is) = record {
  frame = wired_start g ∙ sym (ap (λ (q : Place). q.frame) is);
  prot = sym (ap (λ (q : Place). q.prot) is);
  dirty = sym (ap (λ (q : Place). q.dirty) is);
}
fills_gives F L caches b RootBlock Write g place has f = elim f [ ]
