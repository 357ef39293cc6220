-- What is carried from a valid flat state is carried where the swap is not told.
use Rattle.std.proofs.Common.{◌≡◌, ℕ, suc, ◌+◌, ◌-◌, ◌*◌, ◌/◌, ◌^◌, ◌<◌, ◌≤◌, ⊎_elim, Bool, true, false, not, ◌&&◌, ◌==◌, ◌||◌, nat_lt, nat_le, if◌then◌else◌, Option, Some, None, refl, sym, ap, ◌∙◌, subst, arith, List, [], ◌∷◌, length, slice_set}
use Rattle.std.specs.Prelude.{All, take, drop}
use Rattle.std.specs.List.{list_any}
use Rattle.std.proofs.Math.Seq.{take-set-lt}
use Rattle.std.proofs.lemmas.Bool.{and_parts, cases_lt, leb-true, ltb-true}
use Rattle.std.proofs.lemmas.List.{length-drop, length-set, length-take-le, take-append-le, take-set-le, take-take}
use Rattle.std.proofs.lemmas.List.Edits.{length-paste, take-paste}
use Rattle.std.proofs.lemmas.List.Elements.{All-from_recursion, recursion_from_All}
use Rattle.spur_addr.specs.Address.{page_of, block_of}
use Rattle.spur_addr.specs.PageEntry.{is_valid, is_dirty, is_leaving, protection_of, number_of, with_bit, resident_of, swapped_of}
use Rattle.spur_addr.specs.declared.page_entry.Protection.TheVariants as allow
use Rattle.spur_snoop.specs.declared.BlockState.{BlockState}
use Rattle.spur_snoop.specs.declared.Need.{Need}
use Rattle.spur_snoop.specs.Protocol.{is_owned, is_alive}
use Rattle.spur_flat.specs.declared.flat.Flat.{Flat}
use Rattle.spur_flat.specs.declared.tag.Tag.{Tag}
use Rattle.spur_flat.specs.declared.illegal.Illegal.{Illegal}
use Rattle.spur_flat.specs.declared.access.AccessKind.{AccessKind}
use Rattle.spur_flat.specs.declared.access.AccessKind.TheVariants as access
use Rattle.spur_flat.specs.declared.access.FaultKind.{FaultKind}
use Rattle.spur_flat.specs.declared.entry.Layer.{Layer}
use Rattle.spur_flat.specs.declared.entry.Layer.TheVariants as layer
use Rattle.spur_flat.specs.declared.entry.Entry.{Entry}
use Rattle.spur_flat.specs.declared.entry.Entry.TheVariants.{Load, Store, Tas, Fault, Fill, Claim, WriteBack, Refresh, BlockFlush, Leave, PageOut, PageIn, SetRef, SetDirty, ClearRef}
use Rattle.spur_flat.specs.Access.{may}
use Rattle.spur_flat.specs.Table.{table_words, walk_of, place_in, place_of}
use Rattle.spur_flat.specs.Validity.{IsDataFrame, IsValidFlat}
use Rattle.spur_flat.specs.Pager.{word_of, is_declared, has_frame, is_free_frame, MayPage, may_come_in, may_go_out, entry_place, position_in, swap_slot_of, with_entry, with_entry_bit, saved, gone_out, page_loaded, come_in}
use Rattle.spur_addr.specs.Pages.{page_at, with_page}
use Rattle.spur_flat.specs.Pager as pager
use Rattle.spur_flat.specs.History.{on, with_word_at}
use Rattle.spur_flat.specs.Laws.{address_of}
use Rattle.spur_flat.specs.Blocks.{entry_block, root_word_of, layer_of, is_layer}
use Rattle.spur_flat.specs.TagLines.{fresh_tag, filled_state, kind_of, bus_on, block_state, standing_tag, tag_at, lines_at}
use Rattle.spur_flat.specs.TagRules.{tag_condition, state_number, may_fill, table_refusal, refresh_refusal, flush_refusal, entry_state}
use Rattle.spur_flat.specs.State.{State, IsTagged, step, state_after, AllFollow, tags_after}
use Rattle.spur_flat.specs.Untold.{IsLike, LeadsUntold}
use Rattle.spur_flat.specs.UntoldLaws.{IsTaggedAlike, LikeIsTaggedAlike, LikeIsAllowedButValue, StepIsLike, UntoldWhereTold}
use Rattle.spur_flat.proofs.WalkFacts.{walk_of-entry}
use Rattle.spur_flat.proofs.LikeFacts.{root_same, place_same, walk_same, entry_same, declared_same, slot_same, free_same}
use Rattle.spur_flat.proofs.HistoryFacts.{stays-valid}

-- the same word at the same place of both, in the tables or past them
take_set : (n : ℕ) (xs ys : List ℕ) (place value : ℕ) → take n xs ≡ take n ys → take n (slice_set xs place value) ≡ take n (slice_set ys place value)
take_set n xs ys place value same =
    ⊎_elim
    (λ (inside : place < n).
    take-set-lt n xs place value inside ∙ ap (λ (zs : List ℕ). slice_set zs place value) same ∙ sym (take-set-lt n ys place value inside))
    (λ (past : n ≤ place). take-set-le n xs place value past ∙ same ∙ sym (take-set-le n ys place value past))
    (cases_lt place n)

-- so a word that is put at a place of both keeps them alike
like_with_word : (F other : Flat) (place value : ℕ) → IsLike F other → IsLike (with_word_at F place value) (with_word_at other place value)
like_with_word F other place value like = record {
  pages = like.pages;
  tables = like.tables;
  frames = like.frames;
  words = length-set F.words place value ∙ like.words ∙ sym (length-set other.words place value);
  table = take_set (table_words other.tables) F.words other.words place value like.table;
  swap = like.swap;
}

-- where the place and the word are the same by two equations
like_written : (F other : Flat) (place there value word : ℕ) → IsLike F other → place ≡ there → value ≡ word → IsLike (with_word_at F place value) (with_word_at other there word)
like_written F other place there value word like at is =
    subst (λ (p : ℕ). IsLike (with_word_at F p value) (with_word_at other there word)) (sym at)
    (subst (λ (v : ℕ). IsLike (with_word_at F there v) (with_word_at other there word)) (sym is) (like_with_word F other there word like))

-- another entry for the page of g
like_with_entry : (F other : Flat) (g value word : ℕ) → IsLike F other → g < 2 ^ 38 → value ≡ word → IsLike (with_entry F g value) (with_entry other g word)
like_with_entry F other g value word like small is = like_written F other (entry_place F g) (entry_place other g) value word like (place_same F other g like small) is

-- one bit of that entry
like_with_bit : (F other : Flat) (g bit : ℕ) (to : Bool) → IsLike F other → IsValidFlat other → g < 2 ^ 38 → IsLike (with_entry_bit F g bit to) (with_entry_bit other g bit to)
like_with_bit F other g bit to like ok small =
    like_with_entry F other g (with_bit (word_of F g) bit to) (with_bit (word_of other g) bit to) like small (ap (λ (e : ℕ). with_bit e bit to) (entry_same F other g like ok small))

-- the word of a store or a test-and-set
like_stored : (F other : Flat) (g value : ℕ) → IsLike F other → IsValidFlat other → g < 2 ^ 38 → IsLike (with_word_at F (place_of F g) value) (with_word_at other (place_of other g) value)
like_stored F other g value like ok small =
    like_written F other (place_of F g) (place_of other g) value value like (ap (λ (e : Option ℕ). place_in e g) (walk_same F other g like ok small)) refl

-- a page that is found has a position below the number of pages: one step of it, as plain truth values
position_step : (here later : Bool) (n m : ℕ) → (here || later) ≡ true → (later ≡ true → n < m) → (if here then 0 else 1 + n) < suc m
position_step true later n m found rest = omega arith
position_step false later n m found rest = let below : n < m = rest found in omega arith

-- and the whole
position_below : (pages : List ℕ) (page : ℕ) → list_any (λ p. p == page) pages ≡ true → position_in pages page < length pages
position_below [] page found = cc
position_below (p ∷ ps) page found = position_step (p == page) (list_any (λ q. q == page) ps) (position_in ps page) (length ps) found (position_below ps page)

-- as many words as a page has, of a frame or of a slot that is there
page_long : (words : List ℕ) (number : ℕ) → number * 1024 + 1024 ≤ length words → length (page_at words number) ≡ 1024
page_long words number there =
    let left : length (drop (number * 1024) words) ≡ length words - number * 1024 = length-drop (number * 1024) words in
    length-take-le 1024 (drop (number * 1024) words) (omega arith)

-- and a list with such a page in its place is as long as before
page_kept : (words page : List ℕ) (number : ℕ) → number * 1024 + 1024 ≤ length words → length page ≡ 1024 → length (with_page words number page) ≡ length words
page_kept words page number there long = length-paste words (number * 1024) page 1024 there (omega arith)

-- a page past the first n words leaves them
take_page : (n : ℕ) (words page : List ℕ) (number : ℕ) → n ≤ number * 1024 → number * 1024 ≤ length words → length page ≡ 1024 → take n (with_page words number page) ≡ take n words
take_page n words page number past there long =
    let at : ℕ = number * 1024 in
    let before : length (take at words) ≡ at = length-take-le at words there in
    sym (take-take n (at + 1024) (with_page words number page) (omega arith))
    ∙ ap (λ (zs : List ℕ). take n zs) (take-paste words at page 1024 there (omega arith))
    ∙ take-append-le n (take at words) (take 1024 page) (omega arith)
    ∙ take-take n at words past

-- a valid entry of an address below 2 ^ 38 has a data frame
walked_frame : (F : Flat) (g : ℕ) (entry : Option ℕ) → IsValidFlat F → g < 2 ^ 38 → walk_of F g ≡ entry → is_valid (pager.or_zero entry) ≡ true → IsDataFrame F.tables F.frames (number_of (pager.or_zero entry))
walked_frame F g None ok small walked valid = let never : is_valid 0 ≡ true = valid in cc
walked_frame F g (Some e) ok small walked valid = ok.tables.frame (g / 2 ^ 12) e (omega arith) (sym (walk_of-entry F g) ∙ walked) valid

-- either of two like pairs, by one test
like_either : (b : Bool) (F G other another : Flat) → IsLike F other → IsLike G another → IsLike (if b then F else G) (if b then other else another)
like_either true F G other another here away = here
like_either false F G other another here away = away

-- the page's words in its slot, where it was written
like_saved : (F other : Flat) (g e : ℕ) → IsLike F other → IsValidFlat other → is_declared other g ≡ true → IsDataFrame other.tables other.frames (number_of e) → IsLike (saved F g e) (saved other g e)
like_saved F other g e like ok declared frame =
    let place : swap_slot_of F g ≡ swap_slot_of other g = slot_same F other g like in
    let below : swap_slot_of other g < length other.pages = position_below other.pages (page_of g) declared in
    let slots : length F.swap ≡ 1024 * length other.pages = like.swap in
    let words : length F.words ≡ length other.words = like.words in
    let there : length other.words ≡ 1024 * (64 + other.tables + other.frames) = ok.words in
    let high = frame.high in
    let page : List ℕ = page_at F.words (number_of e) in
    like_either (is_dirty e) (record F { swap = with_page F.swap (swap_slot_of F g) page }) F (record other { swap = with_page other.swap (swap_slot_of other g) (page_at other.words (number_of e)) }) other
    (record {
      pages = like.pages;
      tables = like.tables;
      frames = like.frames;
      words = like.words;
      table = like.table;
      swap = page_kept F.swap page (swap_slot_of F g) (omega arith) (page_long F.words (number_of e) (omega arith)) ∙ like.swap;
    })
    like

-- a page that goes out
like_gone_out : (F other : Flat) (g : ℕ) → IsLike F other → IsValidFlat other → g < 2 ^ 38 → MayPage other g may_go_out → IsLike (gone_out F g (word_of F g)) (gone_out other g (word_of other g))
like_gone_out F other g like ok small may =
    let e : ℕ = word_of other g in
    let frame : IsDataFrame other.tables other.frames (number_of e) = walked_frame other g (walk_of other g) ok small refl (and_parts (is_valid e) (is_leaving e) may.entry).0 in
    subst (λ (d : ℕ). IsLike (gone_out F g d) (gone_out other g e)) (sym (entry_same F other g like ok small))
    (like_with_entry (saved F g e) (saved other g e) g (swapped_of (swap_slot_of F g) (protection_of e)) (swapped_of (swap_slot_of other g) (protection_of e))
    (like_saved F other g e like ok may.declared frame) small
    (ap (λ (slot : ℕ). swapped_of slot (protection_of e)) (slot_same F other g like)))

-- a free frame is one of the data
free_is_data : (F : Flat) (frame : ℕ) → is_free_frame F frame ≡ true → IsDataFrame F.tables F.frames frame
free_is_data F frame free =
    let outer = and_parts (nat_le (64 + F.tables) frame && nat_lt frame (64 + F.tables + F.frames)) (not (list_any (has_frame F frame) F.pages)) free in
    let inner = and_parts (nat_le (64 + F.tables) frame) (nat_lt frame (64 + F.tables + F.frames)) outer.0 in
    record { low = leb-true (64 + F.tables) frame inner.0; high = ltb-true frame (64 + F.tables + F.frames) inner.1 }

-- the slot's words in a frame of the data
like_loaded : (F other : Flat) (g frame : ℕ) → IsLike F other → IsValidFlat other → is_declared other g ≡ true → IsDataFrame other.tables other.frames frame → IsLike (page_loaded F g frame) (page_loaded other g frame)
like_loaded F other g frame like ok declared data_frame =
    let place : swap_slot_of F g ≡ swap_slot_of other g = slot_same F other g like in
    let below : swap_slot_of other g < length other.pages = position_below other.pages (page_of g) declared in
    let slots : length F.swap ≡ 1024 * length other.pages = like.swap in
    let others : length other.swap ≡ 1024 * length other.pages = ok.swap in
    let words : length F.words ≡ length other.words = like.words in
    let there : length other.words ≡ 1024 * (64 + other.tables + other.frames) = ok.words in
    let low = data_frame.low in
    let high = data_frame.high in
    let page : List ℕ = page_at F.swap (swap_slot_of F g) in
    let its : List ℕ = page_at other.swap (swap_slot_of other g) in
    let long : length page ≡ 1024 = page_long F.swap (swap_slot_of F g) (omega arith) in
    let as_long : length its ≡ 1024 = page_long other.swap (swap_slot_of other g) (omega arith) in
    record {
      pages = like.pages;
      tables = like.tables;
      frames = like.frames;
      words = page_kept F.words page frame (omega arith) long ∙ like.words ∙ sym (page_kept other.words its frame (omega arith) as_long);
      table = take_page (table_words other.tables) F.words page frame (omega arith) (omega arith) long ∙ like.table
          ∙ sym (take_page (table_words other.tables) other.words its frame (omega arith) (omega arith) as_long);
      swap = like.swap;
    }

-- a page that comes in
like_come_in : (F other : Flat) (g frame : ℕ) → IsLike F other → IsValidFlat other → g < 2 ^ 38 → MayPage other g may_come_in → is_free_frame other frame ≡ true
    → IsLike (come_in F g (word_of F g) frame) (come_in other g (word_of other g) frame)
like_come_in F other g frame like ok small may free =
    like_with_entry (page_loaded F g frame) (page_loaded other g frame) g (resident_of frame (protection_of (word_of F g))) (resident_of frame (protection_of (word_of other g)))
    (like_loaded F other g frame like ok may.declared (free_is_data other frame free)) small
    (ap (λ (e : ℕ). resident_of frame (protection_of e)) (entry_same F other g like ok small))

-- an entry that is allowed
pub step-is-like : StepIsLike
step-is-like F other (Load board at value) like ok small allowed = like
step-is-like F other (Store board at value) like ok small allowed = like_stored F other at value like ok small
step-is-like F other (Tas board at old) like ok small allowed = like_stored F other at 1 like ok small
step-is-like F other (Fault board kind access at) like ok small allowed = like
step-is-like F other (Fill board layer need at) like ok small allowed = like
step-is-like F other (Claim board at) like ok small allowed = like
step-is-like F other (WriteBack board at) like ok small allowed = like
step-is-like F other (Refresh board at) like ok small allowed = like
step-is-like F other (BlockFlush board holder at) like ok small allowed = like
step-is-like F other (Leave board at) like ok small allowed = like_with_bit F other at 6 true like ok small
step-is-like F other (PageOut board at) like ok small allowed = like_gone_out F other at like ok small allowed
step-is-like F other (PageIn board at frame) like ok small allowed = like_come_in F other at frame like ok small allowed.0 allowed.1
step-is-like F other (SetRef board at) like ok small allowed = like_with_bit F other at 1 true like ok small
step-is-like F other (SetDirty board at) like ok small allowed = like_with_bit F other at 2 true like ok small
step-is-like F other (ClearRef board at) like ok small allowed = like_with_bit F other at 1 false like ok small

-- what a fill needs of the tables
table_alike : (F other : Flat) (of : Layer) (need : Need) (at : ℕ) (above : BlockState) → IsLike F other → IsValidFlat other → at < 2 ^ 38 → table_refusal F of need at above ≡ table_refusal other of need at above
table_alike F other layer.UserBlock need at above like ok small =
    ap (λ (e : ℕ). tag_condition (is_alive above) 8 (state_number above) (tag_condition (may_fill e need) 10 e None)) (entry_same F other at like ok small)
table_alike F other layer.PteBlock need at above like ok small =
    ap (λ (e : ℕ). tag_condition (is_alive above) 9 (state_number above) (tag_condition (is_valid e) 11 e None)) (root_same F other (root_word_of at) like (omega arith))
table_alike F other layer.RootBlock need at above like ok small = refl

-- the tag that a fill gives
fresh_alike : (F other : Flat) (of : Layer) (need : Need) (at : ℕ) → IsLike F other → IsValidFlat other → at < 2 ^ 38 → fresh_tag F of need at ≡ fresh_tag other of need at
fresh_alike F other layer.UserBlock need at like ok small =
    ap (λ (e : ℕ). record { block = block_of at; state = filled_state need; frame = number_of e; prot = protection_of e; dirty = is_dirty e }) (entry_same F other at like ok small)
fresh_alike F other layer.PteBlock need at like ok small =
    ap (λ (e : ℕ). record { block = block_of at; state = filled_state need; frame = number_of e; prot = allow.ReadWrite; dirty = true }) (root_same F other (root_word_of at) like (omega arith))
fresh_alike F other layer.RootBlock need at like ok small = refl

-- the tags look at the flat state in a fill, a refresh and a flush alone, and there at the entry of one page
pub like-is-tagged-alike : LikeIsTaggedAlike
like-is-tagged-alike F other T (Load board at value) like ok small = record { refusal = refl; after = refl }
like-is-tagged-alike F other T (Store board at value) like ok small = record { refusal = refl; after = refl }
like-is-tagged-alike F other T (Tas board at old) like ok small = record { refusal = refl; after = refl }
like-is-tagged-alike F other T (Fault board kind access at) like ok small = record { refusal = refl; after = refl }
like-is-tagged-alike F other T (Fill board of need at) like ok small =
    let own : Option Tag = tag_at T board (block_of at) in
    let there : Option Tag = standing_tag (lines_at T board) (block_of at) in
    let above : BlockState = block_state (tag_at T board (entry_block at)) in
    record {
      refusal = ap (λ (tables : Option Illegal). tag_condition (is_layer (layer_of at) of) 5 0 (tag_condition (not (is_alive (block_state own))) 6 (state_number (block_state own)) (tag_condition (not (is_owned (block_state there))) 7 (state_number (block_state there)) tables)))
          (table_alike F other of need at above like ok small);
      after = ap (λ (tag : Tag). bus_on T board (block_of at) (kind_of need) (Some tag)) (fresh_alike F other of need at like ok small);
    }
like-is-tagged-alike F other T (Claim board at) like ok small = record { refusal = refl; after = refl }
like-is-tagged-alike F other T (WriteBack board at) like ok small = record { refusal = refl; after = refl }
like-is-tagged-alike F other T (Refresh board at) like ok small = record {
  refusal = ap (λ (e : ℕ). refresh_refusal e (tag_at T board (block_of at)) (entry_state T board at)) (entry_same F other at like ok small);
  after = refl;
}
like-is-tagged-alike F other T (BlockFlush board holder at) like ok small = record {
  refusal = ap (λ (e : ℕ). flush_refusal e (block_state (tag_at T holder (block_of at)))) (entry_same F other at like ok small);
  after = refl;
}
like-is-tagged-alike F other T (Leave board at) like ok small = record { refusal = refl; after = refl }
like-is-tagged-alike F other T (PageOut board at) like ok small = record { refusal = refl; after = refl }
like-is-tagged-alike F other T (PageIn board at frame) like ok small = record { refusal = refl; after = refl }
like-is-tagged-alike F other T (SetRef board at) like ok small = record { refusal = refl; after = refl }
like-is-tagged-alike F other T (SetDirty board at) like ok small = record { refusal = refl; after = refl }
like-is-tagged-alike F other T (ClearRef board at) like ok small = record { refusal = refl; after = refl }

-- an answer of an access under the same entry
may_alike : (F other : Flat) (kind : AccessKind) (g : ℕ) (answer : Option FaultKind) → IsLike F other → IsValidFlat other → g < 2 ^ 38 → may (walk_of other g) kind g answer ≡ true → may (walk_of F g) kind g answer ≡ true
may_alike F other kind g answer like ok small done = ap (λ (e : Option ℕ). may e kind g answer) (walk_same F other g like ok small) ∙ done

-- an entry of the pager under the same entry
page_alike : (F other : Flat) (g : ℕ) (test : ℕ → Bool) → IsLike F other → IsValidFlat other → g < 2 ^ 38 → MayPage other g test → MayPage F g test
page_alike F other g test like ok small may = record {
  declared = declared_same F other g like ∙ may.declared;
  entry = ap test (entry_same F other g like ok small) ∙ may.entry;
}

-- an entry of each kind
pub like-is-allowed-but-value : LikeIsAllowedButValue
like-is-allowed-but-value F other (Load board at value) like ok small allowed = may_alike F other access.Load at None like ok small allowed.0
like-is-allowed-but-value F other (Store board at value) like ok small allowed = may_alike F other access.Store at None like ok small allowed
like-is-allowed-but-value F other (Tas board at old) like ok small allowed = may_alike F other access.Tas at None like ok small allowed.0
like-is-allowed-but-value F other (Fault board kind access at) like ok small allowed = may_alike F other access at (Some kind) like ok small allowed
like-is-allowed-but-value F other (Fill board of need at) like ok small allowed = tt
like-is-allowed-but-value F other (Claim board at) like ok small allowed = tt
like-is-allowed-but-value F other (WriteBack board at) like ok small allowed = tt
like-is-allowed-but-value F other (Refresh board at) like ok small allowed = tt
like-is-allowed-but-value F other (BlockFlush board holder at) like ok small allowed = tt
like-is-allowed-but-value F other (Leave board at) like ok small allowed = page_alike F other at pager.may_leave like ok small allowed
like-is-allowed-but-value F other (PageOut board at) like ok small allowed = page_alike F other at may_go_out like ok small allowed
like-is-allowed-but-value F other (PageIn board at frame) like ok small allowed = (page_alike F other at may_come_in like ok small allowed.0, free_same F other frame like ok ∙ allowed.1)
like-is-allowed-but-value F other (SetRef board at) like ok small allowed = page_alike F other at pager.may_set_referenced like ok small allowed
like-is-allowed-but-value F other (SetDirty board at) like ok small allowed = page_alike F other at pager.may_set_dirty like ok small allowed
like-is-allowed-but-value F other (ClearRef board at) like ok small allowed = page_alike F other at pager.may_clear_referenced like ok small allowed

-- an address that is there
abbrev IsSmall : Entry → Type 0
IsSmall entry = address_of entry < 2 ^ 38

-- entry by entry, the flat state and the one that is like it step alike, and the tags are the same
leads : (F : Flat) (from to : State) (piece : List Entry) → IsLike F from.flat → IsValidFlat from.flat → All IsSmall piece → AllFollow from piece → state_after from piece ≡ to → LeadsUntold F from to piece
leads F from to [] like ok small follows is = record {
  legal = tt;
  tagged = tt;
  needed = tt;
  like = subst (λ (S : State). IsLike F S.flat) is like;
  tags = ap (λ (S : State). S.tags) is;
  opened = ap (λ (S : State). S.opened) is;
  lines = ap (λ (S : State). S.lines) is;
}
leads F from to (entry ∷ rest) like ok small follows is =
    let each = recursion_from_All IsSmall (entry ∷ rest) small in
    let first = follows.0 in
    let here : IsLike (on F entry) (on from.flat entry) = step-is-like F from.flat entry like ok each.0 first.legal in
    let alike : IsTaggedAlike F from.flat from.tags entry = like-is-tagged-alike F from.flat from.tags entry like ok each.0 in
    let later : LeadsUntold (on F entry) (step from entry) to rest =
    leads (on F entry) (step from entry) to rest here (stays-valid from.flat entry ok each.0 first.legal) (All-from_recursion IsSmall rest each.1) follows.1 is in
    record {
      legal = (like-is-allowed-but-value F from.flat entry like ok each.0 first.legal, later.legal);
      tagged = (alike.refusal ∙ first.tagged, subst (λ (T : List (List (Option Tag))). IsTagged (on F entry) T rest) (sym alike.after) later.tagged);
      needed = (first.needed, later.needed);
      like = later.like;
      tags = ap (λ (T : List (List (Option Tag))). tags_after (on F entry) T rest) alike.after ∙ later.tags;
      opened = later.opened;
      lines = later.lines;
    }

-- the law
pub untold-where-told : UntoldWhereTold
untold-where-told from to piece ok small carried F like = leads F from to piece like ok small carried.follows carried.leads
