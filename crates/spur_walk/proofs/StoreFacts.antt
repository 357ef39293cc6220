-- A hit that writes.
use Rattle.std.proofs.Common.{◌≡◌, ◌∙◌, ℕ, ◌+◌, ◌*◌, ◌/◌, ◌%◌, ◌^◌, ◌<◌, ◌≤◌, true, ap, sym, refl, subst, List, [], get_or, length, slice_set, Option, Some, None, arith}
use Rattle.std.proofs.lemmas.List as L
use Rattle.std.proofs.lemmas.List.{get_or-set_same, length-set}
use Rattle.std.proofs.lemmas.Nat.{shr-shr}
use Rattle.spur_addr.specs.Address.{block_of, block_start_of, table_start, word_in_block_of}
use Rattle.spur_addr.specs.PageEntry.{is_valid, number_of}
use Rattle.spur_cache.specs.declared.line.Line.{Line}
use Rattle.spur_cache.specs.Lines.{changed_found, found, index_of, word_in, written}
use Rattle.spur_cache.proofs.CacheFacts.{found_held}
use Rattle.spur_snoop.specs.declared.BlockState.{BlockState}
use Rattle.spur_snoop.specs.declared.BlockState.TheVariants.{Invalid, OwnedExclusive, OwnedNonExclusive, UnOwned}
use Rattle.spur_snoop.specs.declared.Need.TheVariants.{Write}
use Rattle.spur_flat.specs.declared.flat.Flat.{Flat}
use Rattle.spur_flat.specs.Access.{grants}
use Rattle.spur_flat.specs.Pager.{word_of}
use Rattle.spur_flat.specs.TagRules.{access_of}
use Rattle.spur_snoop.specs.Protocol.{is_exclusive}
use Rattle.spur_bus.specs.Boards.{line_in, line_of_block}
use Rattle.spur_bus.specs.Logical.{logical_words}
use Rattle.spur_bus.specs.Agrees.{IsAt}
use Rattle.spur_bus.specs.Calls.{line_count, tags_of}
use Rattle.spur_bus.proofs.CallFacts.{is_here}
use Rattle.spur_walk.specs.declared.looked.Looked.TheVariants.{Hit}
use Rattle.spur_walk.specs.Look.{look_of}
use Rattle.spur_walk.specs.Tables.{HasTables, StandsIn, block_address, logical_flat}
use Rattle.spur_walk.specs.Present.{ArePresent, MayWalk}
use Rattle.spur_walk.proofs.FillFacts.{Suits, start_low}
use Rattle.spur_walk.proofs.FrameFacts.{stands_user}
use Rattle.spur_walk.proofs.PlanFacts.{Answers, Writes, answers_as, own_cache}
use Rattle.spur_walk.proofs.PutFacts.{Here, Put, There, agrees-put, count-put, length-put, put, put_from}
use Rattle.spur_walk.proofs.ServeFacts.{found_same, hits}
use Rattle.spur_walk.proofs.StepFacts.{present_all, suits_all}
use Rattle.spur_walk.proofs.TableFacts.{word_start}
use Rattle.spur_walk.proofs.WordFacts.{IsWordOf, serves-written, words-written}
use Rattle.spur_walk.specs.Stores.{HitStores, with_word_in}
use Rattle.spur_walk.proofs.SameFacts.{SameTables, stands-same, suits-same, tables-same}
use Rattle.spur_walk.proofs.DataFacts.{IsData, data_place, place_is, same-stored, stored}
use Rattle.spur_walk.proofs.WrittenFacts.{put_stands, suits_written, tags-written}

-- cache b has the block of g, and may write it
pub record MayStore (caches : List (List (Option Line))) (b g : ℕ) : Type 0 where
  pub line : Line
  pub there : line_of_block caches b g ≡ Some line
  pub granted : grants line.prot (access_of Write) ≡ true
  pub dirty : line.dirty ≡ true
  pub exclusive : is_exclusive line.state ≡ true

store_as : (caches : List (List (Option Line))) (b g : ℕ) (line : Line) → line_of_block caches b g ≡ Some line → Answers line Write Hit → MayStore caches b g
store_as caches b g line is (Writes granted dirty exclusive) = record { line = line; there = is; granted = granted; dirty = dirty; exclusive = exclusive }

store_in : (caches : List (List (Option Line))) (b g : ℕ) (o : Option Line) → line_of_block caches b g ≡ o → look_of o Write ≡ Hit → MayStore caches b g
store_in caches b g None is seen = cc
store_in caches b g (Some line) is seen = store_as caches b g line is (answers_as line Write Hit seen)

pub may-store : (caches : List (List (Option Line))) (b g : ℕ) → look_of (line_of_block caches b g) Write ≡ Hit → MayStore caches b g
may-store caches b g seen = store_in caches b g (line_of_block caches b g) refl seen

alone : (state : BlockState) → is_exclusive state ≡ true → state ≡ OwnedExclusive
alone Invalid h = cc
alone UnOwned h = cc
alone OwnedNonExclusive h = cc
alone OwnedExclusive h = refl

-- where the word stands
pub record IsIn (F : Flat) (g frame : ℕ) : Type 0 where
  pub holds : IsData F g
  pub frame_is : number_of (word_of F g) ≡ frame

pub word_place : (caches : List (List (Option Line))) (memory : List ℕ) (b g : ℕ) (line : Line) → MayWalk caches memory → b < length caches → g < table_start → line_of_block caches b g ≡ Some line
    → IsIn (logical_flat caches memory) g line.frame
word_place caches memory b g line may within user is =
    let F : Flat = logical_flat caches memory in
    let there = is_here caches b g line within is in
    let start : block_address line.tag ≡ block_start_of g = ap (λ (n : ℕ). block_address n) there.tag in
    let low : block_address line.tag < table_start = subst (λ (n : ℕ). n < table_start) (sym start) (start_low g user) in
    let stood = stands_user F line.tag line.frame (may.mapped b there.slot line there.there) low in
    let word : word_of F (block_address line.tag) ≡ word_of F g = ap (λ (n : ℕ). word_of F n) start ∙ word_start F g in
    record {
      holds = record { tables = may.tables; user = user; valid = ap (λ (w : ℕ). is_valid w) (sym word) ∙ stood.valid };
      frame_is = ap (λ (w : ℕ). number_of w) (sym word) ∙ stood.number;
    }

is_word : (caches : List (List (Option Line))) (b g value k slot : ℕ) (line : Line) → line_in caches b slot ≡ Some line → line.tag ≡ block_of g → line.state ≡ OwnedExclusive → length line.words ≡ 8
    → k ≡ line.frame * 1024 + g / 2 ^ 2 % 1024 → IsWordOf caches b slot line (written (word_in_block_of g) value line) k (word_in_block_of g) value
is_word caches b g value k slot line there tag exclusive full k_is =
    let t : line.tag ≡ g / 2 ^ 5 = tag in
    let high : g / 2 ^ 2 / 2 ^ 3 ≡ g / 2 ^ 5 = shr-shr g 2 3 in
    let n : ℕ = word_in_block_of g in
    let n_is : n ≡ g / 2 ^ 2 % 8 = refl in
    record {
      there = there;
      exclusive = exclusive;
      alike = record { tag = refl; frame = refl; state = refl; full = length-set line.words n value ∙ full };
      words = refl;
      small = omega arith;
      at = record { frame = omega arith; position = omega arith };
      word = omega arith;
      only = λ (j : ℕ) (at : IsAt j line) (word : j % 8 ≡ n).
          let f : j / 1024 ≡ line.frame = at.frame in
          let p : j / 8 % 128 ≡ line.tag % 128 = at.position in
          omega arith;
    }

put_suits : (F G : Flat) (caches : List (List (Option Line))) (b s n value : ℕ) (line : Line) (i t : ℕ) (l : Line) → SameTables F G → ArePresent F caches → line_in caches b s ≡ Some line → Put caches b s (written n value line) i t l → Suits G l
put_suits F G caches b s n value line i t l same present there (Here ei et is) =
    subst (λ (m : Line). Suits G m) (sym is) (suits_written G n value line (suits-same F G same line (suits_all F caches b s line present there)))
put_suits F G caches b s n value line i t l same present there (There was away) = suits-same F G same l (suits_all F caches i t l present was)

pub hit-stores : HitStores
hit-stores caches memory b g value may within_b user seen =
    let F : Flat = logical_flat caches memory in
    let m = may-store caches b g seen in
    let line : Line = m.line in
    let own : List (Option Line) = get_or caches b [] in
    let n : ℕ = word_in_block_of g in
    let slot : ℕ = index_of own (block_of g) in
    let fresh : Line = written n value line in
    let after : List (List (Option Line)) = put caches b slot fresh in
    let here = is_here caches b g line within_b m.there in
    let there : line_in caches b slot ≡ Some line = ap (line_in caches b) (sym here.slot_is) ∙ here.there in
    let is_in = word_place caches memory b g line may within_b user m.there in
    let G : Flat = stored F g value in
    let same : SameTables F G = same-stored F g value is_in.holds in
    let k : ℕ = data_place F g in
    let k_is : k ≡ line.frame * 1024 + g / 2 ^ 2 % 1024 = ap (λ (f : ℕ). f * 1024 + g / 2 ^ 2 % 1024) is_in.frame_is in
    let full : length line.words ≡ 8 = (found_held own g line (own_cache caches b may.agree within_b) m.there).words in
    let word = is_word caches b g value k slot line there here.tag (alone line.state m.exclusive) full k_is in
    let room : line.frame * 1024 + 1024 ≤ length memory = may.serves.within b slot line there in
    let small : k < length memory = omega arith in
    let words : logical_words after memory ≡ slice_set (logical_words caches memory) k value = words-written caches memory b slot line fresh k n value may.agree within_b small word in
    let flat : logical_flat after memory ≡ G = ap (λ (ws : List ℕ). record F { words = ws }) words in
    let is : with_word_in caches b g value ≡ after = ap (λ (o : Option Line). slice_set caches b (changed_found own slot (written n value) o)) m.there in
    let found_after : line_of_block after b g ≡ Some fresh =
    ap (λ (ls : List (Option Line)). found ls g)
    (L.get_or-set_same caches b (slice_set own slot (Some fresh)) [] within_b ∙ ap (λ (t : ℕ). slice_set own (index_of own t) (Some fresh)) (sym here.tag))
    ∙ found_same own fresh g (own_cache caches b may.agree within_b) here.tag in
    let found_now : line_of_block (with_word_in caches b g value) b g ≡ Some fresh = ap (λ (cs : List (List (Option Line))). line_of_block cs b g) is ∙ found_after in
    record {
      walk = subst (λ (cs : List (List (Option Line))). MayWalk cs memory) (sym is) (record {
        agree = agrees-put caches b slot fresh line may.agree within_b there word.alike;
        serves = serves-written caches memory b slot line fresh k n value may.agree may.serves within_b word;
        tables = subst (λ (H : Flat). HasTables H) (sym flat) (tables-same F G same may.tables);
        mapped = λ (i t : ℕ) (l : Line) (h : line_in after i t ≡ Some l). subst (λ (H : Flat). StandsIn H l.tag l.frame) (sym flat)
            (stands-same F G same l.tag l.frame (put_stands F caches b slot n value line i t l may.mapped (may.mapped b slot line there) (put_from caches b slot fresh i t l within_b h)));
      });
      logical = ap (λ (cs : List (List (Option Line))). logical_words cs memory) is ∙ words ∙ ap (λ (p : ℕ). slice_set (logical_words caches memory) p value) (sym (place_is F g is_in.holds));
      present = λ (present : ArePresent F caches). subst (λ (cs : List (List (Option Line))). ArePresent (logical_flat cs memory) cs) (sym is)
          (subst (λ (H : Flat). ArePresent H after) (sym flat) (present_all G after
          (λ (i t : ℕ) (l : Line) (h : line_in after i t ≡ Some l). put_suits F G caches b slot n value line i t l same present there (put_from caches b slot fresh i t l within_b h))));
      tags = ap tags_of is ∙ tags-written caches b g n value line within_b there;
      count = ap (λ (cs : List (List (Option Line))). length cs) is ∙ length-put caches b slot fresh;
      lines = ap line_count is ∙ count-put caches b slot fresh;
      entries = λ (to : ℕ) (low : to < table_start). ap (λ (cs : List (List (Option Line))). word_of (logical_flat cs memory) to) is ∙ ap (λ (H : Flat). word_of H to) flat ∙ same.word to low;
      word = ap (λ (o : Option Line). word_in o g) found_now ∙ get_or-set_same line.words n value 0 word.small;
      hits = ap (λ (o : Option Line). look_of o Write) found_now ∙ hits fresh Write m.granted m.dirty m.exclusive;
    }
