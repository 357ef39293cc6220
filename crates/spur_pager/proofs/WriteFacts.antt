-- A page's entry is written in the cache of a board that has its block alone.
use Rattle.std.proofs.Common.{◌≡◌, ◌∙◌, ℕ, ◌+◌, ◌*◌, ◌/◌, ◌%◌, ◌^◌, ◌<◌, ◌≤◌, ap, sym, refl, subst, List, [], get_or, length, slice_set, slice_index, Option, Some, arith}
use Rattle.std.proofs.lemmas.List as L
use Rattle.std.proofs.lemmas.List.{length-set}
use Rattle.spur_addr.specs.Address.{block_of, entry_address_of, root_index_of, table_start, word_in_block_of}
use Rattle.spur_addr.specs.PageEntry.{is_valid, number_of}
use Rattle.spur_cache.specs.declared.line.Line.{Line}
use Rattle.spur_cache.specs.Lines.{changed_found, found, index_of, written}
use Rattle.spur_cache.proofs.CacheFacts.{found_held}
use Rattle.spur_snoop.specs.declared.BlockState.TheVariants.{OwnedExclusive}
use Rattle.spur_flat.specs.declared.flat.Flat.{Flat}
use Rattle.spur_flat.specs.Blocks.{root_word_of}
use Rattle.spur_flat.specs.Pager.{entry_place}
use Rattle.spur_snoop.specs.Protocol.{is_exclusive}
use Rattle.spur_bus.specs.Boards.{line_in, line_of_block}
use Rattle.spur_bus.specs.Logical.{logical_words}
use Rattle.spur_bus.specs.Agrees.{IsAt}
use Rattle.spur_bus.proofs.CallFacts.{is_here}
use Rattle.spur_walk.specs.Tables.{HasTables, StandsIn, block_address, logical_flat, root_at}
use Rattle.spur_walk.specs.Present.{AreMapped, ArePresent, MayWalk}
use Rattle.spur_walk.proofs.FillFacts.{Suits as Suiting}
use Rattle.spur_walk.proofs.FrameFacts.{stands_table}
use Rattle.spur_walk.proofs.PlanFacts.{own_cache}
use Rattle.spur_walk.proofs.PutFacts.{Here, Put, There, agrees-put, count-put, length-put, put, put_from}
use Rattle.spur_walk.proofs.ServeFacts.{found_same}
use Rattle.spur_walk.proofs.StepFacts.{present_all, suits_all}
use Rattle.spur_walk.proofs.TableFacts.{entry_from, entry_to, root_word_is, root_word_start}
use Rattle.spur_walk.proofs.WordFacts.{IsWordOf, serves-written, words-written}
use Rattle.spur_pager.specs.Acts.{with_entry_word}
use Rattle.spur_pager.specs.Writes.{MayWrite, WritesEntry}
use Rattle.spur_pager.proofs.PlaceFacts.{IsPlace, mapped-written, placed, present-written, tables-written, within}
use Rattle.spur_walk.proofs.WrittenFacts.{tags-written, put_stands, suits_written}

-- cache b has the block of the entry of the page of g alone
pub record HasEntry (caches : List (List (Option Line))) (b g : ℕ) : Type 0 where
  pub line : Line
  pub there : line_of_block caches b (entry_address_of g) ≡ Some line
  pub exclusive : line.state ≡ OwnedExclusive

-- where it stands in the tables
pub record IsIn (F : Flat) (g frame : ℕ) : Type 0 where
  pub place : IsPlace F g
  pub frame_is : number_of (root_at F g) ≡ frame

pub entry_in : (caches : List (List (Option Line))) (memory : List ℕ) (b g : ℕ) (line : Line) → MayWalk caches memory → b < length caches → g < table_start → line_of_block caches b (entry_address_of g) ≡ Some line
    → IsIn (logical_flat caches memory) g line.frame
entry_in caches memory b g line may within user is =
    let F : Flat = logical_flat caches memory in
    let here = is_here caches b (entry_address_of g) line within is in
    let stands : StandsIn F (block_of (entry_address_of g)) line.frame = subst (λ (n : ℕ). StandsIn F n line.frame) here.tag (may.mapped b here.slot line here.there) in
    let table = stands_table F (block_of (entry_address_of g)) line.frame stands (entry_from g) (entry_to g user) in
    let index : root_word_of (block_address (block_of (entry_address_of g))) ≡ root_index_of g = root_word_start (entry_address_of g) ∙ root_word_is g user in
    record {
      place = record { tables = may.tables; user = user; valid = ap (λ (n : ℕ). is_valid (slice_index F.words n)) (sym index) ∙ table.valid };
      frame_is = ap (λ (n : ℕ). number_of (slice_index F.words n)) (sym index) ∙ table.number;
    }

is_word : (caches : List (List (Option Line))) (b g e k slot : ℕ) (line : Line) → line_in caches b slot ≡ Some line → line.tag ≡ block_of (entry_address_of g) → line.state ≡ OwnedExclusive → length line.words ≡ 8
    → k ≡ line.frame * 1024 + g / 2 ^ 12 % 1024 → IsWordOf caches b slot line (written (word_in_block_of (entry_address_of g)) e line) k (word_in_block_of (entry_address_of g)) e
is_word caches b g e k slot line there tag exclusive full k_is =
    let t : line.tag ≡ (255 * 2 ^ 30 + 4 * (g / 2 ^ 12)) / 2 ^ 5 = tag in
    let n : ℕ = word_in_block_of (entry_address_of g) in
    let n_is : n ≡ (255 * 2 ^ 30 + 4 * (g / 2 ^ 12)) / 2 ^ 2 % 8 = refl in
    record {
      there = there;
      exclusive = exclusive;
      alike = record { tag = refl; frame = refl; state = refl; full = length-set line.words n e ∙ full };
      words = refl;
      small = omega arith;
      at = record { frame = omega arith; position = omega arith };
      word = omega arith;
      only = λ (j : ℕ) (at : IsAt j line) (word : j % 8 ≡ n).
          let f : j / 1024 ≡ line.frame = at.frame in
          let p : j / 8 % 128 ≡ line.tag % 128 = at.position in
          omega arith;
    }

put_suits : (F : Flat) (caches : List (List (Option Line))) (b s n e : ℕ) (line : Line) (i t : ℕ) (l : Line) → ArePresent F caches → line_in caches b s ≡ Some line → Put caches b s (written n e line) i t l → Suiting F l
put_suits F caches b s n e line i t l present there (Here ei et is) = subst (λ (m : Line). Suiting F m) (sym is) (suits_written F n e line (suits_all F caches b s line present there))
put_suits F caches b s n e line i t l present there (There was away) = suits_all F caches i t l present was

pub writes : (caches news : List (List (Option Line))) (memory : List ℕ) (b g e : ℕ) → MayWalk caches memory → b < length caches → g < table_start → HasEntry caches b g → MayWrite (logical_flat caches memory) caches g e
    → news ≡ with_entry_word caches b g e → WritesEntry caches memory b g e news
writes caches news memory b g e may within_b user has may_write news_is =
    let F : Flat = logical_flat caches memory in
    let line : Line = has.line in
    let own : List (Option Line) = get_or caches b [] in
    let at : ℕ = entry_address_of g in
    let n : ℕ = word_in_block_of at in
    let slot : ℕ = index_of own (block_of at) in
    let fresh : Line = written n e line in
    let after : List (List (Option Line)) = put caches b slot fresh in
    let here = is_here caches b at line within_b has.there in
    let there : line_in caches b slot ≡ Some line = ap (line_in caches b) (sym here.slot_is) ∙ here.there in
    let is_in = entry_in caches memory b g line may within_b user has.there in
    let k : ℕ = entry_place F g in
    let k_is : k ≡ line.frame * 1024 + g / 2 ^ 12 % 1024 = ap (λ (m : ℕ). m * 1024 + g / 2 ^ 12 % 1024) is_in.frame_is in
    let full : length line.words ≡ 8 = (found_held own at line (own_cache caches b may.agree within_b) has.there).words in
    let word = is_word caches b g e k slot line there here.tag has.exclusive full k_is in
    let room : line.frame * 1024 + 1024 ≤ length memory = may.serves.within b slot line there in
    let small : k < length memory = omega arith in
    let words : logical_words after memory ≡ slice_set (logical_words caches memory) k e = words-written caches memory b slot line fresh k n e may.agree within_b small word in
    let flat : logical_flat after memory ≡ placed F g e = ap (λ (ws : List ℕ). record F { words = ws }) words in
    let mapped : AreMapped (placed F g e) caches = mapped-written F caches g e is_in.place may_write may.mapped in
    subst (λ (cs : List (List (Option Line))). WritesEntry caches memory b g e cs) (sym (news_is ∙ ap (λ (o : Option Line). slice_set caches b (changed_found own slot (written n e) o)) has.there)) (record {
      walk = record {
        agree = agrees-put caches b slot fresh line may.agree within_b there word.alike;
        serves = serves-written caches memory b slot line fresh k n e may.agree may.serves within_b word;
        tables = subst (λ (G : Flat). HasTables G) (sym flat) (tables-written F caches g e is_in.place may_write);
        mapped = λ (i t : ℕ) (l : Line) (h : line_in after i t ≡ Some l). subst (λ (G : Flat). StandsIn G l.tag l.frame) (sym flat)
            (put_stands (placed F g e) caches b slot n e line i t l mapped (mapped b slot line there) (put_from caches b slot fresh i t l within_b h));
      };
      words = words;
      present = λ (present : ArePresent F caches). subst (λ (G : Flat). ArePresent G after) (sym flat) (present_all (placed F g e) after
          (λ (i t : ℕ) (l : Line) (h : line_in after i t ≡ Some l). put_suits (placed F g e) caches b slot n e line i t l (present-written F caches g e is_in.place may_write present) there (put_from caches b slot fresh i t l within_b h)));
      tags = tags-written caches b at n e line within_b there;
      boards = length-put caches b slot fresh;
      lines = count-put caches b slot fresh;
      exclusive = record {
        line = fresh;
        there = ap (λ (ls : List (Option Line)). found ls at)
            (L.get_or-set_same caches b (slice_set own slot (Some fresh)) [] within_b ∙ ap (λ (m : ℕ). slice_set own (index_of own m) (Some fresh)) (sym here.tag))
            ∙ found_same own fresh at (own_cache caches b may.agree within_b) here.tag;
        passes = ap is_exclusive has.exclusive;
      };
    })
