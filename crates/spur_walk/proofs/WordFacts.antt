-- A word of a line that is exclusive in a cache is written: the logical memory has it at its place, and is else the same.
use Rattle.std.proofs.Common.{◌≡◌, ◌≢◌, ◌∙◌, ℕ, ◌+◌, ◌*◌, ◌/◌, ◌%◌, ◌<◌, ◌≤◌, ⊎_elim, ap, sym, subst, List, [], get_or, length, slice_set, slice_index, Option, Some, arith}
use Rattle.std.proofs.lemmas.Bool.{cases_eq}
use Rattle.std.proofs.lemmas.List.{ext_get_or, get_or-set_other, get_or-set_same, length-set}
use Rattle.spur_cache.specs.declared.line.Line.{Line}
use Rattle.spur_cache.specs.Lines.{IsCache, line_at, index_of}
use Rattle.spur_snoop.specs.declared.BlockState.TheVariants.{OwnedExclusive}
use Rattle.spur_snoop.specs.Protocol.{is_owned}
use Rattle.spur_bus.specs.Boards.{line_in}
use Rattle.spur_bus.specs.Logical.{logical_word, logical_words}
use Rattle.spur_bus.specs.Agrees.{Agrees, AgreesWithMemory, IsAt}
use Rattle.spur_bus.proofs.OwnerFacts.{OwnsAt, logical_owned}
use Rattle.spur_bus.proofs.WordsFacts.{length-logical, logical_index}
use Rattle.spur_walk.proofs.PlanFacts.{own_cache}
use Rattle.spur_walk.proofs.PutFacts.{IsAlike, Put, Here, There, agrees-put, logical-put, owns_new, put, put_from, put_here, stood, was}

-- an exclusive line is the only one at its place
pub same_at : (caches : List (List (Option Line))) (b s : ℕ) (line : Line) (i t k : ℕ) (l : Line) → Agrees caches → b < length caches → line_in caches b s ≡ Some line → line.state ≡ OwnedExclusive → line_in caches i t ≡ Some l
    → IsAt k l → IsAt k line → (i ≡ b) × (t ≡ s)
same_at caches b s line i t k l agree within here exclusive there at_l at_line =
    let tag : line.tag ≡ l.tag = agree.one_place b i s t line l here there (sym at_line.frame ∙ at_l.frame) (sym at_line.position ∙ at_l.position) in
    let board : b ≡ i = agree.exclusive b i s t line l here there tag exclusive in
    let own : List (Option Line) = get_or caches b [] in
    let cache : IsCache own = own_cache caches b agree within in
    let own_there : line_at own t ≡ Some l = stood caches b t l within (ap (λ (n : ℕ). line_in caches n t) board ∙ there) in
    (sym board, sym (cache.placed t l own_there) ∙ ap (index_of own) (sym tag) ∙ cache.placed s line (stood caches b s line within here))

-- word k of the memory is word n of a line that is exclusive in cache b
pub record IsWordOf (caches : List (List (Option Line))) (b s : ℕ) (line fresh : Line) (k n value : ℕ) : Type 0 where
  pub there : line_in caches b s ≡ Some line
  pub exclusive : line.state ≡ OwnedExclusive
  pub alike : IsAlike line fresh
  pub words : fresh.words ≡ slice_set line.words n value
  pub small : n < length line.words
  pub at : IsAt k line
  pub word : k % 8 ≡ n
  pub only : (j : ℕ) → IsAt j line → j % 8 ≡ n → j ≡ k

owns_here : (k : ℕ) (l : Line) → IsAt k l → l.state ≡ OwnedExclusive → OwnsAt (k / 1024) (k / 8 % 128) l
owns_here k l is exclusive = record { owned = ap is_owned exclusive; in_frame = sym is.frame; in_position = sym is.position }

is_at_line : (k : ℕ) (l : Line) → OwnsAt (k / 1024) (k / 8 % 128) l → IsAt k l
is_at_line k l o = record { frame = sym o.in_frame; position = sym o.in_position }

away : (caches : List (List (Option Line))) (memory : List ℕ) (b s : ℕ) (line fresh : Line) (k n value j : ℕ) → Agrees caches → b < length caches → IsWordOf caches b s line fresh k n value → j ≢ k
    → logical_word (put caches b s fresh) memory j ≡ logical_word caches memory j
away caches memory b s line fresh k n value j agree within is apart =
    logical-put caches b s fresh line memory j agree within is.there is.alike
    (λ (o : OwnsAt (j / 1024) (j / 8 % 128) line).
    ap (λ (ws : List ℕ). slice_index ws (j % 8)) is.words
    ∙ get_or-set_other line.words n (j % 8) value 0 (λ (same : j % 8 ≡ n). apart (is.only j (is_at_line j line o) same)))

mine : (caches : List (List (Option Line))) (memory : List ℕ) (b s : ℕ) (line fresh : Line) (k n value j : ℕ) → Agrees caches → b < length caches → IsWordOf caches b s line fresh k n value → IsAt j line
    → logical_word (put caches b s fresh) memory j ≡ slice_index fresh.words (j % 8)
mine caches memory b s line fresh k n value j agree within is at_j =
    logical_owned (put caches b s fresh) memory j b s fresh (agrees-put caches b s fresh line agree within is.there is.alike) (put_here caches b s fresh line within is.there)
    (owns_new (j / 1024) (j / 8 % 128) line fresh is.alike (owns_here j line at_j is.exclusive))

here : (caches : List (List (Option Line))) (memory : List ℕ) (b s : ℕ) (line fresh : Line) (k n value : ℕ) → Agrees caches → b < length caches → IsWordOf caches b s line fresh k n value
    → logical_word (put caches b s fresh) memory k ≡ value
here caches memory b s line fresh k n value agree within is =
    mine caches memory b s line fresh k n value k agree within is is.at
    ∙ ap (λ (ws : List ℕ). slice_index ws (k % 8)) is.words ∙ ap (slice_index (slice_set line.words n value)) is.word ∙ get_or-set_same line.words n value 0 is.small

serves_in : (caches : List (List (Option Line))) (memory : List ℕ) (b s : ℕ) (line fresh : Line) (k n value i t j : ℕ) (l : Line) → Agrees caches → AgreesWithMemory caches memory → b < length caches → IsWordOf caches b s line fresh k n value → IsAt j l
    → Put caches b s fresh i t l → slice_index l.words (j % 8) ≡ logical_word (put caches b s fresh) memory j
serves_in caches memory b s line fresh k n value i t j l agree serves within is at_j (Here ei et l_is) =
    let at_line : IsAt j line = record { frame = at_j.frame ∙ ap (λ (m : Line). m.frame) l_is ∙ is.alike.frame; position = at_j.position ∙ ap (λ (m : Line). m.tag % 128) l_is ∙ ap (λ (m : ℕ). m % 128) is.alike.tag } in
    ap (λ (m : Line). slice_index m.words (j % 8)) l_is ∙ sym (mine caches memory b s line fresh k n value j agree within is at_line)
serves_in caches memory b s line fresh k n value i t j l agree serves within is at_j (There was off) =
    let apart : j ≢ k = λ (same : j ≡ k).
    let two = same_at caches b s line i t j l agree within is.there is.exclusive was at_j (subst (λ (m : ℕ). IsAt m line) (sym same) is.at) in
    off two.0 two.1 in
    serves.words i t j l was at_j ∙ sym (away caches memory b s line fresh k n value j agree within is apart)

pub serves-written : (caches : List (List (Option Line))) (memory : List ℕ) (b s : ℕ) (line fresh : Line) (k n value : ℕ) → Agrees caches → AgreesWithMemory caches memory → b < length caches → IsWordOf caches b s line fresh k n value
    → AgreesWithMemory (put caches b s fresh) memory
serves-written caches memory b s line fresh k n value agree serves within is = record {
  within = λ (i t : ℕ) (l : Line) (h : line_in (put caches b s fresh) i t ≡ Some l).
      let w = was caches b s fresh line i t l within is.there is.alike h in
      subst (λ (m : ℕ). m * 1024 + 1024 ≤ length memory) (sym w.frame) (serves.within i t w.old w.there);
  words = λ (i t j : ℕ) (l : Line) (h : line_in (put caches b s fresh) i t ≡ Some l) (at_j : IsAt j l).
      serves_in caches memory b s line fresh k n value i t j l agree serves within is at_j (put_from caches b s fresh i t l within h);
}

pub words-written : (caches : List (List (Option Line))) (memory : List ℕ) (b s : ℕ) (line fresh : Line) (k n value : ℕ) → Agrees caches → b < length caches → k < length memory → IsWordOf caches b s line fresh k n value
    → logical_words (put caches b s fresh) memory ≡ slice_set (logical_words caches memory) k value
words-written caches memory b s line fresh k n value agree within room is =
    let news : List (List (Option Line)) = put caches b s fresh in
    let old : List ℕ = logical_words caches memory in
    let count : length (logical_words news memory) ≡ length memory = length-logical news memory in
    let count_old : length old ≡ length memory = length-logical caches memory in
    let count_set : length (slice_set old k value) ≡ length old = length-set old k value in
    ext_get_or 0 (logical_words news memory) (slice_set old k value) (count ∙ sym count_old ∙ sym count_set)
    (λ (i : ℕ) (small : i < length (logical_words news memory)).
    ⊎_elim
    (λ (same : i ≡ k).
    logical_index news memory i (omega arith) ∙ ap (logical_word news memory) same ∙ here caches memory b s line fresh k n value agree within is
    ∙ sym (get_or-set_same old k value 0 (omega arith)) ∙ ap (slice_index (slice_set old k value)) (sym same))
    (λ (apart : i ≢ k).
    logical_index news memory i (omega arith) ∙ away caches memory b s line fresh k n value i agree within is apart ∙ sym (logical_index caches memory i (omega arith))
    ∙ sym (get_or-set_other old k i value 0 apart))
    (cases_eq i k))
