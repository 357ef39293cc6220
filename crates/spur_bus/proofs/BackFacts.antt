-- An owner's block goes to the memory.
use Rattle.std.proofs.Common.{◌≡◌, ◌≢◌, ◌∙◌, ℕ, zero, suc, ◌+◌, ◌<◌, ◌≤◌, ◌*◌, ◌/◌, ◌%◌, ◌^◌, ◌⊎◌, inl, inr, ⊎_elim, ap, sym, refl, subst, List, [], ◌∷◌, length, slice_index, slice_set, Option, Some, None, arith}
use Rattle.std.proofs.lemmas.List.{length-set}
use Rattle.std.proofs.lemmas.Bool.{cases_eq, cases_lt}
use Rattle.std.proofs.lemmas.Nat.{shr-shr}
use Rattle.spur_addr.specs.Address.{block_of}
use Rattle.spur_cache.specs.declared.line.Line.{Line}
use Rattle.spur_snoop.specs.declared.BlockState.{BlockState}
use Rattle.spur_snoop.specs.declared.BlockState.TheVariants.{UnOwned}
use Rattle.spur_snoop.specs.Protocol.{is_owned}
use Rattle.spur_phys.specs.Blocks.{block_start, block_place, with_words, with_block}
use Rattle.spur_bus.specs.Boards.{line_of_block, turned}
use Rattle.spur_bus.specs.Agrees.{Agrees, IsAt, AgreesWithMemory}
use Rattle.spur_bus.specs.Calls.{HasLine, written_back}
use Rattle.spur_snoop.specs.declared.BusKind.TheVariants as bus
use Rattle.spur_bus.proofs.Turn.{IsWritten, Returns}
use Rattle.spur_bus.proofs.CallFacts.{Promised, is_here, may_restate, move_restate, turned_all, unowned_alive}

pub length-words : (n : ℕ) (memory : List ℕ) (at : ℕ) (words : List ℕ) → length (with_words n memory at words) ≡ length memory
length-words zero memory at words = refl
length-words (suc n) memory at words = length-set (with_words n memory at words) (at + n) (slice_index words n) ∙ length-words n memory at words

set_same : (xs : List ℕ) (i y : ℕ) → i < length xs → slice_index (slice_set xs i y) i ≡ y
set_same [] i y within = absurd (omega arith)
set_same (x ∷ xs) zero y within = refl
set_same (x ∷ xs) (suc i) y within = set_same xs i y (omega arith)

set_other : (xs : List ℕ) (i j y : ℕ) → j ≢ i → slice_index (slice_set xs i y) j ≡ slice_index xs j
set_other [] i j y apart = refl
set_other (x ∷ xs) zero zero y apart = absurd (apart refl)
set_other (x ∷ xs) zero (suc j) y apart = refl
set_other (x ∷ xs) (suc i) zero y apart = refl
set_other (x ∷ xs) (suc i) (suc j) y apart = set_other xs i j y (λ e. apart (ap (λ (n : ℕ). suc n) e))

pub words_out : (n : ℕ) (memory : List ℕ) (at : ℕ) (words : List ℕ) (j : ℕ) → (j < at) ⊎ (at + n ≤ j) → slice_index (with_words n memory at words) j ≡ slice_index memory j
words_out zero memory at words j away = refl
words_out (suc n) memory at words j (inl low) =
    set_other (with_words n memory at words) (at + n) j (slice_index words n) (λ (e : j ≡ at + n). omega arith) ∙ words_out n memory at words j (inl low)
words_out (suc n) memory at words j (inr high) =
    set_other (with_words n memory at words) (at + n) j (slice_index words n) (λ (e : j ≡ at + n). omega arith) ∙ words_out n memory at words j (inr (omega arith))

lesser : (i n : ℕ) → i ≢ n → i < suc n → i < n
lesser i n apart within = ⊎_elim (λ (l : i < n). l) (λ (g : n ≤ i). let e : i ≡ n = omega arith in absurd (apart e)) (cases_lt i n)

pub words_in : (n : ℕ) (memory : List ℕ) (at : ℕ) (words : List ℕ) (i : ℕ) → at + n ≤ length memory → i < n → slice_index (with_words n memory at words) (at + i) ≡ slice_index words i
words_in zero memory at words i room within = absurd (omega arith)
words_in (suc n) memory at words i room within =
    let size : length (with_words n memory at words) ≡ length memory = length-words n memory at words in
    ⊎_elim
    (λ (e : i ≡ n).
    ap (λ (k : ℕ). slice_index (with_words (suc n) memory at words) (at + k)) e
    ∙ set_same (with_words n memory at words) (at + n) (slice_index words n) (omega arith) ∙ ap (slice_index words) (sym e))
    (λ (apart : i ≢ n).
    let less : i < n = lesser i n apart within in
    set_other (with_words n memory at words) (at + n) (at + i) (slice_index words n) (λ (e : at + i ≡ at + n). omega arith)
    ∙ words_in n memory at words i (omega arith) less)
    (cases_eq i n)

-- where the words of a line stand in the memory
abbrev pub start_of : Line → ℕ
start_of line = block_start line.frame line.tag

-- word k of a line's block, by its place
pub at_place : (k : ℕ) (line : Line) → IsAt k line → k ≡ start_of line + k % 8
at_place k line is =
    let frame : k / 1024 ≡ line.frame = is.frame in
    let position : k / 8 % 128 ≡ line.tag % 128 = is.position in
    let high : k / 2 ^ 3 / 2 ^ 7 ≡ k / 2 ^ 10 = shr-shr k 3 7 in
    omega arith

pub place_at : (k : ℕ) (line : Line) → start_of line ≤ k → k < start_of line + 8 → IsAt k line
place_at k line low high =
    let small : line.tag % 128 < 128 = omega arith in
    record { frame = omega arith; position = omega arith }

pub block_word : (memory : List ℕ) (line : Line) (k : ℕ) → start_of line + 8 ≤ length memory → IsAt k line → slice_index (with_block memory (start_of line) line.words) k ≡ slice_index line.words (k % 8)
block_word memory line k room is =
    let place : k ≡ start_of line + k % 8 = at_place k line is in
    ap (slice_index (with_block memory (start_of line) line.words)) place ∙ words_in 8 memory (start_of line) line.words (k % 8) room (omega arith)

pub block_memory : (memory : List ℕ) (line : Line) (k : ℕ) → start_of line + 8 ≤ length memory → (slice_index (with_block memory (start_of line) line.words) k ≡ slice_index memory k) ⊎ IsWritten line (with_block memory (start_of line) line.words) k
block_memory memory line k room =
    ⊎_elim
    (λ (low : k < start_of line). inl (words_out 8 memory (start_of line) line.words k (inl low)))
    (λ (low : start_of line ≤ k).
    ⊎_elim
    (λ (high : k < start_of line + 8). let at = place_at k line low high in inr (record { at = at; word = block_word memory line k room at }))
    (λ (high : start_of line + 8 ≤ k). inl (words_out 8 memory (start_of line) line.words k (inr high)))
    (cases_lt k (start_of line + 8)))
    (cases_lt k (start_of line))

-- the same, of the line in another state
written_as : (line : Line) (state : BlockState) (memory : List ℕ) (k : ℕ) (old : List ℕ) → (slice_index memory k ≡ slice_index old k) ⊎ IsWritten line memory k → (slice_index memory k ≡ slice_index old k) ⊎ IsWritten (record line { state = state }) memory k
written_as line state memory k old (inl same) = inl same
written_as line state memory k old (inr w) = inr (record { at = record { frame = w.at.frame; position = w.at.position }; word = w.word })

pub room_of : (caches : List (List (Option Line))) (memory : List ℕ) (b at : ℕ) (line : Line) → AgreesWithMemory caches memory → b < length caches → line_of_block caches b at ≡ Some line → start_of line + 8 ≤ length memory
room_of caches memory b at line serves within there =
    let here = is_here caches b at line within there in
    let frame : line.frame * 1024 + 1024 ≤ length memory = serves.within b here.slot line here.there in
    let small : line.tag % 128 < 128 = omega arith in
    omega arith

-- the place of a block is that of its line's number
pub place_is : (memory : List ℕ) (at : ℕ) (line : Line) → line.tag ≡ block_of at → with_block memory (block_place line.frame at) line.words ≡ with_block memory (start_of line) line.words
place_is memory at line tag = ap (λ (n : ℕ). with_block memory (block_start line.frame n) line.words) (sym tag)

pub back_all : (caches news : List (List (Option Line))) (old new : List ℕ) (b at : ℕ) (h : HasLine caches b at is_owned) → Agrees caches → AgreesWithMemory caches old → b < length caches
    → news ≡ turned caches b at bus.WriteBack (record h.line { state = UnOwned }) → new ≡ written_back old at (line_of_block caches b at) → Promised caches news old new
back_all caches news old new b at h agree serves within is new_is =
    let line : Line = h.line in
    let fresh : Line = record line { state = UnOwned } in
    let here = is_here caches b at line within h.there in
    let room : start_of line + 8 ≤ length old = room_of caches old b at line serves within h.there in
    let may = may_restate caches b at bus.WriteBack UnOwned line agree within here unowned_alive (Returns refl refl here.slot line here.there here.tag h.passes) in
    let written : List ℕ = with_block old (start_of line) line.words in
    let new_written : new ≡ written = new_is ∙ ap (written_back old at) h.there ∙ place_is old at line here.tag in
    let move = move_restate caches b at bus.WriteBack UnOwned line old written agree serves here (length-words 8 old (start_of line) line.words)
    (λ (k : ℕ). written_as line UnOwned written k old (block_memory old line k room))
    (λ (k : ℕ) (e : bus.WriteBack ≡ bus.WriteBack) (i : IsAt k fresh). block_word old line k room (record { frame = i.frame; position = i.position })) in
    subst (λ (m : List ℕ). Promised caches news old m) (sym new_written) (turned_all caches news b at bus.WriteBack fresh old written agree may serves move is)

pub back_size : (old new : List ℕ) (at : ℕ) (o : Option Line) → new ≡ written_back old at o → length new ≡ length old
back_size old new at None is = ap (λ (ws : List ℕ). length ws) is
back_size old new at (Some line) is = ap (λ (ws : List ℕ). length ws) is ∙ length-words 8 old (block_place line.frame at) line.words
