-- Lines are flushed one by one.
use Rattle.std.proofs.Common.{◌≡◌, ◌≢◌, ◌∙◌, ℕ, zero, suc, ◌+◌, ◌<◌, ◌≤◌, ap, sym, refl, subst, List, [], ◌∷◌, if◌then◌else◌, get_or, length, map, replicate, slice_get, slice_set, Option, Some, None, arith, ⊎_elim}
use Rattle.std.specs.Option.{option_map}
use Rattle.std.proofs.lemmas.Bool.{cases_eq, cases_lt, eq-eqb}
use Rattle.std.proofs.lemmas.Option.{slice_get-get_or, slice_get_past}
use Rattle.spur_addr.specs.Address.{block_of}
use Rattle.spur_cache.specs.declared.line.Line.{Line}
use Rattle.spur_cache.specs.Lines.{IsCache, found, index_of, line_at, set_found, tagged, with_state}
use Rattle.spur_snoop.specs.declared.BlockState.TheVariants.{Invalid}
use Rattle.spur_snoop.specs.Protocol.{is_alive}
use Rattle.spur_bus.specs.Agrees.{Agrees, AgreesWithMemory}
use Rattle.spur_bus.specs.Boards.{dropped, dropped_lines, line_in, line_of, line_of_block}
use Rattle.spur_bus.specs.Calls.{HasLine, line_count}
use Rattle.spur_bus.specs.Logical.{logical_words}
use Rattle.spur_bus.proofs.DropFacts.{line-dropped, stood}
use Rattle.spur_bus.proofs.LineFacts.{set_hit, tagged_there}
use Rattle.spur_bus.proofs.NoLineFacts.{no-line-is-memory}
use Rattle.spur_walk.specs.Tables.{block_address}
use Rattle.spur_walk.proofs.FillFacts.{alive}
use Rattle.spur_walk.proofs.PlanFacts.{block_again}
use Rattle.spur_core.specs.Finish.{AreEmptyTo, StillAgree, empty_lines}

no_line : (o : Option Line) (l : Line) → o ≡ None → o ≡ Some l → ⊥
no_line o l none some = let clash : None ≡ Some l = sym none ∙ some in cc

-- the line at a place
pub record IsHere (caches : List (List (Option Line))) (holder number at : ℕ) : Type 0 where
  pub line : Line
  pub there : line_at (get_or caches holder []) number ≡ Some line
  pub place : index_of (get_or caches holder []) (block_of at) ≡ number
  pub found_is : line_of_block caches holder at ≡ Some line
  pub has : HasLine caches holder at is_alive

pub is_here : (caches : List (List (Option Line))) (holder number at : ℕ) (o : Option Line) → holder < length caches → Agrees caches → line_at (get_or caches holder []) number ≡ o
    → option_map (λ (l : Line). block_address l.tag) o ≡ Some at → IsHere caches holder number at
is_here caches holder number at None within agree there is = absurd cc
is_here caches holder number at (Some line) within agree there is =
    let lines : List (Option Line) = get_or caches holder [] in
    let at_is : at ≡ block_address line.tag = cc in
    let cache : IsCache lines = agree.each holder lines (slice_get-get_or caches holder [] within) in
    let g : ℕ = block_address line.tag in
    let place : index_of lines (block_of g) ≡ number = ap (index_of lines) (block_again line.tag) ∙ cache.placed number line there in
    let found_is : line_of_block caches holder g ≡ Some line =
    ap (λ (n : ℕ). tagged (block_of g) (line_at lines n)) place ∙ ap (tagged (block_of g)) there ∙ tagged_there (block_of g) line (sym (block_again line.tag)) in
    subst (IsHere caches holder number) (sym at_is) (record { line = line; there = there; place = place; found_is = found_is; has = record { line = line; there = found_is; passes = alive line.state (cache.held number line there).valid } })

-- no line comes in by a flush
stays_none : (old new : Option Line) → ((l : Line) → new ≡ Some l → old ≡ Some l) → old ≡ None → new ≡ None
stays_none old None h none = refl
stays_none old (Some l) h none = absurd (no_line old l none (h l refl))

gone_none : (new : Option Line) → ((l : Line) → new ≡ Some l → ⊥) → new ≡ None
gone_none None h = refl
gone_none (Some l) h = absurd (h l refl)

gone_in : (caches : List (List (Option Line))) (holder number at : ℕ) (line : Line) (o : Option (List (Option Line))) (l : Line) → line_of_block caches holder at ≡ Some line → index_of (get_or caches holder []) (block_of at) ≡ number
    → (lines : List (Option Line)) → o ≡ Some lines → get_or caches holder [] ≡ lines → line_of (option_map (dropped_lines holder at holder) o) number ≡ Some l → ⊥
gone_in caches holder number at line o l found_is place lines some get h =
    let news : List (Option Line) = slice_set lines number None in
    let mine : dropped_lines holder at holder lines ≡ with_state lines at Invalid = ap (λ b. if b then with_state lines at Invalid else lines) (eq-eqb holder holder refl) in
    let found_lines : found lines at ≡ Some line = ap (λ (ls : List (Option Line)). found ls at) (sym get) ∙ found_is in
    let place_lines : index_of lines (block_of at) ≡ number = ap (λ (ls : List (Option Line)). index_of ls (block_of at)) (sym get) ∙ place in
    let without : with_state lines at Invalid ≡ news = ap (λ (x : Option Line). set_found lines (index_of lines (block_of at)) Invalid x) found_lines ∙ ap (λ (s : ℕ). slice_set lines s None) place_lines in
    let clash : None ≡ Some l = set_hit lines number None l (ap (λ (ls : List (Option Line)). line_at ls number) (sym (mine ∙ without)) ∙ ap (λ (x : Option (List (Option Line))). line_of (option_map (dropped_lines holder at holder) x) number) (sym some) ∙ h) in
    cc

-- and that line is gone
pub emptied_one : (caches news : List (List (Option Line))) (holder number at : ℕ) → holder < length caches → news ≡ dropped caches holder at → IsHere caches holder number at → AreEmptyTo caches holder number → AreEmptyTo news holder (number + 1)
emptied_one caches news holder number at within is here before = subst (λ (cs : List (List (Option Line))). AreEmptyTo cs holder (number + 1)) (sym is) (record {
  below = λ i s low. stays_none (line_in caches i s) (line_in (dropped caches holder at) i s) (λ l h. stood caches holder at i s l h) (before.below i s low);
  here = λ s low. ⊎_elim
      (λ (e : s ≡ number). ap (line_in (dropped caches holder at) holder) e ∙ gone_none (line_in (dropped caches holder at) holder number) (λ l h.
      gone_in caches holder number at here.line (slice_get caches holder) l here.found_is here.place (get_or caches holder []) (slice_get-get_or caches holder [] within) refl (sym (line-dropped caches holder at holder number) ∙ h)))
      (λ (apart : s ≢ number). stays_none (line_in caches holder s) (line_in (dropped caches holder at) holder s) (λ l h. stood caches holder at holder s l h) (before.here s (omega arith)))
      (cases_eq s number);
})

-- past the last place of a cache
past_none : (lines : List (Option Line)) (s : ℕ) → length lines ≤ s → line_at lines s ≡ None
past_none [] s past = refl
past_none (x ∷ xs) zero past = absurd (omega arith)
past_none (x ∷ xs) (suc s) past = past_none xs s (omega arith)

pub emptied_cache : (caches : List (List (Option Line))) (holder number : ℕ) → holder < length caches → length (get_or caches holder []) ≤ number → AreEmptyTo caches holder number → AreEmptyTo caches (holder + 1) 0
emptied_cache caches holder number within past before = record {
  below = λ i s low. ⊎_elim
      (λ (e : i ≡ holder). ap (λ (n : ℕ). line_in caches n s) e ∙ at_place s)
      (λ (apart : i ≢ holder). before.below i s (omega arith)) (cases_eq i holder);
  here = λ s low. absurd (omega arith);
}
  where
    at_place : (s : ℕ) → line_in caches holder s ≡ None
    at_place s = ⊎_elim (λ (low : s < number). before.here s low)
        (λ (high : number ≤ s). ap (λ (o : Option (List (Option Line))). line_of o s) (slice_get-get_or caches holder [] within) ∙ past_none (get_or caches holder []) s (omega arith)) (cases_lt s number)

-- nothing is asked of the places before the first
pub emptied_start : (caches : List (List (Option Line))) → AreEmptyTo caches 0 0
emptied_start caches = record { below = λ i s low. absurd (omega arith); here = λ s low. absurd (omega arith) }

all_empty : (caches : List (List (Option Line))) (holder : ℕ) → length caches ≤ holder → AreEmptyTo caches holder 0 → (i s : ℕ) → line_in caches i s ≡ None
all_empty caches holder past before i s = ⊎_elim (λ (low : i < length caches). before.below i s (omega arith))
    (λ (high : length caches ≤ i). ap (λ (o : Option (List (Option Line))). line_of o s) (slice_get_past caches i high)) (cases_lt i (length caches))

-- lines of which each place is empty
none_lines : (lines : List (Option Line)) → ((s : ℕ) → line_at lines s ≡ None) → lines ≡ replicate (length lines) None
none_lines [] none = refl
none_lines (None ∷ lines) none = let rest = none_lines lines (λ s. none (suc s)) in ap (λ (ls : List (Option Line)). None ∷ ls) rest
none_lines (Some l ∷ lines) none = absurd (no_line (Some l) l (none 0) refl)

none_caches : (news caches : List (List (Option Line))) (n : ℕ) → length news ≡ length caches → ((i : ℕ) (a : List (Option Line)) → slice_get news i ≡ Some a → length a ≡ n)
    → ((i : ℕ) (a : List (Option Line)) → slice_get caches i ≡ Some a → length a ≡ n) → ((i s : ℕ) → line_in news i s ≡ None) → news ≡ map empty_lines caches
none_caches [] [] n same sizes old none = refl
none_caches [] (y ∷ ys) n same sizes old none = absurd (omega arith)
none_caches (x ∷ xs) [] n same sizes old none = absurd (omega arith)
none_caches (x ∷ xs) (y ∷ ys) n same sizes old none =
    let long : length x ≡ length y = sizes 0 x refl ∙ sym (old 0 y refl) in
    let one : x ≡ empty_lines y = none_lines x (λ s. none 0 s) ∙ ap (λ (k : ℕ). replicate k None) long in
    let rest = none_caches xs ys n (omega arith) (λ i a e. sizes (suc i) a e) (λ i a e. old (suc i) a e) (λ i s. none (suc i) s) in
    λ k. one k ∷ rest k

pub same_count : (caches : List (List (Option Line))) (holder : ℕ) → holder < length caches → Agrees caches → length (get_or caches holder []) ≡ line_count caches
same_count caches holder within agree = agree.sizes holder 0 (get_or caches holder []) (get_or caches 0 []) (slice_get-get_or caches holder [] within) (slice_get-get_or caches 0 [] (omega arith))

-- each cache has as many lines as the first
each_count : (caches : List (List (Option Line))) → Agrees caches → (i : ℕ) (a : List (Option Line)) → slice_get caches i ≡ Some a → length a ≡ line_count caches
each_count caches agree i a there = let some = agree.some_caches in agree.sizes i 0 a (get_or caches 0 []) there (slice_get-get_or caches 0 [] (omega arith))

pub still_same : (caches : List (List (Option Line))) (memory : List ℕ) → Agrees caches → AgreesWithMemory caches memory → StillAgree caches memory caches memory
still_same caches memory agree serves = record { count = refl; lines = refl; agree = agree; words = record { serves = serves; logical = refl } }

pub still_then : (a b c : List (List (Option Line))) (x y z : List ℕ) → StillAgree a x b y → StillAgree b y c z → StillAgree a x c z
still_then a b c x y z first second = record {
  count = second.count ∙ first.count;
  lines = second.lines ∙ first.lines;
  agree = second.agree;
  words = record { serves = second.words.serves; logical = second.words.logical ∙ first.words.logical };
}

-- at last all caches are empty, and memory is what they held together
pub flushed_memory : (caches news : List (List (Option Line))) (memory after : List ℕ) (holder : ℕ) → length caches ≤ holder → StillAgree caches memory news after → AreEmptyTo news holder 0 → after ≡ logical_words caches memory
flushed_memory caches news memory after holder past still before =
    let same = still.count in
    sym (no-line-is-memory news after (all_empty news holder (omega arith) before)) ∙ still.words.logical

pub flushed_caches : (caches news : List (List (Option Line))) (memory after : List ℕ) (holder : ℕ) → length caches ≤ holder → Agrees caches → StillAgree caches memory news after → AreEmptyTo news holder 0 → news ≡ map empty_lines caches
flushed_caches caches news memory after holder past agree still before =
    let same = still.count in
    none_caches news caches (line_count caches) same (λ i a e. each_count news still.agree i a e ∙ still.lines) (λ i a e. each_count caches agree i a e) (all_empty news holder (omega arith) before)
