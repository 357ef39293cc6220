-- What a verdict means from an opening.
use Rattle.std.proofs.Common.{◌≡◌, ℕ, zero, suc, ◌+◌, ◌<◌, List, [], ◌∷◌, Some, refl, sym, ap, ◌∙◌, subst, arith, length}
use Rattle.std.specs.Prelude.{All, slice_get}
use Rattle.std.specs.List.{AllByRecursion}
use Rattle.std.proofs.lemmas.List.{length-map}
use Rattle.std.proofs.lemmas.List.Elements.{All-from_recursion}
use Rattle.spur_isa.specs.declared.instr.Instr.{Instr}
use Rattle.spur_flat.specs.declared.entry.Entry.{Entry}
use Rattle.spur_flat.specs.Blocks.{IsOfBoards}
use Rattle.spur_flat.specs.Formed.{IsFormed}
use Rattle.spur_flat.specs.History.{own_entries}
use Rattle.spur_cpu.specs.After.{HasBudgetLeft}
use Rattle.spur_cpu.specs.Onward.{EntriesFit}
use Rattle.spur_cpu.specs.Plain.{Plain, plain}
use Rattle.spur_object.specs.declared.unit.BoardText.{BoardText}
use Rattle.spur_loader.specs.declared.opening.Opening.{Opening}
use Rattle.spur_loader.specs.Opening.{board_count}
use Rattle.spur_loader.proofs.BeginFacts.{accepted_may_begin}
use Rattle.spur_check.specs.declared.verdict.Verdict.TheVariants.{Good}
use Rattle.spur_check.specs.Replays.{Replayed}
use Rattle.spur_check.specs.Judged.{first_progress, first_replay, first_replays, judged}
use Rattle.spur_check.specs.Laws.{BadMeans, GoodMeans, HaveBudgetLeft, IsBadAt, LoadedMayBeJudged, ProgramsFit, ReplaysFit, TracedIsGood, TurnsBad, TurnsBadFrom}
use Rattle.spur_check.proofs.Begins.{length_first}
use Rattle.spur_check.proofs.Fits.{good-where-it-fits}
use Rattle.spur_check.proofs.Verdicts.{bad_turned, good-has-length, good_is, is_good, turned_bad}

-- ---- the boards of an opening

-- a board has its registers and its code
pub record IsBoardAt (budget : ℕ) (segs : List (List ℕ)) (codes : List (List Instr)) (b : ℕ) (r : Replayed Plain) : Type 0 where
  pub registers : List ℕ
  pub code : List Instr
  pub segs_at : slice_get segs b ≡ Some registers
  pub code_at : slice_get codes b ≡ Some code
  pub is : first_replay budget registers code ≡ r

some_is : {X : Type 0} (x y : X) → Some x ≡ Some y → x ≡ y
some_is x y e = cc

pub board_at : (budget : ℕ) (segs : List (List ℕ)) (codes : List (List Instr)) (b : ℕ) (r : Replayed Plain) → slice_get (first_replays budget segs codes) b ≡ Some r → IsBoardAt budget segs codes b r
board_at budget [] codes b r h = absurd cc
board_at budget (segs ∷ more) [] b r h = absurd cc
board_at budget (segs ∷ more) (code ∷ codes) zero r h = record { registers = segs; code = code; segs_at = refl; code_at = refl; is = some_is (first_replay budget segs code) r h }
board_at budget (segs ∷ more) (code ∷ codes) (suc b) r h =
    let later = board_at budget more codes b r h in
    record { registers = later.registers; code = later.code; segs_at = later.segs_at; code_at = later.code_at; is = later.is }

-- and back
pub at_board : (budget : ℕ) (segs : List (List ℕ)) (codes : List (List Instr)) (b : ℕ) (registers : List ℕ) (code : List Instr)
    → slice_get segs b ≡ Some registers → slice_get codes b ≡ Some code → slice_get (first_replays budget segs codes) b ≡ Some (first_replay budget registers code)
at_board budget [] codes b registers code g h = absurd cc
at_board budget (segs ∷ more) [] b registers code g h = absurd cc
at_board budget (segs ∷ more) (first ∷ codes) zero registers code g h =
    ap (λ (x : List ℕ). Some (first_replay budget x first)) (some_is segs registers g) ∙ ap (λ (x : List Instr). Some (first_replay budget registers x)) (some_is first code h)
at_board budget (segs ∷ more) (first ∷ codes) (suc b) registers code g h = at_board budget more codes b registers code g h

-- ---- good

left_at_first : (opening : Opening) → 0 < opening.options.budget → HaveBudgetLeft plain (first_progress opening).replays
left_at_first opening some b r h =
    let at = board_at opening.options.budget opening.segs opening.code b r h in
    subst (λ (x : Replayed Plain). HasBudgetLeft x.budget x.course) at.is (λ e. some)

programs_fit : (opening : Opening) (es : List Entry) → ReplaysFit plain (first_progress opening).replays es → ProgramsFit opening es
programs_fit opening es fit b segs code g h =
    fit b (first_replay opening.options.budget segs code) (at_board opening.options.budget opening.segs opening.code b segs code g h)

replays_fit : (opening : Opening) (es : List Entry) → ProgramsFit opening es → ReplaysFit plain (first_progress opening).replays es
replays_fit opening es fit b r h =
    let at = board_at opening.options.budget opening.segs opening.code b r h in
    subst (λ (x : Replayed Plain). EntriesFit plain x.segs x.budget x.course (own_entries es b)) at.is (fit b at.registers at.code at.segs_at at.code_at)

pub good-means : GoodMeans
good-means opening es may of =
    let boards : All (IsOfBoards (length (first_progress opening).replays)) es = subst (λ (n : ℕ). All (IsOfBoards n) es) (sym (length_first opening.options.budget opening.segs opening.code may.codes)) of in
    let some : 0 < opening.options.budget = (let one = may.options.some_budget in omega arith) in
    let both = good-where-it-fits plain (first_progress opening) es (left_at_first opening some) boards in (
      λ h. let s = both.0 (is_good (judged opening es) (length es) h) in record { entries = s.entries; programs = programs_fit opening es s.programs },
      λ r.
          let g = good_is (judged opening es) (both.1 record { entries = r.entries; programs = replays_fit opening es r.programs }) in
          let n = good-has-length plain (first_progress opening) es g.0 g.1 in
          let same : g.0 ≡ length es = omega arith in
          g.1 ∙ ap (λ (k : ℕ). Good k) same,
    )

-- ---- bad

turned : (opening : Opening) (es : List Entry) (n : ℕ) → TurnsBadFrom plain (first_progress opening) es n → TurnsBad opening es n
turned opening es n t = record { before = t.before; with_it = t.with_it }

pub bad-means : BadMeans
bad-means opening es n =
    let none : 0 + suc n ≡ suc n = omega arith in (
      λ h. turned opening es n (bad_turned plain (first_progress opening) es n (subst (λ (k : ℕ). IsBadAt k (judged opening es)) (sym none) h)),
      λ t. subst (λ (k : ℕ). IsBadAt k (judged opening es)) none (turned_bad plain (first_progress opening) es n record { before = t.before; with_it = t.with_it }),
    )

-- ---- what a run traces

all_formed : (boards : ℕ) (es : List Entry) → AllByRecursion (IsFormed boards) es → All (IsOfBoards boards) es
all_formed boards es h = All-from_recursion (IsOfBoards boards) es (there es h) where
  there : (es : List Entry) → AllByRecursion (IsFormed boards) es → AllByRecursion (IsOfBoards boards) es
  there [] h = tt
  there (e ∷ es) h = (h.0.there, there es h.1)

pub traced-is-good : TracedIsGood
traced-is-good opening es may t =
    (good-means opening es may (all_formed (board_count opening) es t.formed)).1 record {
      entries = t.entries;
      programs = λ b segs code g h. let f = t.order b segs code g h in record { completed = f.course.retired; course = f.course; leads = f.led };
    }

-- ---- what is loaded

pub loaded-may-be-judged : LoadedMayBeJudged
loaded-may-be-judged unit options is ranges none =
    let may = accepted_may_begin unit options is ranges none in
    record {
      valid = may.valid;
      boards = may.boards;
      codes = length-map unit.boards (λ (board : BoardText). board.code) ∙ sym (length-map unit.boards (λ (board : BoardText). board.segs));
      options = ranges;
    }
