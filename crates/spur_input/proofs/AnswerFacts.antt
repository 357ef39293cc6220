-- What each step on the way to an answer adds.
use Rattle.std.proofs.Common.{◌≡◌, ◌≢◌, ◌∙◌, inl, inr, refl, sym, ap, subst, ℕ, ◌≤◌, true, false, List, length, Option, Some, None}
use Rattle.std.specs.List.{All}
use Rattle.std.specs.Prelude.{Result, Err}
use Rattle.std.proofs.lemmas.List.Elements.{All-weaker}
use Rattle.std.proofs.lemmas.List.{length-map}
use Rattle.spur_flat.specs.declared.entry.Entry.{Entry}
use Rattle.spur_flat.specs.Blocks.{IsOfBoards}
use Rattle.spur_flat.specs.WellFormed.{IsWellFormed}
use Rattle.spur_object.specs.Limits.{IsUnit}
use Rattle.spur_object.specs.declared.unit.Unit.{Unit as Program}
use Rattle.spur_trace.specs.Faults.{HasBadLine, HasHeader, IsTrace}
use Rattle.spur_trace.specs.declared.fault.TraceKind.TheVariants.{BadHeader, BadLine, Boards}
use Rattle.spur_trace.specs.declared.head.TraceHead.{TraceHead}
use Rattle.spur_asm.specs.Faults.{IsFirstFault}
use Rattle.spur_asm.specs.Says.{Says}
use Rattle.spur_loader.specs.declared.fault.LoadFault.{LoadFault}
use Rattle.spur_loader.specs.declared.fault.LoadFault.TheVariants.{NoMemory, NoRoom, PageTwice, Segment255, WordOutside}
use Rattle.spur_loader.specs.declared.opening.Opening.{Opening}
use Rattle.spur_loader.specs.declared.opening.Options.{Options}
use Rattle.spur_loader.specs.Faults.{IsFault, load_fault_of}
use Rattle.spur_loader.specs.Limits.{IsOptions}
use Rattle.spur_loader.specs.Opening.{board_count, opening_of}
use Rattle.spur_check.specs.declared.verdict.Verdict.{Verdict}
use Rattle.spur_check.specs.Judged.{MayBeJudged, judged}
use Rattle.spur_check.proofs.Opened.{loaded-may-be-judged}
use Rattle.spur_input.specs.declared.refusal.NotAccepted.{NotAccepted}
use Rattle.spur_input.specs.declared.refusal.NotAccepted.TheVariants as unaccepted
use Rattle.spur_input.specs.declared.refusal.Refusal.{Refusal}
use Rattle.spur_input.specs.declared.refusal.Refusal.TheVariants.{Load, Object, Text, TooLong, Trace}
use Rattle.spur_input.specs.Program.{IsLoadedOpening, IsProgramOf, check_limit, is_object, program_limit}
use Rattle.spur_input.specs.Judged.{IsVerdictOn, head_options, program_part, trace_part}
use Rattle.spur_input.specs.Refused.{HasLineFault, HasFirstFault, HasLoadFault, HasNoHeader, HasObjectFault, HasOtherBoards, HasProgramFault, HasTextFault, IsNotLoaded, IsRefusedToAssemble, IsRefusedToCheck, IsRefusedToRun, not_loaded}
use Rattle.spur_input.specs.Causes.{IsHeadRefusal, IsLoadRefusal, IsObjectRefusal, IsProgramRefusal, IsTextRefusal, IsTraceRefusal}

-- ---- one step

-- a refusal that is handed on
pub was_refused : {A B : Type 0} (given : Result A NotAccepted) (answer : Result B NotAccepted) (why : NotAccepted) (refusal : Refusal) → given ≡ Err why → answer ≡ Err why
    → answer ≡ Err (unaccepted.Refused refusal) → given ≡ Err (unaccepted.Refused refusal)
was_refused {A = A} {B = B} given answer why refusal was handed is =
    let e : ◌≡◌ {A = Result B NotAccepted} (Err why) (Err (unaccepted.Refused refusal)) = sym handed ∙ is in
    let same : why ≡ unaccepted.Refused refusal = cc in
    let of : NotAccepted → Result A NotAccepted = λ w. Err w in
    was ∙ ap of same

real_fault : (unit : Program) (options : Options) (fault : LoadFault) (refusal : Refusal) → fault ≢ NoMemory → IsFault (load_fault_of unit options) fault
    → unaccepted.Refused (Load fault) ≡ unaccepted.Refused refusal → IsLoadRefusal unit options refusal
real_fault unit options fault refusal other (inl none) is = absurd (other none)
real_fault unit options fault refusal other (inr applies) is =
    let same : Load fault ≡ refusal = cc in subst (IsLoadRefusal unit options) same applies

-- a unit that was not loaded, for a reason that is a refusal
pub load_refusal : (unit : Program) (options : Options) (fault : LoadFault) (refusal : Refusal) → IsFault (load_fault_of unit options) fault
    → not_loaded fault ≡ unaccepted.Refused refusal → IsLoadRefusal unit options refusal
load_refusal unit options NoMemory refusal applies is = absurd cc
load_refusal unit options Segment255 refusal applies is = real_fault unit options Segment255 refusal (λ e. cc) applies is
load_refusal unit options (PageTwice at) refusal applies is = real_fault unit options (PageTwice at) refusal (λ e. cc) applies is
load_refusal unit options (WordOutside at) refusal applies is = real_fault unit options (WordOutside at) refusal (λ e. cc) applies is
load_refusal unit options (NoRoom frames) refusal applies is = real_fault unit options (NoRoom frames) refusal (λ e. cc) applies is

-- the fault of a program, as the object or the text that it is
pub object_of_refusal : (input : List ℕ) (refusal : Refusal) → is_object input ≡ true → IsObjectRefusal input refusal → IsProgramRefusal input refusal
object_of_refusal input (TooLong most) is h = absurd h
object_of_refusal input (Text kind line column) is h = absurd h
object_of_refusal input (Object kind byte) is h = (is, h)
object_of_refusal input (Trace kind line) is h = absurd h
object_of_refusal input (Load why) is h = absurd h

pub text_of_refusal : (input : List ℕ) (refusal : Refusal) → is_object input ≡ false → IsTextRefusal input refusal → IsProgramRefusal input refusal
text_of_refusal input (TooLong most) is h = absurd h
text_of_refusal input (Text kind line column) is h = (is, h)
text_of_refusal input (Object kind byte) is h = absurd h
text_of_refusal input (Trace kind line) is h = absurd h
text_of_refusal input (Load why) is h = absurd h

-- ---- a program that is run

pub program_is_refused : (options : Options) (input : List ℕ) (refusal : Refusal) → length input ≤ program_limit → IsProgramRefusal input refusal → IsRefusedToRun options input refusal
program_is_refused options input (TooLong most) within h = absurd h
program_is_refused options input (Text kind line column) within h = HasTextFault within h.0 line column kind h.1
program_is_refused options input (Object kind byte) within h = HasObjectFault within h.0 kind byte h.1
program_is_refused options input (Trace kind line) within h = absurd h
program_is_refused options input (Load why) within h = absurd h

pub load_is_refused : (options : Options) (input : List ℕ) (unit : Program) (refusal : Refusal) → length input ≤ program_limit → IsProgramOf unit input → IsLoadRefusal unit options refusal
    → IsRefusedToRun options input refusal
load_is_refused options input unit (TooLong most) within is h = absurd h
load_is_refused options input unit (Text kind line column) within is h = absurd h
load_is_refused options input unit (Object kind byte) within is h = absurd h
load_is_refused options input unit (Trace kind line) within is h = absurd h
load_is_refused options input unit (Load why) within is h = IsNotLoaded within unit is why h

pub is_loaded : (unit : Program) (options : Options) (opening : Opening) → IsUnit unit → IsOptions options → load_fault_of unit options ≡ None
    → opening ≡ opening_of unit options → IsLoadedOpening opening
is_loaded unit options opening limits range loads is =
    subst IsLoadedOpening (sym is) record { unit = unit; limits = limits; range = range; loads = loads; is = refl }

-- ---- a text that is assembled

pub text_is_refused : (text : List ℕ) (refusal : Refusal) → length text ≤ program_limit → IsTextRefusal text refusal → IsRefusedToAssemble text refusal
text_is_refused text (TooLong most) within h = absurd h
text_is_refused text (Text kind line column) within h = HasFirstFault within line column kind h
text_is_refused text (Object kind byte) within h = absurd h
text_is_refused text (Trace kind line) within h = absurd h
text_is_refused text (Load why) within h = absurd h

-- ---- a trace that is judged

-- the two parts of an input were cut, and the first says a unit
pub record IsRead (input program trace : List ℕ) (unit : Program) : Type 0 where
  pub within : length input ≤ check_limit
  pub program_is : program ≡ program_part input
  pub trace_is : trace ≡ trace_part input
  pub says : Says program unit

pub text_is_refused_to_check : (budget : ℕ) (input program : List ℕ) (refusal : Refusal) → length input ≤ check_limit → program ≡ program_part input → IsTextRefusal program refusal
    → IsRefusedToCheck budget input refusal
text_is_refused_to_check budget input program (TooLong most) within is h = absurd h
text_is_refused_to_check budget input program (Text kind line column) within is h =
    HasProgramFault within line column kind (subst (λ (p : List ℕ). IsFirstFault p line column kind) is h)
text_is_refused_to_check budget input program (Object kind byte) within is h = absurd h
text_is_refused_to_check budget input program (Trace kind line) within is h = absurd h
text_is_refused_to_check budget input program (Load why) within is h = absurd h

said : (input program trace : List ℕ) (unit : Program) → IsRead input program trace unit → Says (program_part input) unit
said input program trace unit read = subst (λ (p : List ℕ). Says p unit) read.program_is read.says

header_there : (input program trace : List ℕ) (unit : Program) (head : TraceHead) → IsRead input program trace unit → HasHeader trace head → HasHeader (trace_part input) head
header_there input program trace unit head read header = subst (λ (t : List ℕ). HasHeader t head) read.trace_is header

header_back : (input program trace : List ℕ) (unit : Program) (head : TraceHead) → IsRead input program trace unit → HasHeader (trace_part input) head → HasHeader trace head
header_back input program trace unit head read header = subst (λ (t : List ℕ). HasHeader t head) (sym read.trace_is) header

pub head_is_refused : (budget : ℕ) (input program trace : List ℕ) (unit : Program) (boards : ℕ) (refusal : Refusal) → IsRead input program trace unit → boards ≡ length unit.boards
    → IsHeadRefusal trace boards refusal → IsRefusedToCheck budget input refusal
head_is_refused budget input program trace unit boards (TooLong most) read many h = absurd h
head_is_refused budget input program trace unit boards (Text kind line column) read many h = absurd h
head_is_refused budget input program trace unit boards (Object kind byte) read many h = absurd h
head_is_refused budget input program trace unit boards (Trace BadHeader line) read many h =
    subst (λ (n : ℕ). IsRefusedToCheck budget input (Trace BadHeader n)) (sym h.0)
    (HasNoHeader read.within unit (said input program trace unit read) (λ head header. h.1 head (header_back input program trace unit head read header)))
head_is_refused budget input program trace unit boards (Trace BadLine line) read many h = absurd h
head_is_refused budget input program trace unit boards (Trace Boards line) read many h =
    subst (λ (n : ℕ). IsRefusedToCheck budget input (Trace Boards n)) (sym h.0)
    (HasOtherBoards read.within unit (said input program trace unit read) h.1.head (header_there input program trace unit h.1.head read h.1.header) (λ e. h.1.others (e ∙ sym many)))
head_is_refused budget input program trace unit boards (Load why) read many h = absurd h

-- and the second has the header of as many boards, by which the options are
pub record IsHeaded (budget : ℕ) (input program trace : List ℕ) (unit : Program) (head : TraceHead) (options : Options) : Type 0 where
  pub read : IsRead input program trace unit
  pub header : HasHeader trace head
  pub boards : head.boards ≡ length unit.boards
  pub options_are : options ≡ head_options budget head

module _ (budget : ℕ) (input program trace : List ℕ) (unit : Program) (head : TraceHead) (options : Options) where
  loads_as : IsHeaded budget input program trace unit head options → (found : Option LoadFault) → load_fault_of unit options ≡ found → load_fault_of unit (head_options budget head) ≡ found
  loads_as h found is = ap (λ (o : Options). load_fault_of unit o) (sym h.options_are) ∙ is

  pub load_is_refused_to_check : (refusal : Refusal) → IsHeaded budget input program trace unit head options → IsLoadRefusal unit options refusal → IsRefusedToCheck budget input refusal
  load_is_refused_to_check (TooLong most) h l = absurd l
  load_is_refused_to_check (Text kind line column) h l = absurd l
  load_is_refused_to_check (Object kind byte) h l = absurd l
  load_is_refused_to_check (Trace kind line) h l = absurd l
  load_is_refused_to_check (Load why) h l =
      HasLoadFault h.read.within unit (said input program trace unit h.read) head (header_there input program trace unit head h.read h.header) h.boards why
      (loads_as h (Some why) l)

  pub trace_is_refused : (refusal : Refusal) → IsHeaded budget input program trace unit head options → load_fault_of unit options ≡ None → IsTraceRefusal trace refusal
      → IsRefusedToCheck budget input refusal
  trace_is_refused (TooLong most) h loads t = absurd t
  trace_is_refused (Text kind line column) h loads t = absurd t
  trace_is_refused (Object kind byte) h loads t = absurd t
  trace_is_refused (Trace BadHeader line) h loads t = absurd (t.1 head h.header)
  trace_is_refused (Trace BadLine line) h loads t =
      HasLineFault h.read.within unit (said input program trace unit h.read) head (header_there input program trace unit head h.read h.header) h.boards (loads_as h None loads) line
      (subst (λ (x : List ℕ). HasBadLine x line) h.read.trace_is t)
  trace_is_refused (Trace Boards line) h loads t = absurd t
  trace_is_refused (Load why) h loads t = absurd t

-- ---- what is judged

-- of the opening that was loaded a history may be judged
pub may_be_judged : (unit : Program) (options : Options) (opening : Opening) → IsUnit unit → IsOptions options → load_fault_of unit options ≡ None → opening ≡ opening_of unit options
    → MayBeJudged opening
may_be_judged unit options opening limits range loads is = subst MayBeJudged (sym is) (loaded-may-be-judged unit options limits range loads)

of_boards : (boards : ℕ) (e : Entry) → IsWellFormed boards e → IsOfBoards boards e
of_boards boards e h = h.formed.there

-- the opening has as many boards as the unit
as_many : (unit : Program) (options : Options) (opening : Opening) → opening ≡ opening_of unit options → length unit.boards ≡ board_count opening
as_many unit options opening is = sym (ap board_count is ∙ length-map unit.boards (λ board. board.segs))

-- each entry of the trace is of boards that are there
pub entries_of_boards : (unit : Program) (options : Options) (opening : Opening) (trace : List ℕ) (head : TraceHead) (entries : List Entry) → opening ≡ opening_of unit options
    → head.boards ≡ length unit.boards → IsTrace trace head entries → All (IsOfBoards (board_count opening)) entries
entries_of_boards unit options opening trace head entries is boards t =
    subst (λ (n : ℕ). All (IsOfBoards n) entries) (boards ∙ as_many unit options opening is)
    (All-weaker (IsWellFormed head.boards) (IsOfBoards head.boards) (of_boards head.boards) entries t.formed)

pub verdict_is : (budget : ℕ) (input program trace : List ℕ) (unit : Program) (head : TraceHead) (options : Options) (opening : Opening) (entries : List Entry) (verdict : Verdict)
    → IsHeaded budget input program trace unit head options → load_fault_of unit options ≡ None → opening ≡ opening_of unit options → IsTrace trace head entries → verdict ≡ judged opening entries
    → IsVerdictOn budget input verdict
verdict_is budget input program trace unit head options opening entries verdict h loads is t v = record {
  unit = unit;
  head = head;
  entries = entries;
  judgeable = record {
    within = h.read.within;
    says = said input program trace unit h.read;
    trace = subst (λ (x : List ℕ). IsTrace x head entries) h.read.trace_is t;
    boards = h.boards;
    loads = loads_as budget input program trace unit head options h None loads;
  };
  is = v ∙ ap (λ (o : Opening). judged o entries) (is ∙ ap (opening_of unit) h.options_are);
}
