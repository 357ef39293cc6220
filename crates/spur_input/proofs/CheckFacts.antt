-- Traces that are judged, and inputs that are refused.
use Rattle.std.proofs.Common.{◌≡◌, ◌∙◌, refl, sym, ap, ℕ, ◌<◌, ◌≤◌, List, length, Option, Some, None}
use Rattle.spur_flat.specs.declared.entry.Entry.{Entry}
use Rattle.spur_object.specs.declared.unit.Unit.{Unit as Program}
use Rattle.spur_trace.specs.Faults.{HasBadLine, HasHeader}
use Rattle.spur_trace.specs.declared.fault.TraceKind.TheVariants.{BadHeader, BadLine, Boards}
use Rattle.spur_trace.specs.declared.head.TraceHead.{TraceHead}
use Rattle.spur_trace.proofs.LawFacts.{faults_once, headers_once, texts_once, trace_header, traces_are_good}
use Rattle.spur_asm.specs.Faults.{IsFirstFault}
use Rattle.spur_asm.specs.Says.{Says}
use Rattle.spur_asm.specs.declared.fault.AsmKind.{AsmKind}
use Rattle.spur_asm.proofs.Theorems.{says_once}
use Rattle.spur_loader.specs.declared.fault.LoadFault.{LoadFault}
use Rattle.spur_loader.specs.Faults.{load_fault_of}
use Rattle.spur_loader.specs.Opening.{opening_of}
use Rattle.spur_check.specs.Judged.{judged}
use Rattle.spur_input.specs.declared.refusal.Refusal.{Refusal}
use Rattle.spur_input.specs.declared.refusal.Refusal.TheVariants.{Load, Text, TooLong, Trace}
use Rattle.spur_input.specs.Program.{check_limit}
use Rattle.spur_input.specs.Judged.{IsJudgeable, head_options, program_part, trace_part}
use Rattle.spur_input.specs.Refused.{HasLineFault, HasLoadFault, HasNoHeader, HasOtherBoards, HasProgramFault, IsLongInput, IsRefusedToCheck}
use Rattle.spur_input.specs.Laws.{JudgeableIsNotRefused, OneRefusalToCheck, OneVerdict}
use Rattle.spur_input.proofs.ProgramFacts.{first_once, said_has_none}
use Rattle.spur_input.proofs.RunFacts.{too_long}

-- the boards of one unit and one header are as many or not
boards_or_not : (unit other : Program) (head more : TraceHead) → unit ≡ other → head ≡ more → head.boards ≡ length unit.boards → (more.boards ≡ length other.boards → ⊥) → ⊥
boards_or_not unit other head more same is as_many others =
    others (sym (ap (λ (h : TraceHead). h.boards) is) ∙ as_many ∙ ap (λ (u : Program). length u.boards) same)

-- what the loader says of one unit with the options of one header
same_load : (budget : ℕ) (unit other : Program) (head more : TraceHead) → unit ≡ other → head ≡ more
    → load_fault_of unit (head_options budget head) ≡ load_fault_of other (head_options budget more)
same_load budget unit other head more same is =
    ap (λ (u : Program). load_fault_of u (head_options budget head)) same ∙ ap (λ (h : TraceHead). load_fault_of other (head_options budget h)) is

same_fault : (found again : Option LoadFault) (why reason : LoadFault) → found ≡ again → found ≡ Some why → again ≡ Some reason → Load why ≡ Load reason
same_fault found again why reason same is are = (let e : Some why ≡ Some reason = sym is ∙ same ∙ are in cc)

none_or_fault : (found again : Option LoadFault) (why : LoadFault) → found ≡ again → found ≡ None → again ≡ Some why → ⊥
none_or_fault found again why same is are = (let e : None ≡ Some why = sym is ∙ same ∙ are in cc)

-- a trace has one bad line
same_line : (text : List ℕ) (m n : ℕ) → HasBadLine text m → HasBadLine text n → Trace BadLine m ≡ Trace BadLine n
same_line text m n bad worse = ap (λ (line : ℕ). Trace BadLine line) (faults_once text BadLine BadLine m n bad worse).1

module _ (budget : ℕ) (input : List ℕ) where
  long_alone : check_limit < length input → (other : Refusal) → IsRefusedToCheck budget input other → TooLong check_limit ≡ other
  long_alone long other (IsLongInput l) = refl
  long_alone long other (HasProgramFault w line column kind f) = absurd (too_long check_limit (length input) w long)
  long_alone long other (HasNoHeader w u s none) = absurd (too_long check_limit (length input) w long)
  long_alone long other (HasOtherBoards w u s head h others) = absurd (too_long check_limit (length input) w long)
  long_alone long other (HasLoadFault w u s head h as_many why is) = absurd (too_long check_limit (length input) w long)
  long_alone long other (HasLineFault w u s head h as_many loads line bad) = absurd (too_long check_limit (length input) w long)

  text_alone : length input ≤ check_limit → (line column : ℕ) (kind : AsmKind) → IsFirstFault (program_part input) line column kind
      → (other : Refusal) → IsRefusedToCheck budget input other → Text kind line column ≡ other
  text_alone within line column kind first other (IsLongInput l) = absurd (too_long check_limit (length input) within l)
  text_alone within line column kind first other (HasProgramFault w l c k f) = first_once (program_part input) line column kind l c k first f
  text_alone within line column kind first other (HasNoHeader w u s none) = absurd (said_has_none (program_part input) u line column kind s first)
  text_alone within line column kind first other (HasOtherBoards w u s head h others) = absurd (said_has_none (program_part input) u line column kind s first)
  text_alone within line column kind first other (HasLoadFault w u s head h as_many why is) = absurd (said_has_none (program_part input) u line column kind s first)
  text_alone within line column kind first other (HasLineFault w u s head h as_many loads l bad) = absurd (said_has_none (program_part input) u line column kind s first)

  header_alone : length input ≤ check_limit → (unit : Program) → Says (program_part input) unit → ((head : TraceHead) → HasHeader (trace_part input) head → ⊥)
      → (other : Refusal) → IsRefusedToCheck budget input other → Trace BadHeader 1 ≡ other
  header_alone within unit says none other (IsLongInput l) = absurd (too_long check_limit (length input) within l)
  header_alone within unit says none other (HasProgramFault w l c k f) = absurd (said_has_none (program_part input) unit l c k says f)
  header_alone within unit says none other (HasNoHeader w u s nothing) = refl
  header_alone within unit says none other (HasOtherBoards w u s head h others) = absurd (none head h)
  header_alone within unit says none other (HasLoadFault w u s head h as_many why is) = absurd (none head h)
  header_alone within unit says none other (HasLineFault w u s head h as_many loads l bad) = absurd (none head h)

  boards_alone : length input ≤ check_limit → (unit : Program) → Says (program_part input) unit → (head : TraceHead) → HasHeader (trace_part input) head
      → (head.boards ≡ length unit.boards → ⊥) → (other : Refusal) → IsRefusedToCheck budget input other → Trace Boards 1 ≡ other
  boards_alone within unit says head header others other (IsLongInput l) = absurd (too_long check_limit (length input) within l)
  boards_alone within unit says head header others other (HasProgramFault w l c k f) = absurd (said_has_none (program_part input) unit l c k says f)
  boards_alone within unit says head header others other (HasNoHeader w u s none) = absurd (none head header)
  boards_alone within unit says head header others other (HasOtherBoards w u s g h unlike) = refl
  boards_alone within unit says head header others other (HasLoadFault w u s g h as_many why is) =
      absurd (boards_or_not u unit g head (says_once (program_part input) u unit s says) (headers_once (trace_part input) g head h header) as_many others)
  boards_alone within unit says head header others other (HasLineFault w u s g h as_many loads l bad) =
      absurd (boards_or_not u unit g head (says_once (program_part input) u unit s says) (headers_once (trace_part input) g head h header) as_many others)

  load_alone : length input ≤ check_limit → (unit : Program) → Says (program_part input) unit → (head : TraceHead) → HasHeader (trace_part input) head
      → head.boards ≡ length unit.boards → (why : LoadFault) → load_fault_of unit (head_options budget head) ≡ Some why
      → (other : Refusal) → IsRefusedToCheck budget input other → Load why ≡ other
  load_alone within unit says head header boards why is other (IsLongInput l) = absurd (too_long check_limit (length input) within l)
  load_alone within unit says head header boards why is other (HasProgramFault w l c k f) = absurd (said_has_none (program_part input) unit l c k says f)
  load_alone within unit says head header boards why is other (HasNoHeader w u s none) = absurd (none head header)
  load_alone within unit says head header boards why is other (HasOtherBoards w u s g h others) =
      absurd (boards_or_not unit u head g (says_once (program_part input) unit u says s) (headers_once (trace_part input) head g header h) boards others)
  load_alone within unit says head header boards why is other (HasLoadFault w u s g h as_many reason are) =
      same_fault (load_fault_of unit (head_options budget head)) (load_fault_of u (head_options budget g)) why reason
      (same_load budget unit u head g (says_once (program_part input) unit u says s) (headers_once (trace_part input) head g header h)) is are
  load_alone within unit says head header boards why is other (HasLineFault w u s g h as_many loads l bad) =
      absurd (none_or_fault (load_fault_of u (head_options budget g)) (load_fault_of unit (head_options budget head)) why
      (same_load budget u unit g head (says_once (program_part input) u unit s says) (headers_once (trace_part input) g head h header)) loads is)

  line_alone : length input ≤ check_limit → (unit : Program) → Says (program_part input) unit → (head : TraceHead) → HasHeader (trace_part input) head
      → head.boards ≡ length unit.boards → load_fault_of unit (head_options budget head) ≡ None → (line : ℕ) → HasBadLine (trace_part input) line
      → (other : Refusal) → IsRefusedToCheck budget input other → Trace BadLine line ≡ other
  line_alone within unit says head header boards loads line bad other (IsLongInput l) = absurd (too_long check_limit (length input) within l)
  line_alone within unit says head header boards loads line bad other (HasProgramFault w l c k f) = absurd (said_has_none (program_part input) unit l c k says f)
  line_alone within unit says head header boards loads line bad other (HasNoHeader w u s none) = absurd (none head header)
  line_alone within unit says head header boards loads line bad other (HasOtherBoards w u s g h others) =
      absurd (boards_or_not unit u head g (says_once (program_part input) unit u says s) (headers_once (trace_part input) head g header h) boards others)
  line_alone within unit says head header boards loads line bad other (HasLoadFault w u s g h as_many why is) =
      absurd (none_or_fault (load_fault_of unit (head_options budget head)) (load_fault_of u (head_options budget g)) why
      (same_load budget unit u head g (says_once (program_part input) unit u says s) (headers_once (trace_part input) head g header h)) loads is)
  line_alone within unit says head header boards loads line bad other (HasLineFault w u s g h as_many load l worse) = same_line (trace_part input) line l bad worse

-- an input has one refusal at most
pub one_refusal_to_check : OneRefusalToCheck
one_refusal_to_check budget input one other (IsLongInput l) r = long_alone budget input l other r
one_refusal_to_check budget input one other (HasProgramFault w l c k f) r = text_alone budget input w l c k f other r
one_refusal_to_check budget input one other (HasNoHeader w u s none) r = header_alone budget input w u s none other r
one_refusal_to_check budget input one other (HasOtherBoards w u s head h others) r = boards_alone budget input w u s head h others other r
one_refusal_to_check budget input one other (HasLoadFault w u s head h as_many why is) r = load_alone budget input w u s head h as_many why is other r
one_refusal_to_check budget input one other (HasLineFault w u s head h as_many loads line bad) r = line_alone budget input w u s head h as_many loads line bad other r

-- ---- what is judged

-- the trace of an input that may be judged has its header
header_of : (budget : ℕ) (input : List ℕ) (unit : Program) (head : TraceHead) (entries : List Entry) → IsJudgeable budget input unit head entries → HasHeader (trace_part input) head
header_of budget input unit head entries ok = trace_header (trace_part input) head entries ok.trace

-- an input that may be judged is not refused
pub judgeable_is_not_refused : JudgeableIsNotRefused
judgeable_is_not_refused budget input unit head entries refusal ok (IsLongInput l) = too_long check_limit (length input) ok.within l
judgeable_is_not_refused budget input unit head entries refusal ok (HasProgramFault w l c k f) = said_has_none (program_part input) unit l c k ok.says f
judgeable_is_not_refused budget input unit head entries refusal ok (HasNoHeader w u s none) = none head (header_of budget input unit head entries ok)
judgeable_is_not_refused budget input unit head entries refusal ok (HasOtherBoards w u s g h others) =
    boards_or_not unit u head g (says_once (program_part input) unit u ok.says s) (headers_once (trace_part input) head g (header_of budget input unit head entries ok) h) ok.boards others
judgeable_is_not_refused budget input unit head entries refusal ok (HasLoadFault w u s g h as_many why is) =
    none_or_fault (load_fault_of unit (head_options budget head)) (load_fault_of u (head_options budget g)) why
    (same_load budget unit u head g (says_once (program_part input) unit u ok.says s) (headers_once (trace_part input) head g (header_of budget input unit head entries ok) h)) ok.loads is
judgeable_is_not_refused budget input unit head entries refusal ok (HasLineFault w u s g h as_many loads line bad) = traces_are_good (trace_part input) head entries BadLine line ok.trace bad

-- a trace has one verdict
pub one_verdict : OneVerdict
one_verdict budget input one other v w =
    let units : v.unit ≡ w.unit = says_once (program_part input) v.unit w.unit v.judgeable.says w.judgeable.says in
    let parts = texts_once (trace_part input) v.head w.head v.entries w.entries v.judgeable.trace w.judgeable.trace in
    v.is ∙ ap (λ (u : Program). judged (opening_of u (head_options budget v.head)) v.entries) units
    ∙ ap (λ (h : TraceHead). judged (opening_of w.unit (head_options budget h)) v.entries) parts.0
    ∙ ap (λ (es : List Entry). judged (opening_of w.unit (head_options budget w.head)) es) parts.1 ∙ sym w.is
