-- Which texts are traces, and what is at fault in the others.
use Rattle.std.specs.Prelude.{◌≡◌, ⊤, ℕ, ◌+◌, ◌-◌, ◌^◌, ◌==◌, if◌then◌else◌, min, List, [], ◌∷◌, ◌++◌, length, Option, Some, None, Result, Ok, Err}
use Rattle.std.specs.List.{All}
use Rattle.std.specs.Option.{option_map}
use Rattle.spur_flat.specs.declared.entry.Entry.{Entry}
use Rattle.spur_flat.specs.WellFormed.{HasWord, IsWellFormed}
use Rattle.spur_trace.specs.declared.head.TraceHead.{TraceHead}
use Rattle.spur_trace.specs.declared.fault.TraceFault.{TraceFault}
use Rattle.spur_trace.specs.declared.fault.TraceFault.TheVariants.{Bad, NoMemory}
use Rattle.spur_trace.specs.declared.fault.TraceKind.{TraceKind}
use Rattle.spur_trace.specs.declared.fault.TraceKind.TheVariants.{BadHeader, BadLine, Boards}
use Rattle.spur_trace.specs.Line.{entry_line, header_line, trace_text}
use Rattle.spur_trace.specs.Formed.{IsHead, IsTraced}

-- the text is the trace of this head and these entries, which are well formed for its boards and have words for values
pub record IsTrace (text : List ℕ) (head : TraceHead) (entries : List Entry) : Type 0 where
  pub is_head : IsHead head
  pub formed : All (IsWellFormed head.boards) entries
  pub words : All HasWord entries
  pub text_is : text ≡ trace_text head entries

-- the first line of a text with its line feed; none where no line feed stands in the text
abbrev pub first_line : List ℕ → Option (List ℕ)
first_line [] = None
first_line (byte ∷ bytes) = if byte == 10 then Some (10 ∷ []) else option_map (λ line. byte ∷ line) (first_line bytes)

-- the first line of a text is the line of this header
pub record HasHeader (text : List ℕ) (head : TraceHead) : Type 0 where
  pub is_head : IsHead head
  pub first : first_line text ≡ Some (header_line head)

-- the first line of a text is that of no well-formed entry, or lacks its line feed
abbrev pub HasNoEntry : ℕ → List ℕ → Type 0
HasNoEntry boards text = (e : Entry) → IsTraced boards e → first_line text ≡ Some (entry_line e) → ⊥

-- behind the line of a header and those of well-formed entries something is left, whose first line is that of no entry.
-- Lines are counted from the header's as 1, up to the last number of 32 bits.
pub record HasBadLine (text : List ℕ) (line : ℕ) : Type 0 where
  pub head : TraceHead
  pub is_head : IsHead head
  pub before : List Entry
  pub traced : All (IsTraced head.boards) before
  pub left : List ℕ
  pub text_is : text ≡ trace_text head before ++ left
  pub some : left ≡ [] → ⊥
  pub bad : HasNoEntry head.boards left
  pub line_is : line ≡ min (length before + 2) (2 ^ 32 - 1)

-- the text has this fault, on this line. A text alone has never another number of boards than its program.
abbrev pub HasFault : List ℕ → TraceKind → ℕ → Type 0
HasFault text BadHeader line = (line ≡ 1) × ((head : TraceHead) → HasHeader text head → ⊥)
HasFault text BadLine line = HasBadLine text line
HasFault text Boards line = ⊥

-- the fault that is told is the text's; want of memory tells none
abbrev pub TellsFault : List ℕ → TraceFault → Type 0
TellsFault text (Bad kind line) = HasFault text kind line
TellsFault text NoMemory = ⊤

-- these entries are given, unless memory is wanting
abbrev pub Gives : {V : Type 0} → (V → List Entry) → Result V TraceFault → List Entry → Type 0
Gives view (Ok entries) es = view entries ≡ es
Gives view (Err fault) es = fault ≡ NoMemory
