-- What ties the writing of traces to their reading.
use Rattle.std.specs.Prelude.{◌≡◌, ◌↔◌, ℕ, ◌*◌, ◌≤◌, true, nat_le, List, ◌++◌, length}
use Rattle.std.specs.List.{All, list_all}
use Rattle.spur_flat.specs.declared.entry.Entry.{Entry}
use Rattle.spur_flat.specs.WellFormed.{IsWellFormed}
use Rattle.spur_text.specs.Line.{feed}
use Rattle.spur_trace.specs.declared.head.TraceHead.{TraceHead}
use Rattle.spur_trace.specs.declared.fault.TraceKind.{TraceKind}
use Rattle.spur_trace.specs.Line.{entry_line, header_line, trace_text}
use Rattle.spur_trace.specs.Formed.{IsHead, IsTraced}
use Rattle.spur_trace.specs.Room.{trace_room}
use Rattle.spur_trace.specs.Faults.{HasFault, HasHeader, HasNoEntry, IsTrace}

-- no line is that of two entries, and none begins another
abbrev pub NoLineOfTwo : Type 0
NoLineOfTwo = (boards : ℕ) (e f : Entry) (x y : List ℕ) → boards ≤ 10000 → IsTraced boards e → IsTraced boards f
    → entry_line e ++ x ≡ entry_line f ++ y → (e ≡ f) × (x ≡ y)

-- no text is the trace of two heads or of two lists of entries
abbrev pub NoTextOfTwo : Type 0
NoTextOfTwo = (text : List ℕ) (g h : TraceHead) (es fs : List Entry) → IsTrace text g es → IsTrace text h fs
    → (g ≡ h) × (es ≡ fs)

-- a trace has no fault
abbrev pub TracesHaveNoFault : Type 0
TracesHaveNoFault = (text : List ℕ) (head : TraceHead) (es : List Entry) (kind : TraceKind) (line : ℕ)
    → IsTrace text head es → HasFault text kind line → ⊥

-- no text has two faults
abbrev pub OneFault : Type 0
OneFault = (text : List ℕ) (j k : TraceKind) (m n : ℕ) → HasFault text j m → HasFault text k n → (j ≡ k) × (m ≡ n)

-- no text has two headers
abbrev pub OneHeader : Type 0
OneHeader = (text : List ℕ) (g h : TraceHead) → HasHeader text g → HasHeader text h → g ≡ h

-- the first line of a trace is that of its header
abbrev pub TraceHasHeader : Type 0
TraceHasHeader = (text : List ℕ) (head : TraceHead) (es : List Entry) → IsTrace text head es → HasHeader text head

-- a line feed ends it, and no other control byte stands in it
abbrev pub IsOneLine : List ℕ → Type 0
IsOneLine text = (front : List ℕ) × (text ≡ front ++ feed) × (list_all (λ byte. nat_le 32 byte) front ≡ true)

-- the line of each entry is one line, and so is that of a header
abbrev pub EachIsOneLine : Type 0
EachIsOneLine = ((boards : ℕ) (e : Entry) → boards ≤ 10000 → IsTraced boards e → IsOneLine (entry_line e))
    × ((head : TraceHead) → IsHead head → IsOneLine (header_line head))

-- the first line of a text is that of no entry exactly where the text begins with the line of none
abbrev pub NoEntryInFront : Type 0
NoEntryInFront = (boards : ℕ) (text : List ℕ) → boards ≤ 10000
    → HasNoEntry boards text ↔ ((e : Entry) (rest : List ℕ) → IsTraced boards e → text ≡ entry_line e ++ rest → ⊥)

-- the room of a trace is that of its text, and at most twice that
abbrev pub RoomIsEnough : Type 0
RoomIsEnough = (head : TraceHead) (es : List Entry) → IsHead head → All (IsWellFormed head.boards) es
    → (length (trace_text head es) ≤ trace_room es) × (trace_room es ≤ 2 * length (trace_text head es))
