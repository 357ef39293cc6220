-- Why an entry is refused in a flat state, with the two numbers that differ.
use Rattle.std.specs.Prelude.{ℕ, ◌==◌, if◌then◌else◌, Option, Some, None}
use Rattle.spur_flat.specs.declared.flat.Flat.{Flat}
use Rattle.spur_flat.specs.declared.access.AccessKind.{AccessKind}
use Rattle.spur_flat.specs.declared.access.AccessKind.TheVariants as access
use Rattle.spur_flat.specs.declared.access.FaultKind.{FaultKind}
use Rattle.spur_flat.specs.declared.access.FaultKind.TheVariants.{Align, Unmapped, Missing, Leaving, Protection, Reference, Dirty}
use Rattle.spur_flat.specs.declared.entry.Entry.{Entry}
use Rattle.spur_flat.specs.declared.entry.Entry.TheVariants.{Load, Store, Tas, Fault, Fill, Claim, WriteBack, Refresh, BlockFlush, Leave, PageOut, PageIn, SetRef, SetDirty, ClearRef}
use Rattle.spur_flat.specs.declared.illegal.Clause.TheVariants as clause
use Rattle.spur_flat.specs.declared.illegal.Illegal.{Illegal}
use Rattle.spur_flat.specs.Refused.{refused, or_else, unless}
use Rattle.spur_flat.specs.Access.{may, miss_of, bar_of}
use Rattle.spur_flat.specs.Table.{walk_of, data_word}
use Rattle.spur_flat.specs.Pager.{paged, may_leave, may_go_out, may_come_in, may_set_referenced, may_set_dirty, may_clear_referenced, is_free_frame}

-- the numbers of the answers: 0 is done
abbrev pub fault_number : FaultKind → ℕ
fault_number Align = 1
fault_number Unmapped = 2
fault_number Missing = 3
fault_number Leaving = 4
fault_number Protection = 5
fault_number Reference = 6
fault_number Dirty = 7

abbrev pub answer_number : Option FaultKind → ℕ
answer_number None = 0
answer_number (Some fault) = fault_number fault

-- an access that is done is refused where a fault bars it: WANTED is that fault, FOUND is 0
abbrev pub barred : Option FaultKind → Option Illegal
barred None = None
barred (Some fault) = refused clause.Fault (fault_number fault) 0

abbrev pub done_refusal : Flat → AccessKind → ℕ → Option Illegal
done_refusal F access g = barred (bar_of (walk_of F g) access g)

-- a value that is read is the word that stands in memory: WANTED is the word, FOUND the value
abbrev pub answered : ℕ → ℕ → Option Illegal
answered word value = if word == value then None else refused clause.Answer word value

-- an access that reads is refused where it may not be done, and then where it read another value
abbrev pub read_refusal : Flat → AccessKind → ℕ → ℕ → Option Illegal
read_refusal F access g value = or_else (done_refusal F access g) (answered (data_word F g) value)

-- a fault is refused where the access may not have it: WANTED is the miss answer, FOUND the fault
abbrev pub fault_refusal : Option ℕ → AccessKind → ℕ → FaultKind → Option Illegal
fault_refusal entry access g fault =
    if may entry access g (Some fault) then None
    else refused clause.Fault (answer_number (miss_of entry access g)) (fault_number fault)

-- a page comes in where its entry lets it, and then where the frame is free: FOUND is the frame
abbrev pub in_refusal : Flat → ℕ → ℕ → Option Illegal
in_refusal F at frame = paged F at may_come_in 4 (unless clause.Pager (is_free_frame F frame) 5 frame None)

-- why an entry is refused in a flat state, by the first rule that it breaks; none where it is allowed. The entries of
-- the bus are never refused by it.
abbrev pub refusal_of : Flat → Entry → Option Illegal
refusal_of F (Load board at value) = read_refusal F access.Load at value
refusal_of F (Store board at value) = done_refusal F access.Store at
refusal_of F (Tas board at old) = read_refusal F access.Tas at old
refusal_of F (Fault board kind access at) = fault_refusal (walk_of F at) access at kind
refusal_of F (Fill board layer need at) = None
refusal_of F (Claim board at) = None
refusal_of F (WriteBack board at) = None
refusal_of F (Refresh board at) = None
refusal_of F (BlockFlush board holder at) = None
refusal_of F (Leave board at) = paged F at may_leave 2 None
refusal_of F (PageOut board at) = paged F at may_go_out 3 None
refusal_of F (PageIn board at frame) = in_refusal F at frame
refusal_of F (SetRef board at) = paged F at may_set_referenced 6 None
refusal_of F (SetDirty board at) = paged F at may_set_dirty 7 None
refusal_of F (ClearRef board at) = paged F at may_clear_referenced 8 None
