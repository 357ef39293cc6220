-- How much room is taken for the text of a trace.
use Rattle.std.specs.Prelude.{ℕ, ◌+◌, List}
use Rattle.std.specs.List.{sum_by}
use Rattle.spur_flat.specs.declared.entry.Entry.{Entry}
use Rattle.spur_flat.specs.declared.entry.Entry.TheVariants.{Load, Store, Tas, Fault, Fill, Claim, WriteBack, Refresh, BlockFlush, Leave, PageOut, PageIn, SetRef, SetDirty, ClearRef}

-- at least the length of an entry's line, and at most twice that
abbrev pub line_room : Entry → ℕ
line_room (Load board at value) = 30
line_room (Store board at value) = 30
line_room (Tas board at old) = 30
line_room (Fault board kind access at) = 37
line_room (Fill board layer need at) = 30
line_room (Claim board at) = 24
line_room (WriteBack board at) = 24
line_room (Refresh board at) = 24
line_room (BlockFlush board holder at) = 24
line_room (Leave board at) = 24
line_room (PageOut board at) = 24
line_room (PageIn board at frame) = 24
line_room (SetRef board at) = 24
line_room (SetDirty board at) = 24
line_room (ClearRef board at) = 24

-- at least the length of a trace's text, and at most twice that
abbrev pub trace_room : List Entry → ℕ
trace_room entries = 22 + sum_by line_room entries
