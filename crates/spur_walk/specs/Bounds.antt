-- How many steps are left at most, by the board's own lines.
use Rattle.std.specs.Prelude.{ℕ, ◌+◌, if◌then◌else◌, List, Option, Some, None}
use Rattle.spur_addr.specs.Address.{entry_address_of}
use Rattle.spur_cache.specs.declared.line.Line.{Line}
use Rattle.spur_cache.specs.Lines.{found, victim_of}
use Rattle.spur_snoop.specs.declared.Need.{Need}
use Rattle.spur_snoop.specs.Protocol.{is_owned, is_exclusive}
use Rattle.spur_walk.specs.declared.looked.Looked.{Looked}
use Rattle.spur_walk.specs.declared.looked.Looked.TheVariants.{Hit, Denied, NeedsDirty, NeedsClaim, Miss}
use Rattle.spur_walk.specs.Look.{look_of}

-- one write-back comes before the fill of a block where an owned line of another block stands on its place
abbrev pub backs : Option Line → ℕ
backs None = 0
backs (Some line) = if is_owned line.state then 1 else 0

-- the write-back and the fill of a block
abbrev pub fill_steps : List (Option Line) → ℕ → ℕ
fill_steps own g = 1 + backs (victim_of own g)

-- the steps until the block of an entry is there, and as many as `more` after it, by the line of that block and by the line
-- of the root block
abbrev pub climb_steps : List (Option Line) → ℕ → ℕ → Option Line → ℕ
climb_steps own at more (Some root) = more + fill_steps own (entry_address_of at)
climb_steps own at more None = more + 2 + fill_steps own (entry_address_of (entry_address_of at))

-- the steps until an access is ready or has a fault, at most: at most two after the block of its entry is there
abbrev pub steps_by : List (Option Line) → ℕ → Option Line → Option Line → Looked → ℕ
steps_by own at entry root Hit = 0
steps_by own at entry root Denied = 0
steps_by own at entry root NeedsClaim = 1
steps_by own at (Some entry) root NeedsDirty = 2
steps_by own at (Some entry) root Miss = fill_steps own at
steps_by own at None root NeedsDirty = climb_steps own at 2 root
steps_by own at None root Miss = climb_steps own at 2 root

abbrev pub steps_left : List (Option Line) → ℕ → Need → ℕ
steps_left own at need = steps_by own at (found own (entry_address_of at)) (found own (entry_address_of (entry_address_of at))) (look_of (found own at) need)

-- the fills and claims among them
abbrev pub climb_fills : Option Line → ℕ
climb_fills (Some root) = 2
climb_fills None = 3

abbrev pub fills_by : Option Line → Option Line → Looked → ℕ
fills_by entry root Hit = 0
fills_by entry root Denied = 0
fills_by entry root NeedsClaim = 1
fills_by (Some entry) root NeedsDirty = 1
fills_by (Some entry) root Miss = 1
fills_by None root NeedsDirty = climb_fills root
fills_by None root Miss = climb_fills root

abbrev pub fills_left : List (Option Line) → ℕ → Need → ℕ
fills_left own at need = fills_by (found own (entry_address_of at)) (found own (entry_address_of (entry_address_of at))) (look_of (found own at) need)

-- the steps until the block of a page's entry is there, exclusive
abbrev pub page_steps_by : List (Option Line) → ℕ → Option Line → Option Line → ℕ
page_steps_by own page (Some entry) root = if is_exclusive entry.state then 0 else 1
page_steps_by own page None root = climb_steps own page 0 root

abbrev pub page_steps_left : List (Option Line) → ℕ → ℕ
page_steps_left own page = page_steps_by own page (found own (entry_address_of page)) (found own (entry_address_of (entry_address_of page)))
