-- The state that stands after a history, and the pieces of a history that may follow it.
use Rattle.std.specs.Prelude.{ℕ, ◌≡◌, ⊤, ◌+◌, List, [], ◌∷◌, Option, None, replicate, slice_set}
use Rattle.spur_flat.specs.declared.flat.Flat.{Flat}
use Rattle.spur_flat.specs.declared.tag.Tag.{Tag}
use Rattle.spur_flat.specs.declared.illegal.Illegal.{Illegal}
use Rattle.spur_flat.specs.declared.entry.Entry.{Entry}
use Rattle.spur_flat.specs.Refused.{or_else}
use Rattle.spur_flat.specs.Refusal.{refusal_of}
use Rattle.spur_flat.specs.History.{on, IsAllowed}
use Rattle.spur_flat.specs.TagLines.{no_tags, tags_on}
use Rattle.spur_flat.specs.TagRules.{tags_refusal}
use Rattle.spur_flat.specs.Blocks.{board_of}
use Rattle.spur_flat.specs.Needed.{lack_of, open_on, needed_refusal, numbers_at, numbers_on}

-- flat memory, the tags of every board, the open entries of every board, and the number of lines of a cache
pub record State : Type 0 where
  pub flat : Flat
  pub tags : List (List (Option Tag))
  pub opened : List (List Entry)
  pub lines : ℕ

-- the state at an opening: no line of any board holds anything, and no board has an open entry
abbrev pub opening_state : ℕ → ℕ → Flat → State
opening_state boards lines flat =
    record { flat = flat; tags = no_tags boards lines; opened = replicate boards []; lines = lines }

-- the state after an entry
abbrev pub step : State → Entry → State
step S entry = record { flat = on S.flat entry; tags = tags_on S.flat S.tags entry; opened = open_on S.opened entry; lines = S.lines }

-- the state after a history
abbrev pub state_after : State → List Entry → State
state_after S [] = S
state_after S (entry ∷ rest) = state_after (step S entry) rest

-- what stands beside memory and lines: the open entries of every board
pub record Beside : Type 0 where
  pub opened : List (List Entry)

-- the same after an entry
abbrev pub beside_on : Beside → Entry → Beside
beside_on beside entry = record beside { opened = open_on beside.opened entry }

-- the same where a board is served: it has no open entry
abbrev pub served_beside : Beside → ℕ → Beside
served_beside beside board = record beside { opened = slice_set beside.opened board [] }

-- no board has an open entry
abbrev pub nothing_beside : ℕ → Beside
nothing_beside boards = record { opened = replicate boards [] }

-- an entry may follow: it is allowed in the flat state, by the tags and by the open entries
pub record MayFollow (S : State) (entry : Entry) : Type 0 where
  pub legal : IsAllowed S.flat entry
  pub tagged : tags_refusal S.flat S.tags entry ≡ None
  pub needed : lack_of S.lines S.opened entry ≡ None

-- each entry may follow those before it
abbrev pub AllFollow : State → List Entry → Type 0
AllFollow S [] = ⊤
AllFollow S (entry ∷ rest) = MayFollow S entry × AllFollow (step S entry) rest

-- a piece of a history is carried from one state to another: its entries may follow, and it leads there
pub record IsCarried (from to : State) (piece : List Entry) : Type 0 where
  pub follows : AllFollow from piece
  pub leads : state_after from piece ≡ to

-- a tagged history: it obeys the ownership rules, each entry in the tags and the flat state after those before it
abbrev pub IsTagged : Flat → List (List (Option Tag)) → List Entry → Type 0
IsTagged F T [] = ⊤
IsTagged F T (entry ∷ rest) = (tags_refusal F T entry ≡ None) × IsTagged (on F entry) (tags_on F T entry) rest

-- a needed history: no entry of the bus is idle, each after the entries that those before it leave open
abbrev pub IsNeeded : ℕ → List (List Entry) → List Entry → Type 0
IsNeeded lines opened [] = ⊤
IsNeeded lines opened (entry ∷ rest) = (lack_of lines opened entry ≡ None) × IsNeeded lines (open_on opened entry) rest

-- the tags, and the open entries, after a history
abbrev pub tags_after : Flat → List (List (Option Tag)) → List Entry → List (List (Option Tag))
tags_after F T [] = T
tags_after F T (entry ∷ rest) = tags_after (on F entry) (tags_on F T entry) rest

abbrev pub open_after : List (List Entry) → List Entry → List (List Entry)
open_after opened [] = opened
open_after opened (entry ∷ rest) = open_after (open_on opened entry) rest

-- why an entry may not follow, in the order in which the rules are tried: what it may be answered, what was read, the
-- pager, the tags, and whether the open entries, which have these numbers, are needed
abbrev pub state_refusal : List (List ℕ) → State → Entry → Option Illegal
state_refusal numbers S entry =
    or_else (refusal_of S.flat entry)
    (or_else (tags_refusal S.flat S.tags entry)
    (needed_refusal (numbers_at numbers (board_of entry)) (lack_of S.lines S.opened entry)))

-- the first refusal of a history whose first entry has the number after `count`
abbrev pub history_refusal : ℕ → List (List ℕ) → State → List Entry → Option Illegal
history_refusal count numbers S [] = None
history_refusal count numbers S (entry ∷ rest) =
    or_else (state_refusal numbers S entry) (history_refusal (count + 1) (numbers_on numbers (count + 1) entry) (step S entry) rest)
