-- A board takes one whole instruction: over courses and lists of entries, with no machine in it.
use Rattle.std.specs.Prelude.{ℕ, ◌≡◌, ◌≢◌, ◌||◌, Bool, true, false, List, [], ◌∷◌, ◌++◌, is_some, map, set, slice_get, Some, None}
use Rattle.std.specs.List.{AllByRecursion}
use Rattle.spur_flat.specs.declared.entry.Entry.{Entry}
use Rattle.spur_flat.specs.Blocks.{board_of}
use Rattle.spur_flat.specs.History.{is_own, own_entries}
use Rattle.spur_cpu.specs.declared.cpu.Want.TheVariants.{Local}
use Rattle.spur_cpu.specs.Meaning.{Meaning}
use Rattle.spur_cpu.specs.After.{Course, carry_entry}
use Rattle.spur_cpu.specs.Onward.{carry_instruction}
use Rattle.spur_board.specs.declared.board.Board.{Board}
use Rattle.spur_board.specs.Boards.{course_now}
use Rattle.spur_core.specs.Boards.{is_swapped}

-- a board on its way: its segment registers and budget, its course, and whether the swap has ended it
pub record Runner (S : Type 0) : Type 0 where
  pub segs : List ℕ
  pub budget : ℕ
  pub course : Course S
  pub swapped : Bool

-- it has ended, by its course or by the swap
abbrev pub is_out : {S : Type 0} → Runner S → Bool
is_out r = is_some r.course.ending || r.swapped

-- the entries of a step of board b end with its answer: there is none, or the last of them is the board's own
pub data EndsWithAnswer (b : ℕ) (entries : List Entry) : Type 0 where
  HasNone : entries ≡ [] → EndsWithAnswer b entries
  OwnIsLast : (front : List Entry) (e : Entry) → entries ≡ front ++ e ∷ [] → is_own b e ≡ true → EndsWithAnswer b entries

module _ {S : Type 0} (m : Meaning S) where
  -- an entry leaves a board at the access that it wants: a fault that does not end it
  abbrev pub LeavesStanding : Runner S → Entry → Type 0
  LeavesStanding r e = carry_entry m r.segs r.budget r.course e ≡ Some r.course

  -- by these entries of its own a board is carried one whole instruction on, or to its ending
  pub data TakesInstruction (r : Runner S) (es : List Entry) (s : Runner S) : Type 0 where
    -- a local instruction has none; an access has faults that are served, and the entry that answers it
    Carried : carry_instruction m r.segs r.budget r.course es ≡ Some s.course → s ≡ record r { course = s.course }
        → TakesInstruction r es s
    -- the swap has ended it after at least one fault, and its access stands
    Swapped : (faults : List Entry) (e : Entry) → es ≡ faults ++ e ∷ [] → AllByRecursion (LeavesStanding r) es
        → s ≡ record r { swapped = true }
        → TakesInstruction r es s

module _ {C S : Type 0} (m : Meaning S) (state : C → S) where
  abbrev pub runner_of : Board C → Runner S
  runner_of b = record { segs = b.segs; budget = b.budget; course = course_now m state b; swapped = is_swapped b.ended }

  abbrev pub runners_of : List (Board C) → List (Runner S)
  runners_of boards = map runner_of boards

  -- Board b has taken one whole instruction: the history grows by entries of board b alone, its own among them carry it
  -- on, and no other board goes on. So a local instruction has no entry at all, and behind the one that answers an access
  -- there is none. Only where the swap has ended the board may the pager's entries stand behind the fault that it was
  -- asked for.
  pub record IsStepped (b : ℕ) (before after : List Entry) (olds news : List (Board C)) : Type 0 where
    pub entries : List Entry
    pub history : after ≡ before ++ entries
    pub turns : AllByRecursion (λ e. board_of e ≡ b) entries
    pub old : Board C
    pub there : slice_get olds b ≡ Some old
    pub new : Board C
    pub takes : TakesInstruction m (runner_of old) (own_entries entries b) (runner_of new)
    pub reaches : is_swapped new.ended ≡ false → EndsWithAnswer b entries
    pub boards : runners_of news ≡ set (runners_of olds) b (runner_of new)

  -- Board b has taken one whole instruction, wherever its entries stand: behind the board's own entries there are these,
  -- which carry it on, and no other board goes on or has any more.
  pub record HasTakenInstruction (b : ℕ) (before after : List Entry) (olds news : List (Board C)) : Type 0 where
    pub own : List Entry
    pub mine : own_entries after b ≡ own_entries before b ++ own
    pub others : (i : ℕ) → i ≢ b → own_entries after i ≡ own_entries before i
    pub old : Board C
    pub there : slice_get olds b ≡ Some old
    pub new : Board C
    pub takes : TakesInstruction m (runner_of old) own (runner_of new)
    pub boards : runners_of news ≡ set (runners_of olds) b (runner_of new)

  -- so it has where its entries are the last
  abbrev pub StepsTakeInstructions : Type 0
  StepsTakeInstructions = (b : ℕ) (before after : List Entry) (olds news : List (Board C)) → IsStepped b before after olds news
      → HasTakenInstruction b before after olds news

  -- where a board has not ended and wants a local instruction, its step leaves the history as it was
  abbrev pub LocalStepsLeaveTheHistory : Type 0
  LocalStepsLeaveTheHistory = (b : ℕ) (before after : List Entry) (olds news : List (Board C)) (x : Board C)
      → slice_get olds b ≡ Some x → x.ended ≡ None → m.wants (state x.cpu) ≡ Local → IsStepped b before after olds news
      → after ≡ before
