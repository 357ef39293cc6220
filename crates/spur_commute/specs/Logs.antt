-- A history with the logs of the boards behind it, in board order.
use Rattle.std.specs.Prelude.{ℕ, ◌≡◌, ◌<◌, true, List, [], ◌∷◌, ◌++◌, length, map, get_or, slice_get, slice_set, Option, Some, None}
use Rattle.std.specs.List.{AllByRecursion}
use Rattle.spur_flat.specs.declared.flat.Flat.{Flat}
use Rattle.spur_flat.specs.declared.tag.Tag.{Tag}
use Rattle.spur_flat.specs.declared.entry.Entry.{Entry}
use Rattle.spur_flat.specs.Formed.{IsFormed}
use Rattle.spur_flat.specs.History.{is_own, own_entries}
use Rattle.spur_flat.specs.TagRules.{tags_refusal}
use Rattle.spur_flat.specs.Validity.{IsValidFlat}
use Rattle.spur_flat.specs.State.{State, IsCarried, IsTagged, opening_state, tags_after}
use Rattle.spur_flat.specs.Untold.{IsCarriedUntold, LeadsUntold}

-- the logs of the boards one behind the other, in board order
abbrev pub joined_logs : List (List Entry) → List Entry
joined_logs [] = []
joined_logs (log ∷ rest) = log ++ joined_logs rest

-- a log of board i: each entry is an access or a fault of that board
abbrev pub IsLogOf : ℕ → List Entry → Type 0
IsLogOf i log = AllByRecursion (λ entry. is_own i entry ≡ true) log

-- the logs of the boards, by their numbers
pub record AreLogs (logs : List (List Entry)) : Type 0 where
  pub each : (i : ℕ) (log : List Entry) → slice_get logs i ≡ Some log → IsLogOf i log

-- the logs with one more entry in log i, at its end
abbrev pub with_logged : List (List Entry) → ℕ → Entry → List (List Entry)
with_logged logs i entry = slice_set logs i (get_or logs i [] ++ entry ∷ [])

-- board i may log an entry behind a history and logs: each of their entries is well formed and so is this one, which is
-- an access or a fault of the board
pub record MayLog (boards : ℕ) (history : List Entry) (logs : List (List Entry)) (i : ℕ) (entry : Entry) : Type 0 where
  pub formed : AllByRecursion (IsFormed boards) (history ++ joined_logs logs)
  pub are_logs : AreLogs logs
  pub there : i < length logs
  pub own : is_own i entry ≡ true
  pub entry_formed : IsFormed boards entry

-- What an own step keeps: its entry stands before the logs of the boards behind its own, and the history with the logs
-- is carried from the opening to where the entry leads from the state that stands.
abbrev pub OwnStepIsCarried : Type 0
OwnStepIsCarried = (boards lines : ℕ) (F : Flat) (now to : State) (history : List Entry) (logs : List (List Entry))
    (i : ℕ) (entry : Entry) → IsValidFlat F → MayLog boards history logs i entry
    → IsCarried (opening_state boards lines F) now (history ++ joined_logs logs) → IsCarried now to (entry ∷ [])
    → IsCarried (opening_state boards lines F) to (history ++ joined_logs (with_logged logs i entry))

-- so it is where the swap is not told
abbrev pub OwnStepLeadsUntold : Type 0
OwnStepLeadsUntold = (boards lines : ℕ) (F : Flat) (now to : State) (history : List Entry) (logs : List (List Entry))
    (i : ℕ) (entry : Entry) → IsValidFlat F → MayLog boards history logs i entry
    → LeadsUntold F (opening_state boards lines F) now (history ++ joined_logs logs) → IsCarriedUntold now to (entry ∷ [])
    → LeadsUntold F (opening_state boards lines F) to (history ++ joined_logs (with_logged logs i entry))

-- each board's own entries are as they were, with the entry behind those of its board
abbrev pub OwnStepIsLast : Type 0
OwnStepIsLast = (boards : ℕ) (history : List Entry) (logs : List (List Entry)) (i : ℕ) (entry : Entry) (board : ℕ)
    → MayLog boards history logs i entry
    → own_entries (history ++ joined_logs (with_logged logs i entry)) board
    ≡ own_entries ((history ++ joined_logs logs) ++ entry ∷ []) board

-- and the logs are still such: of their boards, and well formed
pub record LogsStay (boards : ℕ) (history : List Entry) (logs : List (List Entry)) : Type 0 where
  pub formed : AllByRecursion (IsFormed boards) (history ++ joined_logs logs)
  pub are_logs : AreLogs logs

abbrev pub OwnStepKeepsLogs : Type 0
OwnStepKeepsLogs = (boards : ℕ) (history : List Entry) (logs : List (List Entry)) (i : ℕ) (entry : Entry)
    → MayLog boards history logs i entry → LogsStay boards history (with_logged logs i entry)

-- the logs' entries are allowed by the tags that stand, since accesses leave the tags: each load is of a block that its
-- board has now, and each write of one that it has for itself, with its dirty copy set
abbrev pub LogsAreAllowed : Type 0
LogsAreAllowed = (F G : Flat) (T now : List (List (Option Tag))) (history : List Entry) (logs : List (List Entry))
    → AreLogs logs → IsTagged F T (history ++ joined_logs logs) → tags_after F T (history ++ joined_logs logs) ≡ now
    → AllByRecursion (λ entry. tags_refusal G now entry ≡ None) (joined_logs logs)

-- to put all logs behind the history, and empty them, leaves the history with the logs as it is
abbrev pub MergeIsSame : Type 0
MergeIsSame = (history : List Entry) (logs : List (List Entry))
    → (history ++ joined_logs logs) ++ joined_logs (map (λ log. []) logs) ≡ history ++ joined_logs logs
