-- The logs of boards, where one of them has grown.
use Rattle.std.proofs.Common.{◌≡◌, ◌∙◌, ℕ, zero, suc, Bool, true, if◌then◌else◌, ap, sym, refl, subst, List, [], ◌∷◌, ◌++◌, Some, append-nil, eq-eqb}
use Rattle.std.specs.Prelude.{slice_get}
use Rattle.std.specs.List.{AllByRecursion}
use Rattle.std.proofs.Math.ListN.{set}
use Rattle.std.proofs.lemmas.List.{set-get_or}
use Rattle.std.proofs.lemmas.Option.{get_or_from_slice_get}
use Rattle.spur_flat.specs.declared.entry.Entry.{Entry}
use Rattle.spur_flat.specs.declared.entry.Entry.TheVariants as entry
use Rattle.spur_flat.specs.Blocks.{board_of}
use Rattle.spur_flat.specs.History.{is_own, own_entries}
use Rattle.spur_commute.specs.Logs.{AreLogs, IsLogOf, joined_logs, with_logged}
use Rattle.spur_commute.proofs.LogFacts.{own_is}
use Rattle.spur_board.specs.declared.board.Board.{Board}
use Rattle.spur_core.specs.Boards.{AreBoardLogs, IsLocalEntry, IsLogged, LogsAreEmpty, logs_of}
use Rattle.spur_core.proofs.GoodFacts.{empty_joined}
use Rattle.spur_core.proofs.SameFacts.{got_map}

-- one element of a list changed
pub set_back : {X : Type 0} (xs : List X) (i : ℕ) (x : X) → slice_get xs i ≡ Some x → set xs i x ≡ xs
set_back xs i x there = ap (set xs i) (sym (get_or_from_slice_get xs i x x there)) ∙ set-get_or xs i x

pub set_there : {X : Type 0} (xs : List X) (i : ℕ) (x y : X) → slice_get xs i ≡ Some x → slice_get (set xs i y) i ≡ Some y
set_there [] i x y there = absurd cc
set_there (z ∷ zs) zero x y there = refl
set_there (z ∷ zs) (suc i) x y there = set_there zs i x y there

-- one log has one more entry, or is as it was
pub logs_with : {C : Type 0} (bs : List (Board C)) (b : ℕ) (x y : Board C) (e : Entry) → slice_get bs b ≡ Some x → y.log.entries ≡ x.log.entries ++ e ∷ [] → logs_of (set bs b y) ≡ with_logged (logs_of bs) b e
logs_with [] b x y e there log = absurd cc
logs_with {C} (z ∷ zs) zero x y e there log =
    let same : z ≡ x = cc in
    ap (λ (es : List Entry). es ∷ logs_of zs) (log ∙ ap (λ (u : Board C). u.log.entries ++ e ∷ []) (sym same))
logs_with (z ∷ zs) (suc b) x y e there log = ap (λ (ls : List (List Entry)). z.log.entries ∷ ls) (logs_with zs b x y e there log)

pub logs_stay : {C : Type 0} (bs : List (Board C)) (b : ℕ) (x y : Board C) → slice_get bs b ≡ Some x → y.log ≡ x.log → logs_of (set bs b y) ≡ logs_of bs
logs_stay [] b x y there same = refl
logs_stay {C} (z ∷ zs) zero x y there same =
    let is : z ≡ x = cc in
    ap (λ (es : List Entry). es ∷ logs_of zs) (ap (λ l. l.entries) same ∙ ap (λ (u : Board C). u.log.entries) (sym is))
logs_stay (z ∷ zs) (suc b) x y there same = ap (λ (ls : List (List Entry)). z.log.entries ∷ ls) (logs_stay zs b x y there same)

-- what a board logs, where all logs were empty
pub joined_one : {C : Type 0} (bs : List (Board C)) (b : ℕ) (x y : Board C) → LogsAreEmpty bs → slice_get bs b ≡ Some x → joined_logs (logs_of (set bs b y)) ≡ y.log.entries
joined_one [] b x y empty there = absurd cc
joined_one {C} (z ∷ zs) zero x y empty there =
    let rest : LogsAreEmpty zs = record { each = λ i c e. empty.each (suc i) c e } in
    ap (λ (es : List Entry). y.log.entries ++ es) (empty_joined zs rest) ∙ append-nil y.log.entries
joined_one {C} (z ∷ zs) (suc b) x y empty there =
    let rest : LogsAreEmpty zs = record { each = λ i c e. empty.each (suc i) c e } in
    ap (λ (es : List Entry). es ++ joined_logs (logs_of (set zs b y))) (empty.each 0 z refl) ∙ joined_one zs b x y rest there

-- an entry of a log is its board's own
pub local_own : (i : ℕ) (e : Entry) → IsLocalEntry e → board_of e ≡ i → is_own i e ≡ true
local_own i (entry.Load board at value) local is = eq-eqb board i is
local_own i (entry.Store board at value) local is = eq-eqb board i is
local_own i (entry.Tas board at old) local is = eq-eqb board i is
local_own i (entry.Fault board kind access at) local is = eq-eqb board i is
local_own i e local is = absurd local

pub logged_own : (i : ℕ) (es : List Entry) → AllByRecursion (IsLogged i) es → IsLogOf i es
logged_own i [] all = tt
logged_own i (e ∷ es) all = (local_own i e all.0.local all.0.board, logged_own i es all.1)

pub are_logs : {C : Type 0} (bs : List (Board C)) → AreBoardLogs bs → AreLogs (logs_of bs)
are_logs {C} bs all = record {
  each = λ i log at.
      let r = got_map (λ (b : Board C). b.log.entries) bs i log at in
      subst (IsLogOf i) r.is (logged_own i r.old.log.entries (all.each i r.old r.there).entries);
}

-- entries that are all a board's own
pub own_all : (i : ℕ) (es : List Entry) → IsLogOf i es → own_entries es i ≡ es
own_all i [] all = refl
own_all i (e ∷ es) all = ap (λ (t : Bool). if t then e ∷ own_entries es i else own_entries es i) all.0 ∙ ap (λ (l : List Entry). e ∷ l) (own_all i es all.1)

pub own_boards : (i : ℕ) (es : List Entry) → IsLogOf i es → AllByRecursion (λ (e : Entry). board_of e ≡ i) es
own_boards i [] all = tt
own_boards i (e ∷ es) all = ((own_is i e all.0).board, own_boards i es all.1)
