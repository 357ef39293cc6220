-- Laws of the state that stands.
use Rattle.std.specs.Prelude.{ℕ, ◌≡◌, ⊤, ◌↔◌, List, [], ◌∷◌, ◌++◌, Option, None}
use Rattle.spur_flat.specs.declared.flat.Flat.{Flat}
use Rattle.spur_flat.specs.declared.tag.Tag.{Tag}
use Rattle.spur_flat.specs.declared.entry.Entry.{Entry}
use Rattle.spur_flat.specs.declared.entry.Entry.TheVariants.{Load, Store, Tas, Fault}
use Rattle.spur_flat.specs.History.{flat_after, IsLegal}
use Rattle.spur_flat.specs.TagRules.{tags_refusal}
use Rattle.spur_flat.specs.Blocks.{board_of}
use Rattle.spur_flat.specs.Needed.{open_at}
use Rattle.spur_flat.specs.State.{State, MayFollow, AllFollow, IsCarried, IsTagged, IsNeeded, step, state_after, tags_after, open_after, history_refusal}
use Rattle.spur_flat.specs.Untold.{IsCarriedUntold, IsLegalButValues, LeadsUntold}

-- all entries of a history may follow exactly where it is legal, tagged and needed
pub record IsEach (S : State) (history : List Entry) : Type 0 where
  pub legal : IsLegal S.flat history
  pub tagged : IsTagged S.flat S.tags history
  pub needed : IsNeeded S.lines S.opened history

abbrev pub FollowWhereEach : Type 0
FollowWhereEach = (S : State) (history : List Entry) → AllFollow S history ↔ IsEach S history

-- the state after a history has the flat state, the tags and the open entries after it, and as many lines
pub record LeadsEach (S : State) (history : List Entry) : Type 0 where
  pub flat : (state_after S history).flat ≡ flat_after S.flat history
  pub tags : (state_after S history).tags ≡ tags_after S.flat S.tags history
  pub opened : (state_after S history).opened ≡ open_after S.opened history
  pub lines : (state_after S history).lines ≡ S.lines

abbrev pub LeadToEach : Type 0
LeadToEach = (S : State) (history : List Entry) → LeadsEach S history

-- nothing of a history is refused exactly where all of it may follow, whatever the numbers of its entries
abbrev pub RefusedUnlessFollows : Type 0
RefusedUnlessFollows = (count : ℕ) (numbers : List (List ℕ)) (S : State) (history : List Entry) → (history_refusal count numbers S history ≡ None) ↔ AllFollow S history

-- a history in two pieces: all of it may follow where the first piece may, and the second from where the first leads
abbrev pub FollowsInPieces : Type 0
FollowsInPieces = (S : State) (first second : List Entry) → AllFollow S (first ++ second) ↔ (AllFollow S first × AllFollow (state_after S first) second)

abbrev pub StateInPieces : Type 0
StateInPieces = (S : State) (first second : List Entry) → state_after S (first ++ second) ≡ state_after (state_after S first) second

-- the same of a tagged and of a needed history, and of one that is legal but for the values that it read
abbrev pub TaggedInPieces : Type 0
TaggedInPieces = (F : Flat) (T : List (List (Option Tag))) (first second : List Entry)
    → IsTagged F T (first ++ second) ↔ (IsTagged F T first × IsTagged (flat_after F first) (tags_after F T first) second)

abbrev pub NeededInPieces : Type 0
NeededInPieces = (lines : ℕ) (opened : List (List Entry)) (first second : List Entry)
    → IsNeeded lines opened (first ++ second) ↔ (IsNeeded lines opened first × IsNeeded lines (open_after opened first) second)

abbrev pub LegalButValuesInPieces : Type 0
LegalButValuesInPieces = (F : Flat) (first second : List Entry)
    → IsLegalButValues F (first ++ second) ↔ (IsLegalButValues F first × IsLegalButValues (flat_after F first) second)

-- where one piece leads to the state from which the next is carried, both together are carried
abbrev pub PiecesJoin : Type 0
PiecesJoin = (from mid to : State) (first second : List Entry) → IsCarried from mid first → IsCarried mid to second → IsCarried from to (first ++ second)

abbrev pub UntoldPiecesJoin : Type 0
UntoldPiecesJoin = (from mid to : State) (first second : List Entry)
    → IsCarriedUntold from mid first → IsCarriedUntold mid to second → IsCarriedUntold from to (first ++ second)

-- the same from one flat state, where the second piece is led on from the flat state to which the first one leads
abbrev pub UntoldFromOneJoin : Type 0
UntoldFromOneJoin = (F : Flat) (from mid to : State) (first second : List Entry)
    → LeadsUntold F from mid first → LeadsUntold (flat_after F first) mid to second
    → LeadsUntold F from to (first ++ second)

-- a piece of one entry is carried to the state after it exactly where the entry may follow
abbrev pub OneIsCarried : Type 0
OneIsCarried = (S : State) (entry : Entry) → IsCarried S (step S entry) (entry ∷ []) ↔ MayFollow S entry

-- an access that is done, or a fault of one
abbrev pub IsAccess : Entry → Type 0
IsAccess (Load board at value) = ⊤
IsAccess (Store board at value) = ⊤
IsAccess (Tas board at old) = ⊤
IsAccess (Fault board kind access at) = ⊤
IsAccess _ = ⊥

-- accesses of boards that have nothing open, each of which the tags allow
abbrev pub AreQuiet : State → List Entry → Type 0
AreQuiet S [] = ⊤
AreQuiet S (entry ∷ rest) = IsAccess entry × (open_at S.opened (board_of entry) ≡ []) × (tags_refusal S.flat S.tags entry ≡ None) × AreQuiet S rest

-- where such accesses are legal, they may all follow, and change the flat state alone
pub record LeadsQuietly (S : State) (history : List Entry) : Type 0 where
  pub follows : AllFollow S history
  pub leads : state_after S history ≡ record S { flat = flat_after S.flat history }

abbrev pub QuietMayFollow : Type 0
QuietMayFollow = (S : State) (history : List Entry) → AreQuiet S history → IsLegal S.flat history → LeadsQuietly S history
