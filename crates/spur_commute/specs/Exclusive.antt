-- Accesses of different boards that the tags allow are apart, where each block has one owner and an exclusive one is at
-- no other board.
use Rattle.std.specs.Prelude.{ℕ, ◌≡◌, ◌≢◌, List, [], ◌∷◌, ◌++◌, Option, None}
use Rattle.std.specs.List.{AllByRecursion}
use Rattle.spur_flat.specs.declared.flat.Flat.{Flat}
use Rattle.spur_flat.specs.declared.tag.Tag.{Tag}
use Rattle.spur_flat.specs.declared.entry.Entry.{Entry}
use Rattle.spur_flat.specs.Blocks.{board_of}
use Rattle.spur_flat.specs.Ownership.{HasOneOwner}
use Rattle.spur_flat.specs.StateLaws.{IsAccess}
use Rattle.spur_flat.specs.TagRules.{tags_refusal}
use Rattle.spur_flat.specs.Validity.{IsValidFlat}
use Rattle.spur_flat.specs.State.{State, IsTagged}
use Rattle.spur_commute.specs.Apart.{IsAddressed, IsApart}
use Rattle.spur_commute.specs.Commute.{AreCarriedAlike}

-- each block has one owner at most, and one that is exclusive at a board is at no other
abbrev pub EachHasAnOwner : List (List (Option Tag)) → Type 0
EachHasAnOwner T = (block : ℕ) → HasOneOwner T block

-- an access or a fault of another board than an entry's
pub record IsOther (entry other : Entry) : Type 0 where
  pub addressed : IsAddressed other
  pub boards : board_of entry ≢ board_of other

-- two that the tags allow are apart
abbrev pub TagsKeepApart : Type 0
TagsKeepApart = (F : Flat) (T : List (List (Option Tag))) (entry other : Entry)
    → EachHasAnOwner T → IsAddressed entry → IsOther entry other
    → tags_refusal F T entry ≡ None → tags_refusal F T other ≡ None → IsApart entry other

-- the tags that stand allow each entry of a tagged list of accesses, in every flat state: accesses leave the tags
abbrev pub TagsAllowEach : Type 0
TagsAllowEach = (F G : Flat) (T : List (List (Option Tag))) (list : List Entry)
    → AllByRecursion IsAccess list → IsTagged F T list → AllByRecursion (λ entry. tags_refusal G T entry ≡ None) list

-- so an access and a list of accesses of other boards commute in each state with such tags
abbrev pub ExclusiveCommutes : Type 0
ExclusiveCommutes = (S : State) (entry : Entry) (list : List Entry)
    → IsValidFlat S.flat → EachHasAnOwner S.tags → IsAddressed entry → AllByRecursion (IsOther entry) list
    → AreCarriedAlike S (entry ∷ list) (list ++ entry ∷ [])
