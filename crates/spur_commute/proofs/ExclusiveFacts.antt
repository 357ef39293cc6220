-- Accesses that the tags allow are apart, where exclusive blocks are at one board alone.
use Rattle.std.proofs.Common.{◌≡◌, ◌≢◌, ℕ, ◌/◌, ◌^◌, Bool, true, false, Option, Some, None, refl, sym, ap, ◌∙◌, subst, arith, List, [], ◌∷◌, ◌++◌}
use Rattle.std.specs.Prelude.{⊤}
use Rattle.std.specs.List.{AllByRecursion}
use Rattle.std.proofs.lemmas.Bool.{eqb-true}
use Rattle.spur_addr.specs.Address.{block_of}
use Rattle.spur_snoop.specs.declared.BlockState.{BlockState}
use Rattle.spur_snoop.specs.declared.BlockState.TheVariants.{Invalid, UnOwned, OwnedNonExclusive, OwnedExclusive}
use Rattle.spur_snoop.specs.Protocol.{is_alive, is_exclusive}
use Rattle.spur_flat.specs.declared.flat.Flat.{Flat}
use Rattle.spur_flat.specs.declared.tag.Tag.{Tag}
use Rattle.spur_flat.specs.declared.illegal.Illegal.{Illegal}
use Rattle.spur_flat.specs.declared.entry.Entry.{Entry}
use Rattle.spur_flat.specs.declared.entry.Entry.TheVariants.{Load, Store, Tas, Fault}
use Rattle.spur_flat.specs.Blocks.{board_of}
use Rattle.spur_flat.specs.History.{flat_after, is_own, on, own_entries}
use Rattle.spur_flat.specs.TagLines.{block_state, tag_at, tags_on}
use Rattle.spur_flat.specs.TagRules.{tag_condition, tags_refusal}
use Rattle.spur_flat.specs.Validity.{IsValidFlat}
use Rattle.spur_flat.specs.State.{IsCarried, IsTagged, tags_after}
use Rattle.spur_flat.specs.StateLaws.{IsAccess}
use Rattle.spur_flat.specs.Untold.{IsCarriedUntold, IsLike}
use Rattle.spur_flat.proofs.PieceFacts.{tagged-append}
use Rattle.spur_flat.proofs.QuietFacts.{refusal_same, tags_same}
use Rattle.spur_flat.proofs.StateFacts.{follow-where-each}
use Rattle.spur_commute.specs.Apart.{read_by, written_by, AreOtherWords, IsAddressed, IsApart, MayPass}
use Rattle.spur_commute.specs.Commute.{AreCarriedAlike}
use Rattle.spur_commute.specs.Exclusive.{EachHasAnOwner, ExclusiveCommutes, IsOther, TagsAllowEach, TagsKeepApart}
use Rattle.spur_commute.proofs.StepFacts.{other_sym}
use Rattle.spur_commute.proofs.LawFacts.{access-commutes, filter_swaps, own_access, own_behind}

-- the block of a word that may be there is, at a board, in a state that passes a test
abbrev pub HasWord : List (List (Option Tag)) → ℕ → (BlockState → Bool) → Option ℕ → Type 0
HasWord T board test None = ⊤
HasWord T board test (Some word) = test (block_state (tag_at T board (word / 2 ^ 3))) ≡ true

held_passes : (test : Bool) (number found : ℕ) (rest : Option Illegal) → tag_condition test number found rest ≡ None → test ≡ true
held_passes true number found rest h = refl
held_passes false number found rest h = cc

block_of_word : (at : ℕ) → block_of at ≡ at / 2 ^ 2 / 2 ^ 3
block_of_word at = omega arith

pub here : (T : List (List (Option Tag))) (board at : ℕ) (test : BlockState → Bool) → test (block_state (tag_at T board (block_of at))) ≡ true → HasWord T board test (Some (at / 2 ^ 2))
here T board at test h = ap (λ (block : ℕ). test (block_state (tag_at T board block))) (sym (block_of_word at)) ∙ h

pub exclusive_alive : (state : BlockState) → is_exclusive state ≡ true → is_alive state ≡ true
exclusive_alive Invalid h = cc
exclusive_alive UnOwned h = refl
exclusive_alive OwnedNonExclusive h = refl
exclusive_alive OwnedExclusive h = refl

written_here : (F : Flat) (T : List (List (Option Tag))) (entry : Entry) → IsAccess entry → tags_refusal F T entry ≡ None → HasWord T (board_of entry) is_exclusive (written_by entry)
written_here F T (Load board at value) is h = tt
written_here F T (Store board at value) is h = here T board at is_exclusive (held_passes _ _ _ _ h)
written_here F T (Tas board at old) is h = here T board at is_exclusive (held_passes _ _ _ _ h)
written_here F T (Fault board kind access at) is h = tt
written_here F T entry is h = absurd is

read_here : (F : Flat) (T : List (List (Option Tag))) (entry : Entry) → IsAccess entry → tags_refusal F T entry ≡ None → HasWord T (board_of entry) is_alive (read_by entry)
read_here F T (Load board at value) is h = here T board at is_alive (held_passes _ _ _ _ h)
read_here F T (Store board at value) is h = tt
read_here F T (Tas board at old) is h = here T board at is_alive (exclusive_alive (block_state (tag_at T board (block_of at))) (held_passes _ _ _ _ h))
read_here F T (Fault board kind access at) is h = tt
read_here F T entry is h = absurd is

pub written_alive : (T : List (List (Option Tag))) (board : ℕ) (word : Option ℕ) → HasWord T board is_exclusive word → HasWord T board is_alive word
written_alive T board None h = tt
written_alive T board (Some word) h = exclusive_alive (block_state (tag_at T board (word / 2 ^ 3))) h

pub other_words : (T : List (List (Option Tag))) (i j : ℕ) (a b : Option ℕ) → EachHasAnOwner T → i ≢ j → HasWord T i is_exclusive a → HasWord T j is_alive b → AreOtherWords a b
other_words T i j None None ex apart h k = tt
other_words T i j None (Some b) ex apart h k = tt
other_words T i j (Some a) None ex apart h k = tt
other_words T i j (Some a) (Some b) ex apart h k = λ same. apart ((ex (a / 2 ^ 3)).exclusive i j h (ap (λ (w : ℕ). is_alive (block_state (tag_at T j (w / 2 ^ 3)))) same ∙ k))

pub tags-keep-apart : TagsKeepApart
tags-keep-apart F T entry other ex plain its a b =
    let i : ℕ = board_of entry in
    let j : ℕ = board_of other in
    let w_i = written_here F T entry plain.access a in
    let w_j = written_here F T other its.addressed.access b in
    let back : j ≢ i = λ same. its.boards (sym same) in
    record {
      addressed = its.addressed;
      boards = its.boards;
      reads = other_sym (written_by other) (read_by entry) (other_words T j i (written_by other) (read_by entry) ex back w_j (read_here F T entry plain.access a));
      writes = other_words T i j (written_by entry) (read_by other) ex its.boards w_i (read_here F T other its.addressed.access b);
      words = other_words T i j (written_by entry) (written_by other) ex its.boards w_i (written_alive T j (written_by other) w_j);
    }

-- the tags after a list of accesses
pub tags_kept : (F : Flat) (T : List (List (Option Tag))) (list : List Entry) → AllByRecursion IsAccess list → tags_after F T list ≡ T
tags_kept F T [] are = refl
tags_kept F T (entry ∷ rest) are =
    ap (λ (U : List (List (Option Tag))). tags_after (on F entry) U rest) (tags_same F T entry are.0) ∙ tags_kept (on F entry) T rest are.1

rest_tagged : (F : Flat) (T : List (List (Option Tag))) (entry : Entry) (rest : List Entry) → IsAccess entry → IsTagged (on F entry) (tags_on F T entry) rest → IsTagged (on F entry) T rest
rest_tagged F T entry rest is h = subst (λ (U : List (List (Option Tag))). IsTagged (on F entry) U rest) (tags_same F T entry is) h

-- each is allowed, in whichever flat state
pub tags-allow-each : TagsAllowEach
tags-allow-each F G T [] are tagged = tt
tags-allow-each F G T (entry ∷ rest) are tagged =
    (refusal_same G F T entry are.0 ∙ tagged.0, tags-allow-each (on F entry) G T rest are.1 (rest_tagged F T entry rest are.0 tagged.1))

-- a list that is apart from an entry
pub others_access : (entry : Entry) (list : List Entry) → AllByRecursion (IsOther entry) list → AllByRecursion IsAccess list
others_access entry [] others = tt
others_access entry (other ∷ rest) others = (others.0.addressed.access, others_access entry rest others.1)

all_apart : (F : Flat) (T : List (List (Option Tag))) (entry : Entry) (list : List Entry) → EachHasAnOwner T → IsAddressed entry → AllByRecursion (IsOther entry) list
    → tags_refusal F T entry ≡ None → AllByRecursion (λ e. tags_refusal F T e ≡ None) list → AllByRecursion (IsApart entry) list
all_apart F T entry [] ex plain others a each = tt
all_apart F T entry (other ∷ rest) ex plain others a each =
    (tags-keep-apart F T entry other ex plain others.0 a each.0, all_apart F T entry rest ex plain others.1 a each.1)

-- a tagged piece, with the entry first or last: the list is apart from it
pass_first : (F : Flat) (T : List (List (Option Tag))) (entry : Entry) (list : List Entry) → EachHasAnOwner T → IsAddressed entry → AllByRecursion (IsOther entry) list
    → IsTagged F T (entry ∷ list) → MayPass entry list
pass_first F T entry list ex plain others tagged = record {
  addressed = plain;
  apart = all_apart F T entry list ex plain others tagged.0
      (tags-allow-each (on F entry) F T list (others_access entry list others) (rest_tagged F T entry list plain.access tagged.1));
}

pub pass_last : (F : Flat) (T : List (List (Option Tag))) (entry : Entry) (list : List Entry) → EachHasAnOwner T → IsAddressed entry → AllByRecursion (IsOther entry) list
    → IsTagged F T (list ++ entry ∷ []) → MayPass entry list
pass_last F T entry list ex plain others tagged =
    let pieces = (tagged-append F T list (entry ∷ [])).0 tagged in
    let last : tags_refusal (flat_after F list) (tags_after F T list) entry ≡ None = pieces.1.0 in
    let kept : tags_after F T list ≡ T = tags_kept F T list (others_access entry list others) in
    record {
      addressed = plain;
      apart = all_apart F T entry list ex plain others
          (refusal_same F (flat_after F list) T entry plain.access ∙ sym (ap (λ (U : List (List (Option Tag))). tags_refusal (flat_after F list) U entry) kept) ∙ last)
          (tags-allow-each F F T list (others_access entry list others) pieces.0);
    }

-- own entries
pub own_others : (b : ℕ) (entry : Entry) (list : List Entry) → IsAddressed entry → AllByRecursion (IsOther entry) list → own_entries (entry ∷ list) b ≡ own_entries (list ++ entry ∷ []) b
own_others b entry [] plain others = refl
own_others b entry (other ∷ rest) plain others =
    let its : IsOther entry other = others.0 in
    filter_swaps (is_own b) entry other rest (is_own b entry) (is_own b other) refl refl
    (λ x y. its.boards (eqb-true (board_of entry) b (sym (own_access b entry plain.access) ∙ x) ∙ sym (eqb-true (board_of other) b (sym (own_access b other its.addressed.access) ∙ y))))
    ∙ own_behind (is_own b) other (entry ∷ rest) (rest ++ entry ∷ []) (own_others b entry rest plain others.1)

-- a flat state is like itself
like_self : (F : Flat) → IsValidFlat F → IsLike F F
like_self F ok = record { pages = refl; tables = refl; frames = refl; words = refl; table = refl; swap = ok.swap }

pub exclusive-commutes : ExclusiveCommutes
exclusive-commutes S entry list ok ex plain others =
    let first : IsTagged S.flat S.tags (entry ∷ list) → AreCarriedAlike S (entry ∷ list) (list ++ entry ∷ []) =
    λ tagged. access-commutes S entry list ok (pass_first S.flat S.tags entry list ex plain others tagged) in
    let last : IsTagged S.flat S.tags (list ++ entry ∷ []) → AreCarriedAlike S (entry ∷ list) (list ++ entry ∷ []) =
    λ tagged. access-commutes S entry list ok (pass_last S.flat S.tags entry list ex plain others tagged) in
    record {
      told = λ to. (
        λ (carried : IsCarried S to (entry ∷ list)). ((first ((follow-where-each S (entry ∷ list)).0 carried.follows).tagged).told to).0 carried,
        λ (carried : IsCarried S to (list ++ entry ∷ [])). ((last ((follow-where-each S (list ++ entry ∷ [])).0 carried.follows).tagged).told to).1 carried,
      );
      untold = λ to. (
        λ (carried : IsCarriedUntold S to (entry ∷ list)). ((first (carried S.flat (like_self S.flat ok)).tagged).untold to).0 carried,
        λ (carried : IsCarriedUntold S to (list ++ entry ∷ [])). ((last (carried S.flat (like_self S.flat ok)).tagged).untold to).1 carried,
      );
      own = λ board. own_others board entry list plain others;
    }
