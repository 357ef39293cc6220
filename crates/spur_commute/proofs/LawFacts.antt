-- The law of commuting, in both readings.
use Rattle.std.proofs.Common.{◌≡◌, ◌==◌, ℕ, Bool, true, false, refl, sym, ap, ◌∙◌, subst, List, [], ◌∷◌, ◌++◌}
use Rattle.std.specs.Prelude.{filter}
use Rattle.std.proofs.lemmas.Bool.{eqb-true}
use Rattle.std.specs.List.{AllByRecursion}
use Rattle.spur_flat.specs.declared.flat.Flat.{Flat}
use Rattle.spur_flat.specs.declared.entry.Entry.{Entry}
use Rattle.spur_flat.specs.declared.entry.Entry.TheVariants.{Load, Store, Tas, Fault}
use Rattle.spur_flat.specs.Validity.{IsValidFlat}
use Rattle.spur_flat.specs.Blocks.{board_of}
use Rattle.spur_flat.specs.History.{flat_after, is_own, own_entries}
use Rattle.spur_flat.specs.State.{State, IsCarried, AllFollow, IsTagged, IsNeeded, step, state_after, tags_after, open_after}
use Rattle.spur_flat.specs.StateLaws.{IsAccess, LeadsEach}
use Rattle.spur_flat.specs.Untold.{IsCarriedUntold, IsLegalButValues, IsLike, LeadsUntold}
use Rattle.spur_flat.proofs.LikeFacts.{like-is-valid}
use Rattle.spur_flat.proofs.StateFacts.{lead-to-each}
use Rattle.spur_commute.specs.Apart.{IsApart}
use Rattle.spur_commute.specs.Commute.{AccessCommutes, NeighboursCommute}
use Rattle.spur_commute.proofs.ListFacts.{AllFollowIn, Passes, passes, returns}

-- told
to_told : (S : State) (list : List Entry) → AllFollow S list → AllFollowIn true S list
to_told S [] all = tt
to_told S (entry ∷ rest) all = (record { legal = all.0.legal; tagged = all.0.tagged; needed = all.0.needed }, to_told (step S entry) rest all.1)

from_told : (S : State) (list : List Entry) → AllFollowIn true S list → AllFollow S list
from_told S [] all = tt
from_told S (entry ∷ rest) all = (record { legal = all.0.legal; tagged = all.0.tagged; needed = all.0.needed }, from_told (step S entry) rest all.1)

-- untold: the parts of it
pub record IsEachUntold (S : State) (list : List Entry) : Type 0 where
  pub legal : IsLegalButValues S.flat list
  pub tagged : IsTagged S.flat S.tags list
  pub needed : IsNeeded S.lines S.opened list

pub to_untold : (S : State) (list : List Entry) → IsEachUntold S list → AllFollowIn false S list
to_untold S [] all = tt
to_untold S (entry ∷ rest) all = (
  record { legal = all.legal.0; tagged = all.tagged.0; needed = all.needed.0 },
  to_untold (step S entry) rest (record { legal = all.legal.1; tagged = all.tagged.1; needed = all.needed.1 }),
)

pub from_untold : (S : State) (list : List Entry) → AllFollowIn false S list → IsEachUntold S list
from_untold S [] all = record { legal = tt; tagged = tt; needed = tt }
from_untold S (entry ∷ rest) all =
    let later = from_untold (step S entry) rest all.1 in
    record { legal = (all.0.legal, later.legal); tagged = (all.0.tagged, later.tagged); needed = (all.0.needed, later.needed) }

abbrev pub with_flat : State → Flat → State
with_flat S F = record S { flat = F }

-- what one piece leads to, another leads to
leads_too : (F : Flat) (S to : State) (piece other : List Entry) → AllFollowIn false (with_flat S F) other → state_after (with_flat S F) piece ≡ state_after (with_flat S F) other
    → LeadsUntold F S to piece → LeadsUntold F S to other
leads_too F S to piece other all same lead =
    let each : IsEachUntold (with_flat S F) other = from_untold (with_flat S F) other all in
    let a : LeadsEach (with_flat S F) piece = lead-to-each (with_flat S F) piece in
    let b : LeadsEach (with_flat S F) other = lead-to-each (with_flat S F) other in
    let flat : flat_after F piece ≡ flat_after F other = sym a.flat ∙ ap (λ (s : State). s.flat) same ∙ b.flat in
    let tags : tags_after F S.tags piece ≡ tags_after F S.tags other = sym a.tags ∙ ap (λ (s : State). s.tags) same ∙ b.tags in
    let opened : open_after S.opened piece ≡ open_after S.opened other = sym a.opened ∙ ap (λ (s : State). s.opened) same ∙ b.opened in
    record {
      legal = each.legal;
      tagged = each.tagged;
      needed = each.needed;
      like = subst (λ (G : Flat). IsLike G to.flat) flat lead.like;
      tags = sym tags ∙ lead.tags;
      opened = sym opened ∙ lead.opened;
      lines = lead.lines;
    }

-- a piece leads from a flat state: all of it may stand there
pub stands : (F : Flat) (S to : State) (piece : List Entry) → LeadsUntold F S to piece → AllFollowIn false (with_flat S F) piece
stands F S to piece lead = to_untold (with_flat S F) piece (record { legal = lead.legal; tagged = lead.tagged; needed = lead.needed })

-- own entries: whether an access is a board's own
pub own_access : (b : ℕ) (entry : Entry) → IsAccess entry → is_own b entry ≡ (board_of entry == b)
own_access b (Load board at value) is = refl
own_access b (Store board at value) is = refl
own_access b (Tas board at old) is = refl
own_access b (Fault board kind access at) is = refl
own_access b entry is = absurd is

-- two that are not both let through change places
pub filter_swaps : (p : Entry → Bool) (entry other : Entry) (rest : List Entry) (a b : Bool) → p entry ≡ a → p other ≡ b → ((a ≡ true) → (b ≡ true) → ⊥)
    → filter p (entry ∷ other ∷ rest) ≡ filter p (other ∷ entry ∷ rest)
filter_swaps p entry other rest true true is its both = absurd (both refl refl)
filter_swaps p entry other rest true false is its both = cc
filter_swaps p entry other rest false true is its both = cc
filter_swaps p entry other rest false false is its both = cc

-- behind one more entry
pub own_behind : (p : Entry → Bool) (first : Entry) (list other : List Entry) → filter p list ≡ filter p other → filter p (first ∷ list) ≡ filter p (first ∷ other)
own_behind p first list other same = cc

own_passes : (b : ℕ) (entry : Entry) (list : List Entry) → IsAccess entry → AllByRecursion (IsApart entry) list → own_entries (entry ∷ list) b ≡ own_entries (list ++ entry ∷ []) b
own_passes b entry [] is apart = refl
own_passes b entry (other ∷ rest) is apart =
    filter_swaps (is_own b) entry other rest (is_own b entry) (is_own b other) refl refl
    (λ x y. apart.0.boards (eqb-true (board_of entry) b (sym (own_access b entry is) ∙ x) ∙ sym (eqb-true (board_of other) b (sym (own_access b other apart.0.addressed.access) ∙ y))))
    ∙ own_behind (is_own b) other (entry ∷ rest) (rest ++ entry ∷ []) (own_passes b entry rest is apart.1)

pub access-commutes : AccessCommutes
access-commutes S entry list ok may =
    let apart : AllByRecursion (IsApart entry) list = may.apart in
    record {
      told = λ to. (
        λ (carried : IsCarried S to (entry ∷ list)).
            let pass : Passes true S entry list = passes true S entry list ok may.addressed apart (to_told S (entry ∷ list) carried.follows) in
            record { follows = from_told S (list ++ entry ∷ []) pass.follows; leads = sym pass.leads ∙ carried.leads },
        λ (carried : IsCarried S to (list ++ entry ∷ [])).
            let back : AllFollowIn true S (entry ∷ list) = returns true S entry list ok may.addressed apart (to_told S (list ++ entry ∷ []) carried.follows) in
            let pass : Passes true S entry list = passes true S entry list ok may.addressed apart back in
            record { follows = from_told S (entry ∷ list) back; leads = pass.leads ∙ carried.leads },
      );
      untold = λ to. (
        λ (carried : IsCarriedUntold S to (entry ∷ list)) F like.
            let valid : IsValidFlat F = like-is-valid F S.flat like ok in
            let lead : LeadsUntold F S to (entry ∷ list) = carried F like in
            let pass : Passes false (with_flat S F) entry list = passes false (with_flat S F) entry list valid may.addressed apart (stands F S to (entry ∷ list) lead) in
            leads_too F S to (entry ∷ list) (list ++ entry ∷ []) pass.follows pass.leads lead,
        λ (carried : IsCarriedUntold S to (list ++ entry ∷ [])) F like.
            let valid : IsValidFlat F = like-is-valid F S.flat like ok in
            let lead : LeadsUntold F S to (list ++ entry ∷ []) = carried F like in
            let back : AllFollowIn false (with_flat S F) (entry ∷ list) = returns false (with_flat S F) entry list valid may.addressed apart (stands F S to (list ++ entry ∷ []) lead) in
            let pass : Passes false (with_flat S F) entry list = passes false (with_flat S F) entry list valid may.addressed apart back in
            leads_too F S to (list ++ entry ∷ []) (entry ∷ list) back (sym pass.leads) lead,
      );
      own = λ board. own_passes board entry list may.addressed.access apart;
    }

pub neighbours-commute : NeighboursCommute
neighbours-commute S entry other ok plain apart =
    access-commutes S entry (other ∷ []) ok (record { addressed = plain; apart = (apart, tt) })
