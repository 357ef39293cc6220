-- Histories in pieces: where all entries may follow, where they are tagged, needed, or legal but for the values read.
use Rattle.std.proofs.Common.{◌≡◌, ℕ, List, [], ◌∷◌, ◌++◌, Option, refl, sym, ap, ◌∙◌, subst}
use Rattle.spur_flat.specs.declared.flat.Flat.{Flat}
use Rattle.spur_flat.specs.declared.tag.Tag.{Tag}
use Rattle.spur_flat.specs.declared.entry.Entry.{Entry}
use Rattle.spur_flat.specs.History.{on, flat_after}
use Rattle.spur_flat.specs.TagLines.{tags_on}
use Rattle.spur_flat.specs.Needed.{open_on}
use Rattle.spur_flat.specs.State.{State, step, state_after, MayFollow, AllFollow, IsCarried, IsTagged, IsNeeded, tags_after, open_after}
use Rattle.spur_flat.specs.Untold.{IsLegalButValues, IsLike, LeadsUntold}
use Rattle.spur_flat.specs.StateLaws.{FollowsInPieces, LegalButValuesInPieces, NeededInPieces, OneIsCarried, PiecesJoin, StateInPieces, TaggedInPieces, UntoldFromOneJoin, UntoldPiecesJoin}
use Rattle.spur_flat.proofs.HistoryFacts.{flat_after-append}

pub state_after-append : StateInPieces
state_after-append S [] second = refl
state_after-append S (entry ∷ rest) second = state_after-append (step S entry) rest second

pub tags_after-append : (F : Flat) (T : List (List (Option Tag))) (first second : List Entry) → tags_after F T (first ++ second) ≡ tags_after (flat_after F first) (tags_after F T first) second
tags_after-append F T [] second = refl
tags_after-append F T (entry ∷ rest) second = tags_after-append (on F entry) (tags_on F T entry) rest second

pub open_after-append : (opened : List (List Entry)) (first second : List Entry) → open_after opened (first ++ second) ≡ open_after (open_after opened first) second
open_after-append opened [] second = refl
open_after-append opened (entry ∷ rest) second = open_after-append (open_on opened entry) rest second

follow_join : (S : State) (first second : List Entry) → AllFollow S first → AllFollow (state_after S first) second → AllFollow S (first ++ second)
follow_join S [] second before later = later
follow_join S (entry ∷ rest) second before later = (before.0, follow_join (step S entry) rest second before.1 later)

follow_split : (S : State) (first second : List Entry) → AllFollow S (first ++ second) → AllFollow S first × AllFollow (state_after S first) second
follow_split S [] second all = (tt, all)
follow_split S (entry ∷ rest) second all = let pieces = follow_split (step S entry) rest second all.1 in ((all.0, pieces.0), pieces.1)

pub follow-append : FollowsInPieces
follow-append S first second = (follow_split S first second, λ both. follow_join S first second both.0 both.1)

tagged_join : (F : Flat) (T : List (List (Option Tag))) (first second : List Entry) → IsTagged F T first → IsTagged (flat_after F first) (tags_after F T first) second → IsTagged F T (first ++ second)
tagged_join F T [] second before later = later
tagged_join F T (entry ∷ rest) second before later = (before.0, tagged_join (on F entry) (tags_on F T entry) rest second before.1 later)

tagged_split : (F : Flat) (T : List (List (Option Tag))) (first second : List Entry) → IsTagged F T (first ++ second) → IsTagged F T first × IsTagged (flat_after F first) (tags_after F T first) second
tagged_split F T [] second all = (tt, all)
tagged_split F T (entry ∷ rest) second all = let pieces = tagged_split (on F entry) (tags_on F T entry) rest second all.1 in ((all.0, pieces.0), pieces.1)

pub tagged-append : TaggedInPieces
tagged-append F T first second = (tagged_split F T first second, λ both. tagged_join F T first second both.0 both.1)

needed_join : (lines : ℕ) (opened : List (List Entry)) (first second : List Entry) → IsNeeded lines opened first → IsNeeded lines (open_after opened first) second → IsNeeded lines opened (first ++ second)
needed_join lines opened [] second before later = later
needed_join lines opened (entry ∷ rest) second before later = (before.0, needed_join lines (open_on opened entry) rest second before.1 later)

needed_split : (lines : ℕ) (opened : List (List Entry)) (first second : List Entry) → IsNeeded lines opened (first ++ second) → IsNeeded lines opened first × IsNeeded lines (open_after opened first) second
needed_split lines opened [] second all = (tt, all)
needed_split lines opened (entry ∷ rest) second all = let pieces = needed_split lines (open_on opened entry) rest second all.1 in ((all.0, pieces.0), pieces.1)

pub needed-append : NeededInPieces
needed-append lines opened first second = (needed_split lines opened first second, λ both. needed_join lines opened first second both.0 both.1)

legal_join : (F : Flat) (first second : List Entry) → IsLegalButValues F first → IsLegalButValues (flat_after F first) second → IsLegalButValues F (first ++ second)
legal_join F [] second before later = later
legal_join F (entry ∷ rest) second before later = (before.0, legal_join (on F entry) rest second before.1 later)

legal_split : (F : Flat) (first second : List Entry) → IsLegalButValues F (first ++ second) → IsLegalButValues F first × IsLegalButValues (flat_after F first) second
legal_split F [] second all = (tt, all)
legal_split F (entry ∷ rest) second all = let pieces = legal_split (on F entry) rest second all.1 in ((all.0, pieces.0), pieces.1)

pub legal-but-values-append : LegalButValuesInPieces
legal-but-values-append F first second = (legal_split F first second, λ both. legal_join F first second both.0 both.1)

pub carried-append : PiecesJoin
carried-append from mid to first second a b = record {
  follows = follow_join from first second a.follows (subst (λ (S : State). AllFollow S second) (sym a.leads) b.follows);
  leads = state_after-append from first second ∙ ap (λ (S : State). state_after S second) a.leads ∙ b.leads;
}

-- from the flat state, the tags and the open entries to which the first piece leads, the second leads on
pub leads-untold-append : UntoldFromOneJoin
leads-untold-append F from mid to first second a b =
    let G : Flat = flat_after F first in
    record {
      legal = legal_join F first second a.legal b.legal;
      tagged = tagged_join F from.tags first second a.tagged (subst (λ (T : List (List (Option Tag))). IsTagged G T second) (sym a.tags) b.tagged);
      needed = needed_join from.lines from.opened first second a.needed
          (subst (λ (n : ℕ). IsNeeded n (open_after from.opened first) second) (sym a.lines)
          (subst (λ (opened : List (List Entry)). IsNeeded mid.lines opened second) (sym a.opened) b.needed));
      like = subst (λ (H : Flat). IsLike H to.flat) (sym (flat_after-append F first second)) b.like;
      tags = tags_after-append F from.tags first second ∙ ap (λ (T : List (List (Option Tag))). tags_after G T second) a.tags ∙ b.tags;
      opened = open_after-append from.opened first second ∙ ap (λ (opened : List (List Entry)). open_after opened second) a.opened ∙ b.opened;
      lines = a.lines ∙ b.lines;
    }

pub untold-append : UntoldPiecesJoin
untold-append from mid to first second a b F like =
    let one : LeadsUntold F from mid first = a F like in
    leads-untold-append F from mid to first second one (b (flat_after F first) one.like)

pub carried-one : OneIsCarried
carried-one S entry = (λ (piece : IsCarried S (step S entry) (entry ∷ [])). piece.follows.0, λ (follows : MayFollow S entry). record { follows = (follows, tt); leads = refl })
