-- An entry of a board is put before the accesses of other boards at the end of a history.
use Rattle.std.proofs.Common.{◌≡◌, ℕ, ◌^◌, ◌<◌, Bool, false, Option, refl, sym, ap, ◌∙◌, subst, append_assoc, List, [], ◌∷◌, ◌++◌}
use Rattle.std.specs.List.{AllByRecursion}
use Rattle.std.proofs.lemmas.List.Elements.{All-from_recursion, filter-append}
use Rattle.spur_flat.specs.declared.flat.Flat.{Flat}
use Rattle.spur_flat.specs.declared.tag.Tag.{Tag}
use Rattle.spur_flat.specs.declared.entry.Entry.{Entry}
use Rattle.spur_flat.specs.declared.entry.Entry.TheVariants.{Load, Tas}
use Rattle.spur_flat.specs.Laws.{address_of}
use Rattle.spur_flat.specs.History.{is_own, on, own_entries}
use Rattle.spur_flat.specs.Table.{data_word}
use Rattle.spur_flat.specs.Validity.{IsValidFlat}
use Rattle.spur_flat.specs.State.{State, IsCarried, step, state_after}
use Rattle.spur_flat.specs.StateLaws.{LeadsEach}
use Rattle.spur_flat.specs.Untold.{IsAllowedButValue, IsCarriedUntold, IsLike, LeadsUntold}
use Rattle.spur_flat.proofs.HistoryFacts.{legal-stays-valid, stays-valid}
use Rattle.spur_flat.proofs.PieceFacts.{carried-append, follow-append, state_after-append}
use Rattle.spur_flat.proofs.StateFacts.{follow-where-each, lead-to-each}
use Rattle.spur_commute.specs.Apart.{IsAddressed, IsApart, MayPass}
use Rattle.spur_commute.specs.Commute.{AreCarriedAlike}
use Rattle.spur_commute.specs.Exclusive.{EachHasAnOwner, IsOther}
use Rattle.spur_commute.proofs.ExclusiveFacts.{exclusive-commutes, others_access, own_others, pass_last, tags_kept}
use Rattle.spur_commute.proofs.LawFacts.{IsEachUntold, from_untold, stands, with_flat}
use Rattle.spur_commute.proofs.ListFacts.{AllFollowIn, Passes, passes, returns}

-- an entry at a global address
abbrev pub IsSmall : Entry → Type 0
IsSmall entry = address_of entry < 2 ^ 38

-- An entry that is carried after a history may be put before the accesses of other boards at its end. The history is in two
-- pieces, of which the second has those accesses.
pub own-is-carried : (from now to : State) (before behind : List Entry) (entry : Entry) → IsValidFlat from.flat → AllByRecursion IsSmall before
    → EachHasAnOwner now.tags → IsAddressed entry → AllByRecursion (IsOther entry) behind
    → IsCarried from now (before ++ behind) → IsCarried now to (entry ∷ []) → IsCarried from to (before ++ entry ∷ behind)
own-is-carried from now to before behind entry ok small ex plain others carried more =
    let mid : State = state_after from before in
    let pieces = (follow-append from before behind).0 carried.follows in
    let at : state_after mid behind ≡ now = sym (state_after-append from before behind) ∙ carried.leads in
    let to_mid : LeadsEach from before = lead-to-each from before in
    let to_now : LeadsEach mid behind = lead-to-each mid behind in
    let valid : IsValidFlat mid.flat = subst (λ (F : Flat). IsValidFlat F) (sym to_mid.flat) (legal-stays-valid from.flat before ok (All-from_recursion IsSmall before small) ((follow-where-each from before).0 pieces.0).legal) in
    let tags : now.tags ≡ mid.tags = sym (ap (λ (s : State). s.tags) at) ∙ to_now.tags ∙ tags_kept mid.flat mid.tags behind (others_access entry behind others) in
    let one : AreCarriedAlike mid (entry ∷ behind) (behind ++ entry ∷ []) = exclusive-commutes mid entry behind valid (subst (λ (T : List (List (Option Tag))). EachHasAnOwner T) tags ex) plain others in
    carried-append from mid to before (entry ∷ behind) (record { follows = pieces.0; leads = refl })
    ((one.told to).1 (carried-append mid now to behind (entry ∷ []) (record { follows = pieces.1; leads = at }) more))

-- each board's own entries are those of the history, with the entry behind those of its board
pub own-is-last : (before behind : List Entry) (entry : Entry) (board : ℕ) → IsAddressed entry → AllByRecursion (IsOther entry) behind
    → own_entries (before ++ entry ∷ behind) board ≡ own_entries ((before ++ behind) ++ entry ∷ []) board
own-is-last before behind entry board plain others =
    filter-append (is_own board) before (entry ∷ behind)
    ∙ ap (λ (es : List Entry). own_entries before board ++ es) (own_others board entry behind plain others)
    ∙ sym (filter-append (is_own board) before (behind ++ entry ∷ []))
    ∙ ap (λ (es : List Entry). own_entries es board) (sym (append_assoc before behind (entry ∷ [])))

-- untold: where a state stands as another does, but for data
pub record StandsAs (S to : State) : Type 0 where
  pub like : IsLike S.flat to.flat
  pub tags : S.tags ≡ to.tags
  pub opened : S.opened ≡ to.opened
  pub lines : S.lines ≡ to.lines

pub to_lead : (F : Flat) (from to : State) (piece : List Entry) → AllFollowIn false (with_flat from F) piece → StandsAs (state_after (with_flat from F) piece) to → LeadsUntold F from to piece
to_lead F from to piece all at =
    let each : IsEachUntold (with_flat from F) piece = from_untold (with_flat from F) piece all in
    let lead : LeadsEach (with_flat from F) piece = lead-to-each (with_flat from F) piece in
    record {
      legal = each.legal;
      tagged = each.tagged;
      needed = each.needed;
      like = subst (λ (G : Flat). IsLike G to.flat) lead.flat at.like;
      tags = sym lead.tags ∙ at.tags;
      opened = sym lead.opened ∙ at.opened;
      lines = sym lead.lines ∙ at.lines;
    }

pub from_lead : (F : Flat) (from to : State) (piece : List Entry) → LeadsUntold F from to piece → StandsAs (state_after (with_flat from F) piece) to
from_lead F from to piece at =
    let lead : LeadsEach (with_flat from F) piece = lead-to-each (with_flat from F) piece in
    record {
      like = subst (λ (G : Flat). IsLike G to.flat) (sym lead.flat) at.like;
      tags = lead.tags ∙ at.tags;
      opened = lead.opened ∙ at.opened;
      lines = lead.lines ∙ at.lines;
    }

-- such a state is the other with its own flat state
pub as_state : (S to : State) → StandsAs S to → S ≡ with_flat to S.flat
as_state S to at =
    ap (λ (T : List (List (Option Tag))). record S { tags = T }) at.tags
    ∙ ap (λ (opened : List (List Entry)). record S { tags = to.tags; opened = opened }) at.opened
    ∙ ap (λ (lines : ℕ). record S { tags = to.tags; opened = to.opened; lines = lines }) at.lines

-- in pieces
pub stand_join : (told : Bool) (S : State) (first second : List Entry) → AllFollowIn told S first → AllFollowIn told (state_after S first) second → AllFollowIn told S (first ++ second)
stand_join told S [] second before later = later
stand_join told S (entry ∷ rest) second before later = (before.0, stand_join told (step S entry) rest second before.1 later)

pub stand_split : (told : Bool) (S : State) (first second : List Entry) → AllFollowIn told S (first ++ second) → AllFollowIn told S first × AllFollowIn told (state_after S first) second
stand_split told S [] second all = (tt, all)
stand_split told S (entry ∷ rest) second all = let pieces = stand_split told (step S entry) rest second all.1 in ((all.0, pieces.0), pieces.1)

-- an entry that is allowed but for its value keeps a flat state valid
but_value_valid : (F : Flat) (entry : Entry) → IsValidFlat F → address_of entry < 2 ^ 38 → IsAllowedButValue F entry → IsValidFlat (on F entry)
but_value_valid F (Load board at value) ok small allowed = ok
but_value_valid F (Tas board at old) ok small allowed = stays-valid F (Tas board at (data_word F at)) ok small (allowed, refl)
but_value_valid F entry ok small allowed = stays-valid F entry ok small allowed

pub legal_valid : (S : State) (list : List Entry) → IsValidFlat S.flat → AllByRecursion IsSmall list → AllFollowIn false S list → IsValidFlat (state_after S list).flat
legal_valid S [] ok small all = ok
legal_valid S (entry ∷ rest) ok small all =
    legal_valid (step S entry) rest (but_value_valid S.flat entry ok small.0 all.0.legal) small.1 all.1

-- the same where the swap is not told, from one flat state, as it is of the opening
pub own-leads-untold : (F : Flat) (from now to : State) (before behind : List Entry) (entry : Entry) → IsValidFlat F → AllByRecursion IsSmall before
    → EachHasAnOwner now.tags → IsAddressed entry → AllByRecursion (IsOther entry) behind
    → LeadsUntold F from now (before ++ behind) → IsCarriedUntold now to (entry ∷ []) → LeadsUntold F from to (before ++ entry ∷ behind)
own-leads-untold F from now to before behind entry ok small ex plain others lead more =
    let X : State = with_flat from F in
    let mid : State = state_after X before in
    let end : State = state_after mid behind in
    let pieces = stand_split false X before behind (stands F from now (before ++ behind) lead) in
    let as_now : StandsAs end now = subst (λ (s : State). StandsAs s now) (state_after-append X before behind) (from_lead F from now (before ++ behind) lead) in
    let is : end ≡ with_flat now end.flat = as_state end now as_now in
    let last : LeadsUntold end.flat now to (entry ∷ []) = more end.flat as_now.like in
    let stand : AllFollowIn false end (entry ∷ []) = subst (λ (s : State). AllFollowIn false s (entry ∷ [])) (sym is) (stands end.flat now to (entry ∷ []) last) in
    let as_to : StandsAs (step end entry) to = subst (λ (s : State). StandsAs (step s entry) to) (sym is) (from_lead end.flat now to (entry ∷ []) last) in
    let valid : IsValidFlat mid.flat = legal_valid X before ok small pieces.0 in
    let to_end : LeadsEach mid behind = lead-to-each mid behind in
    let tags : now.tags ≡ mid.tags = sym as_now.tags ∙ to_end.tags ∙ tags_kept mid.flat mid.tags behind (others_access entry behind others) in
    let all : AllFollowIn false mid (behind ++ entry ∷ []) = stand_join false mid behind (entry ∷ []) pieces.1 stand in
    let pass : MayPass entry behind = pass_last mid.flat mid.tags entry behind (subst (λ (T : List (List (Option Tag))). EachHasAnOwner T) tags ex) plain others (from_untold mid (behind ++ entry ∷ []) all).tagged in
    let apart : AllByRecursion (IsApart entry) behind = pass.apart in
    let back : AllFollowIn false mid (entry ∷ behind) = returns false mid entry behind valid plain apart all in
    let passed : Passes false mid entry behind = passes false mid entry behind valid plain apart back in
    to_lead F from to (before ++ entry ∷ behind) (stand_join false X before (entry ∷ behind) pieces.0 back)
    (subst (λ (s : State). StandsAs s to) (sym (state_after-append X before (entry ∷ behind) ∙ passed.leads ∙ state_after-append mid behind (entry ∷ []))) as_to)
