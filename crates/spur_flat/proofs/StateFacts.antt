-- The state that stands, part by part, and its refusals.
use Rattle.std.proofs.Common.{◌≡◌, ℕ, ◌+◌, List, [], ◌∷◌, Option, Some, None, refl, ◌↔◌}
use Rattle.spur_flat.specs.declared.illegal.Illegal.{Illegal}
use Rattle.spur_flat.specs.declared.entry.Entry.{Entry}
use Rattle.spur_flat.specs.Refused.{or_else}
use Rattle.spur_flat.specs.Refusal.{refusal_of}
use Rattle.spur_flat.specs.TagRules.{tags_refusal}
use Rattle.spur_flat.specs.Blocks.{board_of}
use Rattle.spur_flat.specs.Needed.{Lack, TooMany, Useless, Greedy, lack_of, needed_refusal, numbers_at, numbers_on}
use Rattle.spur_flat.specs.State.{State, MayFollow, step, AllFollow, state_refusal, history_refusal}
use Rattle.spur_flat.specs.StateLaws.{FollowWhereEach, IsEach, RefusedUnlessFollows, LeadToEach}
use Rattle.spur_flat.proofs.AccessFacts.{refused-unless-allowed}

to_each : (S : State) (history : List Entry) → AllFollow S history → IsEach S history
to_each S [] all = record { legal = tt; tagged = tt; needed = tt }
to_each S (entry ∷ rest) all =
    let first = all.0 in
    let later = to_each (step S entry) rest all.1 in
    record { legal = (first.legal, later.legal); tagged = (first.tagged, later.tagged); needed = (first.needed, later.needed) }

from_each : (S : State) (history : List Entry) → IsEach S history → AllFollow S history
from_each S [] each = tt
from_each S (entry ∷ rest) each = (
  record { legal = each.legal.0; tagged = each.tagged.0; needed = each.needed.0 },
  from_each (step S entry) rest (record { legal = each.legal.1; tagged = each.tagged.1; needed = each.needed.1 }),
)

pub follow-where-each : FollowWhereEach
follow-where-each S history = (to_each S history, from_each S history)

pub lead-to-each : LeadToEach
lead-to-each S [] = record { flat = refl; tags = refl; opened = refl; lines = refl }
lead-to-each S (entry ∷ rest) =
    let later = lead-to-each (step S entry) rest in
    record { flat = later.flat; tags = later.tags; opened = later.opened; lines = later.lines }

or_else_none : (a b : Option Illegal) → (or_else a b ≡ None) ↔ ((a ≡ None) × (b ≡ None))
or_else_none None b = (λ h. (refl, h), λ h. h.1)
or_else_none (Some a) b = (λ h. cc, λ h. let never = h.0 in cc)

needed_none : (numbers : List ℕ) (lack : Option Lack) → (needed_refusal numbers lack ≡ None) ↔ (lack ≡ None)
needed_none numbers None = (λ h. refl, λ h. refl)
needed_none numbers (Some TooMany) = (λ h. cc, λ h. cc)
needed_none numbers (Some (Useless place)) = (λ h. cc, λ h. cc)
needed_none numbers (Some (Greedy place)) = (λ h. cc, λ h. cc)

-- an entry is refused by no rule exactly where it may follow
pub unrefused-follows : (numbers : List (List ℕ)) (S : State) (entry : Entry) → (state_refusal numbers S entry ≡ None) ↔ MayFollow S entry
unrefused-follows numbers S entry =
    let by_need : Option Illegal = needed_refusal (numbers_at numbers (board_of entry)) (lack_of S.lines S.opened entry) in
    let n = needed_none (numbers_at numbers (board_of entry)) (lack_of S.lines S.opened entry) in
    let t = or_else_none (tags_refusal S.flat S.tags entry) by_need in
    let p = or_else_none (refusal_of S.flat entry) (or_else (tags_refusal S.flat S.tags entry) by_need) in
    let a = refused-unless-allowed S.flat entry in (
      λ h. record { legal = a.0 (p.0 h).0; tagged = (t.0 (p.0 h).1).0; needed = n.0 (t.0 (p.0 h).1).1 },
      λ h. p.1 (a.1 h.legal, t.1 (h.tagged, n.1 h.needed)),
    )

unrefused_follow : (count : ℕ) (numbers : List (List ℕ)) (S : State) (history : List Entry) → history_refusal count numbers S history ≡ None → AllFollow S history
unrefused_follow count numbers S [] h = tt
unrefused_follow count numbers S (entry ∷ rest) h =
    let later : List (List ℕ) = numbers_on numbers (count + 1) entry in
    let both = (or_else_none (state_refusal numbers S entry) (history_refusal (count + 1) later (step S entry) rest)).0 h in
    ((unrefused-follows numbers S entry).0 both.0, unrefused_follow (count + 1) later (step S entry) rest both.1)

follow_unrefused : (count : ℕ) (numbers : List (List ℕ)) (S : State) (history : List Entry) → AllFollow S history → history_refusal count numbers S history ≡ None
follow_unrefused count numbers S [] all = refl
follow_unrefused count numbers S (entry ∷ rest) all =
    let later : List (List ℕ) = numbers_on numbers (count + 1) entry in
    (or_else_none (state_refusal numbers S entry) (history_refusal (count + 1) later (step S entry) rest)).1
    ((unrefused-follows numbers S entry).1 all.0, follow_unrefused (count + 1) later (step S entry) rest all.1)

pub refused-unless-follows : RefusedUnlessFollows
refused-unless-follows count numbers S history = (unrefused_follow count numbers S history, follow_unrefused count numbers S history)
