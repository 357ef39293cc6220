-- Two accesses that are apart change places, in each of the two readings.
use Rattle.std.proofs.Common.{◌≡◌, ◌≢◌, ℕ, ◌^◌, ◌/◌, ◌<◌, Bool, true, false, Option, Some, None, refl, sym, ap, ◌∙◌, subst, List, [], slice_set}
use Rattle.std.proofs.lemmas.List.{get_or-set_other, set_comm}
use Rattle.spur_flat.specs.declared.flat.Flat.{Flat}
use Rattle.spur_flat.specs.declared.tag.Tag.{Tag}
use Rattle.spur_flat.specs.declared.access.AccessKind.{AccessKind}
use Rattle.spur_flat.specs.declared.access.AccessKind.TheVariants as access
use Rattle.spur_flat.specs.declared.access.FaultKind.{FaultKind}
use Rattle.spur_flat.specs.declared.entry.Entry.{Entry}
use Rattle.spur_flat.specs.declared.entry.Entry.TheVariants.{Load, Store, Tas, Fault}
use Rattle.spur_flat.specs.Access.{may}
use Rattle.spur_flat.specs.Table.{walk_of, data_word}
use Rattle.spur_flat.specs.Validity.{IsValidFlat}
use Rattle.spur_flat.specs.History.{on, IsAllowed}
use Rattle.spur_flat.specs.Untold.{IsAllowedButValue}
use Rattle.spur_flat.specs.Blocks.{board_of, role_of}
use Rattle.spur_flat.specs.TagLines.{tags_on}
use Rattle.spur_flat.specs.TagRules.{tags_refusal}
use Rattle.spur_flat.specs.Needed.{lack_of, lack_in, open_at, open_on, open_in}
use Rattle.spur_flat.specs.State.{State, step}
use Rattle.spur_flat.specs.Laws.{address_of}
use Rattle.spur_flat.specs.StateLaws.{IsAccess}
use Rattle.spur_flat.proofs.QuietFacts.{refusal_same, tags_same}
use Rattle.spur_commute.specs.Apart.{read_by, written_by, AreOtherWords, IsAddressed, IsApart}
use Rattle.spur_commute.proofs.FlatFacts.{IsPlaced, placed, Put, put, put_of, on_put, MayPut, may_put, word_put, written_is_put, walk_put, unplaced_put, data_put, valid_put, put_swaps}

-- an entry is allowed, in the one reading with the value that it read
abbrev pub IsFit : Bool → Flat → Entry → Type 0
IsFit true F entry = IsAllowed F entry
IsFit false F entry = IsAllowedButValue F entry

pub but_value : (F : Flat) (entry : Entry) → IsAccess entry → IsAllowed F entry → IsAllowedButValue F entry
but_value F (Load board at value) is allowed = allowed.0
but_value F (Store board at value) is allowed = allowed
but_value F (Tas board at old) is allowed = allowed.0
but_value F (Fault board kind access at) is allowed = allowed
but_value F entry is allowed = absurd is

pub fit_but_value : (told : Bool) (F : Flat) (entry : Entry) → IsAccess entry → IsFit told F entry → IsAllowedButValue F entry
fit_but_value true F entry is fit = but_value F entry is fit
fit_but_value false F entry is fit = fit

may_same : (F G : Flat) (kind : AccessKind) (g : ℕ) (answer : Option FaultKind) → walk_of G g ≡ walk_of F g → may (walk_of F g) kind g answer ≡ true → may (walk_of G g) kind g answer ≡ true
may_same F G kind g answer walk allowed = ap (λ (e : Option ℕ). may e kind g answer) walk ∙ allowed

-- an entry that reads nothing that was put is allowed as before
told_same : (F G : Flat) (entry : Entry) (word : Option ℕ) → IsAccess entry → address_of entry < 2 ^ 38 → walk_of G (address_of entry) ≡ walk_of F (address_of entry)
    → (AreOtherWords word (Some (address_of entry / 2 ^ 2)) → IsPlaced F (address_of entry) → data_word G (address_of entry) ≡ data_word F (address_of entry))
    → AreOtherWords word (read_by entry) → IsAllowed F entry → IsAllowed G entry
told_same F G (Load board at value) word is small walk same other allowed =
    (may_same F G access.Load at None walk allowed.0, allowed.1 ∙ sym (same other (placed F access.Load at small allowed.0)))
told_same F G (Store board at value) word is small walk same other allowed = may_same F G access.Store at None walk allowed
told_same F G (Tas board at old) word is small walk same other allowed =
    (may_same F G access.Tas at None walk allowed.0, allowed.1 ∙ sym (same other (placed F access.Tas at small allowed.0)))
told_same F G (Fault board kind access at) word is small walk same other allowed = may_same F G access at (Some kind) walk allowed
told_same F G entry word is small walk same other allowed = absurd is

untold_same : (F G : Flat) (entry : Entry) → IsAccess entry → walk_of G (address_of entry) ≡ walk_of F (address_of entry) → IsAllowedButValue F entry → IsAllowedButValue G entry
untold_same F G (Load board at value) is walk allowed = may_same F G access.Load at None walk allowed
untold_same F G (Store board at value) is walk allowed = may_same F G access.Store at None walk allowed
untold_same F G (Tas board at old) is walk allowed = may_same F G access.Tas at None walk allowed
untold_same F G (Fault board kind access at) is walk allowed = may_same F G access at (Some kind) walk allowed
untold_same F G entry is walk allowed = absurd is

fit_put : (told : Bool) (F : Flat) (p : Put) (entry : Entry) → IsValidFlat F → MayPut F p → IsAddressed entry → AreOtherWords (word_put p) (read_by entry) → IsFit told F entry → IsFit told (put F p) entry
fit_put true F p entry ok can plain other fit =
    told_same F (put F p) entry (word_put p) plain.access plain.small (walk_put F p (address_of entry) ok can plain.small)
    (λ apart is. data_put F p (address_of entry) ok can is apart) other fit
fit_put false F p entry ok can plain other fit = untold_same F (put F p) entry plain.access (walk_put F p (address_of entry) ok can plain.small) fit

fit_unput : (told : Bool) (F : Flat) (p : Put) (entry : Entry) → IsValidFlat F → MayPut F p → IsAddressed entry → AreOtherWords (word_put p) (read_by entry) → IsFit told (put F p) entry → IsFit told F entry
fit_unput true F p entry ok can plain other fit =
    told_same (put F p) F entry (word_put p) plain.access plain.small (sym (walk_put F p (address_of entry) ok can plain.small))
    (λ apart is. sym (data_put F p (address_of entry) ok can (unplaced_put F p (address_of entry) ok can is) apart)) other fit
fit_unput false F p entry ok can plain other fit = untold_same (put F p) F entry plain.access (sym (walk_put F p (address_of entry) ok can plain.small)) fit

-- words that differ, the other way about
pub other_sym : (a b : Option ℕ) → AreOtherWords a b → AreOtherWords b a
other_sym None None h = tt
other_sym None (Some b) h = tt
other_sym (Some a) None h = tt
other_sym (Some a) (Some b) h = λ same. h (sym same)

pub apart_sym : (entry other : Entry) → IsAddressed entry → IsApart entry other → IsApart other entry
apart_sym entry other plain apart = record {
  addressed = plain;
  boards = λ same. apart.boards (sym same);
  reads = other_sym (written_by entry) (read_by other) apart.writes;
  writes = other_sym (read_by entry) (written_by other) apart.reads;
  words = other_sym (written_by entry) (written_by other) apart.words;
}

-- in flat memory: the second is allowed first, then the first, and they lead to the same flat state
pub record FlatSwaps (told : Bool) (F : Flat) (entry other : Entry) : Type 0 where
  pub first : IsFit told F other
  pub second : IsFit told (on F other) entry
  pub same : on (on F entry) other ≡ on (on F other) entry

pub flat_swaps : (told : Bool) (F : Flat) (entry other : Entry) → IsValidFlat F → IsAddressed entry → IsApart entry other → IsFit told F entry → IsFit told (on F entry) other → FlatSwaps told F entry other
flat_swaps told F entry other ok plain apart fit next =
    let p : Put = put_of entry in
    let q : Put = put_of other in
    let on_p : on F entry ≡ put F p = on_put F entry plain.access in
    let on_q : on F other ≡ put F q = on_put F other apart.addressed.access in
    let can_p : MayPut F p = may_put F entry plain.access plain.small (fit_but_value told F entry plain.access fit) in
    let p_other : AreOtherWords (word_put p) (read_by other) = subst (λ (w : Option ℕ). AreOtherWords w (read_by other)) (written_is_put entry) apart.writes in
    let q_entry : AreOtherWords (word_put q) (read_by entry) =
    other_sym (read_by entry) (word_put q) (subst (λ (w : Option ℕ). AreOtherWords (read_by entry) w) (written_is_put other) apart.reads) in
    let p_q : AreOtherWords (word_put p) (word_put q) =
    subst (λ (w : Option ℕ). AreOtherWords w (word_put q)) (written_is_put entry) (subst (λ (w : Option ℕ). AreOtherWords (written_by entry) w) (written_is_put other) apart.words) in
    let first : IsFit told F other = fit_unput told F p other ok can_p apart.addressed p_other (subst (λ (G : Flat). IsFit told G other) on_p next) in
    let can_q : MayPut F q = may_put F other apart.addressed.access apart.addressed.small (fit_but_value told F other apart.addressed.access first) in
    record {
      first = first;
      second = subst (λ (G : Flat). IsFit told G entry) (sym on_q) (fit_put told F q entry ok can_q plain q_entry fit);
      same = ap (λ (G : Flat). on G other) on_p ∙ on_put (put F p) other apart.addressed.access ∙ put_swaps F p q ok can_p can_q p_q
          ∙ sym (on_put (put F q) entry plain.access) ∙ sym (ap (λ (G : Flat). on G entry) on_q);
    }

-- an access keeps the flat state valid
pub fit_valid : (told : Bool) (F : Flat) (entry : Entry) → IsValidFlat F → IsAddressed entry → IsFit told F entry → IsValidFlat (on F entry)
fit_valid told F entry ok plain fit =
    subst (λ (G : Flat). IsValidFlat G) (sym (on_put F entry plain.access))
    (valid_put F (put_of entry) ok (may_put F entry plain.access plain.small (fit_but_value told F entry plain.access fit)))

-- the open entries: each entry looks at those of its own board alone
open_other : (opened : List (List Entry)) (entry other : Entry) → board_of entry ≢ board_of other → open_at (open_on opened entry) (board_of other) ≡ open_at opened (board_of other)
open_other opened entry other apart =
    get_or-set_other opened (board_of entry) (board_of other) (open_in (open_at opened (board_of entry)) entry (role_of entry)) [] (λ same. apart (sym same))

pub lack_same : (lines : ℕ) (opened : List (List Entry)) (entry other : Entry) → board_of entry ≢ board_of other → lack_of lines (open_on opened entry) other ≡ lack_of lines opened other
lack_same lines opened entry other apart = ap (λ (entries : List Entry). lack_in lines entries (role_of other)) (open_other opened entry other apart)

pub open_swaps : (opened : List (List Entry)) (entry other : Entry) → board_of entry ≢ board_of other → open_on (open_on opened entry) other ≡ open_on (open_on opened other) entry
open_swaps opened entry other apart =
    ap (λ (entries : List Entry). slice_set (open_on opened entry) (board_of other) (open_in entries other (role_of other))) (open_other opened entry other apart)
    ∙ set_comm opened (board_of entry) (board_of other) (open_in (open_at opened (board_of entry)) entry (role_of entry)) (open_in (open_at opened (board_of other)) other (role_of other)) apart
    ∙ sym (ap (λ (entries : List Entry). slice_set (open_on opened other) (board_of entry) (open_in entries entry (role_of entry))) (open_other opened other entry (λ same. apart (sym same))))

-- an entry may follow, in one of the readings
pub record MayFollowIn (told : Bool) (S : State) (entry : Entry) : Type 0 where
  pub legal : IsFit told S.flat entry
  pub tagged : tags_refusal S.flat S.tags entry ≡ None
  pub needed : lack_of S.lines S.opened entry ≡ None

pub record StateSwaps (told : Bool) (S : State) (entry other : Entry) : Type 0 where
  pub first : MayFollowIn told S other
  pub second : MayFollowIn told (step S other) entry
  pub same : step (step S entry) other ≡ step (step S other) entry

-- the tags after two accesses
tags_two : (S : State) (entry other : Entry) → IsAccess entry → IsAccess other → tags_on (on S.flat entry) (tags_on S.flat S.tags entry) other ≡ S.tags
tags_two S entry other is its = tags_same (on S.flat entry) (tags_on S.flat S.tags entry) other its ∙ tags_same S.flat S.tags entry is

-- the refusal by the tags, before and after another access
tagged_same : (S : State) (entry other : Entry) → IsAccess entry → IsAccess other → tags_refusal (on S.flat entry) (tags_on S.flat S.tags entry) other ≡ tags_refusal S.flat S.tags other
tagged_same S entry other is its =
    ap (λ (T : List (List (Option Tag))). tags_refusal (on S.flat entry) T other) (tags_same S.flat S.tags entry is)
    ∙ refusal_same (on S.flat entry) S.flat S.tags other its

pub state_swaps : (told : Bool) (S : State) (entry other : Entry) → IsValidFlat S.flat → IsAddressed entry → IsApart entry other → MayFollowIn told S entry → MayFollowIn told (step S entry) other
    → StateSwaps told S entry other
state_swaps told S entry other ok plain apart may next =
    let flat : FlatSwaps told S.flat entry other = flat_swaps told S.flat entry other ok plain apart may.legal next.legal in
    record {
      first = record {
        legal = flat.first;
        tagged = sym (tagged_same S entry other plain.access apart.addressed.access) ∙ next.tagged;
        needed = sym (lack_same S.lines S.opened entry other apart.boards) ∙ next.needed;
      };
      second = record {
        legal = flat.second;
        tagged = tagged_same S other entry apart.addressed.access plain.access ∙ may.tagged;
        needed = lack_same S.lines S.opened other entry (λ same. apart.boards (sym same)) ∙ may.needed;
      };
      same = ap (λ (F : Flat). record { flat = F; tags = tags_on (on S.flat entry) (tags_on S.flat S.tags entry) other; opened = open_on (open_on S.opened entry) other; lines = S.lines }) flat.same
          ∙ ap (λ (T : List (List (Option Tag))). record { flat = on (on S.flat other) entry; tags = T; opened = open_on (open_on S.opened entry) other; lines = S.lines })
          (tags_two S entry other plain.access apart.addressed.access ∙ sym (tags_two S other entry apart.addressed.access plain.access))
          ∙ ap (λ (opened : List (List Entry)). record { flat = on (on S.flat other) entry; tags = tags_on (on S.flat other) (tags_on S.flat S.tags other) entry; opened = opened; lines = S.lines })
          (open_swaps S.opened entry other apart.boards);
    }
