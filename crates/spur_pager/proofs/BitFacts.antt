-- The bits of a page's entry before and after a fault of it was served.
use Rattle.std.proofs.Common.{◌≡◌, ◌∙◌, ℕ, ◌<◌, ◌&&◌, ◌==◌, Bool, true, false, not, ap, refl, length, Option, Some, None}
use Rattle.std.specs.Int.{bit_at}
use Rattle.spur_addr.specs.Address.{page_of, table_start}
use Rattle.spur_addr.specs.PageEntry.{is_dirty, is_leaving, is_on_swap, is_referenced, is_valid, protection_of, with_bit}
use Rattle.spur_addr.proofs.BitFacts.{bit_at-with_same}
use Rattle.spur_addr.proofs.EntryFacts.{is_leaving-resident, is_valid-resident, is_valid-swapped}
use Rattle.spur_flat.specs.declared.access.AccessKind.{AccessKind}
use Rattle.spur_flat.specs.declared.access.FaultKind.{FaultKind}
use Rattle.spur_flat.specs.declared.access.FaultKind.TheVariants as fault
use Rattle.spur_flat.specs.Access.{allows, is_write, may_aligned}
use Rattle.spur_flat.specs.Pager.{or_zero, word_of}
use Rattle.spur_flat.specs.Table.{walk_of}
use Rattle.spur_walk.specs.Laws.{is_served}
use Rattle.spur_pager.specs.View.{View}
use Rattle.spur_pager.specs.Stand.{IsServable, entry_in, flat_in, standing_flat}
use Rattle.spur_pager.specs.Service.{gained, slot_in, outgoing_frame}
use Rattle.spur_pager.specs.Served.{HasFault, IsServed, word_after}
use Rattle.spur_pager.proofs.ServiceFacts.{entry_at}
use Rattle.spur_pager.proofs.FaultFacts.{answer_may}
use Rattle.spur_pager.proofs.MarkFacts.{same_bit}

-- what a fault that is served says of the bits: valid, leaving, referenced and dirty
pub data Faults (v l r d : Bool) : FaultKind → Type 0 where
  OfMissing : v ≡ false → Faults v l r d fault.Missing
  OfLeaving : v ≡ true → l ≡ true → Faults v l r d fault.Leaving
  OfReference : v ≡ true → l ≡ false → r ≡ false → Faults v l r d fault.Reference
  OfDirty : v ≡ true → l ≡ false → d ≡ false → Faults v l r d fault.Dirty

abbrev pub FaultsOf : ℕ → FaultKind → Type 0
FaultsOf e kind = Faults (is_valid e) (is_leaving e) (is_referenced e) (is_dirty e) kind

missing_bits : (v s l r d : Bool) → (not v && s) ≡ true → Faults v l r d fault.Missing
missing_bits false s l r d h = OfMissing refl
missing_bits true s l r d h = absurd cc

leaving_bits : (v l r d : Bool) → (v && l) ≡ true → Faults v l r d fault.Leaving
leaving_bits true true r d h = OfLeaving refl refl
leaving_bits true false r d h = absurd cc
leaving_bits false l r d h = absurd cc

reference_bits : (v l r d a : Bool) → (v && not l && not r && a) ≡ true → Faults v l r d fault.Reference
reference_bits true false false d a h = OfReference refl refl refl
reference_bits true false true d a h = absurd cc
reference_bits true true r d a h = absurd cc
reference_bits false l r d a h = absurd cc

dirty_bits : (v l r d a w : Bool) → (v && not l && not d && a && w) ≡ true → Faults v l r d fault.Dirty
dirty_bits true false r false a w h = OfDirty refl refl refl
dirty_bits true false r true a w h = absurd cc
dirty_bits true true r d a w h = absurd cc
dirty_bits false l r d a w h = absurd cc

bits : (o : Option ℕ) (access : AccessKind) (kind : FaultKind) → is_served kind ≡ true → may_aligned o access (Some kind) ≡ true → FaultsOf (or_zero o) kind
bits (Some e) access fault.Missing s h = missing_bits (is_valid e) (is_on_swap e) (is_leaving e) (is_referenced e) (is_dirty e) h
bits (Some e) access fault.Leaving s h = leaving_bits (is_valid e) (is_leaving e) (is_referenced e) (is_dirty e) h
bits (Some e) access fault.Reference s h = reference_bits (is_valid e) (is_leaving e) (is_referenced e) (is_dirty e) (allows e access) h
bits (Some e) access fault.Dirty s h = dirty_bits (is_valid e) (is_leaving e) (is_referenced e) (is_dirty e) (allows e access) (is_write access) h
bits None access fault.Missing s h = absurd cc
bits None access fault.Leaving s h = absurd cc
bits None access fault.Reference s h = absurd cc
bits None access fault.Dirty s h = absurd cc
bits o access fault.Align s h = absurd cc
bits o access fault.Unmapped s h = absurd cc
bits o access fault.Protection s h = absurd cc

pub fault_bits : (w : View) (b at : ℕ) (kind : FaultKind) → IsServable w → b < length w.caches → at < table_start → HasFault w b kind at → FaultsOf (word_of (flat_in w) at) kind
fault_bits w b at kind servable within user f =
    bits (walk_of (standing_flat servable.rest w) at) f.access kind f.served (answer_may w servable.rest b at kind servable.stands within user f)

-- the bits once it was served, as far as the measure of faults goes
pub data After (v l r d v1 l1 r1 d1 : Bool) : FaultKind → Type 0 where
  AfterMissing : v1 ≡ true → l1 ≡ false → After v l r d v1 l1 r1 d1 fault.Missing
  AfterLeaving : v1 ≡ false → After v l r d v1 l1 r1 d1 fault.Leaving
  AfterReference : v1 ≡ v → l1 ≡ l → d1 ≡ d → r1 ≡ true → After v l r d v1 l1 r1 d1 fault.Reference
  AfterDirty : v1 ≡ v → l1 ≡ l → r1 ≡ r → d1 ≡ true → After v l r d v1 l1 r1 d1 fault.Dirty

abbrev pub AfterOf : ℕ → ℕ → FaultKind → Type 0
AfterOf e f kind = After (is_valid e) (is_leaving e) (is_referenced e) (is_dirty e) (is_valid f) (is_leaving f) (is_referenced f) (is_dirty f) kind

set_bit : (e k : ℕ) → (bit_at (with_bit e k true) k == 1) ≡ true
set_bit e k = ap (λ (n : ℕ). n == 1) (bit_at-with_same e k true)

bits_after : (e f b : ℕ) (w : View) (kind : FaultKind) (at : ℕ) → entry_in w (page_of at) ≡ e → f ≡ word_after b w kind at → FaultsOf e kind → AfterOf e f kind
bits_after e f b w fault.Missing at here is bits =
    let p = protection_of (entry_in w (page_of at)) in
    AfterMissing (ap is_valid is ∙ is_valid-resident (gained b w) p) (ap is_leaving is ∙ is_leaving-resident (gained b w) p)
bits_after e f b w fault.Leaving at here is bits = AfterLeaving (ap is_valid is ∙ is_valid-swapped (slot_in w.frames (outgoing_frame w)) (protection_of (entry_in w (page_of at))))
bits_after e f b w fault.Reference at here is bits =
    let now : f ≡ with_bit e 1 true = is ∙ ap (λ (n : ℕ). with_bit n 1 true) here in
    AfterReference (ap is_valid now ∙ same_bit e 1 0 true (λ h. cc)) (ap is_leaving now ∙ same_bit e 1 6 true (λ h. cc)) (ap is_dirty now ∙ same_bit e 1 2 true (λ h. cc)) (ap is_referenced now ∙ set_bit e 1)
bits_after e f b w fault.Dirty at here is bits =
    let now : f ≡ with_bit e 2 true = is ∙ ap (λ (n : ℕ). with_bit n 2 true) here in
    AfterDirty (ap is_valid now ∙ same_bit e 2 0 true (λ h. cc)) (ap is_leaving now ∙ same_bit e 2 6 true (λ h. cc)) (ap is_referenced now ∙ same_bit e 2 1 true (λ h. cc)) (ap is_dirty now ∙ set_bit e 2)
bits_after e f b w fault.Align at here is bits = elim bits [ ]
bits_after e f b w fault.Unmapped at here is bits = elim bits [ ]
bits_after e f b w fault.Protection at here is bits = elim bits [ ]

pub served_bits : (w v : View) (b at : ℕ) (kind : FaultKind) → IsServed b w kind at v → FaultsOf (word_of (flat_in w) at) kind → AfterOf (word_of (flat_in w) at) (word_of (flat_in v) at) kind
served_bits w v b at kind served faults = bits_after (word_of (flat_in w) at) (word_of (flat_in v) at) b w kind at (entry_at w at) served.walk faults
