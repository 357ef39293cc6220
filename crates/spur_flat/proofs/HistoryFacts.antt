-- Histories in pieces, and what an allowed entry leaves.
use Rattle.std.proofs.Common.{◌&&◌, Bool, true, false, if◌then◌else◌, ◌≡◌, ℕ, ◌^◌, ◌<◌, ◌≤◌, List, [], ◌∷◌, ◌++◌, refl, Option, None, Some}
use Rattle.std.specs.Prelude.{All}
use Rattle.std.proofs.lemmas.List.Elements.{filter-append, All-from_recursion, recursion_from_All}
use Rattle.spur_flat.specs.declared.flat.Flat.{Flat}
use Rattle.spur_flat.specs.declared.access.AccessKind.{AccessKind}
use Rattle.spur_flat.specs.declared.access.AccessKind.TheVariants as access
use Rattle.spur_flat.specs.declared.entry.Entry.{Entry}
use Rattle.spur_flat.specs.declared.entry.Entry.TheVariants.{Load, Store, Tas, Fault, Fill, Claim, WriteBack, Refresh, BlockFlush, Leave, PageOut, PageIn, SetRef, SetDirty, ClearRef}
use Rattle.spur_addr.specs.Address.{is_aligned}
use Rattle.spur_flat.specs.Access.{may}
use Rattle.spur_flat.specs.Table.{table_words, walk_of, place_in}
use Rattle.spur_flat.specs.Validity.{IsValidFlat}
use Rattle.spur_flat.specs.History.{on, flat_after, is_own, IsAllowed, IsLegal}
use Rattle.spur_flat.specs.Laws.{address_of, AfterInPieces, LegalInPieces, LegalStaysValid, OwnInPieces, StaysValid}
use Rattle.spur_flat.proofs.PagerFacts.{dirty_flag, leaving_flag, referenced_flag, valid-come_in, valid-gone_out, valid-with_entry_bit}
use Rattle.spur_flat.proofs.WalkFacts.{data_within, done_is_valid, valid-with_word}

pub flat_after-append : AfterInPieces
flat_after-append F [] second = refl
flat_after-append F (entry ∷ rest) second = flat_after-append (on F entry) rest second

legal_join : (F : Flat) (first second : List Entry) → IsLegal F first → IsLegal (flat_after F first) second → IsLegal F (first ++ second)
legal_join F [] second before later = later
legal_join F (entry ∷ rest) second before later = (before.0, legal_join (on F entry) rest second before.1 later)

legal_split : (F : Flat) (first second : List Entry) → IsLegal F (first ++ second) → IsLegal F first × IsLegal (flat_after F first) second
legal_split F [] second all = (tt, all)
legal_split F (entry ∷ rest) second all = let pieces = legal_split (on F entry) rest second all.1 in ((all.0, pieces.0), pieces.1)

pub legal-append : LegalInPieces
legal-append F first second = (legal_split F first second, λ both. legal_join F first second both.0 both.1)

-- a history with one more entry at its end
pub flat_after-snoc : (F : Flat) (history : List Entry) (entry : Entry) → flat_after F (history ++ entry ∷ []) ≡ on (flat_after F history) entry
flat_after-snoc F history entry = flat_after-append F history (entry ∷ [])

pub legal-snoc : (F : Flat) (history : List Entry) (entry : Entry) → IsLegal F history → IsAllowed (flat_after F history) entry → IsLegal F (history ++ entry ∷ [])
legal-snoc F history entry legal allowed = (legal-append F history (entry ∷ [])).1 (legal, (allowed, tt))

no_done : (aligned : Bool) → (if aligned then false else false) ≡ true → ⊥
no_done true h = cc
no_done false h = cc

-- the word of an access that may be done stands past the tables
place_past : (F : Flat) (kind : AccessKind) (g : ℕ) (entry : Option ℕ) → IsValidFlat F → g < 2 ^ 38 → walk_of F g ≡ entry → may entry kind g None ≡ true → table_words F.tables ≤ place_in entry g
place_past F kind g None ok small walked done = absurd (no_done (is_aligned g) done)
place_past F kind g (Some e) ok small walked done = (data_within F g e ok small walked (done_is_valid e kind g done)).0

-- the first of two tests that both pass
pub first_true : (a b : Bool) → (a && b) ≡ true → a ≡ true
first_true true b h = refl
first_true false b h = cc

pub stays-valid : StaysValid
stays-valid F (Load board at value) ok small allowed = ok
stays-valid F (Store board at value) ok small allowed =
    valid-with_word F _ (place_in (walk_of F at) at) value ok (place_past F access.Store at (walk_of F at) ok small refl allowed) refl
stays-valid F (Tas board at old) ok small allowed =
    valid-with_word F _ (place_in (walk_of F at) at) 1 ok (place_past F access.Tas at (walk_of F at) ok small refl allowed.0) refl
stays-valid F (Fault board kind access at) ok small allowed = ok
stays-valid F (Fill board layer need at) ok small allowed = ok
stays-valid F (Claim board at) ok small allowed = ok
stays-valid F (WriteBack board at) ok small allowed = ok
stays-valid F (Refresh board at) ok small allowed = ok
stays-valid F (BlockFlush board holder at) ok small allowed = ok
stays-valid F (Leave board at) ok small allowed = valid-with_entry_bit F at 6 true ok small allowed.declared (first_true _ _ allowed.entry) leaving_flag
stays-valid F (PageOut board at) ok small allowed = valid-gone_out F at ok small allowed.declared (first_true _ _ allowed.entry)
stays-valid F (PageIn board at frame) ok small allowed = valid-come_in F at frame ok small allowed.0.declared allowed.1
stays-valid F (SetRef board at) ok small allowed = valid-with_entry_bit F at 1 true ok small allowed.declared (first_true _ _ allowed.entry) referenced_flag
stays-valid F (SetDirty board at) ok small allowed = valid-with_entry_bit F at 2 true ok small allowed.declared (first_true _ _ (first_true _ _ allowed.entry)) dirty_flag
stays-valid F (ClearRef board at) ok small allowed = valid-with_entry_bit F at 1 false ok small allowed.declared (first_true _ _ (first_true _ _ allowed.entry)) referenced_flag

pub own_entries-append : OwnInPieces
own_entries-append first second board = filter-append (is_own board) first second

-- a fact of each entry of a list, of its first and of the rest
pub first_of_all : (P : Entry → Type 0) (entry : Entry) (rest : List Entry) → All P (entry ∷ rest) → P entry
first_of_all P entry rest each = (recursion_from_All P (entry ∷ rest) each).0

pub rest_of_all : (P : Entry → Type 0) (entry : Entry) (rest : List Entry) → All P (entry ∷ rest) → All P rest
rest_of_all P entry rest each = All-from_recursion P rest (recursion_from_All P (entry ∷ rest) each).1

pub legal-stays-valid : LegalStaysValid
legal-stays-valid F [] ok small legal = ok
legal-stays-valid F (entry ∷ rest) ok small legal =
    let IsSmall : Entry → Type 0 = λ e. address_of e < 2 ^ 38 in
    legal-stays-valid (on F entry) rest (stays-valid F entry ok (first_of_all IsSmall entry rest small) legal.0) (rest_of_all IsSmall entry rest small) legal.1
