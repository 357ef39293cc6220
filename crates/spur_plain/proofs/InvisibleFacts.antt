-- Paging is invisible: entry by entry, and over a legal history.
use Rattle.std.proofs.Common.{◌≡◌, ◌∙◌, ℕ, ◌*◌, ◌/◌, ◌^◌, ◌<◌, ◌==◌, ◌&&◌, not, Bool, true, false, if◌then◌else◌, cond, Some, None, refl, sym, ap, subst, arith, List, [], ◌∷◌, length, map}
use Rattle.std.specs.List.{list_any, AllByRecursion}
use Rattle.std.proofs.lemmas.Bool.{eq-eqb, or_left, or_right, false≢true}
use Rattle.std.proofs.lemmas.List.Elements.{All-from_recursion, All-map, recursion_from_All}
use Rattle.spur_addr.specs.Address.{page_address, page_of}
use Rattle.spur_addr.specs.PageEntry.{is_valid, is_dirty, number_of}
use Rattle.spur_flat.specs.declared.flat.Flat.{Flat}
use Rattle.spur_flat.specs.declared.access.AccessKind.{AccessKind}
use Rattle.spur_flat.specs.declared.access.AccessKind.TheVariants as access
use Rattle.spur_flat.specs.declared.access.FaultKind.{FaultKind}
use Rattle.spur_flat.specs.declared.entry.Entry.{Entry}
use Rattle.spur_flat.specs.declared.entry.Entry.TheVariants.{Load, Store, Tas, Fault, Fill, Claim, WriteBack, Refresh, BlockFlush, Leave, PageOut, PageIn, SetRef, SetDirty, ClearRef}
use Rattle.spur_flat.specs.Clean.{AreClean}
use Rattle.spur_flat.specs.Pager.{is_declared, swap_slot_of, word_of}
use Rattle.spur_flat.specs.History.{on, flat_after, IsAllowed, IsLegal}
use Rattle.spur_flat.specs.Laws.{address_of}
use Rattle.spur_flat.specs.Table.{data_word}
use Rattle.spur_flat.specs.Untold.{IsAllowedButValue, IsLegalButValues}
use Rattle.spur_flat.specs.Validity.{IsValidFlat}
use Rattle.spur_flat.proofs.CleanFacts.{page_of-address, stays-clean}
use Rattle.spur_flat.proofs.HistoryFacts.{first_true, stays-valid}
use Rattle.spur_flat.proofs.PagerFacts.{frame_inside, page_long, slot_inside}
use Rattle.spur_flat.proofs.WellFormedFacts.{legal_but_values}
use Rattle.spur_cpu.specs.Meaning.{is_ending}
use Rattle.spur_plain.specs.PlainMemory.{PlainMemory, PlainPage, page_with}
use Rattle.spur_plain.specs.PlainHistory.{HasRead, IsAnswered, IsPlain, is_plain, plain_after, plain_entries, plain_on}
use Rattle.spur_plain.specs.Virtual.{virtual, virtual_page}
use Rattle.spur_plain.specs.EntryLaws.{EntryIsPlain, EntryMovesPlain, VirtualIsWhole}
use Rattle.spur_plain.specs.Invisible.{LegalStaysInvisible, PagingIsInvisible, PagingIsInvisibleButValues}
use Rattle.spur_plain.proofs.PageFacts.{data_frame, declared_is, declared_small, declares, entry_in}
use Rattle.spur_plain.proofs.MoveFacts.{IsCleanAt, come_stays, dirty_mark, gone_stays, leaving_mark, marked_stays, referenced_mark}
use Rattle.spur_plain.proofs.AnswerFacts.{final-is-plain, word-is-plain}
use Rattle.spur_plain.proofs.WriteFacts.{write_moves}
use Rattle.spur_plain.proofs.HistoryFacts.{answers_on, moved_answers}

-- ---- what an entry makes of each plain page

abbrev same : PlainPage → PlainPage
same p = p

abbrev page_on : Entry → PlainPage → PlainPage
page_on (Store board at value) = page_with at value
page_on (Tas board at old) = page_with at 1
page_on _ = same

not_valid : (v s : Bool) → (not v && s) ≡ true → v ≡ false
not_valid true s h = cc
not_valid false s h = refl

page_moves : (F : Flat) (e : Entry) (p : ℕ) → IsValidFlat F → address_of e < 2 ^ 38 → IsAllowedButValue F e → declares F p ≡ true → IsCleanAt F p → virtual_page (on F e) p ≡ page_on e (virtual_page F p)
page_moves F (Load board at value) p ok small allowed d clean = refl
page_moves F (Store board at value) p ok small allowed d clean = write_moves F access.Store at value p ok small allowed d
page_moves F (Tas board at old) p ok small allowed d clean = write_moves F access.Tas at 1 p ok small allowed d
page_moves F (Fault board kind access at) p ok small allowed d clean = refl
page_moves F (Fill board layer need at) p ok small allowed d clean = refl
page_moves F (Claim board at) p ok small allowed d clean = refl
page_moves F (WriteBack board at) p ok small allowed d clean = refl
page_moves F (Refresh board at) p ok small allowed d clean = refl
page_moves F (BlockFlush board holder at) p ok small allowed d clean = refl
page_moves F (Leave board at) p ok small allowed d clean = marked_stays F at 6 p true ok small allowed.declared leaving_mark d
page_moves F (PageOut board at) p ok small allowed d clean = gone_stays F at p ok small allowed.declared (first_true _ _ allowed.entry) d clean
page_moves F (PageIn board at frame) p ok small allowed d clean = come_stays F at frame p ok small allowed.0.declared (not_valid _ _ allowed.0.entry) allowed.1 d
page_moves F (SetRef board at) p ok small allowed d clean = marked_stays F at 1 p true ok small allowed.declared referenced_mark d
page_moves F (SetDirty board at) p ok small allowed d clean = marked_stays F at 2 p true ok small allowed.declared dirty_mark d
page_moves F (ClearRef board at) p ok small allowed d clean = marked_stays F at 1 p false ok small allowed.declared referenced_mark d

-- the declared pages stay
saved_pages : (d : Bool) (F : Flat) (swap : List ℕ) → (if d then record F { swap = swap } else F).pages ≡ F.pages
saved_pages true F swap = refl
saved_pages false F swap = refl

pages_stay : (F : Flat) (e : Entry) → (on F e).pages ≡ F.pages
pages_stay F (PageOut board at) = saved_pages (is_dirty (word_of F at)) F _
pages_stay F _ = refl

-- ---- plain memory moves

-- what holds of each declared page, by its number
abbrev found : List ℕ → ℕ → Bool
found ps p = list_any (λ page. page == p) ps

by_number : (F : Flat) (p : ℕ) → found F.pages p ≡ true → declares F p ≡ true
by_number F p d = ap (found F.pages) (page_of-address p) ∙ d

first_found : (x : ℕ) (xs : List ℕ) → found (x ∷ xs) x ≡ true
first_found x xs = or_left (x == x) (found xs x) (eq-eqb x x refl)

-- the same pages of two flat states
pages_agree : (f g : ℕ → PlainPage) (ps : List ℕ) → ((p : ℕ) → found ps p ≡ true → f p ≡ g p) → map f ps ≡ map g ps
pages_agree f g [] each = refl
pages_agree f g (x ∷ xs) each =
    ap (λ (y : PlainPage). y ∷ map f xs) (each x (first_found x xs))
    ∙ ap (λ (ys : List PlainPage). g x ∷ ys) (pages_agree f g xs (λ p h. each p (or_right (x == p) (found xs p) h)))

map_twice : (f : ℕ → PlainPage) (h : PlainPage → PlainPage) (ps : List ℕ) → map (λ p. h (f p)) ps ≡ map h (map f ps)
map_twice f h [] = refl
map_twice f h (x ∷ xs) = ap (λ (ys : List PlainPage). h (f x) ∷ ys) (map_twice f h xs)

-- where each declared page moves so, plain memory does
moved_by : (F G : Flat) (h : PlainPage → PlainPage) → G.pages ≡ F.pages → ((p : ℕ) → declares F p ≡ true → virtual_page G p ≡ h (virtual_page F p)) → virtual G ≡ map h (virtual F)
moved_by F G h pages each =
    ap (map (virtual_page G)) pages
    ∙ pages_agree (virtual_page G) (λ p. h (virtual_page F p)) F.pages (λ p d. each p (by_number F p d))
    ∙ map_twice (virtual_page F) h F.pages

map_same : (M : PlainMemory) → map same M ≡ M
map_same [] = refl
map_same (x ∷ xs) = ap (λ (ys : List PlainPage). x ∷ ys) (map_same xs)

map_is : (M : PlainMemory) (e : Entry) → map (page_on e) M ≡ plain_on M e
map_is M (Store board at value) = refl
map_is M (Tas board at old) = refl
map_is M _ = map_same M

pub entry-moves-plain : EntryMovesPlain
entry-moves-plain F e ok clean small allowed =
    moved_by F (on F e) (page_on e) (pages_stay F e) (λ p d. page_moves F e p ok small allowed d (clean p (declared_is F p ok d).user))
    ∙ map_is (virtual F) e

-- ---- what the plain machine knows of is its answer

answered_by : (F : Flat) (e : Entry) → IsValidFlat F → address_of e < 2 ^ 38 → IsAllowedButValue F e → is_plain e ≡ true → IsAnswered (virtual F) e
answered_by F (Load board at value) ok small allowed plain = final-is-plain F access.Load at None ok small allowed refl
answered_by F (Store board at value) ok small allowed plain = final-is-plain F access.Store at None ok small allowed refl
answered_by F (Tas board at old) ok small allowed plain = final-is-plain F access.Tas at None ok small allowed refl
answered_by F (Fault board kind access at) ok small allowed plain = final-is-plain F access at (Some kind) ok small allowed plain
answered_by F _ ok small allowed plain = absurd (false≢true plain)

-- an allowed entry is so but for its value, and what it read is the word that stands
but_value : (F : Flat) (e : Entry) → IsAllowed F e → IsAllowedButValue F e
but_value F (Load board at value) allowed = allowed.0
but_value F (Tas board at old) allowed = allowed.0
but_value F _ allowed = allowed

read_by : (F : Flat) (e : Entry) → IsValidFlat F → address_of e < 2 ^ 38 → IsAllowed F e → HasRead (virtual F) e
read_by F (Load board at value) ok small allowed = allowed.1 ∙ word-is-plain F access.Load at ok small allowed.0
read_by F (Tas board at old) ok small allowed = allowed.1 ∙ word-is-plain F access.Tas at ok small allowed.0
read_by F _ ok small allowed = tt

pub entry-is-plain : EntryIsPlain
entry-is-plain F e ok small allowed plain = record { answered = answered_by F e ok small (but_value F e allowed) plain; read = read_by F e ok small allowed }

-- ---- an entry with the word that stands is allowed, and leaves the same

abbrev with_value : Flat → Entry → Entry
with_value F (Load board at value) = Load board at (data_word F at)
with_value F (Tas board at old) = Tas board at (data_word F at)
with_value F e = e

value_allowed : (F : Flat) (e : Entry) → IsAllowedButValue F e → IsAllowed F (with_value F e)
value_allowed F (Load board at value) allowed = (allowed, refl)
value_allowed F (Tas board at old) allowed = (allowed, refl)
value_allowed F _ allowed = allowed

value_address : (F : Flat) (e : Entry) → address_of e ≡ address_of (with_value F e)
value_address F (Load board at value) = refl
value_address F (Tas board at old) = refl
value_address F _ = refl

value_on : (F : Flat) (e : Entry) → on F (with_value F e) ≡ on F e
value_on F (Load board at value) = refl
value_on F (Tas board at old) = refl
value_on F _ = refl

-- ---- one entry

-- an entry that changes the flat state, or that is plain, has a global address; another changes nothing
data Bound (F : Flat) (e : Entry) : Type 0 where
  Small : address_of e < 2 ^ 38 → Bound F e
  Still : is_plain e ≡ false → on F e ≡ F → Bound F e

-- a declared page is below segment 255
page_small : (F : Flat) (at : ℕ) → IsValidFlat F → is_declared F at ≡ true → at < 2 ^ 38
page_small F at ok declared =
    let few : page_of at < 255 * 2 ^ 18 = declared_small F.pages (page_of at) ok.pages.small declared in
    let low : at / 2 ^ 12 < 255 * 2 ^ 18 = few in
    let r : at < 2 ^ 38 = omega arith in
    r

fault_bound : (F : Flat) (board : ℕ) (kind : FaultKind) (access : AccessKind) (at : ℕ) (b : Bool) → is_ending kind ≡ b → (b ≡ true → at < 2 ^ 38) → Bound F (Fault board kind access at)
fault_bound F board kind access at true is small = Small (small refl)
fault_bound F board kind access at false is small = Still is refl

bound : (F : Flat) (e : Entry) → IsValidFlat F → IsAllowedButValue F e → (is_plain e ≡ true → address_of e < 2 ^ 38) → Bound F e
bound F (Load board at value) ok allowed small = Small (small refl)
bound F (Store board at value) ok allowed small = Small (small refl)
bound F (Tas board at old) ok allowed small = Small (small refl)
bound F (Fault board kind access at) ok allowed small = fault_bound F board kind access at (is_ending kind) refl small
bound F (Fill board layer need at) ok allowed small = Still refl refl
bound F (Claim board at) ok allowed small = Still refl refl
bound F (WriteBack board at) ok allowed small = Still refl refl
bound F (Refresh board at) ok allowed small = Still refl refl
bound F (BlockFlush board holder at) ok allowed small = Still refl refl
bound F (Leave board at) ok allowed small = Small (page_small F at ok allowed.declared)
bound F (PageOut board at) ok allowed small = Small (page_small F at ok allowed.declared)
bound F (PageIn board at frame) ok allowed small = Small (page_small F at ok allowed.0.declared)
bound F (SetRef board at) ok allowed small = Small (page_small F at ok allowed.declared)
bound F (SetDirty board at) ok allowed small = Small (page_small F at ok allowed.declared)
bound F (ClearRef board at) ok allowed small = Small (page_small F at ok allowed.declared)

-- an entry that the plain machine does not know of leaves plain memory
unknown_stays : (M : PlainMemory) (e : Entry) → is_plain e ≡ false → plain_on M e ≡ M
unknown_stays M (Store board at value) h = absurd cc
unknown_stays M (Tas board at old) h = absurd cc
unknown_stays M _ h = refl

record IsStep (F : Flat) (e : Entry) : Type 0 where
  valid : IsValidFlat (on F e)
  clean : AreClean (on F e)
  moves : virtual (on F e) ≡ plain_on (virtual F) e

step_by : (F : Flat) (e : Entry) → IsValidFlat F → AreClean F → IsAllowedButValue F e → Bound F e → IsStep F e
step_by F e ok clean allowed (Small small) =
    let its : address_of (with_value F e) < 2 ^ 38 = subst (λ (n : ℕ). n < 2 ^ 38) (value_address F e) small in
    let told : IsAllowed F (with_value F e) = value_allowed F e allowed in
    record {
      valid = subst IsValidFlat (value_on F e) (stays-valid F (with_value F e) ok its told);
      clean = subst (λ (G : Flat). AreClean G) (value_on F e) (stays-clean F (with_value F e) ok clean its told);
      moves = entry-moves-plain F e ok clean small allowed;
    }
step_by F e ok clean allowed (Still unknown still) = record {
  valid = subst IsValidFlat (sym still) ok;
  clean = subst (λ (G : Flat). AreClean G) (sym still) clean;
  moves = ap virtual still ∙ sym (unknown_stays (virtual F) e unknown);
}

-- ---- the induction

abbrev pub IsSmall : Entry → Type 0
IsSmall e = address_of e < 2 ^ 38

-- of the first plain entry, and of the rest
pub first_small : (b : Bool) (e : Entry) (es : List Entry) → AllByRecursion IsSmall (cond b (e ∷ es) es) → b ≡ true → address_of e < 2 ^ 38
first_small true e es all is = all.0
first_small false e es all is = absurd (false≢true is)

pub rest_small : (b : Bool) (e : Entry) (es : List Entry) → AllByRecursion IsSmall (cond b (e ∷ es) es) → AllByRecursion IsSmall es
rest_small true e es all = all.1
rest_small false e es all = all

answered_in : (b : Bool) (M : PlainMemory) (e : Entry) (es : List Entry) → (b ≡ true → IsAnswered M e) → AllByRecursion (IsAnswered M) es → AllByRecursion (IsAnswered M) (cond b (e ∷ es) es)
answered_in true M e es this later = (this refl, later)
answered_in false M e es this later = later

after_in : (b : Bool) (M : PlainMemory) (e : Entry) (es : List Entry) → is_plain e ≡ b → plain_after (plain_on M e) es ≡ plain_after M (cond b (e ∷ es) es)
after_in true M e es is = refl
after_in false M e es is = ap (λ (N : PlainMemory). plain_after N es) (unknown_stays M e is)

plain_in : (b : Bool) (M : PlainMemory) (e : Entry) (es : List Entry) → is_plain e ≡ b → (b ≡ true → IsAnswered M e × HasRead M e) → IsPlain (plain_on M e) es → IsPlain M (cond b (e ∷ es) es)
plain_in true M e es is this later = let both = this refl in (both.0, both.1, later)
plain_in false M e es is this later = subst (λ (N : PlainMemory). IsPlain N es) (unknown_stays M e is) later

record IsSo (F : Flat) (history : List Entry) : Type 0 where
  answered : AllByRecursion (IsAnswered (virtual F)) (plain_entries history)
  ends : virtual (flat_after F history) ≡ plain_after (virtual F) (plain_entries history)
  valid : IsValidFlat (flat_after F history)
  clean : AreClean (flat_after F history)

step_of : (F : Flat) (e : Entry) (es : List Entry) → IsValidFlat F → AreClean F → IsAllowedButValue F e → AllByRecursion IsSmall (cond (is_plain e) (e ∷ es) es) → IsStep F e
step_of F e es ok clean allowed small = step_by F e ok clean allowed (bound F e ok allowed (λ plain. first_small (is_plain e) e es small plain))

so : (F : Flat) (history : List Entry) → IsValidFlat F → AreClean F → AllByRecursion IsSmall (plain_entries history) → IsLegalButValues F history → IsSo F history
so F [] ok clean small legal = record { answered = tt; ends = refl; valid = ok; clean = clean }
so F (e ∷ rest) ok clean small legal =
    let es : List Entry = plain_entries rest in
    let s = step_of F e es ok clean legal.0 small in
    let later = so (on F e) rest s.valid s.clean (rest_small (is_plain e) e es small) legal.1 in
    let moved : AllByRecursion (IsAnswered (plain_on (virtual F) e)) es = subst (λ (M : PlainMemory). AllByRecursion (IsAnswered M) es) s.moves later.answered in
    record {
      answered = answered_in (is_plain e) (virtual F) e es
          (λ plain. answered_by F e ok (first_small (is_plain e) e es small plain) legal.0 plain)
          (moved_answers (virtual F) (plain_on (virtual F) e) es (answers_on (virtual F) e) moved);
      ends = later.ends ∙ ap (λ (M : PlainMemory). plain_after M es) s.moves ∙ after_in (is_plain e) (virtual F) e es refl;
      valid = later.valid;
      clean = later.clean;
    }

plain_by : (F : Flat) (history : List Entry) → IsValidFlat F → AreClean F → AllByRecursion IsSmall (plain_entries history) → IsLegal F history → IsPlain (virtual F) (plain_entries history)
plain_by F [] ok clean small legal = tt
plain_by F (e ∷ rest) ok clean small legal =
    let es : List Entry = plain_entries rest in
    let s = step_of F e es ok clean (but_value F e legal.0) small in
    let later = plain_by (on F e) rest s.valid s.clean (rest_small (is_plain e) e es small) legal.1 in
    plain_in (is_plain e) (virtual F) e es refl
    (λ plain.
    let at : address_of e < 2 ^ 38 = first_small (is_plain e) e es small plain in
    (answered_by F e ok at (but_value F e legal.0) plain, read_by F e ok at legal.0))
    (subst (λ (M : PlainMemory). IsPlain M es) s.moves later)

pub paging-is-invisible-but-values : PagingIsInvisibleButValues
paging-is-invisible-but-values F history ok clean small legal =
    let all = so F history ok clean (recursion_from_All IsSmall (plain_entries history) small) legal in
    record { answered = All-from_recursion (IsAnswered (virtual F)) (plain_entries history) all.answered; ends = all.ends }

pub paging-is-invisible : PagingIsInvisible
paging-is-invisible F history ok clean small legal = record {
  plain = plain_by F history ok clean (recursion_from_All IsSmall (plain_entries history) small) legal;
  ends = (paging-is-invisible-but-values F history ok clean small (legal_but_values F history legal)).ends;
}

pub legal-stays-invisible : LegalStaysInvisible
legal-stays-invisible F history ok clean small legal =
    let all = so F history ok clean (recursion_from_All IsSmall (plain_entries history) small) legal in
    record { valid = all.valid; clean = all.clean }

-- ---- the pages have 1024 words

whole_if : (b : Bool) (x y : List ℕ) → (b ≡ true → length x ≡ 1024) → length y ≡ 1024 → length (if b then x else y) ≡ 1024
whole_if true x y first second = first refl
whole_if false x y first second = second

page_whole : (F : Flat) (p : ℕ) → IsValidFlat F → declares F p ≡ true → length (virtual_page F p).words ≡ 1024
page_whole F p ok d =
    whole_if (is_valid (entry_in F p)) _ _
    (λ v. page_long F.words (number_of (entry_in F p)) (frame_inside F (number_of (entry_in F p)) ok (data_frame F p ok d v)))
    (page_long F.swap (swap_slot_of F (page_address p)) (slot_inside F (page_address p) ok (declared_is F p ok d).small d))

wholes : (F : Flat) (ps : List ℕ) → ((p : ℕ) → found ps p ≡ true → length (virtual_page F p).words ≡ 1024) → AllByRecursion (λ (p : ℕ). length (virtual_page F p).words ≡ 1024) ps
wholes F [] each = tt
wholes F (x ∷ xs) each = (each x (first_found x xs), wholes F xs (λ p h. each p (or_right (x == p) (found xs p) h)))

pub virtual-is-whole : VirtualIsWhole
virtual-is-whole F ok =
    All-map (λ (x : PlainPage). length x.words ≡ 1024) (virtual_page F) F.pages
    (All-from_recursion (λ (p : ℕ). length (virtual_page F p).words ≡ 1024) F.pages
    (wholes F F.pages (λ p d. page_whole F p ok (by_number F p d))))
