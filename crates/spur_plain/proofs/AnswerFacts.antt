-- An access that is done, and a fault that ends a program: the plain machine's answers.
use Rattle.std.proofs.Common.{◌≡◌, ◌∙◌, ℕ, ◌/◌, ◌%◌, ◌^◌, ◌<◌, ◌==◌, ◌&&◌, ◌||◌, not, Bool, true, false, if◌then◌else◌, cond, Option, Some, None, refl, sym, ap, arith, List, [], ◌∷◌, map, slice_index}
use Rattle.std.specs.List.{list_any}
use Rattle.std.proofs.lemmas.Bool.{eqb-true, false≢true}
use Rattle.spur_addr.specs.Address.{is_aligned, page_address, page_of}
use Rattle.spur_addr.specs.PageEntry.{is_valid, is_dirty, is_on_swap, number_of}
use Rattle.spur_flat.specs.declared.flat.Flat.{Flat}
use Rattle.spur_flat.specs.declared.access.AccessKind.{AccessKind}
use Rattle.spur_flat.specs.declared.access.FaultKind.TheVariants as fault
use Rattle.spur_flat.specs.Access.{allows, is_write, may, may_aligned}
use Rattle.spur_flat.specs.Table.{place_in, walk_of}
use Rattle.spur_flat.specs.Validity.{IsValidFlat}
use Rattle.spur_addr.specs.Pages.{page_at}
use Rattle.spur_flat.specs.Pager.{is_declared, or_zero, swap_slot_of, word_of}
use Rattle.spur_flat.proofs.CleanFacts.{page_of-address, word_of-same_page}
use Rattle.spur_flat.proofs.PagerFacts.{declared_stands}
use Rattle.spur_flat.proofs.PageWordFacts.{page_word}
use Rattle.spur_plain.specs.PlainMemory.{PlainPage, page_answer, page_words, plain_answer, plain_page, word_in_page}
use Rattle.spur_plain.specs.Virtual.{virtual, virtual_page, words_under}
use Rattle.spur_plain.specs.EntryLaws.{FinalIsPlain, WordIsPlain}
use Rattle.spur_plain.proofs.PageFacts.{entry_in, valid_declared}

-- ---- what an access that is done has

-- an access that may be done under an entry
pub record IsDone (o : Option ℕ) (access : AccessKind) (g : ℕ) : Type 0 where
  pub aligned : is_aligned g ≡ true
  pub there : o ≡ Some (or_zero o)
  pub valid : is_valid (or_zero o) ≡ true
  pub allowed : allows (or_zero o) access ≡ true
  pub dirty : is_write access ≡ true → is_dirty (or_zero o) ≡ true

all_true : (a v p d w : Bool) → (if a then v && p && (d || not w) else false) ≡ true → (a ≡ true) × (v ≡ true) × (p ≡ true) × (w ≡ true → d ≡ true)
all_true true true true true w h = (refl, refl, refl, λ e. refl)
all_true true true true false true h = absurd cc
all_true true true true false false h = (refl, refl, refl, λ e. absurd cc)
all_true true true false d w h = absurd cc
all_true true false p d w h = absurd cc
all_true false v p d w h = absurd cc

none_true : (a : Bool) → (if a then false else false) ≡ true → ⊥
none_true true h = cc
none_true false h = cc

pub is_done : (o : Option ℕ) (access : AccessKind) (g : ℕ) → may o access g None ≡ true → IsDone o access g
is_done None access g h = absurd (none_true (is_aligned g) h)
is_done (Some e) access g h =
    let all = all_true (is_aligned g) (is_valid e) (allows e access) (is_dirty e) (is_write access) h in
    record { aligned = all.0; there = refl; valid = all.1; allowed = all.2; dirty = all.3 }

-- ---- the page of an address in plain memory

found_if : (b : Bool) (x y : PlainPage) (rest : Option PlainPage) → (b ≡ true → x ≡ y) → (b ≡ false → rest ≡ Some y) → cond b (Some x) rest ≡ Some y
found_if true x y rest this that = ap (λ (z : PlainPage). Some z) (this refl)
found_if false x y rest this that = that refl

or_rest : (a b : Bool) → (a || b) ≡ true → a ≡ false → b ≡ true
or_rest true b h e = absurd cc
or_rest false b h e = h

or_none : (a b : Bool) → (a || b) ≡ false → (a ≡ false) × (b ≡ false)
or_none true b h = absurd cc
or_none false b h = (refl, h)

found_in : (F : Flat) (g : ℕ) (ps : List ℕ) → list_any (λ page. page == page_of g) ps ≡ true → plain_page (map (virtual_page F) ps) g ≡ Some (virtual_page F (page_of g))
found_in F g [] h = absurd cc
found_in F g (x ∷ xs) h =
    found_if (x == page_of g) (virtual_page F x) (virtual_page F (page_of g)) (plain_page (map (virtual_page F) xs) g)
    (λ e. ap (virtual_page F) (eqb-true x (page_of g) e))
    (λ e. found_in F g xs (or_rest (x == page_of g) (list_any (λ page. page == page_of g) xs) h e))

pub found : (F : Flat) (g : ℕ) → is_declared F g ≡ true → plain_page (virtual F) g ≡ Some (virtual_page F (page_of g))
found F g h = found_in F g F.pages h

missing_in : (F : Flat) (g : ℕ) (ps : List ℕ) → list_any (λ page. page == page_of g) ps ≡ false → plain_page (map (virtual_page F) ps) g ≡ None
missing_in F g [] h = refl
missing_in F g (x ∷ xs) h =
    let both = or_none (x == page_of g) (list_any (λ page. page == page_of g) xs) h in
    ap (λ (b : Bool). cond b (Some (virtual_page F x)) (plain_page (map (virtual_page F) xs) g)) both.0 ∙ missing_in F g xs both.1

pub missing : (F : Flat) (g : ℕ) → is_declared F g ≡ false → plain_page (virtual F) g ≡ None
missing F g h = missing_in F g F.pages h

-- ---- answers

-- the answer of a page under its entry
pub answer_of : (F : Flat) (access : AccessKind) (g : ℕ) → is_aligned g ≡ true → is_declared F g ≡ true → plain_answer (virtual F) access g ≡ (if allows (word_of F g) access then None else Some fault.Protection)
answer_of F access g aligned declared =
    ap (λ (b : Bool). if b then page_answer (plain_page (virtual F) g) access else Some fault.Align) aligned
    ∙ ap (λ (o : Option PlainPage). page_answer o access) (found F g declared)
    ∙ ap (λ (e : ℕ). if allows e access then None else Some fault.Protection) (word_of-same_page F g (page_of g) refl)

-- a valid entry is that of a declared page
pub valid_page : (F : Flat) (g : ℕ) → IsValidFlat F → g < 2 ^ 38 → is_valid (word_of F g) ≡ true → is_declared F g ≡ true
valid_page F g ok small valid =
    let few : page_of g < 2 ^ 26 = (let r : g / 2 ^ 12 < 2 ^ 26 = omega arith in r) in
    let e : entry_in F (page_of g) ≡ word_of F g = word_of-same_page F g (page_of g) refl in
    ap (λ (n : ℕ). list_any (λ page. page == n) F.pages) (sym (page_of-address (page_of g))) ∙ valid_declared F (page_of g) ok few (ap is_valid e ∙ valid)

not_aligned : (a : Bool) (o : Option ℕ) (access : AccessKind) → (if a then may_aligned o access (Some fault.Align) else true) ≡ true → a ≡ false
not_aligned true None access h = absurd cc
not_aligned true (Some e) access h = absurd cc
not_aligned false o access h = refl

-- an entry of no page
unmapped_in : (a : Bool) (o : Option ℕ) (access : AccessKind) → (if a then may_aligned o access (Some fault.Unmapped) else false) ≡ true → (a ≡ true) × (is_valid (or_zero o) ≡ false) × (is_on_swap (or_zero o) ≡ false)
unmapped_in true None access h = (refl, refl, refl)
unmapped_in true (Some e) access h = let both = both_not (is_valid e) (is_on_swap e) h in (refl, both.0, both.1)
  where
    both_not : (v s : Bool) → (not v && not s) ≡ true → (v ≡ false) × (s ≡ false)
    both_not true s h = absurd cc
    both_not false true h = absurd cc
    both_not false false h = (refl, refl)
unmapped_in false o access h = absurd cc

barred_in : (a : Bool) (o : Option ℕ) (access : AccessKind) → (if a then may_aligned o access (Some fault.Protection) else false) ≡ true → (a ≡ true) × (is_valid (or_zero o) ≡ true) × (allows (or_zero o) access ≡ false)
barred_in true None access h = absurd cc
barred_in true (Some e) access h = let both = first_not (is_valid e) (allows e access) h in (refl, both.0, both.1)
  where
    first_not : (v p : Bool) → (v && not p) ≡ true → (v ≡ true) × (p ≡ false)
    first_not true true h = absurd cc
    first_not true false h = (refl, refl)
    first_not false p h = absurd cc
barred_in false o access h = absurd cc

-- a declared page has an entry that is valid or on swap
never_both : (v s : Bool) → v ≡ not s → v ≡ false → s ≡ false → ⊥
never_both v s one a b = let clash : false ≡ true = sym a ∙ one ∙ ap not b in false≢true clash

undeclared_in : (F : Flat) (g : ℕ) (d : Bool) → IsValidFlat F → g < 2 ^ 38 → is_declared F g ≡ d → is_valid (word_of F g) ≡ false → is_on_swap (word_of F g) ≡ false → d ≡ false
undeclared_in F g true ok small declared v s = let stands = (declared_stands F g ok small declared).stands in absurd (never_both (is_valid (word_of F g)) (is_on_swap (word_of F g)) stands.one v s)
undeclared_in F g false ok small declared v s = refl

pub final-is-plain : FinalIsPlain
final-is-plain F access g None ok small h final =
    let done = is_done (walk_of F g) access g h in
    answer_of F access g done.aligned (valid_page F g ok small done.valid) ∙ ap (λ (b : Bool). if b then None else Some fault.Protection) done.allowed
final-is-plain F access g (Some fault.Align) ok small h final =
    ap (λ (b : Bool). if b then page_answer (plain_page (virtual F) g) access else Some fault.Align) (not_aligned (is_aligned g) (walk_of F g) access h)
final-is-plain F access g (Some fault.Unmapped) ok small h final =
    let un = unmapped_in (is_aligned g) (walk_of F g) access h in
    let no : is_declared F g ≡ false = undeclared_in F g (is_declared F g) ok small refl un.1 un.2 in
    ap (λ (b : Bool). if b then page_answer (plain_page (virtual F) g) access else Some fault.Align) un.0
    ∙ ap (λ (o : Option PlainPage). page_answer o access) (missing F g no)
final-is-plain F access g (Some fault.Missing) ok small h final = absurd (false≢true final)
final-is-plain F access g (Some fault.Leaving) ok small h final = absurd (false≢true final)
final-is-plain F access g (Some fault.Protection) ok small h final =
    let bar = barred_in (is_aligned g) (walk_of F g) access h in
    answer_of F access g bar.0 (valid_page F g ok small bar.1) ∙ ap (λ (b : Bool). if b then None else Some fault.Protection) bar.2
final-is-plain F access g (Some fault.Reference) ok small h final = absurd (false≢true final)
final-is-plain F access g (Some fault.Dirty) ok small h final = absurd (false≢true final)

-- ---- the word

-- the words of a page that is in a frame
pub framed_words : (F : Flat) (p e : ℕ) → entry_in F p ≡ e → is_valid e ≡ true → (virtual_page F p).words ≡ page_at F.words (number_of e)
framed_words F p e is valid =
    ap (words_under F p) is ∙ ap (λ (b : Bool). if b then page_at F.words (number_of e) else page_at F.swap (swap_slot_of F (page_address p))) valid

pub low_word : (g : ℕ) → word_in_page g < 1024
low_word g = let r : g / 2 ^ 2 % 1024 < 1024 = omega arith in r

pub word-is-plain : WordIsPlain
word-is-plain F access g ok small h =
    let done = is_done (walk_of F g) access g h in
    let declared : is_declared F g ≡ true = valid_page F g ok small done.valid in
    let n : ℕ = number_of (word_of F g) in
    ap (λ (o : Option ℕ). slice_index F.words (place_in o g)) done.there
    ∙ sym (page_word F.words n (word_in_page g) (low_word g))
    ∙ ap (λ (ws : List ℕ). slice_index ws (word_in_page g)) (sym (framed_words F (page_of g) (word_of F g) (word_of-same_page F g (page_of g) refl) done.valid))
    ∙ sym (ap (λ (o : Option PlainPage). slice_index (page_words o) (word_in_page g)) (found F g declared))
