-- Reading plain memory after writing.
use Rattle.std.proofs.Common.{◌≡◌, ◌≢◌, ◌∙◌, ℕ, ◌==◌, ◌&&◌, Bool, true, false, if◌then◌else◌, cond, Option, Some, None, refl, sym, ap, subst, arith, [], ◌∷◌, length, slice_index, slice_set}
use Rattle.std.proofs.lemmas.Bool.{and_parts, eq-eqb, eqb-true, eqb-false}
use Rattle.std.proofs.lemmas.List.{length-set, get_or-set_same, get_or-set_other}
use Rattle.std.proofs.lemmas.List.Elements.{All-map, recursion_from_All, All-from_recursion}
use Rattle.std.specs.List.{AllByRecursion}
use Rattle.spur_addr.specs.Address.{is_aligned, page_of}
use Rattle.spur_flat.specs.Access.{grants}
use Rattle.spur_flat.specs.declared.access.AccessKind.{AccessKind}
use Rattle.spur_flat.specs.declared.access.FaultKind.{FaultKind}
use Rattle.spur_flat.specs.declared.access.FaultKind.TheVariants.{Align, Protection}
use Rattle.spur_plain.specs.PlainMemory.{AreWhole, PlainMemory, PlainPage, page_answer, page_with, page_words, plain_page, plain_with, same_word, word_in_page}
use Rattle.spur_plain.specs.MemoryLaws.{DoneIsDeclared, OthersStay, WriteKeepsAnswers, WriteKeepsWhole, WrittenIsRead}

-- a page with another word, where a test says so
abbrev with_if : Bool → ℕ → ℕ → PlainPage → PlainPage
with_if b k v p = if b then record p { words = slice_set p.words k v } else p

page_if : (b : Bool) (k v : ℕ) (p : PlainPage) → (with_if b k v p).page ≡ p.page
page_if true k v p = refl
page_if false k v p = refl

protection_if : (b : Bool) (k v : ℕ) (p : PlainPage) → (with_if b k v p).protection ≡ p.protection
protection_if true k v p = refl
protection_if false k v p = refl

long_if : (b : Bool) (k v : ℕ) (p : PlainPage) → length p.words ≡ 1024 → length (with_if b k v p).words ≡ 1024
long_if true k v p long = length-set p.words k v ∙ long
long_if false k v p long = long

pub page_kept : (g v : ℕ) (p : PlainPage) → (page_with g v p).page ≡ p.page
page_kept g v p = page_if (p.page == page_of g) (word_in_page g) v p

abbrev pub changed : ℕ → ℕ → Option PlainPage → Option PlainPage
changed g v None = None
changed g v (Some p) = Some (page_with g v p)

chosen : (b : Bool) (g v : ℕ) (p : PlainPage) (o : Option PlainPage) → cond b (Some (page_with g v p)) (changed g v o) ≡ changed g v (cond b (Some p) o)
chosen true g v p o = refl
chosen false g v p o = refl

-- the page of an address after a write
pub page_after : (M : PlainMemory) (g v h : ℕ) → plain_page (plain_with M g v) h ≡ changed g v (plain_page M h)
page_after [] g v h = refl
page_after (p ∷ ps) g v h =
    ap (λ (n : ℕ). cond (n == page_of h) (Some (page_with g v p)) (plain_page (plain_with ps g v) h)) (page_kept g v p)
    ∙ ap (λ (o : Option PlainPage). cond (p.page == page_of h) (Some (page_with g v p)) o) (page_after ps g v h)
    ∙ chosen (p.page == page_of h) g v p (plain_page ps h)

-- a page that is found is the address's
found_if : (b : Bool) (p q : PlainPage) (o : Option PlainPage) (P : PlainPage → Type 0) → (b ≡ true → P p) → (o ≡ Some q → P q) → cond b (Some p) o ≡ Some q → P q
found_if true p q o P this that e = let is : p ≡ q = cc in subst P is (this refl)
found_if false p q o P this that e = that e

pub found_is : (M : PlainMemory) (h : ℕ) (p : PlainPage) → plain_page M h ≡ Some p → p.page ≡ page_of h
found_is [] h p e = absurd cc
found_is (q ∷ qs) h p e = found_if (q.page == page_of h) q p (plain_page qs h) (λ (r : PlainPage). r.page ≡ page_of h) (λ t. eqb-true q.page (page_of h) t) (λ f. found_is qs h p f) e

whole_in : (M : PlainMemory) (h : ℕ) (p : PlainPage) → AllByRecursion (λ (r : PlainPage). length r.words ≡ 1024) M → plain_page M h ≡ Some p → length p.words ≡ 1024
whole_in [] h p all e = absurd cc
whole_in (q ∷ qs) h p all e = found_if (q.page == page_of h) q p (plain_page qs h) (λ (r : PlainPage). length r.words ≡ 1024) (λ t. all.0) (λ f. whole_in qs h p all.1 f) e

pub whole_page : (M : PlainMemory) (h : ℕ) (p : PlainPage) → AreWhole M → plain_page M h ≡ Some p → length p.words ≡ 1024
whole_page M h p whole e = whole_in M h p (recursion_from_All (λ (r : PlainPage). length r.words ≡ 1024) M whole) e

-- answers
same_answer : (g v : ℕ) (access : AccessKind) (o : Option PlainPage) → page_answer (changed g v o) access ≡ page_answer o access
same_answer g v access None = refl
same_answer g v access (Some p) = ap (λ (a : Rattle.spur_addr.specs.declared.page_entry.Protection.Protection). if grants a access then None else Some Protection) (protection_if (p.page == page_of g) (word_in_page g) v p)

pub write-keeps-answers : WriteKeepsAnswers
write-keeps-answers M g v h access =
    ap (λ (o : Option PlainPage). if is_aligned h then page_answer o access else Some Align) (page_after M g v h)
    ∙ ap (λ (a : Option FaultKind). if is_aligned h then a else Some Align) (same_answer g v access (plain_page M h))

-- the word is read again
pub written-is-read : WrittenIsRead
written-is-read M g v h p whole there same =
    let both = and_parts (page_of g == page_of h) (word_in_page g == word_in_page h) same in
    let pages : page_of g ≡ page_of h = eqb-true (page_of g) (page_of h) both.0 in
    let words : word_in_page g ≡ word_in_page h = eqb-true (word_in_page g) (word_in_page h) both.1 in
    let long : length p.words ≡ 1024 = whole_page M g p whole there in
    let at : plain_page M h ≡ Some p = ap (λ (n : ℕ). Rattle.std.specs.List.find (λ (q : PlainPage). q.page == n) M) (sym pages) ∙ there in
    let its : (p.page == page_of g) ≡ true = eq-eqb p.page (page_of g) (found_is M g p there) in
    let k : ℕ = word_in_page g in
    ap (λ (o : Option PlainPage). slice_index (page_words o) (word_in_page h)) (page_after M g v h ∙ ap (changed g v) at)
    ∙ ap (λ (b : Bool). slice_index (with_if b (word_in_page g) v p).words (word_in_page h)) its
    ∙ ap (slice_index (slice_set p.words (word_in_page g) v)) (sym words)
    ∙ get_or-set_same p.words (word_in_page g) v 0 (omega arith)

-- the others stay
stay_if : (b c : Bool) (k j v : ℕ) (p : PlainPage) → (c ≡ true → j ≢ k) → (b ≡ true → c ≡ true) → slice_index (with_if b k v p).words j ≡ slice_index p.words j
stay_if true c k j v p apart is = get_or-set_other p.words k j v 0 (apart (is refl))
stay_if false c k j v p apart is = refl

both_false : (a b : Bool) → (a && b) ≡ false → a ≡ true → b ≡ false
both_false true b h e = h
both_false false b h e = absurd cc

stay_in : (M : PlainMemory) (g v h : ℕ) (o : Option PlainPage) → plain_page M h ≡ o → same_word g h ≡ false
    → slice_index (page_words (changed g v o)) (word_in_page h) ≡ slice_index (page_words o) (word_in_page h)
stay_in M g v h None there apart = refl
stay_in M g v h (Some p) there apart =
    stay_if (p.page == page_of g) (page_of g == page_of h) (word_in_page g) (word_in_page h) v p
    (λ same e. eqb-false (word_in_page g) (word_in_page h) (both_false (page_of g == page_of h) (word_in_page g == word_in_page h) apart same) (sym e))
    (λ its. eq-eqb (page_of g) (page_of h) (sym (eqb-true p.page (page_of g) its) ∙ found_is M h p there))

pub others-stay : OthersStay
others-stay M g v h apart =
    ap (λ (o : Option PlainPage). slice_index (page_words o) (word_in_page h)) (page_after M g v h)
    ∙ stay_in M g v h (plain_page M h) refl apart

pub write-keeps-whole : WriteKeepsWhole
write-keeps-whole M g v whole =
    All-map (λ (p : PlainPage). length p.words ≡ 1024) (page_with g v) M
    (All-from_recursion (λ (p : PlainPage). length (page_with g v p).words ≡ 1024) M
    (each M (recursion_from_All (λ (p : PlainPage). length p.words ≡ 1024) M whole)))
  where
    each : (N : PlainMemory) → AllByRecursion (λ (p : PlainPage). length p.words ≡ 1024) N → AllByRecursion (λ (p : PlainPage). length (page_with g v p).words ≡ 1024) N
    each [] all = tt
    each (p ∷ ps) all = (long_if (p.page == page_of g) (word_in_page g) v p all.0, each ps all.1)

-- an access that is done has its page
no_page : (aligned : Bool) (access : AccessKind) → (if aligned then page_answer None access else Some Align) ≡ None → ⊥
no_page true access h = cc
no_page false access h = cc

declared_in : (M : PlainMemory) (access : AccessKind) (g : ℕ) (o : Option PlainPage) → plain_page M g ≡ o → (if is_aligned g then page_answer o access else Some Align) ≡ None → (p : PlainPage) × (plain_page M g ≡ Some p)
declared_in M access g None there h = absurd (no_page (is_aligned g) access h)
declared_in M access g (Some p) there h = (p, there)

pub done-is-declared : DoneIsDeclared
done-is-declared M access g done = declared_in M access g (plain_page M g) refl done
