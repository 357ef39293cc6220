-- A line holds a block of a page exactly where one of the 128 places of its blocks does.
use Rattle.std.proofs.Common.{◌≡◌, ℕ, zero, suc, ◌+◌, ◌*◌, ◌/◌, ◌%◌, ◌^◌, ◌<◌, ◌==◌, ◌||◌, Bool, true, false, if◌then◌else◌, Option, Some, None, refl, sym, ap, ◌∙◌, arith, List, [], ◌∷◌}
use Rattle.std.specs.Prelude.{is_some, slice_get}
use Rattle.std.specs.List.{list_any}
use Rattle.std.proofs.lemmas.Bool.{eq-eqb, eqb-true}
use Rattle.spur_flat.specs.declared.tag.Tag.{Tag}
use Rattle.spur_flat.specs.TagLines.{AreInPlace, joined, of_block, tag_index, standing_tag, tag_in}
use Rattle.spur_flat.specs.TagRules.{holds_page, is_tag_of_page}

-- a member that passes a test, by its place, and back
any_at : {X : Type 0} (p : X → Bool) (xs : List X) (k : ℕ) (x : X) → slice_get xs k ≡ Some x → p x ≡ true → list_any p xs ≡ true
any_at p [] k x h e = absurd cc
any_at p (y ∷ ys) zero x h e = let same : y ≡ x = cc in ap (λ (b : Bool). b || list_any p ys) (ap p same ∙ e)
any_at p (y ∷ ys) (suc k) x h e = or_true (p y) (any_at p ys k x h e) where
  or_true : (b : Bool) → list_any p ys ≡ true → (b || list_any p ys) ≡ true
  or_true true t = refl
  or_true false t = t

record IsAt {X : Type 0} (p : X → Bool) (xs : List X) : Type 0 where
  place : ℕ
  item : X
  there : slice_get xs place ≡ Some item
  passes : p item ≡ true

any_from : {X : Type 0} (p : X → Bool) (xs : List X) → list_any p xs ≡ true → IsAt p xs
any_from p [] h = absurd cc
any_from p (y ∷ ys) h = by_head (p y) refl h (λ t. any_from p ys t) where
  by_head : (b : Bool) → p y ≡ b → (b || list_any p ys) ≡ true → (list_any p ys ≡ true → IsAt p ys) → IsAt p (y ∷ ys)
  by_head true e t more = record { place = 0; item = y; there = refl; passes = e }
  by_head false e t more = let later = more t in record { place = suc later.place; item = later.item; there = later.there; passes = later.passes }

-- a tag of a block is one that stands on its place
of_some : (b : ℕ) (o : Option Tag) (t : Tag) → of_block b o ≡ Some t → (o ≡ Some t) × (t.block ≡ b)
of_some b None t h = absurd cc
of_some b (Some tag) t h = by_test (tag.block == b) refl h where
  by_test : (c : Bool) → (tag.block == b) ≡ c → (if c then Some tag else None) ≡ Some t → (Some tag ≡ Some t) × (t.block ≡ b)
  by_test true e g = let same : tag ≡ t = cc in (g, sym (ap (λ (x : Tag). x.block) same) ∙ eqb-true tag.block b e)
  by_test false e g = absurd cc

joined_some : (o : Option (Option Tag)) (t : Tag) → joined o ≡ Some t → o ≡ Some (Some t)
joined_some None t h = absurd cc
joined_some (Some x) t h = ap (λ (y : Option Tag). Some y) h

-- a block of the page that is found is held
pub found_holds : (lines : List (Option Tag)) (page j : ℕ) (t : Tag) → j < 128 → tag_in lines (page * 128 + j) ≡ Some t → holds_page page lines ≡ true
found_holds lines page j t small h =
    let both = of_some (page * 128 + j) (standing_tag lines (page * 128 + j)) t h in
    let is : t.block ≡ page * 128 + j = both.1 in
    let of : t.block / 2 ^ 7 ≡ page = omega arith in
    any_at (is_tag_of_page page) lines (tag_index lines (page * 128 + j)) (Some t) (joined_some _ t both.0) (eq-eqb (t.block / 2 ^ 7) page of)

-- where tags are in place, each is found on the place of its block
stands_there : (lines : List (Option Tag)) (k : ℕ) (t : Tag) → AreInPlace lines → slice_get lines k ≡ Some (Some t) → tag_in lines t.block ≡ Some t
stands_there lines k t placed h =
    let at : standing_tag lines t.block ≡ Some t = ap (λ (n : ℕ). joined (slice_get lines n)) (placed.each k t h) ∙ ap joined h in
    let self : (t.block == t.block) ≡ true = eq-eqb t.block t.block refl in
    ap (of_block t.block) at ∙ ap (λ (b : Bool). if b then Some t else None) self

-- so where none of the page's 128 blocks is found, no line holds one
pub none_holds : (lines : List (Option Tag)) (page : ℕ) → AreInPlace lines → ((i : ℕ) → i < 128 → tag_in lines (page * 128 + i) ≡ None) → holds_page page lines ≡ false
none_holds lines page placed none = by_test (holds_page page lines) refl where
  other : (at : ℕ) (item : Option Tag) → slice_get lines at ≡ Some item → is_tag_of_page page item ≡ true → ⊥
  other at None there passes = cc
  other at (Some t) there passes =
      let of : t.block / 2 ^ 7 ≡ page = eqb-true (t.block / 2 ^ 7) page passes in
      let is : t.block ≡ page * 128 + t.block % 128 = omega arith in
      let small : t.block % 128 < 128 = omega arith in
      let never : Some t ≡ None = sym (stands_there lines at t placed there) ∙ ap (tag_in lines) is ∙ none (t.block % 128) small in
      cc

  by_test : (b : Bool) → holds_page page lines ≡ b → holds_page page lines ≡ false
  by_test true e = let found = any_from (is_tag_of_page page) lines e in absurd (other found.place found.item found.there found.passes)
  by_test false e = e

-- a tag that is there
pub some_tag : (o : Option Tag) → is_some o ≡ true → (t : Tag) × (o ≡ Some t)
some_tag None e = absurd cc
some_tag (Some t) e = (t, refl)
