-- What the definitions of the lines say in plain words.
use Rattle.std.proofs.Common.{◌≡◌, ℕ, zero, suc, ◌+◌, ◌<◌, ◌≤◌, ◌/◌, ◌⊎◌, inl, inr, ⊎_elim, Bool, true, false, if◌then◌else◌, List, [], ◌∷◌, length, get_or, Option, Some, None, refl, sym, ap, ◌∙◌, subst, arith, add-zero, zero-add}
use Rattle.std.specs.Prelude.{Contains}
use Rattle.std.specs.List.Sorted.{IsStrictlyIncreasing}
use Rattle.std.proofs.lemmas.Bool.{eq-eqb, eqb-true}
use Rattle.spur_addr.specs.Address.{block_of, page_of}
use Rattle.spur_cache.specs.declared.line.Line.{Line}
use Rattle.spur_cache.specs.Lines.{tagged, line_at, index_of, is_of_page, page_lines_from, page_lines_of}
use Rattle.spur_cache.specs.Laws.{HoldsPage, FoundWhereItStands, FoundHasTheBlock, PageLinesHoldIt, PageLinesAscend}
use Rattle.spur_cache.proofs.CacheFacts.{tagged_there, found_tag, some_same}

pub found_where_it_stands : FoundWhereItStands
found_where_it_stands lines g slot line cache stands is =
    let place : index_of lines (block_of g) ≡ slot = ap (index_of lines) (sym is) ∙ cache.placed slot line stands in
    ap (λ (s : ℕ). tagged (block_of g) (line_at lines s)) place ∙ ap (tagged (block_of g)) stands ∙ tagged_there (block_of g) line is

pub found_has_the_block : FoundHasTheBlock
found_has_the_block lines g line is = found_tag lines g line is

-- all members are k or more
abbrev Above : ℕ → List ℕ → Type 0
Above k xs = (i : ℕ) → i < length xs → k ≤ get_or xs i 0

above_cons : (k : ℕ) (xs : List ℕ) → Above (k + 1) xs → Above k (k ∷ xs)
above_cons k xs above zero within = omega arith
above_cons k xs above (suc i) within = let more : k + 1 ≤ get_or xs i 0 = above i (omega arith) in omega arith

above_less : (k : ℕ) (xs : List ℕ) → Above (k + 1) xs → Above k xs
above_less k xs above i within = let more : k + 1 ≤ get_or xs i 0 = above i within in omega arith

increasing_cons : (k : ℕ) (xs : List ℕ) → Above (k + 1) xs → IsStrictlyIncreasing xs → IsStrictlyIncreasing (k ∷ xs)
increasing_cons k xs above rising zero within = let more : k + 1 ≤ get_or xs 0 0 = above 0 (omega arith) in omega arith
increasing_cons k xs above rising (suc i) within =
    let e : suc (i + 1) ≡ suc i + 1 = omega arith in
    subst (λ (n : ℕ). get_or xs i 0 < get_or (k ∷ xs) n 0) e (rising i (omega arith))

record Rises (k : ℕ) (xs : List ℕ) : Type 0 where
  above : Above k xs
  rising : IsStrictlyIncreasing xs

rises_if : (b : Bool) (k : ℕ) (xs : List ℕ) → Rises (k + 1) xs → Rises k (if b then k ∷ xs else xs)
rises_if true k xs rises = record { above = above_cons k xs rises.above; rising = increasing_cons k xs rises.above rises.rising }
rises_if false k xs rises = record { above = above_less k xs rises.above; rising = rises.rising }

rises : (page k : ℕ) (lines : List (Option Line)) → Rises k (page_lines_from page k lines)
rises page k [] = record { above = λ i within. absurd (omega arith); rising = λ i within. absurd (omega arith) }
rises page k (None ∷ rest) =
    let more = rises page (k + 1) rest in
    record { above = above_less k (page_lines_from page (k + 1) rest) more.above; rising = more.rising }
rises page k (Some line ∷ rest) = rises_if (is_of_page page line) k (page_lines_from page (k + 1) rest) (rises page (k + 1) rest)

pub page-lines-ascend : PageLinesAscend
page-lines-ascend lines g = (rises (page_of g) 0 lines).rising

-- what a list with one more member has
has_first : (x : ℕ) (xs : List ℕ) → Contains (x ∷ xs) x
has_first x xs = (0, omega arith, refl)

has_more : (x y : ℕ) (xs : List ℕ) → Contains xs y → Contains (x ∷ xs) y
has_more x y xs (i, within, is) = (suc i, omega arith, is)

has_one : (x y : ℕ) (xs : List ℕ) → Contains (x ∷ xs) y → (x ≡ y) ⊎ Contains xs y
has_one x y xs (zero, within, is) = inl is
has_one x y xs (suc i, within, is) = inr (i, omega arith, is)

-- a place of the lines from k on
record ToldFrom (lines : List (Option Line)) (page k slot : ℕ) : Type 0 where
  index : ℕ
  place : k + index ≡ slot
  holds : HoldsPage lines page index

told_later : (lines : List (Option Line)) (x : Option Line) (page k slot : ℕ) → ToldFrom lines page (k + 1) slot → ToldFrom (x ∷ lines) page k slot
told_later lines x page k slot told =
    let place : (k + 1) + told.index ≡ slot = told.place in
    let holds = told.holds in
    record { index = suc told.index; place = omega arith; holds = record { line = holds.line; stands = holds.stands; of_page = holds.of_page } }

told_if : (b : Bool) (lines : List (Option Line)) (line : Line) (page k slot : ℕ) (rest : List ℕ) → is_of_page page line ≡ b
    → (Contains rest slot → ToldFrom lines page (k + 1) slot) → Contains (if b then k ∷ rest else rest) slot → ToldFrom (Some line ∷ lines) page k slot
told_if true lines line page k slot rest is later has =
    ⊎_elim
    (λ (here : k ≡ slot). record { index = 0; place = add-zero k ∙ here; holds = record { line = line; stands = refl; of_page = eqb-true (line.tag / 128) page is } })
    (λ (more : Contains rest slot). told_later lines (Some line) page k slot (later more))
    (has_one k slot rest has)
told_if false lines line page k slot rest is later has = told_later lines (Some line) page k slot (later has)

told : (page k slot : ℕ) (lines : List (Option Line)) → Contains (page_lines_from page k lines) slot → ToldFrom lines page k slot
told page k slot [] (i, within, is) = absurd (omega arith)
told page k slot (None ∷ rest) has = told_later rest None page k slot (told page (k + 1) slot rest has)
told page k slot (Some line ∷ rest) has =
    told_if (is_of_page page line) rest line page k slot (page_lines_from page (k + 1) rest) refl (told page (k + 1) slot rest) has

tells_if : (b : Bool) (k slot : ℕ) (rest : List ℕ) → Contains rest slot → Contains (if b then k ∷ rest else rest) slot
tells_if true k slot rest has = has_more k slot rest has
tells_if false k slot rest has = has

-- and each is told
tells : (page k index : ℕ) (lines : List (Option Line)) (line : Line) → line_at lines index ≡ Some line → line.tag / 128 ≡ page → Contains (page_lines_from page k lines) (k + index)
tells page k index [] line stands of_page = cc
tells page k zero (None ∷ rest) line stands of_page = cc
tells page k zero (Some x ∷ rest) line stands of_page =
    let same : line ≡ x = sym (some_same x line stands) in
    let test : is_of_page page x ≡ true = eq-eqb (x.tag / 128) page (ap (λ (l : Line). l.tag / 128) (sym same) ∙ of_page) in
    let others : List ℕ = page_lines_from page (k + 1) rest in
    subst (λ (b : Bool). Contains (if b then k ∷ others else others) (k + 0)) (sym test)
    (subst (Contains (k ∷ others)) (sym (add-zero k)) (has_first k others))
tells page k (suc index) (None ∷ rest) line stands of_page =
    let e : (k + 1) + index ≡ k + suc index = omega arith in
    subst (Contains (page_lines_from page (k + 1) rest)) e (tells page (k + 1) index rest line stands of_page)
tells page k (suc index) (Some x ∷ rest) line stands of_page =
    let e : (k + 1) + index ≡ k + suc index = omega arith in
    tells_if (is_of_page page x) k (k + suc index) (page_lines_from page (k + 1) rest)
    (subst (Contains (page_lines_from page (k + 1) rest)) e (tells page (k + 1) index rest line stands of_page))

pub page-lines-hold-it : PageLinesHoldIt
page-lines-hold-it lines g slot = (
  (λ has.
      let it : ToldFrom lines (page_of g) 0 slot = told (page_of g) 0 slot lines has in
      let place : it.index ≡ slot = sym (zero-add it.index) ∙ it.place in
      subst (HoldsPage lines (page_of g)) place it.holds),
  (λ held. subst (Contains (page_lines_of lines g)) (zero-add slot) (tells (page_of g) 0 slot lines held.line held.stands held.of_page)),
)
