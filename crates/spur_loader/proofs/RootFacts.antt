-- The needed root entries: as the definition filters them, and as a sort leaves them.
use Rattle.std.specs.Prelude.{slice_get, Contains}
use Rattle.std.specs.List.{All, dedup, filter, range_with_len}
use Rattle.std.specs.List.Sorted.{IsPermutation, IsSorted, IsStrictlyIncreasing, IsBinarySearchResult}
use Rattle.std.specs.Ordering.{nat_cmp}
use Rattle.std.proofs.Common.{◌≡◌, ◌≢◌, ℕ, ◌+◌, ◌/◌, ◌^◌, ◌<◌, ◌==◌, List, [], ◌∷◌, Some, None, Result, Ok, Err, length, map, eqb, refl, sym, ap, ◌∙◌, subst, arith, zero, suc, Bool, true, false, cond}
use Rattle.std.proofs.lemmas.Bool.{eqb-true, eq-eqb}
use Rattle.std.proofs.Math.ListN.{get_or}
use Rattle.std.proofs.lemmas.List.Elements.{Contains-get_or}
use Rattle.std.proofs.lemmas.List.Kept.{Contains-dedup_nat, Contains-from_dedup, AllPairs-from_increasing, IsStrictlyIncreasing-filter}
use Rattle.std.proofs.lemmas.List.Sorted.{Contains-permutation, IsPermutation-sym, searched}
use Rattle.std.proofs.lemmas.Map.Keys.{IsStrictlyIncreasing-dedup}
use Rattle.std.proofs.lemmas.Option.{slice_get_within, slice_get-get_or, get_or_from_slice_get}
use Rattle.spur_object.specs.Limits.{IsPage}
use Rattle.spur_object.specs.declared.unit.PageText.{PageText}
use Rattle.spur_loader.specs.Opening.{page_numbers, first_place, root_of_page, needs_root, roots_of}
use Rattle.spur_loader.specs.Parts.{AreRoots}
use Rattle.std.proofs.lemmas.List.FromFn.{length-range_with_len, get_or-range_with_len}
use Rattle.std.proofs.lemmas.List.Folds.{list_any_at, Any-from_list_any}
use Rattle.spur_loader.proofs.ListFacts.{Placed, Absent, At, placed, place_at, map_get, any_get, all_get, contains_get, get_contains, mapped_contains, apart_ascending, search_finds, non_decreasing}
use Rattle.spur_loader.proofs.EntryWords.{page_key}

-- ---- the needed root entries

pub map_map : {X : Type 0} (f : X → ℕ) (g : ℕ → ℕ) (xs : List X) → map (λ x. g (f x)) xs ≡ map g (map f xs)
map_map f g [] = refl
map_map f g (x ∷ xs) = ap (λ (ys : List ℕ). g (f x) ∷ ys) (map_map f g xs)

-- a sort and the removal of what stands twice leave the same numbers, in ascending order
pub roots_are : (pages : List PageText) (made sorted roots : List ℕ) → made ≡ map (λ page. page.page / 1024) pages → IsPermutation made sorted
    → IsSorted nat_cmp sorted → roots ≡ dedup eqb sorted → AreRoots pages roots
roots_are pages made sorted roots is moved up kept =
    let whole : made ≡ map root_of_page (page_numbers pages) = is ∙ map_map (λ (page : PageText). page.page) root_of_page pages in
    record {
      ascending = rw kept (IsStrictlyIncreasing-dedup sorted up);
      needed = λ r. (
        (λ there. subst (λ (ns : List ℕ). Contains ns r) whole
            (Contains-permutation sorted made r (IsPermutation-sym made sorted moved) (Contains-from_dedup eqb sorted r (subst (λ (ns : List ℕ). Contains ns r) kept there)))),
        (λ there. subst (λ (ns : List ℕ). Contains ns r) (sym kept)
            (Contains-dedup_nat sorted r (Contains-permutation made sorted r moved (subst (λ (ns : List ℕ). Contains ns r) (sym whole) there)))),
      );
    }

-- the root entry of a page is needed
pub root_needed : (pages : List PageText) (roots : List ℕ) (k : ℕ) (page : PageText) → AreRoots pages roots → slice_get pages k ≡ Some page
    → Contains roots (page.page / 1024)
root_needed pages roots k page h at =
    (h.needed (page.page / 1024)).1 (subst (λ (ns : List ℕ). Contains ns (page.page / 1024)) (map_map (λ (p : PageText). p.page) root_of_page pages)
    (mapped_contains (λ (p : PageText). p.page / 1024) pages k page at))

-- a needed root entry is one of the 65,536
pub roots_within : (pages : List PageText) (roots : List ℕ) → All IsPage pages → AreRoots pages roots → All (λ r. r < 65536) roots
roots_within pages roots small h k d below =
    let r : ℕ = get_or roots k d in
    let c = contains_get (map root_of_page (page_numbers pages)) r ((h.needed r).0 (Contains-get_or roots k d below)) in
    let m = map_get root_of_page (page_numbers pages) c.position r (c.at ∙ ap Some c.holds) in
    let n = map_get page_key pages c.position m.member m.at in
    let low : n.member.page < 2 ^ 26 = all_get IsPage pages c.position n.member small n.at in
    let number : n.member.page ≡ m.member = n.is in
    let root : m.member / 1024 ≡ r = m.is in
    omega arith

-- ---- ascending lists of the same numbers are the same

-- a number is at a position
pub record IsIn (xs : List ℕ) (r : ℕ) : Type 0 where
  pub position : ℕ
  pub at : slice_get xs position ≡ Some r

-- later numbers are greater
record IsUp (xs : List ℕ) : Type 0 where
  up : (i j r s : ℕ) → slice_get xs i ≡ Some r → slice_get xs j ≡ Some s → i < j → r < s

up_from : (xs : List ℕ) → IsStrictlyIncreasing xs → IsUp xs
up_from xs h = record {
  up = λ i j r s a b below.
      let l : get_or xs i 0 < get_or xs j 0 = AllPairs-from_increasing xs h i j 0 below (slice_get_within xs j s b) in
      let x : get_or xs i 0 ≡ r = get_or_from_slice_get xs i r 0 a in
      let y : get_or xs j 0 ≡ s = get_or_from_slice_get xs j s 0 b in
      omega arith;
}

up_tail : (x : ℕ) (xs : List ℕ) → IsUp (x ∷ xs) → IsUp xs
up_tail x xs h = record { up = λ i j r s a b below. h.up (suc i) (suc j) r s a b (omega arith) }

head_by : (x y : ℕ) (xs ys : List ℕ) → IsUp (x ∷ xs) → IsUp (y ∷ ys) → (i j : ℕ) → slice_get (y ∷ ys) i ≡ Some x → slice_get (x ∷ xs) j ≡ Some y → x ≡ y
head_by x y xs ys up-x up-y zero j a b = let e : Some y ≡ Some x = a in cc
head_by x y xs ys up-x up-y (suc i) zero a b = let e : Some x ≡ Some y = b in cc
head_by x y xs ys up-x up-y (suc i) (suc j) a b =
    let l : y < x = up-y.up zero (suc i) y x refl a (omega arith) in
    let m : x < y = up-x.up zero (suc j) x y refl b (omega arith) in
    omega arith

tail_by : (y : ℕ) (ys : List ℕ) (r i : ℕ) → slice_get (y ∷ ys) i ≡ Some r → r ≢ y → IsIn ys r
tail_by y ys r zero at other = let e : Some y ≡ Some r = at in absurd (other (let f : r ≡ y = cc in f))
tail_by y ys r (suc i) at other = record { position = i; at = at }

above_head : (x r i : ℕ) (xs : List ℕ) → IsUp (x ∷ xs) → slice_get xs i ≡ Some r → r ≢ x
above_head x r i xs up at same = let l : x < r = up.up zero (suc i) x r refl at (omega arith) in omega arith

same_members : (xs ys : List ℕ) → IsUp xs → IsUp ys → ((r i : ℕ) → slice_get xs i ≡ Some r → IsIn ys r) → ((r i : ℕ) → slice_get ys i ≡ Some r → IsIn xs r) → xs ≡ ys
same_members [] [] up-x up-y forth back = refl
same_members [] (y ∷ ys) up-x up-y forth back = let b = back y 0 refl in let e : None ≡ Some y = b.at in cc
same_members (x ∷ xs) [] up-x up-y forth back = let b = forth x 0 refl in let e : None ≡ Some x = b.at in cc
same_members (x ∷ xs) (y ∷ ys) up-x up-y forth back =
    let a = forth x 0 refl in
    let b = back y 0 refl in
    let head : x ≡ y = head_by x y xs ys up-x up-y a.position b.position a.at b.at in
    let tail : xs ≡ ys = same_members xs ys (up_tail x xs up-x) (up_tail y ys up-y)
    (λ r i at. let f = forth r (suc i) at in tail_by y ys r f.position f.at (λ e. above_head x r i xs up-x at (e ∙ sym head)))
    (λ r i at. let f = back r (suc i) at in tail_by x xs r f.position f.at (λ e. above_head y r i ys up-y at (e ∙ head))) in
    ap (λ (z : ℕ). z ∷ xs) head ∙ ap (λ (zs : List ℕ). y ∷ zs) tail

-- ---- what a filter keeps

keeps_by : (p : ℕ → Bool) (x : ℕ) (xs : List ℕ) (r : ℕ) → IsIn (filter p xs) r → (b : Bool) → p x ≡ b → IsIn (filter p (x ∷ xs)) r
keeps_by p x xs r h true e = record { position = suc h.position; at = ap (λ (b : Bool). slice_get (cond b (x ∷ filter p xs) (filter p xs)) (suc h.position)) e ∙ h.at }
keeps_by p x xs r h false e = record { position = h.position; at = ap (λ (b : Bool). slice_get (cond b (x ∷ filter p xs) (filter p xs)) h.position) e ∙ h.at }

keeps : (p : ℕ → Bool) (xs : List ℕ) (r i : ℕ) → slice_get xs i ≡ Some r → p r ≡ true → IsIn (filter p xs) r
keeps p [] r i at holds = cc
keeps p (x ∷ xs) r zero at holds =
    let e : Some x ≡ Some r = at in
    let same : x ≡ r = cc in
    record { position = 0; at = ap (λ (b : Bool). slice_get (cond b (x ∷ filter p xs) (filter p xs)) 0) (ap p same ∙ holds) ∙ ap Some same }
keeps p (x ∷ xs) r (suc i) at holds = keeps_by p x xs r (keeps p xs r i at holds) (p x) refl

-- what is kept passes the test
holds_by : (p : ℕ → Bool) (x : ℕ) (xs : List ℕ) (r i : ℕ) → ((k : ℕ) → slice_get (filter p xs) k ≡ Some r → p r ≡ true) → (b : Bool) → p x ≡ b
    → slice_get (cond b (x ∷ filter p xs) (filter p xs)) i ≡ Some r → p r ≡ true
holds_by p x xs r zero later true e at = let f : Some x ≡ Some r = at in let same : x ≡ r = cc in ap p (sym same) ∙ e
holds_by p x xs r (suc i) later true e at = later i at
holds_by p x xs r i later false e at = later i at

holds : (p : ℕ → Bool) (xs : List ℕ) (r i : ℕ) → slice_get (filter p xs) i ≡ Some r → p r ≡ true
holds p [] r i at = cc
holds p (x ∷ xs) r i at = holds_by p x xs r i (holds p xs r) (p x) refl at

-- ---- the definition

range_up : (n : ℕ) → IsStrictlyIncreasing (range_with_len 0 n)
range_up n k below =
    let size : length (range_with_len 0 n) ≡ n = length-range_with_len 0 n in
    let a : get_or (range_with_len 0 n) k 0 ≡ 0 + k = get_or-range_with_len 0 n k 0 (omega arith) in
    let b : get_or (range_with_len 0 n) (k + 1) 0 ≡ 0 + (k + 1) = get_or-range_with_len 0 n (k + 1) 0 (omega arith) in
    omega arith

range_has : (n r : ℕ) → r < n → slice_get (range_with_len 0 n) r ≡ Some r
range_has n r below =
    let within : r < length (range_with_len 0 n) = omega (arith, length-range_with_len 0 n) in
    let z : 0 + r ≡ r = omega arith in
    slice_get-get_or (range_with_len 0 n) r 0 within ∙ ap Some (get_or-range_with_len 0 n r 0 below ∙ z)

-- a root entry is needed where a page has it
needs_at : (pages : List PageText) (r k : ℕ) (page : PageText) → slice_get pages k ≡ Some page → page.page / 1024 ≡ r → needs_root pages r ≡ true
needs_at pages r k page at is =
    list_any_at (λ (p : PageText). root_of_page p.page == r) pages k page (slice_get_within pages k page at)
    (ap (λ (p : PageText). root_of_page p.page == r) (get_or_from_slice_get pages k page page at) ∙ eq-eqb (page.page / 1024) r is)

roots_have : (pages : List PageText) → All IsPage pages → (r : ℕ) → Contains (map root_of_page (page_numbers pages)) r → Contains (filter (needs_root pages) (range_with_len 0 65536)) r
roots_have pages small r there =
    let c = contains_get (map root_of_page (page_numbers pages)) r there in
    let m = map_get root_of_page (page_numbers pages) c.position r (c.at ∙ ap Some c.holds) in
    let n = map_get page_key pages c.position m.member m.at in
    let low : n.member.page < 2 ^ 26 = all_get IsPage pages c.position n.member small n.at in
    let number : n.member.page ≡ m.member = n.is in
    let root : m.member / 1024 ≡ r = m.is in
    let is : n.member.page / 1024 ≡ r = ap root_of_page number ∙ root in
    let below : r < 65536 = omega arith in
    let k = keeps (needs_root pages) (range_with_len 0 65536) r r (range_has 65536 r below) (needs_at pages r c.position n.member n.at is) in
    get_contains (filter (needs_root pages) (range_with_len 0 65536)) k.position r k.at

roots_come : (pages : List PageText) (r : ℕ) → Contains (filter (needs_root pages) (range_with_len 0 65536)) r → Contains (map root_of_page (page_numbers pages)) r
roots_come pages r there =
    let c = contains_get (filter (needs_root pages) (range_with_len 0 65536)) r there in
    let t = holds (needs_root pages) (range_with_len 0 65536) r c.position (c.at ∙ ap Some c.holds) in
    let m = any_get (λ (p : PageText). (root_of_page p.page == r) ≡ true) pages (Any-from_list_any (λ (p : PageText). root_of_page p.page == r) pages t) in
    subst (λ (ns : List ℕ). Contains ns r) (map_map (λ (p : PageText). p.page) root_of_page pages)
    (subst (Contains (map (λ (p : PageText). p.page / 1024) pages)) (eqb-true (m.member.page / 1024) r m.holds)
    (mapped_contains (λ (p : PageText). p.page / 1024) pages m.position m.member m.at))

-- the defined root entries are those that are needed
pub roots_of_are : (pages : List PageText) → All IsPage pages → AreRoots pages (roots_of pages)
unfolding roots_of
roots_of_are pages small = record {
  ascending = IsStrictlyIncreasing-filter (needs_root pages) (range_with_len 0 65536) (range_up 65536);
  needed = λ r. (roots_come pages r, roots_have pages small r);
}

-- and all root entries that are needed are the defined ones
pub roots_same : (pages : List PageText) (roots : List ℕ) → All IsPage pages → AreRoots pages roots → roots ≡ roots_of pages
roots_same pages roots small h =
    let d = roots_of_are pages small in
    same_members roots (roots_of pages) (up_from roots h.ascending) (up_from (roots_of pages) d.ascending)
    (λ r i at. let c = contains_get (roots_of pages) r ((d.needed r).1 ((h.needed r).0 (get_contains roots i r at))) in record { position = c.position; at = c.at ∙ ap Some c.holds })
    (λ r i at. let c = contains_get roots r ((h.needed r).1 ((d.needed r).0 (get_contains (roots_of pages) i r at))) in record { position = c.position; at = c.at ∙ ap Some c.holds })

-- ---- a search in ascending numbers

abbrev pub IsPlace : List ℕ → ℕ → Result ℕ ℕ → Type 0
IsPlace xs x (Ok i) = first_place xs x ≡ Some i
IsPlace xs x (Err i) = first_place xs x ≡ None

not_placed : (xs : List ℕ) (x i : ℕ) → IsStrictlyIncreasing xs → IsBinarySearchResult (λ y. nat_cmp y x) xs (Err i) → Placed 0 xs x → first_place xs x ≡ None
not_placed xs x i up answer (Absent none lacks) = none
not_placed xs x i up answer (At j is there) = absurd (search_finds xs x (Err i) up (get_contains xs j x there) answer)

found_at : (xs : List ℕ) (x i : ℕ) → IsStrictlyIncreasing xs → IsBinarySearchResult (λ y. nat_cmp y x) xs (Ok i) → slice_get xs i ≡ Some x
found_at xs x i up answer =
    let s = searched xs x (Ok i) answer (non_decreasing xs up) in
    slice_get-get_or xs i 0 s.0 ∙ ap Some s.1

-- a search tells the place
pub search_places : (xs : List ℕ) (x : ℕ) (r : Result ℕ ℕ) → IsStrictlyIncreasing xs → IsBinarySearchResult (λ y. nat_cmp y x) xs r → IsPlace xs x r
search_places xs x (Ok i) up answer = place_at xs i x (apart_ascending xs up) (found_at xs x i up answer)
search_places xs x (Err i) up answer = not_placed xs x i up answer (placed 0 xs x)
