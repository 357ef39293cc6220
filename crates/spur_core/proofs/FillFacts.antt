-- Slots are filled one after the other.
use Rattle.std.proofs.Common.{◌≡◌, ◌∙◌, ℕ, zero, suc, ne_eqb, ◌+◌, ◌-◌, ◌*◌, ◌<◌, ◌≤◌, ◌==◌, ◌&&◌, Bool, true, false, if◌then◌else◌, ap, sym, refl, List, [], ◌∷◌, ◌++◌, length, take, drop, replicate, Option, Some, None, arith}
use Rattle.std.proofs.lemmas.List.{drop-drop, drop-replicate, drop-take, length-drop, length-replicate, length-take-le, take-append-drop, take-replicate, take-take, take_all}
use Rattle.std.proofs.lemmas.List.Edits.{drop-paste, length-paste, take-paste}
use Rattle.std.proofs.lemmas.Bool.{false≢true}
use Rattle.spur_addr.specs.Pages.{page_at, with_page}
use Rattle.spur_swap.specs.Pages.{zero_pages}
use Rattle.spur_swap.specs.Meaning.{SameButFaults, Swap, after_write, with_slots}
use Rattle.spur_swap.specs.Told.{told_with, told_zeros}
use Rattle.spur_core.specs.Filled.{calls_more, filled_with, is_zero_page, nonzero_pages, told_as, with_slot_page, with_slot_pages}

-- the count of faults stands apart from what a page changes
slot_faults : (t : Bool) (s : Swap) (f slot : ℕ) (page : List ℕ)
    → (let r = record s { faults = f } in if t then r else after_write r (told_with r.pages slot page)) ≡ record (if t then s else after_write s (told_with s.pages slot page)) { faults = f }
slot_faults true s f slot page = refl
slot_faults false s f slot page = refl

pages_faults : (s : Swap) (f : ℕ) (words : List ℕ) (n : ℕ) → with_slot_pages (record s { faults = f }) words n ≡ record (with_slot_pages s words n) { faults = f }
pages_faults s f words zero = refl
pages_faults s f words (suc n) =
    ap (λ (x : Swap). with_slot_page x n (page_at words n)) (pages_faults s f words n)
    ∙ slot_faults (is_zero_page (page_at words n)) (with_slot_pages s words n) f n (page_at words n)

-- one page more
pub slot_then : (s old new : Swap) (slot : ℕ) (page : List ℕ) → SameButFaults s old → SameButFaults (with_slot_page old slot page) new → SameButFaults (with_slot_page s slot page) new
slot_then s old new slot page was put =
    put ∙ ap (λ (x : Swap). record x { faults = new.faults })
    (ap (λ (x : Swap). with_slot_page x slot page) was ∙ slot_faults (is_zero_page page) s old.faults slot page)

-- pages after the slots were made
pages_then : (s mid new : Swap) (words : List ℕ) (n : ℕ) → SameButFaults s mid → SameButFaults (with_slot_pages mid words n) new → SameButFaults (with_slot_pages s words n) new
pages_then s mid new words n was put =
    put ∙ ap (λ (x : Swap). record x { faults = new.faults })
    (ap (λ (x : Swap). with_slot_pages x words n) was ∙ pages_faults s mid.faults words n)

-- no slot comes or goes
pub slots_stay : (s new : Swap) (slot n : ℕ) (page : List ℕ) → SameButFaults (with_slot_page s slot page) new → s.slots ≡ n → new.slots ≡ n
slots_stay s new slot n page put had = ap (λ (x : Swap). x.slots) put ∙ stay (is_zero_page page) ∙ had
  where
    stay : (t : Bool) → (if t then s else after_write s (told_with s.pages slot page)).slots ≡ s.slots
    stay true = refl
    stay false = refl

take_sum : {X : Type 0} (a b : ℕ) (xs : List X) → take (a + b) xs ≡ take a xs ++ take b (drop a xs)
take_sum {X} a b xs =
    sym (take-append-drop a (take (a + b) xs))
    ∙ ap (λ (ys : List X). ys ++ drop a (take (a + b) xs)) (take-take a (a + b) xs (omega arith))
    ∙ ap (λ (ys : List X). take a xs ++ ys) (drop-take a b xs)

eq_zero : (w : ℕ) → (w == 0) ≡ true → w ≡ 0
eq_zero zero h = refl
eq_zero (suc w) h = absurd (false≢true (sym (ne_eqb (suc w) 0 (λ q. omega arith)) ∙ h))

zero_if : (w : ℕ) (ws : List ℕ) (t u : Bool) → (w == 0) ≡ t → is_zero_page ws ≡ u → (t && u) ≡ true → (is_zero_page ws ≡ true → ws ≡ replicate (length ws) 0) → w ∷ ws ≡ replicate (length (w ∷ ws)) 0
zero_if w ws true true is all h rest = let z = eq_zero w is in let zs = rest all in λ k. z k ∷ zs k
zero_if w ws true false is all h rest = absurd cc
zero_if w ws false u is all h rest = absurd cc

-- a page of zeros
zero_page : (page : List ℕ) → is_zero_page page ≡ true → page ≡ replicate (length page) 0
zero_page [] h = refl
zero_page (w ∷ ws) h = zero_if w ws (w == 0) (is_zero_page ws) refl refl h (λ q. zero_page ws q)

-- the first k slots of n hold their pages, and the others zeros
record AreFilled (swap words : List ℕ) (k n : ℕ) : Type 0 where
  long : length words ≡ 1024 * n
  front : take (k * 1024) words ≡ take (k * 1024) swap
  rest : drop (k * 1024) words ≡ drop (k * 1024) (zero_pages n)

-- a page has 1024 words
page_long : (swap : List ℕ) (k n : ℕ) → length swap ≡ 1024 * n → k < n → length (page_at swap k) ≡ 1024
page_long swap k n whole within = let left = length-drop (k * 1024) swap in length-take-le 1024 (drop (k * 1024) swap) (omega arith)

-- a page is written
filled_put : (swap words : List ℕ) (k n : ℕ) → length swap ≡ 1024 * n → k < n → AreFilled swap words k n → AreFilled swap (with_page words k (page_at swap k)) (suc k) n
filled_put swap words k n whole within was =
    let page : List ℕ = page_at swap k in
    let long : length page ≡ 1024 = page_long swap k n whole within in
    let more : k * 1024 + 1024 ≡ suc k * 1024 = omega arith in
    let had = was.long in
    record {
      long = length-paste words (k * 1024) page 1024 (omega arith) (omega arith) ∙ was.long;
      front = ap (λ (i : ℕ). take i (with_page words k page)) (sym more) ∙ take-paste words (k * 1024) page 1024 (omega arith) (omega arith)
          ∙ ap (λ (ys : List ℕ). ys ++ take 1024 page) was.front ∙ ap (λ (ys : List ℕ). take (k * 1024) swap ++ ys) (take_all 1024 page (omega arith))
          ∙ sym (take_sum (k * 1024) 1024 swap) ∙ ap (λ (i : ℕ). take i swap) more;
      rest = ap (λ (i : ℕ). drop i (with_page words k page)) (sym more) ∙ drop-paste words (k * 1024) page 1024 (omega arith) (omega arith)
          ∙ sym (drop-drop 1024 (k * 1024) words) ∙ ap (λ (ys : List ℕ). drop 1024 ys) was.rest ∙ drop-drop 1024 (k * 1024) (zero_pages n) ∙ ap (λ (i : ℕ). drop i (zero_pages n)) more;
    }

-- a page of zeros is left out
filled_out : (swap words : List ℕ) (k n : ℕ) → length swap ≡ 1024 * n → k < n → is_zero_page (page_at swap k) ≡ true → AreFilled swap words k n → AreFilled swap words (suc k) n
filled_out swap words k n whole within none was =
    let page : List ℕ = page_at swap k in
    let long : length page ≡ 1024 = page_long swap k n whole within in
    let more : k * 1024 + 1024 ≡ suc k * 1024 = omega arith in
    let zeros : take 1024 (drop (k * 1024) words) ≡ page =
    ap (λ (ys : List ℕ). take 1024 ys) (was.rest ∙ drop-replicate (k * 1024) (1024 * n) 0) ∙ take-replicate 1024 (1024 * n - k * 1024) 0 (omega arith) ∙ ap (λ (i : ℕ). replicate i 0) (sym long) ∙ sym (zero_page page none) in
    record {
      long = was.long;
      front = ap (λ (i : ℕ). take i words) (sym more) ∙ take_sum (k * 1024) 1024 words ∙ ap (λ (ys : List ℕ). ys ++ take 1024 (drop (k * 1024) words)) was.front
          ∙ ap (λ (ys : List ℕ). take (k * 1024) swap ++ ys) zeros ∙ sym (take_sum (k * 1024) 1024 swap) ∙ ap (λ (i : ℕ). take i swap) more;
      rest = ap (λ (i : ℕ). drop i words) (sym more) ∙ sym (drop-drop 1024 (k * 1024) words) ∙ ap (λ (ys : List ℕ). drop 1024 ys) was.rest ∙ drop-drop 1024 (k * 1024) (zero_pages n) ∙ ap (λ (i : ℕ). drop i (zero_pages n)) more;
    }

-- told pages of which the first k slots of n are filled
record HoldFilled (now : Option (List ℕ)) (swap : List ℕ) (k n : ℕ) : Type 0 where
  words : List ℕ
  told : now ≡ Some words
  filled : AreFilled swap words k n

AreTold : Option (List ℕ) → Option (List ℕ) → List ℕ → ℕ → ℕ → Type 0
AreTold None now swap k n = now ≡ None
AreTold (Some before) now swap k n = HoldFilled now swap k n

-- what k pages changed
record IsFilledTo (s now : Swap) (swap : List ℕ) (k n : ℕ) : Type 0 where
  pages : AreTold s.pages now.pages swap k n
  rest : now ≡ record s { pages = now.pages; slots = n; writes = calls_more (nonzero_pages swap k) s.writes }

told_none : (before : Option (List ℕ)) (swap : List ℕ) (n : ℕ) → AreTold before (told_zeros before n) swap 0 n
unfolding AreTold
told_none None swap n = refl
told_none (Some before) swap n = record {
  words = zero_pages n;
  told = refl;
  filled = record { long = length-replicate (1024 * n) 0; front = refl; rest = refl };
}

told_put : (before now : Option (List ℕ)) (swap : List ℕ) (k n : ℕ) → length swap ≡ 1024 * n → k < n → AreTold before now swap k n → AreTold before (told_with now k (page_at swap k)) swap (suc k) n
unfolding AreTold
told_put None now swap k n whole within was = ap (λ (o : Option (List ℕ)). told_with o k (page_at swap k)) was
told_put (Some before) now swap k n whole within was = record {
  words = with_page was.words k (page_at swap k);
  told = ap (λ (o : Option (List ℕ)). told_with o k (page_at swap k)) was.told;
  filled = filled_put swap was.words k n whole within was.filled;
}

told_out : (before now : Option (List ℕ)) (swap : List ℕ) (k n : ℕ) → length swap ≡ 1024 * n → k < n → is_zero_page (page_at swap k) ≡ true → AreTold before now swap k n → AreTold before now swap (suc k) n
unfolding AreTold
told_out None now swap k n whole within none was = was
told_out (Some before) now swap k n whole within none was = record { words = was.words; told = was.told; filled = filled_out swap was.words k n whole within none was.filled }

told_all : (before now : Option (List ℕ)) (swap : List ℕ) (n : ℕ) → length swap ≡ 1024 * n → AreTold before now swap n n → now ≡ told_as before swap
unfolding AreTold
told_all None now swap n whole was = was
told_all (Some before) now swap n whole was =
    let f = was.filled in
    let long = f.long in
    was.told ∙ ap (λ (ws : List ℕ). Some ws) (sym (take_all (n * 1024) was.words (omega arith)) ∙ f.front ∙ take_all (n * 1024) swap (omega arith))

-- one page more, by whether it is all zeros
filled_if : (s now : Swap) (swap : List ℕ) (k n : ℕ) (t : Bool) → is_zero_page (page_at swap k) ≡ t → length swap ≡ 1024 * n → k < n → IsFilledTo s now swap k n
    → IsFilledTo s (if t then now else after_write now (told_with now.pages k (page_at swap k))) swap (suc k) n
filled_if s now swap k n true zeros whole within was = record {
  pages = told_out s.pages now.pages swap k n whole within zeros was.pages;
  rest = was.rest ∙ ap (λ (m : ℕ). record s { pages = now.pages; slots = n; writes = calls_more m s.writes }) (sym (ap (λ (b : Bool). if b then nonzero_pages swap k else suc (nonzero_pages swap k)) zeros));
}
filled_if s now swap k n false zeros whole within was =
    let told : Option (List ℕ) = told_with now.pages k (page_at swap k) in
    record {
      pages = told_put s.pages now.pages swap k n whole within was.pages;
      rest = ap (λ (x : Swap). after_write x told) was.rest
          ∙ ap (λ (m : ℕ). record s { pages = told; slots = n; writes = calls_more m s.writes }) (sym (ap (λ (b : Bool). if b then nonzero_pages swap k else suc (nonzero_pages swap k)) zeros));
    }

filled_to : (s : Swap) (swap : List ℕ) (k n : ℕ) → length swap ≡ 1024 * n → k ≤ n → IsFilledTo s (with_slot_pages (with_slots s n) swap k) swap k n
filled_to s swap zero n whole within = record { pages = told_none s.pages swap n; rest = refl }
filled_to s swap (suc k) n whole within =
    filled_if s (with_slot_pages (with_slots s n) swap k) swap k n (is_zero_page (page_at swap k)) refl whole (omega arith) (filled_to s swap k n whole (omega arith))

-- slots are made, and then each page is written into its slot
pub filled_all : (s mid new : Swap) (swap : List ℕ) (n : ℕ) → length swap ≡ 1024 * n → SameButFaults (with_slots s n) mid → SameButFaults (with_slot_pages mid swap n) new → SameButFaults (filled_with s n swap) new
filled_all s mid new swap n whole made put =
    let f = filled_to s swap n n whole (omega arith) in
    let x : Swap = with_slot_pages (with_slots s n) swap n in
    let is : x ≡ filled_with s n swap = f.rest ∙ ap (λ (told : Option (List ℕ)). record s { pages = told; slots = n; writes = calls_more (nonzero_pages swap n) s.writes }) (told_all s.pages x.pages swap n whole f.pages) in
    pages_then (with_slots s n) mid new swap n made put ∙ ap (λ (y : Swap). record y { faults = new.faults }) is
