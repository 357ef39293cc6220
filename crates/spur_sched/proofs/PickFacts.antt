-- Which board is next.
use Rattle.std.proofs.Common.{◌≡◌, ◌∙◌, ℕ, zero, suc, ◌+◌, ◌-◌, ◌<◌, ◌%◌, Bool, true, false, ap, sym, refl, List, [], ◌∷◌, drop, length, Option, Some, None, arith, get_or}
use Rattle.std.specs.Prelude.{is_some, slice_get}
use Rattle.std.proofs.lemmas.Nat.{mod_below}
use Rattle.std.proofs.lemmas.Option.{slice_get-get_or}
use Rattle.spur_board.specs.declared.board.Board.{Board}
use Rattle.spur_core.proofs.AskFacts.{none_if}
use Rattle.spur_core.specs.Own.{IsUnended}
use Rattle.spur_sched.specs.Picks.{are_out, picked_board, running_boards, running_from}

-- a board that has ended, and one that has not
out_from : {C : Type 0} (bs : List (Board C)) (k i : ℕ) (b : Board C) → slice_get bs i ≡ Some b → is_some b.ended ≡ true → running_from k (drop i (are_out bs)) ≡ running_from (k + 1) (drop (suc i) (are_out bs))
out_from [] k i b at out = absurd cc
out_from {C} (x ∷ xs) k zero b at out = let same : x ≡ b = cc in ap (λ (o : Bool). running_from k (o ∷ are_out xs)) (ap (λ (y : Board C). is_some y.ended) same ∙ out)
out_from (x ∷ xs) k (suc i) b at out = out_from xs k i b at out

in_from : {C : Type 0} (bs : List (Board C)) (k i : ℕ) (b : Board C) → slice_get bs i ≡ Some b → is_some b.ended ≡ false → running_from k (drop i (are_out bs)) ≡ k ∷ running_from (k + 1) (drop (suc i) (are_out bs))
in_from [] k i b at out = absurd cc
in_from {C} (x ∷ xs) k zero b at out = let same : x ≡ b = cc in ap (λ (o : Bool). running_from k (o ∷ are_out xs)) (ap (λ (y : Board C). is_some y.ended) same ∙ out)
in_from (x ∷ xs) k (suc i) b at out = in_from xs k i b at out

pub step_out : {C : Type 0} (bs : List (Board C)) (i : ℕ) (b : Board C) → slice_get bs i ≡ Some b → is_some b.ended ≡ true → running_from i (drop i (are_out bs)) ≡ running_from (i + 1) (drop (i + 1) (are_out bs))
step_out bs i b at out = let more : suc i ≡ i + 1 = omega arith in out_from bs i i b at out ∙ ap (λ (n : ℕ). running_from (i + 1) (drop n (are_out bs))) more

pub step_in : {C : Type 0} (bs : List (Board C)) (i : ℕ) (b : Board C) → slice_get bs i ≡ Some b → is_some b.ended ≡ false → running_from i (drop i (are_out bs)) ≡ i ∷ running_from (i + 1) (drop (i + 1) (are_out bs))
step_in bs i b at out = let more : suc i ≡ i + 1 = omega arith in in_from bs i i b at out ∙ ap (λ (n : ℕ). i ∷ running_from (i + 1) (drop n (are_out bs))) more

-- a board that is picked is there, and has not ended
record Found {C : Type 0} (bs : List (Board C)) (k b : ℕ) : Type 0 where
  place : ℕ
  is : b ≡ k + place
  board : Board C
  there : slice_get bs place ≡ Some board
  running : board.ended ≡ None

found_further : {C : Type 0} (x : Board C) (xs : List (Board C)) (k b : ℕ) → Found xs (k + 1) b → Found (x ∷ xs) k b
found_further x xs k b f = let is = f.is in record { place = suc f.place; is = omega arith; board = f.board; there = f.there; running = f.running }

found_at : {C : Type 0} (x : Board C) (xs : List (Board C)) (k b : ℕ) (o : Bool) (j : ℕ) → ((i : ℕ) → slice_get (running_from (k + 1) (are_out xs)) i ≡ Some b → Found xs (k + 1) b) → is_some x.ended ≡ o → slice_get (running_from k (o ∷ are_out xs)) j ≡ Some b → Found (x ∷ xs) k b
found_at x xs k b true j rest is e = found_further x xs k b (rest j e)
found_at x xs k b false zero rest is e = let same : k ≡ b = cc in record { place = 0; is = omega arith; board = x; there = refl; running = none_if x.ended is }
found_at x xs k b false (suc j) rest is e = found_further x xs k b (rest j e)

found_by : {C : Type 0} (bs : List (Board C)) (k j b : ℕ) → slice_get (running_from k (are_out bs)) j ≡ Some b → Found bs k b
found_by [] k j b at = absurd cc
found_by (x ∷ xs) k j b at = found_at x xs k b (is_some x.ended) j (λ i e. found_by xs (k + 1) i b e) refl at

pub running_picked : {C : Type 0} (bs : List (Board C)) (x b : ℕ) → picked_board x (running_boards (are_out bs)) ≡ Some b → IsUnended bs b
running_picked bs x b picked =
    let f = found_by bs 0 _ b picked in
    let is = f.is in
    let same : b ≡ f.place = omega arith in
    record { board = f.board; there = ap (slice_get bs) same ∙ f.there; going = f.running }

none_some : (x : ℕ) → ◌≡◌ {A = Option ℕ} None (Some x) → ⊥
none_some x h = absurd cc

-- where no board is picked none is left
pub none_picked : (boards : List ℕ) (n : ℕ) → slice_get boards (n % length boards) ≡ None → boards ≡ []
none_picked [] n h = refl
none_picked (y ∷ ys) n h =
    let within : n % length (y ∷ ys) < length (y ∷ ys) = mod_below n (length (y ∷ ys)) (omega arith) in
    let there : slice_get (y ∷ ys) (n % length (y ∷ ys)) ≡ Some (get_or (y ∷ ys) (n % length (y ∷ ys)) y) = slice_get-get_or (y ∷ ys) (n % length (y ∷ ys)) y within in
    absurd (none_some (get_or (y ∷ ys) (n % length (y ∷ ys)) y) (sym h ∙ there))

-- the position that is looked for: it is here, or one less from the next board on, or the same past a board that has ended
pub picked_here : {C : Type 0} (bs : List (Board C)) (i left : ℕ) (b : Board C) (r : Option ℕ) → slice_get bs i ≡ Some b → is_some b.ended ≡ false → left ≡ 0 → slice_get (running_from i (drop i (are_out bs))) left ≡ r → Some i ≡ r
picked_here bs i left b r at out zero_left was =
    ap (slice_get (i ∷ running_from (i + 1) (drop (i + 1) (are_out bs)))) (sym zero_left) ∙ ap (λ (l : List ℕ). slice_get l left) (sym (step_in bs i b at out)) ∙ was

pub picked_next : {C : Type 0} (bs : List (Board C)) (i left now : ℕ) (b : Board C) (r : Option ℕ) → slice_get bs i ≡ Some b → is_some b.ended ≡ false → (left ≡ 0 → ⊥) → now ≡ left - 1 → slice_get (running_from i (drop i (are_out bs))) left ≡ r
    → slice_get (running_from (i + 1) (drop (i + 1) (are_out bs))) now ≡ r
picked_next bs i zero now b r at out some less was = absurd (some refl)
picked_next bs i (suc left) now b r at out some less was =
    let same : now ≡ left = omega arith in
    ap (slice_get (running_from (i + 1) (drop (i + 1) (are_out bs)))) same ∙ ap (λ (l : List ℕ). slice_get l (suc left)) (sym (step_in bs i b at out)) ∙ was

pub picked_past : {C : Type 0} (bs : List (Board C)) (i left now : ℕ) (b : Board C) (r : Option ℕ) → slice_get bs i ≡ Some b → is_some b.ended ≡ true → now ≡ left → slice_get (running_from i (drop i (are_out bs))) left ≡ r
    → slice_get (running_from (i + 1) (drop (i + 1) (are_out bs))) now ≡ r
picked_past bs i left now b r at out same was =
    ap (slice_get (running_from (i + 1) (drop (i + 1) (are_out bs)))) same ∙ ap (λ (l : List ℕ). slice_get l left) (sym (step_out bs i b at out)) ∙ was
