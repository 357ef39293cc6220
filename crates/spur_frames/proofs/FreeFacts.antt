-- What it says of all frames that none is free, or none taken.
use Rattle.std.proofs.Common.{◌≡◌, ◌∙◌, ℕ, zero, suc, ◌+◌, ◌-◌, ◌<◌, ◌≤◌, ⊎_elim, List, [], ◌∷◌, length, take, drop, get_or, Option, Some, None, refl, sym, ap, subst, arith}
use Rattle.std.specs.Prelude.{IsSome}
use Rattle.std.specs.Option.{option_or}
use Rattle.std.proofs.lemmas.Bool.{cases_lt}
use Rattle.std.proofs.lemmas.List.{get_or-take, get_or-drop, get_or_past, length-take-le}
use Rattle.spur_frames.specs.Frames.{Frames, AreFrames, free_from, taken_from, looked_at}
use Rattle.spur_frames.specs.Laws.{NoneBelowIsFree, NoneIsFree, NoneIsTaken}

some_same : (a b : ℕ) → Some a ≡ Some b → a ≡ b
some_same a b h = cc

-- none free stands before the first
below : (k : ℕ) (held : List (Option (ℕ × ℕ))) (f i : ℕ) → free_from k held ≡ Some f → i < length held → get_or held i None ≡ None → f ≤ k + i
below k [] f i is within free = cc
below k (None ∷ rest) f i is within free = let same : k ≡ f = some_same k f is in omega arith
below k (Some h ∷ rest) f zero is within free = cc
below k (Some h ∷ rest) f (suc i) is within free = let more : f ≤ k + 1 + i = below (k + 1) rest f i is (omega arith) free in omega arith

pub none-below-is-free : NoneBelowIsFree
none-below-is-free frames f other is free =
    let low : frames.first ≤ other = free.low in
    let high : other < frames.first + length frames.held = free.high in
    let most : f ≤ frames.first + (other - frames.first) = below frames.first frames.held f (other - frames.first) is (omega arith) free.free in
    omega arith

all_taken : (k : ℕ) (held : List (Option (ℕ × ℕ))) (i : ℕ) → free_from k held ≡ None → i < length held → IsSome (get_or held i None)
all_taken k [] i is within = absurd (omega arith)
all_taken k (None ∷ rest) i is within = cc
all_taken k (Some h ∷ rest) zero is within = refl
all_taken k (Some h ∷ rest) (suc i) is within = all_taken (k + 1) rest i is (omega arith)

none_free : (k : ℕ) (held : List (Option (ℕ × ℕ))) → ((i : ℕ) → i < length held → IsSome (get_or held i None)) → free_from k held ≡ None
none_free k [] all = refl
none_free k (None ∷ rest) all = let first : IsSome (get_or (None ∷ rest) 0 None) = all 0 (omega arith) in cc
none_free k (Some h ∷ rest) all = none_free (k + 1) rest (λ i within. all (suc i) (omega arith))

-- the frame at a place has its number
at_place : (frames : Frames) (i : ℕ) → get_or frames.held (frames.first + i - frames.first) None ≡ get_or frames.held i None
at_place frames i = let same : frames.first + i - frames.first ≡ i = omega arith in ap (λ (j : ℕ). get_or frames.held j None) same

pub none-is-free : NoneIsFree
none-is-free frames = (
  λ is frame one. (
      let low : frames.first ≤ frame = one.low in
      let high : frame < frames.first + length frames.held = one.high in
      all_taken frames.first frames.held (frame - frames.first) is (omega arith)
      ),
  λ all. none_free frames.first frames.held (λ i within. subst IsSome (at_place frames i) (all (frames.first + i) record { low = omega arith; high = omega arith })),
)

all_free : (k : ℕ) (held : List (Option (ℕ × ℕ))) (i : ℕ) → taken_from k held ≡ None → get_or held i None ≡ None
all_free k [] i is = refl
all_free k (None ∷ rest) zero is = refl
all_free k (None ∷ rest) (suc i) is = all_free (k + 1) rest i is
all_free k (Some h ∷ rest) i is = cc

none_taken : (k : ℕ) (held : List (Option (ℕ × ℕ))) → ((i : ℕ) → i < length held → get_or held i None ≡ None) → taken_from k held ≡ None
none_taken k [] all = refl
none_taken k (None ∷ rest) all = none_taken (k + 1) rest (λ i within. all (suc i) (omega arith))
none_taken k (Some h ∷ rest) all = let first : get_or (Some h ∷ rest) 0 None ≡ None = all 0 (omega arith) in cc

both_none : (a b : Option ℕ) → option_or a b ≡ None → (a ≡ None) × (b ≡ None)
both_none None b is = (refl, is)
both_none (Some n) b is = (cc, cc)

-- none of the two parts of the frames is taken, and so none at all
parts_free : (frames : Frames) (i : ℕ) → looked_at frames ≡ None → get_or frames.held i None ≡ None
parts_free frames i is =
    let none = both_none (taken_from (frames.first + frames.hand) (drop frames.hand frames.held)) (taken_from frames.first (take frames.hand frames.held)) is in
    ⊎_elim
    (λ (before : i < frames.hand). sym (get_or-take frames.hand frames.held i None before) ∙ all_free frames.first (take frames.hand frames.held) i none.1)
    (λ (from : frames.hand ≤ i). (
    let place : frames.hand + (i - frames.hand) ≡ i = omega arith in
    sym (ap (λ (j : ℕ). get_or frames.held j None) place)
    ∙ sym (get_or-drop frames.hand frames.held (i - frames.hand) None)
    ∙ all_free (frames.first + frames.hand) (drop frames.hand frames.held) (i - frames.hand) none.0
    ))
    (cases_lt i frames.hand)

-- where no frame holds a page, no place does
none_at : (held : List (Option (ℕ × ℕ))) → ((i : ℕ) → i < length held → get_or held i None ≡ None) → (i : ℕ) → get_or held i None ≡ None
none_at held all i = ⊎_elim (λ (within : i < length held). all i within) (λ (past : length held ≤ i). get_or_past held i None past) (cases_lt i (length held))

parts_none : (frames : Frames) → AreFrames frames → ((i : ℕ) → get_or frames.held i None ≡ None) → looked_at frames ≡ None
parts_none frames good none =
    let hand : frames.hand < length frames.held = good.hand in
    let size : length (take frames.hand frames.held) ≡ frames.hand = length-take-le frames.hand frames.held (omega arith) in
    ap (λ (o : Option ℕ). option_or o (taken_from frames.first (take frames.hand frames.held)))
    (none_taken (frames.first + frames.hand) (drop frames.hand frames.held) (λ i within. get_or-drop frames.hand frames.held i None ∙ none (frames.hand + i)))
    ∙ none_taken frames.first (take frames.hand frames.held) (λ i within. get_or-take frames.hand frames.held i None (omega arith) ∙ none i)

pub none-is-taken : NoneIsTaken
none-is-taken frames good = (
  λ is frame one. parts_free frames (frame - frames.first) is,
  λ all. parts_none frames good (none_at frames.held (λ i within. sym (at_place frames i) ∙ all (frames.first + i) record { low = omega arith; high = omega arith })),
)
