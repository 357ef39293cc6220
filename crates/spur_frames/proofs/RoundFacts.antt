-- The list of the taken frames from the hand: what the hand finds is its first, and passing puts that last.
use Rattle.std.proofs.Common.{◌≡◌, ◌∙◌, ℕ, zero, suc, ◌+◌, ◌-◌, ◌<◌, ⊎_elim, Bool, if◌then◌else◌, List, [], ◌∷◌, ◌++◌, length, take, drop, get_or, Option, Some, None, refl, sym, ap, subst, arith}
use Rattle.std.specs.Option.{option_or}
use Rattle.std.proofs.lemmas.Bool.{cases_eq, eq-eqb, ne_eqb}
use Rattle.std.proofs.lemmas.List.{append-nil, append_assoc}
use Rattle.spur_frames.specs.Frames.{Frames, taken_from, looked_at, place_after, hand_past, passed}
use Rattle.spur_frames.specs.Clock.{Resident, residents_from, round, first_of, frame_of, page_held, page_of_frame}

-- the residents of a list of frames are those of its two parts
pub split : (k j : ℕ) (held : List (Option (ℕ × ℕ))) → residents_from k held ≡ residents_from k (take j held) ++ residents_from (k + j) (drop j held)
split k zero held = let same : k + 0 ≡ k = omega arith in sym (ap (λ (n : ℕ). residents_from n held) same)
split k (suc j) [] = refl
split k (suc j) (None ∷ rest) =
    let same : k + 1 + j ≡ k + suc j = omega arith in
    split (k + 1) j rest ∙ ap (λ (n : ℕ). residents_from (k + 1) (take j rest) ++ residents_from n (drop j rest)) same
split k (suc j) (Some h ∷ rest) =
    let same : k + 1 + j ≡ k + suc j = omega arith in
    ap (λ (rs : List Resident). record { frame = k; page = h.0 } ∷ rs) (split (k + 1) j rest ∙ ap (λ (n : ℕ). residents_from (k + 1) (take j rest) ++ residents_from n (drop j rest)) same)

-- where a resident stands among the frames: up to its place it is the last, and the others come after
pub record StandsAt (k : ℕ) (held : List (Option (ℕ × ℕ))) (us : List Resident) (r : Resident) (vs : List Resident) : Type 0 where
  pub place : ℕ
  pub is : r.frame ≡ k + place
  pub within : place < length held
  pub page : page_held (get_or held place None) ≡ r.page
  pub before : residents_from k (take (place + 1) held) ≡ us ++ r ∷ []
  pub after : residents_from (k + (place + 1)) (drop (place + 1) held) ≡ vs

same_head : (r s : Resident) (rs ss : List Resident) → r ∷ rs ≡ s ∷ ss → (r ≡ s) × (rs ≡ ss)
same_head r s rs ss h = (cc, cc)

pub stands : (k : ℕ) (held : List (Option (ℕ × ℕ))) (us : List Resident) (r : Resident) (vs : List Resident) → residents_from k held ≡ us ++ r ∷ vs → StandsAt k held us r vs
stands k [] [] r vs h = cc
stands k [] (u ∷ us) r vs h = cc
stands k (None ∷ rest) us r vs h =
    let it = stands (k + 1) rest us r vs h in
    let is : r.frame ≡ k + 1 + it.place = it.is in
    let within : it.place < length rest = it.within in
    let next : suc it.place + 1 ≡ suc (it.place + 1) = omega arith in
    let from : k + (suc it.place + 1) ≡ k + 1 + (it.place + 1) = omega arith in
    record {
      place = suc it.place;
      is = omega arith;
      within = omega arith;
      page = it.page;
      before = ap (λ (n : ℕ). residents_from k (take n (None ∷ rest))) next ∙ it.before;
      after = ap (λ (n : ℕ). residents_from n (drop (suc it.place + 1) (None ∷ rest))) from ∙ ap (λ (n : ℕ). residents_from (k + 1 + (it.place + 1)) (drop n (None ∷ rest))) next ∙ it.after;
    }
stands k (Some h ∷ rest) [] r vs is =
    let both = same_head record { frame = k; page = h.0 } r (residents_from (k + 1) rest) vs is in
    let same : k ≡ r.frame = ap (λ (x : Resident). x.frame) both.0 in
    record {
      place = 0;
      is = omega arith;
      within = omega arith;
      page = ap (λ (x : Resident). x.page) both.0;
      before = ap (λ (x : Resident). x ∷ []) both.0;
      after = both.1;
    }
stands k (Some h ∷ rest) (u ∷ us) r vs both =
    let parts = same_head record { frame = k; page = h.0 } u (residents_from (k + 1) rest) (us ++ r ∷ vs) both in
    let it = stands (k + 1) rest us r vs parts.1 in
    let is : r.frame ≡ k + 1 + it.place = it.is in
    let within : it.place < length rest = it.within in
    let next : suc it.place + 1 ≡ suc (it.place + 1) = omega arith in
    let from : k + (suc it.place + 1) ≡ k + 1 + (it.place + 1) = omega arith in
    record {
      place = suc it.place;
      is = omega arith;
      within = omega arith;
      page = it.page;
      before = ap (λ (n : ℕ). residents_from k (take n (Some h ∷ rest))) next ∙ ap (λ (rs : List Resident). record { frame = k; page = h.0 } ∷ rs) it.before ∙ ap (λ (x : Resident). x ∷ us ++ r ∷ []) parts.0;
      after = ap (λ (n : ℕ). residents_from n (drop (suc it.place + 1) (Some h ∷ rest))) from ∙ ap (λ (n : ℕ). residents_from (k + 1 + (it.place + 1)) (drop n (Some h ∷ rest))) next ∙ it.after;
    }

-- the first taken frame is that of the first resident
first_found : (k : ℕ) (held : List (Option (ℕ × ℕ))) → taken_from k held ≡ frame_of (first_of (residents_from k held))
first_found k [] = refl
first_found k (None ∷ rest) = first_found (k + 1) rest
first_found k (Some h ∷ rest) = refl

first_of_both : (rs ss : List Resident) → option_or (frame_of (first_of rs)) (frame_of (first_of ss)) ≡ frame_of (first_of (rs ++ ss))
first_of_both [] ss = refl
first_of_both (r ∷ rs) ss = refl

pub looked-round : (frames : Frames) → looked_at frames ≡ frame_of (first_of (round frames))
looked-round frames =
    let high : List (Option (ℕ × ℕ)) = drop frames.hand frames.held in
    let low : List (Option (ℕ × ℕ)) = take frames.hand frames.held in
    ap (λ (o : Option ℕ). option_or o (taken_from frames.first low)) (first_found (frames.first + frames.hand) high)
    ∙ ap (option_or (frame_of (first_of (residents_from (frames.first + frames.hand) high)))) (first_found frames.first low)
    ∙ first_of_both (residents_from (frames.first + frames.hand) high) (residents_from frames.first low)

-- the list, where the hand is at a place
abbrev pub round_at : ℕ → List (Option (ℕ × ℕ)) → ℕ → List Resident
round_at first held hand = residents_from (first + hand) (drop hand held) ++ residents_from first (take hand held)

drop_whole : (held : List (Option (ℕ × ℕ))) → drop (length held) held ≡ []
drop_whole [] = refl
drop_whole (h ∷ rest) = drop_whole rest

take_whole : (held : List (Option (ℕ × ℕ))) → take (length held) held ≡ held
take_whole [] = refl
take_whole (h ∷ rest) = ap (λ (hs : List (Option (ℕ × ℕ))). h ∷ hs) (take_whole rest)

-- past the last frame it is as at the first
whole : (first : ℕ) (held : List (Option (ℕ × ℕ))) → round_at first held (length held) ≡ round_at first held 0
whole first held =
    let same : first + 0 ≡ first = omega arith in
    ap (λ (hs : List (Option (ℕ × ℕ))). residents_from (first + length held) hs ++ residents_from first (take (length held) held)) (drop_whole held)
    ∙ ap (residents_from first) (take_whole held)
    ∙ sym (append-nil (residents_from first held))
    ∙ sym (ap (λ (n : ℕ). residents_from n held ++ []) same)

-- what is so where the hand finds a resident and passes it
pub record Passes (frames : Frames) (r : Resident) (rs : List Resident) : Type 0 where
  pub found : looked_at frames ≡ Some r.frame
  pub page : page_of_frame frames r.frame ≡ r.page
  pub last : round (passed frames) ≡ rs ++ r ∷ []

-- the list with a resident's place just passed
turned : (first : ℕ) (held : List (Option (ℕ × ℕ))) (us : List Resident) (r : Resident) (vs : List Resident) (at : StandsAt first held us r vs)
    → round_at first held (at.place + 1) ≡ (vs ++ us) ++ r ∷ []
turned first held us r vs at =
    ap (λ (rs : List Resident). rs ++ residents_from first (take (at.place + 1) held)) at.after
    ∙ ap (λ (rs : List Resident). vs ++ rs) at.before
    ∙ sym (append_assoc vs us (r ∷ []))

-- the place after, at the end of the frames or before it
after_place : (frames : Frames) (frame place : ℕ) → frame ≡ frames.first + place → place < length frames.held
    → round_at frames.first frames.held (place_after frames frame) ≡ round_at frames.first frames.held (place + 1)
after_place frames frame place is within =
    ⊎_elim
    (λ (end : frame + 1 ≡ frames.first + length frames.held). (
    let last : length frames.held ≡ place + 1 = omega arith in
    ap (λ (b : Bool). round_at frames.first frames.held (if b then 0 else frame + 1 - frames.first)) (eq-eqb (frame + 1) (frames.first + length frames.held) end)
    ∙ sym (whole frames.first frames.held)
    ∙ ap (round_at frames.first frames.held) last
    ))
    (λ (more : frame + 1 ≡ frames.first + length frames.held → ⊥). (
    let next : frame + 1 - frames.first ≡ place + 1 = omega arith in
    ap (λ (b : Bool). round_at frames.first frames.held (if b then 0 else frame + 1 - frames.first)) (ne_eqb (frame + 1) (frames.first + length frames.held) more)
    ∙ ap (round_at frames.first frames.held) next
    ))
    (cases_eq (frame + 1) (frames.first + length frames.held))

-- where the residents in the order of the frames are these
passes_at : (frames : Frames) (us : List Resident) (r : Resident) (vs : List Resident) → residents_from frames.first frames.held ≡ us ++ r ∷ vs
    → round frames ≡ r ∷ vs ++ us → Passes frames r (vs ++ us)
passes_at frames us r vs all is =
    let at = stands frames.first frames.held us r vs all in
    let frame : r.frame ≡ frames.first + at.place = at.is in
    let within : at.place < length frames.held = at.within in
    let found : looked_at frames ≡ Some r.frame = looked-round frames ∙ ap (λ (rs : List Resident). frame_of (first_of rs)) is in
    let place : r.frame - frames.first ≡ at.place = omega arith in
    record {
      found = found;
      page = ap (λ (n : ℕ). page_held (get_or frames.held n None)) place ∙ at.page;
      last =
          ap (λ (o : Option ℕ). round_at frames.first frames.held (hand_past frames o)) found
          ∙ after_place frames r.frame at.place frame within
          ∙ turned frames.first frames.held us r vs at;
    }

nil_left : (rs ss : List Resident) → rs ≡ [] → rs ++ ss ≡ ss
nil_left rs ss is = ap (λ (ts : List Resident). ts ++ ss) is

-- by the residents at or after the hand, and those before it
passes_by : (frames : Frames) (high low : List Resident) (r : Resident) (rs : List Resident) → residents_from frames.first frames.held ≡ low ++ high → round frames ≡ high ++ low
    → high ++ low ≡ r ∷ rs → Passes frames r rs
passes_by frames (h ∷ high) low r rs all is list =
    let parts = same_head h r (high ++ low) rs list in
    subst (λ (x : Resident). Passes frames x rs) parts.0 (subst (Passes frames h) parts.1 (passes_at frames low h high all is))
passes_by frames [] low r rs all is list =
    subst (Passes frames r) (append-nil rs) (passes_at frames [] r rs (all ∙ append-nil low ∙ list) (is ∙ list ∙ sym (ap (λ (ts : List Resident). r ∷ ts) (append-nil rs))))

-- the hand finds the first of the list, and passing puts it last
pub passes : (frames : Frames) (r : Resident) (rs : List Resident) → round frames ≡ r ∷ rs → Passes frames r rs
passes frames r rs is =
    passes_by frames (residents_from (frames.first + frames.hand) (drop frames.hand frames.held)) (residents_from frames.first (take frames.hand frames.held)) r rs
    (split frames.first frames.hand frames.held) refl is

-- a taken frame that the hand finds is the first of the list
pub record Found (frames : Frames) (frame : ℕ) : Type 0 where
  pub first : Resident
  pub rest : List Resident
  pub list : round frames ≡ first ∷ rest
  pub is : first.frame ≡ frame

some_same : (a b : ℕ) → Some a ≡ Some b → a ≡ b
some_same a b h = cc

found_by : (frames : Frames) (frame : ℕ) (rs : List Resident) → round frames ≡ rs → frame_of (first_of rs) ≡ Some frame → Found frames frame
found_by frames frame [] is first = cc
found_by frames frame (r ∷ rs) is first = record { first = r; rest = rs; list = is; is = some_same r.frame frame first }

pub found_first : (frames : Frames) (frame : ℕ) → looked_at frames ≡ Some frame → Found frames frame
found_first frames frame is = found_by frames frame (round frames) refl (sym (looked-round frames) ∙ is)

-- where the hand finds none, the list is empty
no_first : (rs : List Resident) → frame_of (first_of rs) ≡ None → rs ≡ []
no_first [] is = refl
no_first (r ∷ rs) is = cc

pub found_none : (frames : Frames) → looked_at frames ≡ None → round frames ≡ []
found_none frames is = no_first (round frames) (sym (looked-round frames) ∙ is)
