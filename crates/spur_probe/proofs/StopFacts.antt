-- What probes were shown, by whether one of them wished a stop.
use Rattle.std.proofs.Common.{◌≡◌, ℕ, zero, suc, ◌+◌, ◌-◌, ◌≤◌, Bool, true, false, if◌then◌else◌, List, [], ◌∷◌, ◌++◌, drop, take, map, Option, Some, None, refl, sym, ap, ◌∙◌, arith}
use Rattle.std.specs.List.{position_from}
use Rattle.spur_flat.specs.declared.entry.Entry.{Entry}
use Rattle.spur_probe.specs.declared.show.StopAt.{StopAt}
use Rattle.spur_probe.specs.Shown.{Told, after_all, after_entries, after_entry, first_stop, moved, stop_or, stopped_at, stops, unless_stopped}
use Rattle.spur_probe.specs.Laws.{StoppedAreShownUpToIt, UnstoppedAreShownAll}

some_is : {A : Type 0} {x y : A} → Some x ≡ Some y → x ≡ y
some_is e = cc

-- ---- at one entry

moved_by : (e : Entry) (p : Told) (ps : List Told) (k : ℕ) (stop : Bool) → stops e p ≡ stop → (if stop then Some k else position_from (stops e) (k + 1) ps) ≡ None
    → (position_from (stops e) (k + 1) ps ≡ None → after_entry e ps ≡ map (moved e) ps)
    → moved e p ∷ (if stop then ps else after_entry e ps) ≡ moved e p ∷ map (moved e) ps
moved_by e p ps k true is none rest = absurd cc
moved_by e p ps k false is none rest = ap (λ (qs : List Told). moved e p ∷ qs) (rest none)

-- where none wishes a stop, all have moved
all_moved : (e : Entry) (k : ℕ) (ps : List Told) → position_from (stops e) k ps ≡ None → after_entry e ps ≡ map (moved e) ps
all_moved e k [] none = refl
all_moved e k (p ∷ ps) none = moved_by e p ps k (stops e p) refl none (all_moved e (k + 1) ps)

-- those up to the first that does have moved, and no other
front_by : (e : Entry) (p : Told) (ps : List Told) (k place : ℕ) (stop : Bool) → (if stop then Some k else position_from (stops e) (k + 1) ps) ≡ Some place
    → (position_from (stops e) (k + 1) ps ≡ Some place → (k + 1 ≤ place) × (after_entry e ps ≡ map (moved e) (take (place - (k + 1) + 1) ps) ++ drop (place - (k + 1) + 1) ps))
    → (k ≤ place) × (moved e p ∷ (if stop then ps else after_entry e ps) ≡ map (moved e) (take (place - k + 1) (p ∷ ps)) ++ drop (place - k + 1) (p ∷ ps))
front_by e p ps k place true is rest =
    let here : k ≡ place = some_is is in
    let one : place - k + 1 ≡ suc zero = omega arith in
    (omega arith, sym (ap (λ (n : ℕ). map (moved e) (take n (p ∷ ps)) ++ drop n (p ∷ ps)) one))
front_by e p ps k place false is rest =
    let later = rest is in
    let low : k + 1 ≤ place = later.0 in
    let more : place - k + 1 ≡ suc (place - (k + 1) + 1) = omega arith in
    (omega arith, ap (λ (qs : List Told). moved e p ∷ qs) later.1 ∙ sym (ap (λ (n : ℕ). map (moved e) (take n (p ∷ ps)) ++ drop n (p ∷ ps)) more))

front_moved : (e : Entry) (k : ℕ) (ps : List Told) (place : ℕ) → position_from (stops e) k ps ≡ Some place
    → (k ≤ place) × (after_entry e ps ≡ map (moved e) (take (place - k + 1) ps) ++ drop (place - k + 1) ps)
front_moved e k [] place is = absurd cc
front_moved e k (p ∷ ps) place is = front_by e p ps k place (stops e p) is (front_moved e (k + 1) ps place)

-- ---- at all entries

unstopped_by : (n : ℕ) (e : Entry) (es : List Entry) (ps : List Told) (place : Option ℕ) → stopped_at e ps ≡ place → stop_or n place (first_stop (n + 1) es (after_entry e ps)) ≡ None
    → (first_stop (n + 1) es (after_entry e ps) ≡ None → after_entries es (after_entry e ps) ≡ after_all es (after_entry e ps))
    → unless_stopped place (after_entry e ps) (after_entries es (after_entry e ps)) ≡ after_all es (map (moved e) ps)
unstopped_by n e es ps (Some place) at none rest = absurd cc
unstopped_by n e es ps None at none rest = rest none ∙ ap (after_all es) (all_moved e 0 ps at)

pub unstopped : UnstoppedAreShownAll
unstopped n [] ps none = refl
unstopped n (e ∷ es) ps none = unstopped_by n e es ps (stopped_at e ps) refl none (unstopped (n + 1) es (after_entry e ps))

map_take : (f : Told → Told) (k : ℕ) (ps : List Told) → take k (map f ps) ≡ map f (take k ps)
map_take f zero ps = refl
map_take f (suc k) [] = refl
map_take f (suc k) (p ∷ ps) = ap (λ (qs : List Told). f p ∷ qs) (map_take f k ps)

map_drop : (f : Told → Told) (k : ℕ) (ps : List Told) → drop k (map f ps) ≡ map f (drop k ps)
map_drop f zero ps = refl
map_drop f (suc k) [] = refl
map_drop f (suc k) (p ∷ ps) = map_drop f k ps

abbrev Shown : List Entry → List Told → StopAt → ℕ → Type 0
Shown es ps stop n = (n ≤ stop.entry) × (after_entries es ps
    ≡ after_all (take (stop.entry - n + 1) es) (take (stop.probe + 1) ps) ++ after_all (take (stop.entry - n) es) (drop (stop.probe + 1) ps))

stopped_by : (n : ℕ) (e : Entry) (es : List Entry) (ps : List Told) (stop : StopAt) (place : Option ℕ) → stopped_at e ps ≡ place → stop_or n place (first_stop (n + 1) es (after_entry e ps)) ≡ Some stop
    → (first_stop (n + 1) es (after_entry e ps) ≡ Some stop → Shown es (after_entry e ps) stop (n + 1))
    → (n ≤ stop.entry) × (unless_stopped place (after_entry e ps) (after_entries es (after_entry e ps))
    ≡ after_all (take (stop.entry - n + 1) (e ∷ es)) (take (stop.probe + 1) ps) ++ after_all (take (stop.entry - n) (e ∷ es)) (drop (stop.probe + 1) ps))
stopped_by n e es ps stop (Some place) at is rest =
    let here = some_is is in
    let entry : n ≡ stop.entry = ap (λ (s : StopAt). s.entry) here in
    let probe : place ≡ stop.probe = ap (λ (s : StopAt). s.probe) here in
    let front = front_moved e 0 ps place at in
    let count : place - 0 + 1 ≡ stop.probe + 1 = omega arith in
    let one : stop.entry - n + 1 ≡ suc zero = omega arith in
    let none : stop.entry - n ≡ zero = omega arith in (
      omega arith,
      front.1 ∙ ap (λ (k : ℕ). map (moved e) (take k ps) ++ drop k ps) count
          ∙ sym (ap (λ (z : ℕ × ℕ). after_all (take z.0 (e ∷ es)) (take (stop.probe + 1) ps) ++ after_all (take z.1 (e ∷ es)) (drop (stop.probe + 1) ps)) (λ k. (one k, none k))),
    )
stopped_by n e es ps stop None at is rest =
    let later = rest is in
    let low : n + 1 ≤ stop.entry = later.0 in
    let all = all_moved e 0 ps at in
    let one : stop.entry - n + 1 ≡ suc (stop.entry - (n + 1) + 1) = omega arith in
    let none : stop.entry - n ≡ suc (stop.entry - (n + 1)) = omega arith in
    let front : take (stop.probe + 1) (after_entry e ps) ≡ map (moved e) (take (stop.probe + 1) ps) = ap (take (stop.probe + 1)) all ∙ map_take (moved e) (stop.probe + 1) ps in
    let back : drop (stop.probe + 1) (after_entry e ps) ≡ map (moved e) (drop (stop.probe + 1) ps) = ap (drop (stop.probe + 1)) all ∙ map_drop (moved e) (stop.probe + 1) ps in (
      omega arith,
      later.1 ∙ ap (λ (z : List Told × List Told). after_all (take (stop.entry - (n + 1) + 1) es) z.0 ++ after_all (take (stop.entry - (n + 1)) es) z.1) (λ k. (front k, back k))
          ∙ sym (ap (λ (z : ℕ × ℕ). after_all (take z.0 (e ∷ es)) (take (stop.probe + 1) ps) ++ after_all (take z.1 (e ∷ es)) (drop (stop.probe + 1) ps)) (λ k. (one k, none k))),
    )

stopped_from : (n : ℕ) (es : List Entry) (ps : List Told) (stop : StopAt) → first_stop n es ps ≡ Some stop → Shown es ps stop n
stopped_from n [] ps stop is = absurd cc
stopped_from n (e ∷ es) ps stop is = stopped_by n e es ps stop (stopped_at e ps) refl is (stopped_from (n + 1) es (after_entry e ps) stop)

pub stopped : StoppedAreShownUpToIt
stopped es ps stop is =
    let shown = stopped_from 1 es ps stop is in
    let low : 1 ≤ stop.entry = shown.0 in
    let same : stop.entry - 1 + 1 ≡ stop.entry = omega arith in
    shown.1 ∙ ap (λ (k : ℕ). after_all (take k es) (take (stop.probe + 1) ps) ++ after_all (take (stop.entry - 1) es) (drop (stop.probe + 1) ps)) same
