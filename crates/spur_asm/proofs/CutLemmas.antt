-- The longest front of a list whose elements pass a test.
use Rattle.std.proofs.Common.{◌≡◌, ℕ, suc, ◌+◌, Bool, true, false, cond, List, [], ◌∷◌, ◌++◌, length, take, drop, refl, arith}
use Rattle.std.proofs.lemmas.Bool.{and_from, and_parts}
use Rattle.std.proofs.Math.Seq.{take-append_seam, drop-append_seam}
use Rattle.std.specs.List.{list_all, prefix_len, take_while}

one_more : (n : ℕ) → 1 + n ≡ suc n
one_more n = omega arith

-- no element, or first one that fails the test
abbrev pub Stops : (ℕ → Bool) → List ℕ → Type 0
Stops p [] = Unit {0}
Stops p (b ∷ bytes) = p b ≡ false

front_len : (p : ℕ → Bool) (front rest : List ℕ) → list_all p front ≡ true → Stops p rest → prefix_len p (front ++ rest) ≡ length front
front_len p [] [] passes stops = refl
front_len p [] (b ∷ rest) passes stops = rw stops refl
front_len p (b ∷ front) rest passes stops =
    let parts = and_parts (p b) (list_all p front) passes in
    rw (parts.0, front_len p front rest parts.1 stops) (one_more (length front))

pub front_taken : (p : ℕ → Bool) (front rest : List ℕ) → list_all p front ≡ true → Stops p rest → take_while p (front ++ rest) ≡ front
front_taken p front rest passes stops = rw (front_len p front rest passes stops) (take-append_seam front rest)

pub front_dropped : (p : ℕ → Bool) (front rest : List ℕ) → list_all p front ≡ true → Stops p rest
    → drop (prefix_len p (front ++ rest)) (front ++ rest) ≡ rest
front_dropped p front rest passes stops = rw (front_len p front rest passes stops) (drop-append_seam front rest)

passes_in : (p : ℕ → Bool) (t : Bool) (b : ℕ) (bytes : List ℕ) → p b ≡ t → list_all p (take_while p bytes) ≡ true
    → list_all p (take (cond t (1 + prefix_len p bytes) 0) (b ∷ bytes)) ≡ true
passes_in p false b bytes e tail = refl
passes_in p true b bytes e tail = rw (one_more (prefix_len p bytes)) (and_from (p b) (list_all p (take_while p bytes)) e tail)

pub front_passes : (p : ℕ → Bool) (bytes : List ℕ) → list_all p (take_while p bytes) ≡ true
front_passes p [] = refl
front_passes p (b ∷ bytes) = passes_in p (p b) b bytes refl (front_passes p bytes)

stops_in : (p : ℕ → Bool) (t : Bool) (b : ℕ) (bytes : List ℕ) → p b ≡ t → Stops p (drop (prefix_len p bytes) bytes)
    → Stops p (drop (cond t (1 + prefix_len p bytes) 0) (b ∷ bytes))
stops_in p false b bytes e tail = e
stops_in p true b bytes e tail = rw (one_more (prefix_len p bytes)) tail

pub front_stops : (p : ℕ → Bool) (bytes : List ℕ) → Stops p (drop (prefix_len p bytes) bytes)
front_stops p [] = tt
front_stops p (b ∷ bytes) = stops_in p (p b) b bytes refl (front_stops p bytes)
