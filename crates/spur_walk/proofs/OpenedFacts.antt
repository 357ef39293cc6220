-- Open entries, and the entry that they serve.
use Rattle.std.proofs.Common.{◌≡◌, ◌∙◌, ℕ, zero, suc, ◌+◌, Bool, true, if◌then◌else◌, ap, refl, List, [], ◌∷◌, ◌++◌, length, replicate, slice_set, Option, Some, None}
use Rattle.std.specs.List.{AllByRecursion}
use Rattle.std.proofs.lemmas.List as L
use Rattle.spur_flat.specs.declared.entry.Entry.{Entry}
use Rattle.spur_flat.specs.Blocks.{Serves}
use Rattle.spur_flat.specs.Needed.{first_not, greedy, is_modest, is_of_use, lack_in, useless}
use Rattle.spur_walk.specs.Laws.{IsServing}

-- entries that all pass a test
first_passes : (test : Entry → Bool) (k : ℕ) (es : List Entry) → AllByRecursion (λ (e : Entry). test e ≡ true) es → first_not test k es ≡ None
first_passes test k [] all = refl
first_passes test k (e ∷ es) all =
    ap (λ (t : Bool). if t then first_not test (k + 1) es else Some k) all.0 ∙ first_passes test (k + 1) es all.1

all_useful : (b lines : ℕ) (blocks : List ℕ) (owned : Option ℕ) (es : List Entry) → AllByRecursion (IsServing b lines blocks owned) es → AllByRecursion (λ (e : Entry). is_of_use lines blocks e ≡ true) es
all_useful b lines blocks owned [] all = tt
all_useful b lines blocks owned (e ∷ es) all = (all.0.useful, all_useful b lines blocks owned es all.1)

all_modest : (b lines : ℕ) (blocks : List ℕ) (owned : Option ℕ) (es : List Entry) → AllByRecursion (IsServing b lines blocks owned) es → AllByRecursion (λ (e : Entry). is_modest owned e ≡ true) es
all_modest b lines blocks owned [] all = tt
all_modest b lines blocks owned (e ∷ es) all = (all.0.modest, all_modest b lines blocks owned es all.1)

-- the entry that they serve lacks nothing
pub lacks_nothing : (b lines : ℕ) (blocks : List ℕ) (owned : Option ℕ) (es : List Entry) → AllByRecursion (IsServing b lines blocks owned) es → lack_in lines es (Serves blocks owned) ≡ None
lacks_nothing b lines blocks owned es all =
    ap (λ (o : Option ℕ). useless o (greedy (first_not (is_modest owned) 0 es))) (first_passes (is_of_use lines blocks) 0 es (all_useful b lines blocks owned es all))
    ∙ ap greedy (first_passes (is_modest owned) 0 es (all_modest b lines blocks owned es all))

-- one more that passes
pub all-push : {X : Type 0} (P : X → Type 0) (xs : List X) (x : X) → AllByRecursion P xs → P x → AllByRecursion P (xs ++ x ∷ [])
all-push P [] x all last = (last, tt)
all-push P (y ∷ ys) x all last = (all.0, all-push P ys x all.1 last)

pub small_length : (os : List Entry) (e : Entry) → length (os ++ e ∷ []) ≡ length os + 1
small_length os e = L.length-append os (e ∷ [])

-- a list of which one element is set twice
pub set_again : {X : Type 0} (xs : List X) (b : ℕ) (x y : X) → slice_set (slice_set xs b x) b y ≡ slice_set xs b y
set_again xs b x y = L.set-set xs b x y

-- no board has an open entry; a list that is emptied then changes nothing
abbrev pub none_open : ℕ → List (List Entry)
none_open n = replicate n []

pub none_set : (n b : ℕ) → slice_set (none_open n) b [] ≡ none_open n
none_set zero b = refl
none_set (suc n) zero = refl
none_set (suc n) (suc b) = ap (λ (os : List (List Entry)). [] ∷ os) (none_set n b)
