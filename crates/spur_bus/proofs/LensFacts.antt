-- Boards of which nothing but the lines of their caches changes.
use Rattle.std.proofs.Common.{◌≡◌, ◌∙◌, ℕ, zero, suc, ◌+◌, ◌<◌, ap, sym, refl, List, [], ◌∷◌, length, map, get_or, Option, arith}
use Rattle.std.proofs.Math.ListN.{set}
use Rattle.std.proofs.lemmas.List.{map-set}
use Rattle.spur_cache.specs.declared.line.Line.{Line}
use Rattle.spur_cache.specs.Lens.{IsLens, Lens, OnlyLines, caches, with_caches}
use Rattle.spur_flat.specs.TagLines.{each_from}
use Rattle.spur_bus.specs.Boards.{changed_board}

-- boards that are as they were
pub only_lines-same : {X : Type 0} (lens : Lens X) → IsLens lens → (xs : List X) → OnlyLines lens xs xs
only_lines-same lens lawful [] = refl
only_lines-same {X} lens lawful (x ∷ xs) =
    ap (λ (y : X). y ∷ xs) (sym (lawful.kept x)) ∙ ap (λ (ys : List X). lens.with_lines x (lens.lines_of x) ∷ ys) (only_lines-same lens lawful xs)

-- one change after another
pub only_lines-then : {X : Type 0} (lens : Lens X) → IsLens lens → (xs ys zs : List X) → OnlyLines lens xs ys → OnlyLines lens ys zs → OnlyLines lens xs zs
only_lines-then {X} lens lawful [] ys zs first second = second ∙ ap (λ (l : List X). with_caches lens l (caches lens zs)) first
only_lines-then lens lawful (x ∷ xs) [] zs first second = cc
only_lines-then lens lawful (x ∷ xs) (y ∷ ys) [] first second = cc
only_lines-then {X} lens lawful (x ∷ xs) (y ∷ ys) (z ∷ zs) first second =
    let y_is : y ≡ lens.with_lines x (lens.lines_of y) = cc in
    let ys_is : ys ≡ with_caches lens xs (caches lens ys) = cc in
    let z_is : z ≡ lens.with_lines y (lens.lines_of z) = cc in
    let zs_is : zs ≡ with_caches lens ys (caches lens zs) = cc in
    ap (λ (w : X). w ∷ zs) (z_is ∙ ap (λ (w : X). lens.with_lines w (lens.lines_of z)) y_is ∙ lawful.twice x (lens.lines_of y) (lens.lines_of z))
    ∙ ap (λ (ws : List X). lens.with_lines x (lens.lines_of z) ∷ ws) (only_lines-then lens lawful xs ys zs ys_is zs_is)

-- boards that change one by one
pub only_lines-each : {X : Type 0} (lens : Lens X) → IsLens lens → (change : ℕ → List (Option Line) → List (Option Line)) (k : ℕ) (xs : List X)
    → OnlyLines lens xs (each_from (changed_board lens change) k xs)
only_lines-each lens lawful change k [] = refl
only_lines-each {X} lens lawful change k (x ∷ xs) =
    ap (λ (ls : List (Option Line)). lens.with_lines x ls ∷ each_from (changed_board lens change) (k + 1) xs) (sym (lawful.set x (change k (lens.lines_of x))))
    ∙ ap (λ (ys : List X). lens.with_lines x (lens.lines_of (changed_board lens change k x)) ∷ ys) (only_lines-each lens lawful change (k + 1) xs)

-- and their caches then
pub caches-each : {X : Type 0} (lens : Lens X) → IsLens lens → (change : ℕ → List (Option Line) → List (Option Line)) (k : ℕ) (xs : List X)
    → caches lens (each_from (changed_board lens change) k xs) ≡ each_from change k (caches lens xs)
caches-each lens lawful change k [] = refl
caches-each lens lawful change k (x ∷ xs) =
    ap (λ (ls : List (Option Line)). ls ∷ caches lens (each_from (changed_board lens change) (k + 1) xs)) (lawful.set x (change k (lens.lines_of x)))
    ∙ ap (λ (rest : List (List (Option Line))). change k (lens.lines_of x) ∷ rest) (caches-each lens lawful change (k + 1) xs)

-- one board that changes
pub only_lines-set : {X : Type 0} (lens : Lens X) → IsLens lens → (xs : List X) (b : ℕ) (d y : X) (lines : List (Option Line)) → b < length xs
    → y ≡ lens.with_lines (get_or xs b d) lines → OnlyLines lens xs (set xs b y)
only_lines-set lens lawful [] b d y lines within is = absurd (omega arith)
only_lines-set {X} lens lawful (x ∷ xs) zero d y lines within is =
    ap (λ (z : X). z ∷ xs) (is ∙ sym (ap (lens.with_lines x) (ap lens.lines_of is ∙ lawful.set x lines)))
    ∙ ap (λ (zs : List X). lens.with_lines x (lens.lines_of y) ∷ zs) (only_lines-same lens lawful xs)
only_lines-set {X} lens lawful (x ∷ xs) (suc b) d y lines within is =
    ap (λ (z : X). z ∷ set xs b y) (sym (lawful.kept x))
    ∙ ap (λ (zs : List X). lens.with_lines x (lens.lines_of x) ∷ zs) (only_lines-set lens lawful xs b d y lines (omega arith) is)

-- and its cache
pub caches-set : {X : Type 0} (lens : Lens X) → IsLens lens → (xs : List X) (b : ℕ) (d y : X) (lines : List (Option Line)) → y ≡ lens.with_lines (get_or xs b d) lines
    → caches lens (set xs b y) ≡ set (caches lens xs) b lines
caches-set lens lawful xs b d y lines is =
    map-set lens.lines_of xs b y ∙ ap (λ (ls : List (Option Line)). set (caches lens xs) b ls) (ap lens.lines_of is ∙ lawful.set (get_or xs b d) lines)

-- there are as many boards as before
length-with_caches : {X : Type 0} (lens : Lens X) (xs : List X) (given : List (List (Option Line))) → length (with_caches lens xs given) ≡ length xs
length-with_caches lens [] given = refl
length-with_caches lens (x ∷ xs) [] = refl
length-with_caches lens (x ∷ xs) (lines ∷ rest) = ap suc (length-with_caches lens xs rest)

pub only_lines-count : {X : Type 0} (lens : Lens X) (xs ys : List X) → OnlyLines lens xs ys → length ys ≡ length xs
only_lines-count lens xs ys only = ap length only ∙ length-with_caches lens xs (caches lens ys)

-- where the caches are as they were, the boards are
pub only_lines-still : {X : Type 0} (lens : Lens X) → IsLens lens → (xs ys : List X) → OnlyLines lens xs ys → caches lens ys ≡ caches lens xs → ys ≡ xs
only_lines-still lens lawful xs ys only still = only ∙ ap (with_caches lens xs) still ∙ sym (only_lines-same lens lawful xs)

-- a field that the setter of lines keeps is kept in the whole list
pub fields-kept : {X Y : Type 0} (lens : Lens X) (field : X → Y) → ((x : X) (lines : List (Option Line)) → field (lens.with_lines x lines) ≡ field x)
    → (xs ys : List X) → OnlyLines lens xs ys → map field ys ≡ map field xs
fields-kept {X} {Y} lens field keeps xs ys only = ap (map field) only ∙ through xs (caches lens ys)
  where
    through : (xs : List X) (given : List (List (Option Line))) → map field (with_caches lens xs given) ≡ map field xs
    through [] given = refl
    through (x ∷ xs) [] = refl
    through (x ∷ xs) (lines ∷ rest) =
        ap (λ (y : Y). y ∷ map field (with_caches lens xs rest)) (keeps x lines) ∙ ap (λ (l : List Y). field x ∷ l) (through xs rest)
