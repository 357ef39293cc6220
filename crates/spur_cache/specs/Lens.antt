-- The lines of a value that has a cache, as one part of it.
use Rattle.std.specs.Prelude.{◌≡◌, List, [], ◌∷◌, Option, map}
use Rattle.spur_cache.specs.declared.line.Line.{Line}

-- what the lines of its cache are, and the value with other lines
pub record Lens (X : Type 0) : Type 0 where
  pub lines_of : X → List (Option Line)
  pub with_lines : X → List (Option Line) → X

-- to set the lines that it has changes nothing; lines that were set are those that it then has; and of lines that are set
-- one after the other the last count
pub record IsLens {X : Type 0} (lens : Lens X) : Type 0 where
  pub kept : (x : X) → lens.with_lines x (lens.lines_of x) ≡ x
  pub set : (x : X) (lines : List (Option Line)) → lens.lines_of (lens.with_lines x lines) ≡ lines
  pub twice : (x : X) (first second : List (Option Line)) → lens.with_lines (lens.with_lines x first) second ≡ lens.with_lines x second

-- the caches of boards
abbrev pub caches : {X : Type 0} → Lens X → List X → List (List (Option Line))
caches lens boards = map lens.lines_of boards

-- the boards with these lines in their caches, and all else of each as it is
abbrev pub with_caches : {X : Type 0} → Lens X → List X → List (List (Option Line)) → List X
with_caches lens [] given = []
with_caches lens (board ∷ boards) [] = board ∷ boards
with_caches lens (board ∷ boards) (lines ∷ rest) = lens.with_lines board lines ∷ with_caches lens boards rest

-- nothing of any board has changed but the lines of its cache
abbrev pub OnlyLines : {X : Type 0} → Lens X → List X → List X → Type 0
OnlyLines lens old new = new ≡ with_caches lens old (caches lens new)
