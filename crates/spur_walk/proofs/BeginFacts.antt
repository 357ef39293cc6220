-- With empty caches the walk may begin.
use Rattle.std.proofs.Common.{◌≡◌, ◌∙◌, ℕ, zero, suc, ◌/◌, ◌%◌, ◌≤◌, ◌<◌, ap, sym, refl, subst, List, ◌∷◌, map, replicate, Option, Some, None}
use Rattle.spur_addr.specs.Address.{table_start, root_start}
use Rattle.spur_cache.specs.declared.line.Line.{Line}
use Rattle.spur_cache.specs.Lines.{line_at}
use Rattle.spur_bus.specs.Boards.{first_some, line_in}
use Rattle.spur_bus.specs.Logical.{logical_at, logical_words, owner_in, owner_of, word_or}
use Rattle.spur_bus.proofs.EachFacts.{each_id}
use Rattle.spur_bus.proofs.EmptyFacts.{agrees-empty, serves-empty}
use Rattle.spur_walk.specs.Tables.{HasTables, block_address, flat_of_words}
use Rattle.spur_walk.specs.Laws.{EmptyMayWalk}
use Rattle.spur_walk.proofs.ValidFacts.{tables_alone}

-- n caches of k lines
abbrev pub empty : ℕ → ℕ → List (List (Option Line))
empty n k = replicate n (replicate k None)

-- an empty cache has no line
none_at : (k s : ℕ) (l : Line) → line_at (replicate k None) s ≡ Some l → ⊥
none_at zero s l h = cc
none_at (suc k) zero l h = cc
none_at (suc k) (suc s) l h = none_at k s l h

pub no_line : (n k i s : ℕ) (l : Line) → line_in (empty n k) i s ≡ Some l → ⊥
no_line zero k i s l h = cc
no_line (suc n) k zero s l h = none_at k s l h
no_line (suc n) k (suc i) s l h = no_line n k i s l h

-- and owns nothing, so the logical memory is the memory
owns_none : (k f p : ℕ) → owner_in f p (replicate k None) ≡ None
owns_none zero f p = refl
owns_none (suc k) f p = owns_none k f p

no_owner : (n k f p : ℕ) → owner_of f p (empty n k) ≡ None
no_owner zero k f p = refl
no_owner (suc n) k f p = ap (λ (o : Option (List ℕ)). first_some (o ∷ map (owner_in f p) (empty n k))) (owns_none k f p) ∙ no_owner n k f p

pub logical_memory : (n k : ℕ) (memory : List ℕ) → logical_words (empty n k) memory ≡ memory
logical_memory n k memory =
    sym (each_id (logical_at (empty n k)) 0 memory (λ (j word : ℕ) (low : 0 ≤ j).
    ap (λ (o : Option (List ℕ)). word_or o word j) (no_owner n k (j / 1024) (j / 8 % 128))))

pub empty-walks : EmptyMayWalk
empty-walks rest n k memory some few count ok =
    let same : logical_words (empty n k) memory ≡ memory = logical_memory n k memory in
    record {
      walk = record {
        agree = agrees-empty n k some few count;
        serves = serves-empty n k memory;
        tables = subst (λ (ws : List ℕ). HasTables (flat_of_words ws)) (sym same) (tables_alone rest memory ok);
        mapped = λ (i s : ℕ) (line : Line) (there : line_in (empty n k) i s ≡ Some line). absurd (no_line n k i s line there);
      };
      present = record {
        user = λ (i s : ℕ) (line : Line) (there : line_in (empty n k) i s ≡ Some line) (low : block_address line.tag < table_start). absurd (no_line n k i s line there);
        table = λ (i s : ℕ) (line : Line) (there : line_in (empty n k) i s ≡ Some line) (from : table_start ≤ block_address line.tag) (to : block_address line.tag < root_start). absurd (no_line n k i s line there);
        root = λ (i s : ℕ) (line : Line) (there : line_in (empty n k) i s ≡ Some line) (from : root_start ≤ block_address line.tag). absurd (no_line n k i s line there);
        unowned = λ (i s : ℕ) (line : Line) (there : line_in (empty n k) i s ≡ Some line) (from : root_start ≤ block_address line.tag). absurd (no_line n k i s line there);
      };
      logical = same;
    }
