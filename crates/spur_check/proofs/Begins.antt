-- The boards at the beginning of their programs, made one after the other.
use Rattle.std.proofs.Common.{◌≡◌, ℕ, suc, ◌+◌, ◌<◌, List, [], ◌∷◌, ◌++◌, refl, sym, ap, ◌∙◌, length, drop, get_or, append_assoc, append-nil}
use Rattle.std.proofs.lemmas.List.{drop_more}
use Rattle.spur_isa.specs.declared.instr.Instr.{Instr}
use Rattle.spur_cpu.specs.Plain.{Plain}
use Rattle.spur_check.specs.Judged.{first_replay, first_replays}
use Rattle.spur_check.specs.Replays.{Replayed}

-- there is one for each
pub length_first : (budget : ℕ) (segs : List (List ℕ)) (codes : List (List Instr)) → length codes ≡ length segs → length (first_replays budget segs codes) ≡ length segs
length_first budget [] codes same = refl
length_first budget (segs ∷ more) [] same = absurd cc
length_first budget (segs ∷ more) (code ∷ codes) same = let rest : length codes ≡ length more = cc in ap suc (length_first budget more codes rest)

-- these boards were made, and the others will be
abbrev pub AreMade : ℕ → List (List ℕ) → List (List Instr) → List (Replayed Plain) → ℕ → List (List Instr) → Type 0
AreMade budget segs codes made b left = first_replays budget segs codes ≡ made ++ first_replays budget (drop b segs) left

pub one_made : (budget : ℕ) (segs : List (List ℕ)) (codes : List (List Instr)) (made : List (Replayed Plain)) (b : ℕ) (code : List Instr) (left : List (List Instr)) (registers : List ℕ)
    → b < length segs → registers ≡ get_or segs b registers
    → AreMade budget segs codes made b (code ∷ left) → AreMade budget segs codes (made ++ first_replay budget registers code ∷ []) (b + 1) left
one_made budget segs codes made b code left registers there is h =
    let first : drop b segs ≡ registers ∷ drop (b + 1) segs = drop_more segs b registers there ∙ ap (λ (x : List ℕ). x ∷ drop (b + 1) segs) (sym is) in
    h ∙ ap (λ (xs : List (List ℕ)). made ++ first_replays budget xs (code ∷ left)) first
    ∙ sym (append_assoc made (first_replay budget registers code ∷ []) (first_replays budget (drop (b + 1) segs) left))

no_code : (budget : ℕ) (segs : List (List ℕ)) → first_replays budget segs [] ≡ []
no_code budget [] = refl
no_code budget (segs ∷ more) = refl

pub all_made : (budget : ℕ) (segs : List (List ℕ)) (codes : List (List Instr)) (made : List (Replayed Plain)) (b : ℕ) → AreMade budget segs codes made b [] → made ≡ first_replays budget segs codes
all_made budget segs codes made b h = sym (h ∙ ap (λ (xs : List (Replayed Plain)). made ++ xs) (no_code budget (drop b segs)) ∙ append-nil made)
