-- Residents whose pages differ.
use Rattle.std.proofs.Common.{◌≡◌, ◌≢◌, ◌∙◌, ℕ, suc, ◌+◌, ◌-◌, ◌<◌, List, [], ◌∷◌, ◌++◌, length, take, drop, get_or, Option, Some, None, refl, sym, ap, subst, arith}
use Rattle.std.specs.Bool.{⊤}
use Rattle.std.proofs.lemmas.List.{append-nil, append_assoc}
use Rattle.spur_frames.specs.Frames.{Frames}
use Rattle.spur_frames.specs.Clock.{Resident, residents_from, round}
use Rattle.spur_frames.specs.Laws.{HaveOwnPages}
use Rattle.spur_frames.proofs.RoundFacts.{split}

-- none of them is of a page
abbrev pub IsNoPageOf : ℕ → List Resident → Type 0
IsNoPageOf page [] = ⊤
IsNoPageOf page (r ∷ rs) = (r.page ≢ page) × IsNoPageOf page rs

abbrev pub Differ : List Resident → Type 0
Differ [] = ⊤
Differ (r ∷ rs) = IsNoPageOf r.page rs × Differ rs

no_page_more : (page : ℕ) (rs : List Resident) (r : Resident) → IsNoPageOf page rs → r.page ≢ page → IsNoPageOf page (rs ++ r ∷ [])
no_page_more page [] r none apart = (apart, tt)
no_page_more page (x ∷ xs) r none apart = (none.0, no_page_more page xs r none.1 apart)

differ_more : (rs : List Resident) (r : Resident) → IsNoPageOf r.page rs → Differ rs → Differ (rs ++ r ∷ [])
differ_more [] r none differ = (tt, tt)
differ_more (x ∷ xs) r none differ = (no_page_more x.page xs r differ.0 (λ same. none.0 (sym same)), differ_more xs r none.1 differ.1)

-- the first put last
pub differ_turned : (r : Resident) (rs : List Resident) → Differ (r ∷ rs) → Differ (rs ++ r ∷ [])
differ_turned r rs differ = differ_more rs r differ.0 differ.1

-- any number of them put last
differ_swapped : (us vs : List Resident) → Differ (us ++ vs) → Differ (vs ++ us)
differ_swapped [] vs differ = subst Differ (sym (append-nil vs)) differ
differ_swapped (u ∷ us) vs differ =
    let next : Differ (us ++ (vs ++ u ∷ [])) = subst Differ (append_assoc us vs (u ∷ [])) (differ_turned u (us ++ vs) differ) in
    subst Differ (append_assoc vs (u ∷ []) us) (differ_swapped us (vs ++ u ∷ []) next)

-- no page stands at two places
abbrev AreOwn : List (Option (ℕ × ℕ)) → Type 0
AreOwn held = (i j : ℕ) (here there : ℕ × ℕ) → get_or held i None ≡ Some here → get_or held j None ≡ Some there → here.0 ≡ there.0 → i < length held → j < length held → i ≡ j

none_from : (k : ℕ) (held : List (Option (ℕ × ℕ))) (page : ℕ) → ((j : ℕ) (there : ℕ × ℕ) → get_or held j None ≡ Some there → j < length held → there.0 ≢ page) → IsNoPageOf page (residents_from k held)
none_from k [] page none = tt
none_from k (None ∷ rest) page none = none_from (k + 1) rest page (λ j there is within. none (suc j) there is (omega arith))
none_from k (Some h ∷ rest) page none = (none 0 h refl (omega arith), none_from (k + 1) rest page (λ j there is within. none (suc j) there is (omega arith)))

same_pred : (i j : ℕ) → suc i ≡ suc j → i ≡ j
same_pred i j h = omega arith

own_rest : (o : Option (ℕ × ℕ)) (rest : List (Option (ℕ × ℕ))) → AreOwn (o ∷ rest) → AreOwn rest
own_rest o rest own i j here there is at same low high = same_pred i j (own (suc i) (suc j) here there is at same (omega arith) (omega arith))

differ_from : (k : ℕ) (held : List (Option (ℕ × ℕ))) → AreOwn held → Differ (residents_from k held)
differ_from k [] own = tt
differ_from k (None ∷ rest) own = differ_from (k + 1) rest (own_rest None rest own)
differ_from k (Some h ∷ rest) own = (
  none_from (k + 1) rest h.0 (λ j there is within same. (let end : 0 ≡ suc j = own 0 (suc j) h there refl is (sym same) (omega arith) (omega arith) in absurd (omega arith))),
  differ_from (k + 1) rest (own_rest (Some h) rest own),
)

-- no page stands in two frames, so none at two places
own_places : (frames : Frames) → HaveOwnPages frames → AreOwn frames.held
own_places frames own i j here there is at same low high =
    let first : frames.first + i - frames.first ≡ i = omega arith in
    let second : frames.first + j - frames.first ≡ j = omega arith in
    let one : frames.first + i ≡ frames.first + j =
    own (frames.first + i) (frames.first + j) here there (ap (λ (n : ℕ). get_or frames.held n None) first ∙ is) (ap (λ (n : ℕ). get_or frames.held n None) second ∙ at) same
    (omega arith) (omega arith) (omega arith) (omega arith) in
    omega arith

pub differ_round : (frames : Frames) → HaveOwnPages frames → Differ (round frames)
differ_round frames own =
    differ_swapped (residents_from frames.first (take frames.hand frames.held)) (residents_from (frames.first + frames.hand) (drop frames.hand frames.held))
    (subst Differ (split frames.first frames.hand frames.held) (differ_from frames.first frames.held (own_places frames own)))
