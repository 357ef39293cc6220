use Rattle.std.proofs.Common.{◌≡◌, ◌∙◌, List, ℕ, ap, length, refl, slice_set}
use Rattle.std.proofs.lemmas.List.{length-replicate, length-set}
use Rattle.spur_flat.proofs.TwoPages.{two-pages-of-zeros}
use Rattle.spur_flat.proofs.tests.two_pages.Goals as goal

pub returns : goal.returns
returns c =
    let words : c.words.inside.items.items ≡ slice_set (slice_set (slice_set c.from_vec-words.result 0 262167) 65536 48) 65537 4144 =
    c.words.view_is ∙ c.set-3.ensures ∙ ap (λ (ws : List ℕ). slice_set ws 65537 4144) (c.set-2.ensures ∙ ap (λ (ws : List ℕ). slice_set ws 65536 48) c.set.ensures) in
    let zeros : length c.from_vec-swap.result ≡ 2048 =
    ap (λ (ws : List ℕ). length ws) (c.from_vec-swap.ensures ∙ c.in_ok-vec-2.ensures.items_if_clones_equal (λ y is. is)) ∙ length-replicate {A = ℕ} 2048 0 in
    let swap : length c.set-5.new.self ≡ 2048 =
    ap (λ (ws : List ℕ). length ws) c.set-5.ensures ∙ length-set c.set-4.new.self 1040 51
    ∙ ap (λ (ws : List ℕ). length ws) c.set-4.ensures ∙ length-set c.from_vec-swap.result 16 41 ∙ zeros in
    two-pages-of-zeros 68608 c.from_vec-words.result c.set-5.new.self c.words.inside.items.items c.from_vec.result refl swap
    (c.from_vec-words.ensures ∙ c.in_ok-vec.ensures.items_if_clones_equal (λ y is. is)) words (c.from_vec.ensures ∙ c.in_ok-vec-3.ensures.items)
