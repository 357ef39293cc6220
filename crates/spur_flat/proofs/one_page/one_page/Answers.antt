use Rattle.std.proofs.Common.{◌≡◌, ◌∙◌, List, ℕ, ap, refl, slice_set}
use Rattle.spur_flat.proofs.OnePage.{one-page-of-zeros}
use Rattle.spur_flat.proofs.one_page.one_page.Goals as goal

pub returns : goal.returns
returns c =
    let words : c.set-3.new.self ≡ slice_set (slice_set (slice_set c.from_vec-words.result 0 262167) 65536 c.args.entry) 66576 41 =
    c.set-3.ensures ∙ ap (λ (ws : List ℕ). slice_set ws 66576 41) (c.set-2.ensures ∙ ap (λ (ws : List ℕ). slice_set ws 65536 c.args.entry) c.set.ensures) in
    one-page-of-zeros 67584 1024 c.args.entry c.from_vec-words.result c.from_vec.result c.set-3.new.self c.from_vec-2.result refl refl
    (c.from_vec-words.ensures ∙ c.in_ok-vec.ensures.items_if_clones_equal (λ y is. is)) (c.from_vec.ensures ∙ c.in_ok-vec-2.ensures.items_if_clones_equal (λ y is. is))
    words (c.from_vec-2.ensures ∙ c.in_ok-vec-3.ensures.items)
    (record { readable = c.requires.readable; stands = c.requires.stands; frame = c.requires.frame })
