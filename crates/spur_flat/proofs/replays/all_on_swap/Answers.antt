use Rattle.std.proofs.Common.{◌≡◌, ◌∙◌, List, ℕ, [], ◌∷◌, ap, refl, slice_set}
use Rattle.spur_addr.specs.PageEntry.{swapped_of}
use Rattle.spur_flat.proofs.SwappedPages.{made, swapped-of-zeros}
use Rattle.spur_flat.proofs.replays.all_on_swap.Goals as goal

pub returns : goal.returns
returns c =
    let root : c.set.new.self ≡ slice_set c.from_vec-words.result 0 262167 = c.set.ensures in
    let one : c.set-2.new.self ≡ slice_set (slice_set c.from_vec-words.result 0 262167) 65536 (swapped_of 0 c.args.protection) =
    c.set-2.ensures ∙ ap (λ (w : ℕ). slice_set c.set.new.self 65536 w) (c.word.ensures.value ∙ c.swapped.ensures) ∙ ap (λ (ws : List ℕ). slice_set ws 65536 (swapped_of 0 c.args.protection)) root in
    let two : c.set-3.new.self ≡ slice_set (slice_set (slice_set c.from_vec-words.result 0 262167) 65536 (swapped_of 0 c.args.protection)) 65537 (swapped_of 1 c.args.protection) =
    c.set-3.ensures ∙ ap (λ (w : ℕ). slice_set c.set-2.new.self 65537 w) (c.word-2.ensures.value ∙ c.swapped-2.ensures) ∙ ap (λ (ws : List ℕ). slice_set ws 65537 (swapped_of 1 c.args.protection)) one in
    let words : c.set-4.new.self ≡ made c.from_vec-words.result c.args.protection =
    c.set-4.ensures ∙ ap (λ (w : ℕ). slice_set c.set-3.new.self 65538 w) (c.word-3.ensures.value ∙ c.swapped-3.ensures) ∙ ap (λ (ws : List ℕ). slice_set ws 65538 (swapped_of 2 c.args.protection)) two in
    let pages : c.set-7.new.self ≡ 0 ∷ 1 ∷ 2 ∷ [] =
    c.set-7.ensures ∙ ap (λ (ps : List ℕ). slice_set ps 2 2) (c.set-6.ensures ∙ ap (λ (ps : List ℕ). slice_set ps 1 1) (c.from_vec-pages.ensures ∙ c.in_ok-vec-3.ensures.items_if_clones_equal (λ y is. is))) in
    swapped-of-zeros 68608 3072 c.args.place c.args.value c.args.protection c.from_vec-words.result c.from_vec-swap.result c.set-5.new.self c.set-4.new.self c.set-7.new.self refl refl
    (c.from_vec-words.ensures ∙ c.in_ok-vec.ensures.items_if_clones_equal (λ y is. is)) (c.from_vec-swap.ensures ∙ c.in_ok-vec-2.ensures.items_if_clones_equal (λ y is. is))
    c.set-5.ensures words pages
