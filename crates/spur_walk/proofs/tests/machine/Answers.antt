use Rattle.std.proofs.Common.{◌≡◌, ◌∙◌, ℕ, ap, sym, List, replicate, slice_set}
use Rattle.spur_walk.proofs.TestFacts.{entries_are, may_walk, root_valid}
use Rattle.spur_walk.proofs.tests.machine.Goals as goal

pub returns-clause-walk : goal.returns-clause-walk
returns-clause-walk c =
    let words : c.set_word-2.new.self ≡ slice_set (slice_set (replicate 67584 0) 0 c.args.root) 65536 c.in-Ok.entry =
    c.set_word-2.ensures ∙ ap (λ (n : ℕ). slice_set c.set_word.new.self 65536 n) c.word.ensures.value
    ∙ ap (λ (ws : List ℕ). slice_set ws 65536 c.in-Ok.entry) (c.set_word.ensures ∙ ap (λ (ws : List ℕ). slice_set ws 0 c.args.root) c.in_ok-phys.ensures) in
    may_walk c.args.lines c.in-Ok-new.cache c.set_word-2.new.self c.args.root c.in-Ok.entry c.in-Ok-new.ensures.empty c.lines.ensures.cache words
    (entries_are c.args.root c.in-Ok.entry c.word.ensures.readable (sym c.fits.ensures ∙ c.if-not-fits.false))

pub returns-clause-root : goal.returns-clause-root
returns-clause-root c is =
    let words : c.set_word-2.new.self ≡ slice_set (slice_set (replicate 67584 0) 0 c.args.root) 65536 c.in-Ok.entry =
    c.set_word-2.ensures ∙ ap (λ (n : ℕ). slice_set c.set_word.new.self 65536 n) c.word.ensures.value
    ∙ ap (λ (ws : List ℕ). slice_set ws 65536 c.in-Ok.entry) (c.set_word.ensures ∙ ap (λ (ws : List ℕ). slice_set ws 0 c.args.root) c.in_ok-phys.ensures) in
    root_valid c.args.lines c.in-Ok-new.cache c.set_word-2.new.self c.args.root c.in-Ok.entry c.in-Ok-new.ensures.empty words is
