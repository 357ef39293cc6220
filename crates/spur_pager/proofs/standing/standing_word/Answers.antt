use Rattle.std.proofs.Common.{◌∙◌, ap, map, sym}
use Rattle.spur_pager.specs.Standing.{first_cached_word}
use Rattle.spur_pager.proofs.StandingFacts.{cached_has, memory_has, place_within, root_within}
use Rattle.spur_pager.proofs.standing.standing_word.Goals as goal

pub memory_word-requires-clause-root : goal.memory_word-requires-clause-root
memory_word-requires-clause-root g c =
    root_within (map g.T.HasCache.lens.lines_of c.args.boards.now) c.args.phys.now c.args.page c.requires.user c.requires.walk c.requires.present c.requires.root

pub memory_word-requires-clause-place : goal.memory_word-requires-clause-place
memory_word-requires-clause-place g c =
    place_within (map g.T.HasCache.lens.lines_of c.args.boards.now) c.args.phys.now c.args.page c.requires.user c.requires.walk c.requires.present c.requires.root

pub returns-in-Some : goal.returns-in-Some
returns-in-Some g c =
    let caches = map g.T.HasCache.lens.lines_of c.args.boards.now in
    cached_has caches c.args.phys.now c.args.page c.requires.user c.requires.walk c.requires.present c.requires.root c.in-Some.word
    (ap (first_cached_word caches) (sym c.pte_of.ensures.value) ∙ sym c.cached_word.ensures ∙ c.in-Some.is)

pub returns-in-None : goal.returns-in-None
returns-in-None g c =
    let caches = map g.T.HasCache.lens.lines_of c.args.boards.now in
    c.memory_word.ensures
    ∙ memory_has caches c.args.phys.now c.args.page c.requires.user c.requires.walk c.requires.present c.requires.root
    (ap (first_cached_word caches) (sym c.pte_of.ensures.value) ∙ sym c.cached_word.ensures ∙ c.in-None.is)
