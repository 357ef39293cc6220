use Rattle.std.proofs.Common.{◌≡◌, ◌∙◌, ℕ, ap, sym, subst, List, length, slice_set, Option, Some}
use Rattle.spur_cache.specs.declared.line.Line.{Line}
use Rattle.spur_cache.specs.Lines.{IsCache, index_of}
use Rattle.spur_cache.proofs.CacheFacts.{cache-fill}
use Rattle.spur_cache.proofs.cache.Cache.put.Goals as goal

pub invariant_of-self : goal.invariant_of-self
invariant_of-self c =
    let lines : List (Option Line) = c.self.inside.lines.items in
    let eight : length c.args.line.words ≡ 8 = c.count_words.ensures in
    let slot : index_of lines c.args.line.tag ≡ c.slot-slot.result = ap (λ (now : List (Option Line)). index_of now c.args.line.tag) c.self.view_is ∙ sym c.slot-slot.ensures.value in
    subst (λ (n : ℕ). IsCache (slice_set lines n (Some c.args.line))) slot (cache-fill lines c.args.line c.self.invariant record { valid = c.requires.valid; tag = c.requires.tag; words = eight })
