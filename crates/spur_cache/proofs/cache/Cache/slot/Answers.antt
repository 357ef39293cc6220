use Rattle.std.proofs.Common.{◌≡◌, ◌∙◌, ◌-◌, ap, bit_and, rules, ℕ, List, length, Option}
use Rattle.spur_cache.specs.declared.line.Line.{Line}
use Rattle.spur_cache.specs.Lines.{index_of}
use Rattle.spur_cache.proofs.SizeFacts.{masked}
use Rattle.spur_cache.proofs.cache.Cache.slot.Goals as goal

pub returns-clause-value : goal.returns-clause-value
returns-clause-value c =
    let size : c.len.result ≡ length c.self.inside.lines.items = search rules in
    ap (λ (n : ℕ). bit_and c.args.block (n - 1)) size
    ∙ masked c.args.block (length c.self.inside.lines.items) c.self.invariant.count
    ∙ ap (λ (now : List (Option Line)). index_of now c.args.block) c.self.view_is
