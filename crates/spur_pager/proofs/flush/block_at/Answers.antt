use Rattle.std.proofs.Common.{◌≡◌, ◌∙◌, ◌<◌, ◌*◌, ◌%◌, ◌^◌, ℕ, Option, None, Some, IsSome, ap, sym, arith}
use Rattle.std.specs.Option.{option_map}
use Rattle.spur_cache.specs.declared.line.Line.{Line}
use Rattle.spur_cache.specs.Lines.{line_at}
use Rattle.spur_walk.specs.Tables.{block_address}
use Rattle.spur_pager.proofs.flush.block_at.Goals as goal

none_there : (o : Option ℕ) → o ≡ None → IsSome o → ⊥
none_there None is some = cc
none_there (Some n) is some = cc

shifted : (tag : ℕ) → tag < 2 ^ 33 → tag * 32 % 18446744073709551616 ≡ tag * 2 ^ 5
shifted tag low = omega arith

small : (tag : ℕ) → tag < 2 ^ 33 → tag * 2 ^ 5 < 274877906944
small tag low = omega arith

pub unreachable-requires-in-None : goal.unreachable-requires-in-None
unreachable-requires-in-None c =
    let line : Line = c.in-Some.line.now in
    let there : line_at c.args.cache.now c.args.number ≡ Some line = sym c.in-Some.ensures in
    let low : line.tag < 2 ^ 33 = (c.lines.ensures.cache.held c.args.number line there).tag in
    let same = shifted line.tag low in
    let fits = small line.tag low in
    none_there c.of.result c.in-None.is (c.of.ensures.exact.1 (omega arith))

pub returns : goal.returns
returns c =
    let line : Line = c.in-Some.line.now in
    let there : line_at c.args.cache.now c.args.number ≡ Some line = sym c.in-Some.ensures in
    let low : line.tag < 2 ^ 33 = (c.lines.ensures.cache.held c.args.number line there).tag in
    ap (option_map (λ (l : Line). block_address l.tag)) there ∙ ap (λ (n : ℕ). Some n) (sym (c.in-Some-of.ensures.value ∙ shifted line.tag low))
