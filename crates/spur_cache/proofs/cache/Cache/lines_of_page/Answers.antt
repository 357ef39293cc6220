use Rattle.std.proofs.Common.{◌≡◌, ◌∙◌, ◌++◌, ap, sym, List, Option, [], ℕ, length, drop, arith}
use Rattle.std.proofs.lemmas.List.{append-nil}
use Rattle.spur_cache.specs.declared.line.Line.{Line}
use Rattle.spur_cache.specs.Lines.{page_lines_from}
use Rattle.spur_cache.proofs.SpanFacts.{before_span, after_span}
use Rattle.spur_cache.proofs.cache.Cache.lines_of_page.Goals as goal

pub loop-number-init : goal.loop-number-init
loop-number-init c =
    let lines : List (Option Line) = c.args.self.now in
    let page : ℕ = c.page-page.result in
    let start : ℕ = c.span-start.result.0 in
    let none = c.new-numbers.ensures in
    record {
      told = ap (λ (found : List ℕ). found ++ page_lines_from page start (drop start lines)) none ∙ before_span lines page start c.span-start.result.1 c.span-start.ensures;
      few = (let size : length c.new-numbers.result.items ≡ 0 = ap (λ (found : List ℕ). length found) none in omega arith);
      span = c.span-start.ensures;
    }

pub returns : goal.returns
returns c =
    let lines : List (Option Line) = c.args.self.now in
    let page : ℕ = c.page-page.result in
    let number : ℕ = c.loop-number.number in
    let rest : page_lines_from page number (drop number lines) ≡ [] = after_span lines page c.span-start.result.0 c.span-start.result.1 number c.span-start.ensures c.loop-number-test.false in
    sym (append-nil c.loop-number.numbers.items)
    ∙ ap (λ (left : List ℕ). c.loop-number.numbers.items ++ left) (sym rest)
    ∙ c.loop-number.invariant.told
    ∙ ap (λ (p : ℕ). page_lines_from p 0 lines) c.page-page.ensures.value
