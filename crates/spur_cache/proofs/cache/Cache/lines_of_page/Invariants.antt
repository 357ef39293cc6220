use Rattle.std.proofs.Common.{◌≡◌, ◌≤◌, ◌+◌, ◌++◌, drop, length}
use Rattle.spur_cache.specs.Lines.{page_lines_from, IsSpan}
use Rattle.spur_cache.proofs.cache.Cache.lines_of_page.Given as goal

-- what was found so far, and what is found from here on, are all
abbrev pub invariant-loop-number : goal.invariant-loop-number
invariant-loop-number l = record {
  told : l.numbers.items ++ page_lines_from l.page l.number (drop l.number l.self) ≡ page_lines_from l.page 0 l.self;
  few : length l.numbers.items + l.start ≤ l.number;
  span : IsSpan l.self l.page l.start l.end;
}
