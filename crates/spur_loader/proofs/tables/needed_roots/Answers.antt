-- A sort and the removal of what stands twice leave the same numbers, in ascending order.
use Rattle.std.proofs.Common.{◌≡◌, ◌/◌, map, rules}
use Rattle.std.proofs.lemmas.List.Filters.{dedup_is}
use Rattle.spur_loader.proofs.RootFacts.{roots_are}
use Rattle.spur_loader.proofs.tables.needed_roots.Goals as goal

pub returns-clause-needed : goal.returns-clause-needed
returns-clause-needed c =
    let made : c.in_ok-roots.roots.items ≡ map (λ page. page.page / 1024) c.args.pages.now = search rules in
    roots_are c.args.pages.now c.in_ok-roots.roots.items c.sort_unstable.new.self.items c.dedup.new.self.items made
    c.sort_unstable.ensures.permutation c.sort_unstable.ensures.sorted (dedup_is _ _ _ c.dedup.ensures.filtered)
