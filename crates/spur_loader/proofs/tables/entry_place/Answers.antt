-- The search finds the page's root entry, since it is one of the needed ones.
use Rattle.std.proofs.Common.{◌/◌, subst}
use Rattle.spur_loader.proofs.ListFacts.{IsFound, search_finds}
use Rattle.spur_loader.proofs.tables.entry_place.Goals as goal

pub unreachable-requires : goal.unreachable-requires
unreachable-requires c = subst (IsFound c.args.roots.now (c.args.page / 1024)) c.in-Err.is (search_finds _ _ _ c.requires.ascending c.requires.needed c.binary_search.ensures.position)

pub returns : goal.returns
returns c = record {
  table = c.in-Ok.table;
  there = subst (IsFound c.args.roots.now (c.args.page / 1024)) c.in-Ok.is (search_finds _ _ _ c.requires.ascending c.requires.needed c.binary_search.ensures.position);
  is = c.place_in_table.ensures;
}
