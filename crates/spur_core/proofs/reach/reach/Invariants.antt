use Rattle.std.proofs.Common.{◌≡◌, ◌<◌, ◌≤◌, [], List, length}
use Rattle.spur_cache.specs.Lens.{OnlyLines}
use Rattle.spur_flat.specs.declared.entry.Entry.{Entry}
use Rattle.spur_walk.specs.Laws.{need_of}
use Rattle.spur_pager.specs.Faults.{faults_left}
use Rattle.spur_pager.specs.Reserve.{turn_room}
use Rattle.spur_pager.specs.View.{seen}
use Rattle.spur_core.specs.Comes.{Comes}
use Rattle.spur_core.proofs.RoundFacts.{Tallies}
use Rattle.spur_core.proofs.reach.reach.Given as goal

abbrev pub invariant-loop-kind : goal.invariant-loop-kind
invariant-loop-kind g l = record {
  own : l.b < length l.boards;
  need : l.need ≡ need_of l.access;
  entries : List Entry;
  faults : List Entry;
  comes : Comes l.b l.at l.access (seen g.B.Backing.meaning g.T.HasCache.lens l.fn.boards l.fn.store) (seen g.B.Backing.meaning g.T.HasCache.lens l.boards l.store) entries faults [];
  tallies : Tallies l.b l.at (need_of l.access) (seen g.B.Backing.meaning g.T.HasCache.lens l.boards l.store) entries;
  room : turn_room (seen g.B.Backing.meaning g.T.HasCache.lens l.boards l.store) l.b l.at (need_of l.access) ≤ l.store.history.room;
  lens : OnlyLines g.T.HasCache.lens l.fn.boards l.boards;
}

abbrev pub decreases-loop-kind : goal.decreases-loop-kind
decreases-loop-kind g l = faults_left (seen g.B.Backing.meaning g.T.HasCache.lens l.boards l.store) l.b l.at
