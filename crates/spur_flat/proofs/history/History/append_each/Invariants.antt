use Rattle.std.proofs.Common.{◌≡◌, ◌+◌, ◌++◌, take}
use Rattle.spur_flat.proofs.history.History.append_each.Given as goal

abbrev pub invariant-loop-entry : goal.invariant-loop-entry
invariant-loop-entry l = record {
  entries : l.self.entries ≡ l.fn.self.entries ++ take l.entry-index l.entries;
  room : l.self.room + l.entry-index ≡ l.fn.self.room;
}
