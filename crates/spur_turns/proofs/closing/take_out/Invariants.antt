use Rattle.std.proofs.Common.{◌≡◌, ◌≤◌, ◌<◌, ◌+◌, ℕ, length, vec_capacity, true, false, get_or, Some}
use Rattle.std.specs.Prelude.{slice_get}
use mathlib.Core.Option.{some}
use lib.ListN.{get_elem?}
use Rattle.std.specs.Mem.Slots.{slots_items, slots_filled, slots_len}
use Rattle.spur_turns.specs.declared.table.Item.TheVariants.{Place}
use Rattle.spur_turns.proofs.closing.take_out.Given as goal

abbrev pub invariant-loop-next : goal.invariant-loop-next
invariant-loop-next g l = record {
  items : slots_items l.closed.slots ≡ slots_items l.fn.closed.slots;
  len : slots_len l.closed.slots ≡ slots_len l.fn.closed.slots;
  gone : (k : ℕ) → k < l.next + 1 → get_or (slots_filled l.closed.slots) k false ≡ false;
  there : (k : ℕ) → l.next < k → k < slots_len l.fn.closed.slots → get_or (slots_filled l.closed.slots) k false ≡ true;
  many : length l.places.items ≡ l.next;
  wide : slots_len l.fn.closed.slots ≤ vec_capacity l.places + 1;
  same : (j : ℕ) (p : _) → slice_get l.places.items j ≡ Some p → get_elem? (slots_items l.fn.closed.slots) (j + 1) ≡ some (Some (Place p));
}
