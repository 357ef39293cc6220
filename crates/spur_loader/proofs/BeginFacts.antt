-- What stands where in a whole opening, and that a run may begin with it.
use Rattle.std.specs.List.{All}
use Rattle.std.proofs.Common.{◌≡◌, ℕ, ◌<◌, None, length, map, refl, ap, arith}
use Rattle.std.proofs.lemmas.List.{length-map}
use Rattle.std.proofs.lemmas.List.Elements.{All-map}
use Rattle.spur_object.specs.Limits.{IsBoard, IsUnit}
use Rattle.spur_object.specs.declared.unit.Unit.{Unit as Program}
use Rattle.spur_object.specs.declared.unit.BoardText.{BoardText}
use Rattle.spur_loader.specs.declared.opening.Options.{Options}
use Rattle.spur_flat.specs.State.{opening_state}
use Rattle.spur_loader.specs.Opening.{opening_flat}
use Rattle.spur_loader.specs.Faults.{load_fault_of}
use Rattle.spur_loader.specs.Laws.{AcceptedMayBegin, OpeningReads}
use Rattle.spur_loader.specs.Readings.{AreRegisters}
use Rattle.spur_loader.proofs.ListFacts.{all_at, all_get}
use Rattle.spur_loader.proofs.FaultFacts.{no_fault}
use Rattle.spur_loader.proofs.ReadingFacts.{first_flat_reads}
use Rattle.spur_loader.proofs.SegmentFacts.{below_segment}
use Rattle.spur_loader.proofs.ValidFacts.{flat_absent, flat_valid}

pub opening_reads : OpeningReads
opening_reads unit options u = record {
  flat = first_flat_reads unit options u.pages;
  boards = length-map unit.boards (λ (board : BoardText). board.segs);
  segs = refl;
  code = refl;
  chosen = refl;
  state = ap (λ (n : ℕ). opening_state n options.lines (opening_flat unit options)) (length-map unit.boards (λ (board : BoardText). board.segs));
}

-- each board of an accepted unit has registers below segment 255
registers_below : (unit : Program) (options : Options) → IsUnit unit → load_fault_of unit options ≡ None
    → All AreRegisters (map (λ board. board.segs) unit.boards)
registers_below unit options u none =
    let f = no_fault unit options none in
    let low = below_segment unit u f.segment in
    All-map AreRegisters (λ (board : BoardText). board.segs) unit.boards (all_at (λ (board : BoardText). AreRegisters board.segs) unit.boards (λ i board at.
    let b = all_get IsBoard unit.boards i board u.boards at in
    record {
      four = b.four;
      below = all_get (λ (x : BoardText). All (λ seg. seg < 255) x.segs) unit.boards i board low.registers at;
    }))

pub accepted_may_begin : AcceptedMayBegin
accepted_may_begin unit options u o none =
    let count : length (map (λ (board : BoardText). board.segs) unit.boards) ≡ length unit.boards = length-map unit.boards (λ (board : BoardText). board.segs) in
    let some = u.some_board in
    let few = u.few_boards in
    record {
      boards = record { some_boards = omega arith; few_boards = omega arith };
      registers = registers_below unit options u none;
      options = o;
      frames = refl;
      valid = flat_valid unit options u none;
      absent = flat_absent unit options u;
    }
