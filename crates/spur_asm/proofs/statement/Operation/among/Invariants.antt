use Rattle.std.proofs.Common.{◌≡◌, drop}
use Rattle.spur_asm.specs.Names.{operation_among}
use Rattle.spur_asm.proofs.statement.Operation.among.Given as goal

abbrev pub invariant-loop-operation : goal.invariant-loop-operation
invariant-loop-operation l = operation_among (drop l.operation-index l.operations) l.name ≡ operation_among l.operations l.name
