use Rattle.std.proofs.Common.{◌≡◌, [], ◌∷◌, refl, rules, Err}
use Rattle.spur_object.specs.declared.fault.ObjKind.TheVariants.{Field}
use Rattle.spur_object.specs.Reading.{AreSegments, segment_fields}
use Rattle.spur_object.proofs.CursorFacts.{four_zeros, out, short_stop}
use Rattle.spur_object.proofs.cursor.Cursor.segments.Goals as goal

pub returns-in_err-four-clause-fault : goal.returns-in_err-four-clause-fault
returns-in_err-four-clause-fault c =
    let is : c.from_residual.result ≡ Err c.in_err-four.field-0.0 = search rules in
    let stop = short_stop AreSegments segment_fields c.args.self.now (0 ∷ 0 ∷ 0 ∷ 0 ∷ []) (record { kind = Field; bytes = 0 ∷ 0 ∷ 0 ∷ 0 ∷ [] }) four_zeros refl c.in_err-four.field-0.0 c.in_err-four.ensures.short in
    out AreSegments segment_fields c.args.self.now c.args.self.now c.from_residual.result c.in_err-four.field-0.0 is stop
