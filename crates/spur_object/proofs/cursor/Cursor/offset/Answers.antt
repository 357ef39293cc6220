use Rattle.std.proofs.Common.{◌≡◌, ℕ, ◌^◌, ◌<◌, refl, rules, arith, Err}
use Rattle.spur_object.specs.declared.fault.ObjKind.TheVariants.{Field}
use Rattle.spur_object.specs.Fields.{number_field}
use Rattle.spur_object.specs.Reading.{IsOffset, one_field}
use Rattle.spur_object.proofs.CursorFacts.{one_begins, out, short_stop, wrong_stop}
use Rattle.spur_object.proofs.cursor.Cursor.offset.Goals as goal
use Rattle.spur_object.proofs.cursor.Cursor.offset.Goals.{then-offset-ne0-via-then-offset-ne0, then-offset-ne0-via-else-offset-ne0+then-offset-ge-SEGMENT_END}

zero_is : IsOffset 0
zero_is = record { aligned = refl; below = omega arith }

pub returns-in_err-offset-clause-fault : goal.returns-in_err-offset-clause-fault
returns-in_err-offset-clause-fault c =
    let is : c.from_residual.result ≡ Err c.in_err-offset.field-0.0 = search rules in
    let stop = short_stop IsOffset (one_field Field) c.args.self.now 0 (number_field Field 0) zero_is refl c.in_err-offset.field-0.0 c.in_err-offset.ensures.short in
    out IsOffset (one_field Field) c.args.self.now c.args.self.now c.from_residual.result c.in_err-offset.field-0.0 is stop

pub returns-then-offset-ne0-clause-fault : goal.returns-then-offset-ne0-clause-fault
returns-then-offset-ne0-clause-fault c =
    let fits : (x : ℕ) → IsOffset x → x < 2 ^ 32 = λ x is. let high = is.below in omega arith in
    let none : (x : ℕ) → IsOffset x → x ≡ c.in_ok-offset.offset → ⊥ =
    λ x is same.
    let aligned = is.aligned in
    let below = is.below in
    elim c.then-offset-ne0.branch [
      | then-offset-ne0-via-then-offset-ne0 w ↦ absurd (omega arith)
      | then-offset-ne0-via-else-offset-ne0+then-offset-ge-SEGMENT_END w ↦ absurd (omega arith)
    ] in
    wrong_stop IsOffset Field (λ n. n) c.args.self.now c.in_ok-offset.offset 0
    zero_is tt c.in_ok-offset.ensures.there c.in_ok-offset.ensures.bytes (search rules) fits none

pub returns-clause-found : goal.returns-clause-found
returns-clause-found c =
    one_begins IsOffset Field (λ n. n) c.args.self.now c.pass.new.self c.in_ok-offset.offset c.in_ok-offset.offset
    (record { aligned = c.if-offset-ne0.false; below = c.if-offset-ge-SEGMENT_END.false }) refl c.in_ok-offset.ensures.bytes c.pass.ensures
