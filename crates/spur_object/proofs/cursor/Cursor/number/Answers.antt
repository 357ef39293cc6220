use Rattle.std.proofs.Common.{◌≡◌, ℕ, ◌^◌, ◌<◌, ◌≤◌, refl, rules, arith, Err}
use Rattle.spur_object.specs.Fields.{number_field}
use Rattle.spur_object.specs.Reading.{IsWithin, one_field}
use Rattle.spur_object.proofs.CursorFacts.{one_begins, out, short_stop, wrong_stop}
use Rattle.spur_object.proofs.cursor.Cursor.number.Goals as goal
use Rattle.spur_object.proofs.cursor.Cursor.number.Goals.{then-number-least-via-then-number-least, then-number-least-via-else-number-least+then-most-number}

least_is : (least most : ℕ) → least ≤ most → IsWithin least most least
least_is least most range = record { low = omega arith; high = range }

pub returns-in_err-number-clause-fault : goal.returns-in_err-number-clause-fault
returns-in_err-number-clause-fault c =
    let is : c.from_residual.result ≡ Err c.in_err-number.field-0.0 = search rules in
    let stop = short_stop (IsWithin c.args.least c.args.most) (one_field c.args.kind) c.args.self.now c.args.least (number_field c.args.kind c.args.least)
    (least_is c.args.least c.args.most c.requires.range) refl c.in_err-number.field-0.0 c.in_err-number.ensures.short in
    out (IsWithin c.args.least c.args.most) (one_field c.args.kind) c.args.self.now c.args.self.now c.from_residual.result c.in_err-number.field-0.0 is stop

pub returns-then-number-least-clause-fault : goal.returns-then-number-least-clause-fault
returns-then-number-least-clause-fault c =
    let fits = c.ranges.most.fits in
    let below : (x : ℕ) → IsWithin c.args.least c.args.most x → x < 2 ^ 32 = λ x is. let high = is.high in omega arith in
    let none : (x : ℕ) → IsWithin c.args.least c.args.most x → x ≡ c.in_ok-number.number → ⊥ =
    λ x is same.
    let low = is.low in
    let high = is.high in
    elim c.then-number-least.branch [
      | then-number-least-via-then-number-least w ↦ absurd (omega arith)
      | then-number-least-via-else-number-least+then-most-number w ↦ absurd (omega arith)
    ] in
    wrong_stop (IsWithin c.args.least c.args.most) c.args.kind (λ n. n) c.args.self.now c.in_ok-number.number c.args.least
    (least_is c.args.least c.args.most c.requires.range) c.requires.kind c.in_ok-number.ensures.there c.in_ok-number.ensures.bytes (search rules) below none

pub returns-clause-found : goal.returns-clause-found
returns-clause-found c =
    one_begins (IsWithin c.args.least c.args.most) c.args.kind (λ n. n) c.args.self.now c.pass.new.self c.in_ok-number.number c.in_ok-number.number
    (record { low = c.if-number-least.false; high = c.if-most-number.false }) refl c.in_ok-number.ensures.bytes c.pass.ensures
