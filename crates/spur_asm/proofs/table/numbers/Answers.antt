use Rattle.std.proofs.Common.{arith, ◌≡◌, ◌∙◌, ℕ, ◌+◌, ◌-◌, ◌<◌, ap, length, map, drop}
use Rattle.std.specs.List.{position_from}
use Rattle.spur_asm.specs.Context.{is_label, placed_of}
use Rattle.spur_asm.specs.declared.label.Key as keys
use Rattle.spur_asm.proofs.LabelTable.{one_more}
use Rattle.spur_asm.proofs.table.numbers.Goals as goal

pub loop-number-preserved : goal.loop-number-preserved
loop-number-preserved c = (
  let low = c.loop-number.invariant.0 in omega (arith, low),
  λ board name. (
      let low = c.loop-number.invariant.0 in
      let some = c.loop-number-test.true in
      let all = c.args.labels.now in
      let q : keys.Key = record { board = board; name = record { ref_ptr = c.args.labels.ref_ptr; now = name } } in
      let same : c.loop-number.number ≡ c.loop-number.number - 1 + 1 = omega (arith, some) in
      let inside : c.loop-number.number - 1 < length all = omega (arith, some, low) in
      c.in_ok-insert.ensures.updates.0 q
      ∙ one_more board name all (c.loop-number.number - 1) _ inside _ (c.loop-number.invariant.1 board name ∙ ap (λ (n : ℕ). position_from (is_label board name) n (map placed_of (drop n all))) same)),
)
