use Rattle.std.proofs.Common.{◌≡◌, ◌<◌, length, rules, arith, vec_len, Err}
use Rattle.spur_isa.specs.Ranges.{IsInstr}
use Rattle.spur_object.specs.Fields.{instr_fields}
use Rattle.spur_object.specs.Reading.{IsCounted, list_fields}
use Rattle.spur_object.proofs.CursorFacts.{lift_stop, out}
use Rattle.spur_object.proofs.ListFacts.{instr_spends, code_part}
use Rattle.spur_object.proofs.StopFacts.{none_each, none_read, one_more, pushed_each}
use Rattle.spur_object.proofs.parts.code.Goals as goal

pub loop-cursor-init : goal.loop-cursor-init
loop-cursor-init c =
    let none = c.in_ok-code.ensures.items in
    let long = c.in_ok-code.ensures.len in
    let room = c.in_ok-code.ensures.exact in
    record {
      few = omega arith;
      each = none_each IsInstr c.in_ok-code.code.items none;
      bytes_are = none_read instr_fields c.args.cursor.now c.in_ok-code.code.items none;
      spent = omega arith;
      room = omega arith;
    }

pub returns-in_err-instr-clause-fault : goal.returns-in_err-instr-clause-fault
returns-in_err-instr-clause-fault c =
    let is : c.from_residual-in_err-instr.result ≡ Err c.in_err-instr.field-0.0 = search rules in
    let invariant = c.loop-cursor.invariant in
    let read = c.loop-cursor.code.items in
    let long : vec_len c.loop-cursor.code ≡ length read = search rules in
    let few : length read < c.args.count = let below = c.loop-cursor-test.true in omega arith in
    out (IsCounted IsInstr c.args.count) (list_fields instr_fields) c.args.cursor.now c.instr.new.self c.from_residual-in_err-instr.result c.in_err-instr.field-0.0 is
    (lift_stop IsInstr instr_fields (IsCounted IsInstr c.args.count) (list_fields instr_fields) (list_fields instr_fields read) (code_part c.args.count read invariant.each few)
    c.args.cursor.now c.loop-cursor.cursor c.instr.new.self invariant.bytes_are
    c.in_err-instr.field-0.0 c.in_err-instr.ensures.fault)

pub push_reserved-requires : goal.push_reserved-requires
push_reserved-requires c =
    let spent = c.loop-cursor.invariant.spent in
    let room = c.loop-cursor.invariant.room in
    let below = c.loop-cursor-test.true in
    let one = instr_spends c.loop-cursor.cursor c.instr.new.self c.in_ok-instr.instr c.in_ok-instr.ensures.found in
    omega arith

pub loop-cursor-preserved : goal.loop-cursor-preserved
loop-cursor-preserved c =
    let invariant = c.loop-cursor.invariant in
    let spent = invariant.spent in
    let below = c.loop-cursor-test.true in
    let found = c.in_ok-instr.ensures.found in
    let items = c.push_reserved.ensures.items in
    let long = c.push_reserved.ensures.len in
    let one = instr_spends c.loop-cursor.cursor c.instr.new.self c.in_ok-instr.instr found in
    record {
      few = omega arith;
      each = pushed_each IsInstr c.loop-cursor.code.items c.push_reserved.new.self.items c.in_ok-instr.instr invariant.each found.limits items;
      bytes_are = one_more IsInstr instr_fields c.args.cursor.now c.loop-cursor.code.items c.push_reserved.new.self.items c.in_ok-instr.instr c.loop-cursor.cursor c.instr.new.self
          invariant.bytes_are found items;
      spent = omega arith;
      room = let room = invariant.room in let same = c.push_reserved.ensures.capacity in omega arith;
    }

pub returns-clause-found : goal.returns-clause-found
returns-clause-found c =
    let few = c.loop-cursor.invariant.few in
    let enough = c.loop-cursor-test.false in
    let long : vec_len c.loop-cursor.code ≡ length c.loop-cursor.code.items = search rules in
    record {
      limits = record { as_many = omega arith; each = c.loop-cursor.invariant.each };
      bytes_are = c.loop-cursor.invariant.bytes_are;
    }
