use Rattle.std.proofs.Common.{◌≡◌, ◌<◌, length, rules, arith, vec_len, Err}
use Rattle.spur_object.specs.Limits.{IsBoard}
use Rattle.spur_object.specs.Fields.{board_fields}
use Rattle.spur_object.specs.Reading.{IsCounted, list_fields}
use Rattle.spur_object.proofs.CursorFacts.{lift_stop, out}
use Rattle.spur_object.proofs.ListFacts.{board_spends, boards_part}
use Rattle.spur_object.proofs.StopFacts.{none_each, none_read, one_more, pushed_each}
use Rattle.spur_object.proofs.parts.boards.Goals as goal

pub loop-alloc-init : goal.loop-alloc-init
loop-alloc-init c =
    let none = c.in_ok-boards.ensures.items in
    let long = c.in_ok-boards.ensures.len in
    let room = c.in_ok-boards.ensures.exact in
    record {
      few = omega arith;
      each = none_each IsBoard c.in_ok-boards.boards.items none;
      bytes_are = none_read board_fields c.args.cursor.now c.in_ok-boards.boards.items none;
      spent = omega arith;
      room = omega arith;
    }

pub returns-in_err-board-clause-fault : goal.returns-in_err-board-clause-fault
returns-in_err-board-clause-fault c =
    let is : c.from_residual-in_err-board.result ≡ Err c.in_err-board.field-0.0 = search rules in
    let invariant = c.loop-alloc.invariant in
    let read = c.loop-alloc.boards.items in
    let long : vec_len c.loop-alloc.boards ≡ length read = search rules in
    let few : length read < c.args.count = let below = c.loop-alloc-test.true in omega arith in
    out (IsCounted IsBoard c.args.count) (list_fields board_fields) c.args.cursor.now c.board.new.cursor c.from_residual-in_err-board.result c.in_err-board.field-0.0 is
    (lift_stop IsBoard board_fields (IsCounted IsBoard c.args.count) (list_fields board_fields) (list_fields board_fields read) (boards_part c.args.count read invariant.each few)
    c.args.cursor.now c.loop-alloc.cursor c.board.new.cursor invariant.bytes_are
    c.in_err-board.field-0.0 c.in_err-board.ensures.fault)

pub push_reserved-requires : goal.push_reserved-requires
push_reserved-requires c =
    let spent = c.loop-alloc.invariant.spent in
    let room = c.loop-alloc.invariant.room in
    let below = c.loop-alloc-test.true in
    let one = board_spends c.loop-alloc.cursor c.board.new.cursor c.in_ok-board.board c.in_ok-board.ensures.found in
    omega arith

pub loop-alloc-preserved : goal.loop-alloc-preserved
loop-alloc-preserved c =
    let invariant = c.loop-alloc.invariant in
    let spent = invariant.spent in
    let below = c.loop-alloc-test.true in
    let found = c.in_ok-board.ensures.found in
    let items = c.push_reserved.ensures.items in
    let long = c.push_reserved.ensures.len in
    let one = board_spends c.loop-alloc.cursor c.board.new.cursor c.in_ok-board.board found in
    record {
      few = omega arith;
      each = pushed_each IsBoard c.loop-alloc.boards.items c.push_reserved.new.self.items c.in_ok-board.board invariant.each found.limits items;
      bytes_are = one_more IsBoard board_fields c.args.cursor.now c.loop-alloc.boards.items c.push_reserved.new.self.items c.in_ok-board.board c.loop-alloc.cursor c.board.new.cursor
          invariant.bytes_are found items;
      spent = omega arith;
      room = let room = invariant.room in let same = c.push_reserved.ensures.capacity in omega arith;
    }

pub returns-clause-found : goal.returns-clause-found
returns-clause-found c =
    let few = c.loop-alloc.invariant.few in
    let enough = c.loop-alloc-test.false in
    let long : vec_len c.loop-alloc.boards ≡ length c.loop-alloc.boards.items = search rules in
    record {
      limits = record { as_many = omega arith; each = c.loop-alloc.invariant.each };
      bytes_are = c.loop-alloc.invariant.bytes_are;
    }
