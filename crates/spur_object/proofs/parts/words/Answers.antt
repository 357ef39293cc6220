use Rattle.std.proofs.Common.{◌≡◌, ◌<◌, length, rules, arith, vec_len, Err}
use Rattle.spur_object.specs.Limits.{IsWord}
use Rattle.spur_object.specs.Fields.{word_fields}
use Rattle.spur_object.specs.Reading.{IsCounted, list_fields}
use Rattle.spur_object.proofs.CursorFacts.{lift_stop, out}
use Rattle.spur_object.proofs.ListFacts.{word_spends, words_part}
use Rattle.spur_object.proofs.StopFacts.{none_each, none_read, one_more, pushed_each}
use Rattle.spur_object.proofs.parts.words.Goals as goal

pub loop-cursor-init : goal.loop-cursor-init
loop-cursor-init c =
    let none = c.in_ok-words.ensures.items in
    let long = c.in_ok-words.ensures.len in
    let room = c.in_ok-words.ensures.exact in
    record {
      few = omega arith;
      each = none_each IsWord c.in_ok-words.words.items none;
      bytes_are = none_read word_fields c.args.cursor.now c.in_ok-words.words.items none;
      spent = omega arith;
      room = omega arith;
    }

pub returns-in_err-word-clause-fault : goal.returns-in_err-word-clause-fault
returns-in_err-word-clause-fault c =
    let is : c.from_residual-in_err-word.result ≡ Err c.in_err-word.field-0.0 = search rules in
    let invariant = c.loop-cursor.invariant in
    let read = c.loop-cursor.words.items in
    let long : vec_len c.loop-cursor.words ≡ length read = search rules in
    let few : length read < c.args.count = let below = c.loop-cursor-test.true in omega arith in
    out (IsCounted IsWord c.args.count) (list_fields word_fields) c.args.cursor.now c.word.new.cursor c.from_residual-in_err-word.result c.in_err-word.field-0.0 is
    (lift_stop IsWord word_fields (IsCounted IsWord c.args.count) (list_fields word_fields) (list_fields word_fields read) (words_part c.args.count read invariant.each few)
    c.args.cursor.now c.loop-cursor.cursor c.word.new.cursor invariant.bytes_are
    c.in_err-word.field-0.0 c.in_err-word.ensures.fault)

pub push_reserved-requires : goal.push_reserved-requires
push_reserved-requires c =
    let spent = c.loop-cursor.invariant.spent in
    let room = c.loop-cursor.invariant.room in
    let below = c.loop-cursor-test.true in
    let one = word_spends c.loop-cursor.cursor c.word.new.cursor c.in_ok-word.word c.in_ok-word.ensures.found in
    omega arith

pub loop-cursor-preserved : goal.loop-cursor-preserved
loop-cursor-preserved c =
    let invariant = c.loop-cursor.invariant in
    let spent = invariant.spent in
    let below = c.loop-cursor-test.true in
    let found = c.in_ok-word.ensures.found in
    let items = c.push_reserved.ensures.items in
    let long = c.push_reserved.ensures.len in
    let one = word_spends c.loop-cursor.cursor c.word.new.cursor c.in_ok-word.word found in
    record {
      few = omega arith;
      each = pushed_each IsWord c.loop-cursor.words.items c.push_reserved.new.self.items c.in_ok-word.word invariant.each found.limits items;
      bytes_are = one_more IsWord word_fields c.args.cursor.now c.loop-cursor.words.items c.push_reserved.new.self.items c.in_ok-word.word c.loop-cursor.cursor c.word.new.cursor
          invariant.bytes_are found items;
      spent = omega arith;
      room = let room = invariant.room in let same = c.push_reserved.ensures.capacity in omega arith;
    }

pub returns-clause-found : goal.returns-clause-found
returns-clause-found c =
    let few = c.loop-cursor.invariant.few in
    let enough = c.loop-cursor-test.false in
    let long : vec_len c.loop-cursor.words ≡ length c.loop-cursor.words.items = search rules in
    record {
      limits = record { as_many = omega arith; each = c.loop-cursor.invariant.each };
      bytes_are = c.loop-cursor.invariant.bytes_are;
    }
