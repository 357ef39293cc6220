use Rattle.std.proofs.Common.{rules, arith, ◌+◌, ◌<◌, ◌≤◌, take, replicate}
use Rattle.spur_turns.specs.Room.{IsGoodWithRoom, name_with_room}
use Rattle.spur_turns.proofs.EndFacts.{starts}
use Rattle.spur_turns.proofs.ListFacts.{long_take, zero_replicate, zero_take}
use Rattle.spur_turns.proofs.turns.Turns.new.Goals as goal

pub vacant-made-requires : goal.vacant-made-requires
vacant-made-requires g c =
    let low : c.len-count.result < 13 = search rules in
    let within : c.len-count.result + 2 ≤ 14 = omega (arith, low) in
    starts (IsGoodWithRoom g.P.Pact.good) (name_with_room g.P.Pact.name) c.len-count.result (take (c.len-count.result + 2) (replicate 14 0)) (long_take (c.len-count.result + 2) (replicate 14 0) within) (zero_take (c.len-count.result + 2) (replicate 14 0) (zero_replicate 14))
