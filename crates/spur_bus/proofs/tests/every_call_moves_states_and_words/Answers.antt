use Rattle.spur_bus.proofs.TestFacts.{three_agree, three_serve}
use Rattle.spur_bus.proofs.tests.every_call_moves_states_and_words.Goals as goal

pub loop-call-init : goal.loop-call-init
loop-call-init g c =
    record {
      agree = three_agree c.in_ok-cache.field-0 c.in_ok-cache-2.field-0 c.in_ok-cache-3.field-0 c.in_ok-cache.ensures c.in_ok-cache-2.ensures c.in_ok-cache-3.ensures;
      serves = three_serve c.in_ok-cache.field-0 c.in_ok-cache-2.field-0 c.in_ok-cache-3.field-0 c.set_word-2.new.self c.in_ok-cache.ensures c.in_ok-cache-2.ensures c.in_ok-cache-3.ensures;
    }
