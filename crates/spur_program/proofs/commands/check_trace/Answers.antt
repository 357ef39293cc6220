use Rattle.std.proofs.Common.{[], ap, refl, ◌≤◌, length, vec_len, arith, Err}
use Rattle.spur_input.specs.Program.{check_limit}
use Rattle.spur_io.specs.declared.whole.ReadAll.{ReadAll}
use Rattle.spur_program.proofs.WayFacts.{input_no_read, read_not, read_whole, whole_of}
use Rattle.spur_program.proofs.commands.check_trace.Goals as goal

pub returns-in-Ok-clause-way : goal.returns-in-Ok-clause-way
returns-in-Ok-clause-way g c = λ probes.
    let within : vec_len c.in-Ok.input ≤ check_limit = c.in-Ok.ensures.within in
    let short : length c.as_slice.result.now ≤ check_limit = omega arith in
    read_whole _ _ _ _ _ _ _ _ _ _ refl refl _ (whole_of _ _ _ _ c.as_slice.ensures.value c.in-Ok.ensures.whole c.in-Ok.ensures.end) short (c.check_input.ensures.answered probes)

pub returns-in-Err-clause-way : goal.returns-in-Err-clause-way
returns-in-Err-clause-way g c = λ probes.
    read_not _ _ _ _ _ _ _ _ _ _ refl refl c.in-Err.why (λ is. c.in-Err.ensures.too_long (ap (λ (why : ReadAll). Err why) is)) c.in-Err.ensures.front
    c.not_read.ensures.too_long c.not_read.ensures.fault c.not_read.ensures.memory

pub returns-in-Ok-clause-read : goal.returns-in-Ok-clause-read
returns-in-Ok-clause-read g c = λ is. absurd (input_no_read _ _ _ _ _ _ _ _ (c.check_input.ensures.answered []) is)
