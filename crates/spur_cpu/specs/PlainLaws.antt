-- The plain processor keeps the laws of processors.
use Rattle.std.specs.Prelude.{◌≢◌, true, false, Bool, Option, Some, None, refl}
use Rattle.spur_cpu.specs.declared.step.Reach.{Reach}
use Rattle.spur_cpu.specs.declared.cpu.Want.TheVariants.{Ended}
use Rattle.spur_cpu.specs.declared.cpu.Answer.TheVariants.{Done}
use Rattle.spur_cpu.specs.Meaning.{WantsAccess, IsLawful}
use Rattle.spur_cpu.specs.Steps.{reach_of}
use Rattle.spur_cpu.specs.Plain.{instr_of, plain, plain_answer, want_for, wants_in}

not_ended : (reach : Option Reach) → want_for reach ≢ Ended
not_ended None e = absurd cc
not_ended (Some reach) e = absurd cc

done_in : (ended : Bool) (first second : Option Reach) → WantsAccess (wants_in ended first) → wants_in ended second ≢ Ended
done_in true first second h = absurd h
done_in false first second h = not_ended second

pub plain_is_lawful : IsLawful plain
plain_is_lawful = record {
  faulted = λ s kind. refl;
  done = λ s value h. done_in s.ended (reach_of (instr_of s) s.registers) (reach_of (instr_of (plain_answer s (Done value))) (plain_answer s (Done value)).registers) h;
}
