-- The plain processor: the meaning of the instructions.
use Rattle.std.specs.Prelude.{ℕ, Bool, true, false, List, [], ◌∷◌, ◌++◌, Option, Some, None, slice_get}
use Rattle.spur_isa.specs.declared.instr.Instr.{Instr}
use Rattle.spur_isa.specs.declared.instr.Instr.TheVariants.{Halt}
use Rattle.spur_cpu.specs.declared.step.Step.{Step}
use Rattle.spur_cpu.specs.declared.step.Step.TheVariants.{Writes, Goes, Shows, Ends}
use Rattle.spur_cpu.specs.declared.step.Reach.{Reach}
use Rattle.spur_cpu.specs.declared.cpu.Want.{Want}
use Rattle.spur_cpu.specs.declared.cpu.Want.TheVariants.{Local, Access, Ended}
use Rattle.spur_cpu.specs.declared.cpu.Answer.{Answer}
use Rattle.spur_cpu.specs.declared.cpu.Answer.TheVariants.{Done, Faulted}
use Rattle.spur_cpu.specs.Meaning.{Meaning}
use Rattle.spur_cpu.specs.Registers.{loaded, register_of, with_register, zeros}
use Rattle.spur_cpu.specs.Steps.{instr_step, next_of, reach_of}

-- its program, its registers, the place of its next instruction, what it has shown, and whether it has ended
pub record Plain : Type 0 where
  pub code : List Instr
  pub registers : List ℕ
  pub place : ℕ
  pub shown : List ℕ
  pub ended : Bool

-- a place without an instruction holds `halt`
abbrev pub or_halt : Option Instr → Instr
or_halt None = Halt
or_halt (Some instr) = instr

abbrev pub instr_of : Plain → Instr
instr_of s = or_halt (slice_get s.code s.place)

-- what the next instruction does besides its access
abbrev pub next_step : Plain → Step
next_step s = instr_step (instr_of s) s.registers s.place

abbrev pub after_step : Plain → Step → Plain
after_step s (Writes a value to) = record s { registers = with_register s.registers a value; place = to }
after_step s (Goes to) = record s { place = to }
after_step s (Shows value) = record s { shown = s.shown ++ value ∷ []; place = next_of s.place }
after_step s Ends = record s { ended = true }

-- the state after a local instruction
abbrev pub plain_local : Plain → Plain
plain_local s = after_step s (next_step s)

abbrev pub is_showing : Step → Bool
is_showing (Writes a value to) = false
is_showing (Goes to) = false
is_showing (Shows value) = true
is_showing Ends = false

abbrev pub want_for : Option Reach → Want
want_for None = Local
want_for (Some reach) = Access reach.kind reach.va reach.value

abbrev pub wants_in : Bool → Option Reach → Want
wants_in true reach = Ended
wants_in false reach = want_for reach

abbrev pub plain_wants : Plain → Want
plain_wants s = wants_in s.ended (reach_of (instr_of s) s.registers)

-- an access that is done goes on to the next place; an ending fault changes no register
abbrev pub plain_answer : Plain → Answer → Plain
plain_answer s (Done value) = record s { registers = loaded (instr_of s) s.registers value; place = next_of s.place }
plain_answer s (Faulted kind) = record s { ended = true }

abbrev pub plain : Meaning Plain
plain = record {
  wants = plain_wants;
  shows = λ s. is_showing (next_step s);
  local = plain_local;
  answer = plain_answer;
  register = λ s a. register_of s.registers a;
  place = λ s. s.place;
  shown = λ s. s.shown;
}

-- at the beginning of a program all registers and the place are 0, and nothing is shown
abbrev pub opened : List Instr → Plain
opened code = record { code = code; registers = zeros; place = 0; shown = []; ended = false }
