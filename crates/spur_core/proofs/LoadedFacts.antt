-- A world may begin with a loaded program.
use Rattle.std.proofs.Common.{◌≡◌, ◌≢◌, ◌∙◌, ℕ, ◌≤◌, [], sym, subst, List, get_or, length, Option, Some, None, arith}
use Rattle.std.specs.Prelude.{slice_get}
use Rattle.std.proofs.lemmas.List.{length-map}
use Rattle.std.proofs.lemmas.Option.{slice_get-get_or, slice_get_within}
use Rattle.spur_isa.specs.declared.instr.Instr.{Instr}
use Rattle.spur_object.specs.declared.unit.BoardText.{BoardText}
use Rattle.spur_cpu.specs.declared.cpu.Want.TheVariants.{Ended}
use Rattle.spur_cpu.specs.declared.plain.PlainCpu.{PlainCpu}
use Rattle.spur_cpu.specs.declared.step.Reach.{Reach}
use Rattle.spur_cpu.specs.Plain.{Plain, instr_of, opened, plain_wants, want_for}
use Rattle.spur_cpu.specs.PlainCpus.{plain_of, room_of}
use Rattle.spur_cpu.specs.Steps.{reach_of}
use Rattle.spur_loader.specs.Opening.{opening_of}
use Rattle.spur_loader.proofs.BeginFacts.{accepted_may_begin}
use Rattle.spur_loader.proofs.ListFacts.{all_at}
use Rattle.spur_core.specs.Loaded.{AreAtBeginning, IsAtBeginning, LoadedMayBegin}

-- a processor at the beginning of its code wants something
wants_first : (reach : Option Reach) → want_for reach ≢ Ended
wants_first None h = absurd cc
wants_first (Some reach) h = absurd cc

opened_wants : (code : List Instr) → plain_wants (opened code) ≢ Ended
opened_wants code = wants_first (reach_of (instr_of (opened code)) (opened code).registers)

-- a processor that is at the beginning of some board's code is there for each
at_start : (codes : List (List Instr)) (room : ℕ) (cpus : List PlainCpu) → AreAtBeginning codes room cpus → (i : ℕ) (cpu : PlainCpu) → slice_get cpus i ≡ Some cpu → IsAtBeginning (get_or codes i []) room cpu
at_start codes room cpus at i cpu there =
    let within = slice_get_within cpus i cpu there in
    let count = at.count in
    at.each i (get_or codes i []) cpu (slice_get-get_or codes i [] (omega arith)) there

pub loaded_may_begin : LoadedMayBegin
loaded_may_begin unit options cpus u o none at =
    let codes : List (List Instr) = (opening_of unit options).code in
    let code_count : length codes ≡ length unit.boards = length-map unit.boards (λ (board : BoardText). board.code) in
    let segs_count : length (opening_of unit options).segs ≡ length unit.boards = length-map unit.boards (λ (board : BoardText). board.segs) in
    record {
      begins = accepted_may_begin unit options u o none;
      count = at.count ∙ code_count ∙ sym segs_count;
      running = all_at (λ (cpu : PlainCpu). plain_wants (plain_of cpu) ≢ Ended) cpus (λ i cpu there.
          subst (λ (s : Plain). plain_wants s ≢ Ended) (sym (at_start codes options.budget cpus at i cpu there).state) (opened_wants (get_or codes i [])));
      room = all_at (λ (cpu : PlainCpu). options.budget ≤ room_of cpu) cpus (λ i cpu there. (at_start codes options.budget cpus at i cpu there).spare);
    }
