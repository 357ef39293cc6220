-- Paging is invisible in the report of a run.
use Rattle.std.proofs.Common.{ℕ, Option, Some, None, List, [], ◌∷◌}
use Rattle.std.specs.List.{AllByRecursion}
use Rattle.std.proofs.lemmas.List.Elements.{All-filter, All-from_recursion}
use Rattle.spur_flat.specs.declared.entry.Entry.{Entry}
use Rattle.spur_flat.specs.Clean.{AreClean}
use Rattle.spur_flat.specs.Formed.{IsFormed}
use Rattle.spur_flat.specs.Untold.{IsLegalButValues}
use Rattle.spur_flat.specs.Validity.{IsValidFlat}
use Rattle.spur_flat.proofs.CleanFacts.{none-valid-is-clean}
use Rattle.spur_flat.proofs.WellFormedFacts.{legal_but_values}
use Rattle.spur_swap.specs.Meaning.{Swap}
use Rattle.spur_cpu.specs.Plain.{plain}
use Rattle.spur_plain.specs.Invisible.{AreGlobal}
use Rattle.spur_plain.specs.PlainHistory.{is_plain, plain_entries}
use Rattle.spur_plain.proofs.InvisibleFacts.{IsSmall, paging-is-invisible, paging-is-invisible-but-values}
use Rattle.spur_plain.proofs.RunFacts.{run-is-plain-but-values}
use Rattle.spur_object.specs.Limits.{IsUnit}
use Rattle.spur_object.specs.declared.unit.Unit.{Unit as Program}
use Rattle.spur_asm.proofs.SaidUnits.{said_unit}
use Rattle.spur_loader.specs.declared.opening.Options.{Options}
use Rattle.spur_loader.specs.Opening.{first_state, opening_flat, opening_of}
use Rattle.spur_loader.proofs.ValidFacts.{flat_absent, flat_valid}
use Rattle.spur_report.specs.declared.report.Report.{Report}
use Rattle.spur_words.specs.declared.task.Order.{Order}
use Rattle.spur_input.specs.Program.{IsLoadable, IsProgramOf, OfObject, OfText}
use Rattle.spur_program.specs.Headline.{IsOfOneMachine, IsOnPlainMemory, IsRunOnPlainMemory}
use Rattle.spur_program.specs.PlainMemory.{plain_memory_of}
use Rattle.spur_program.specs.Reports.{IsReportOf, plain_start, run_in}
use Rattle.spur_program.proofs.PlainMemoryFacts.{opening_is_plain}

-- an accepted program is within a unit's limits
is_unit : (unit : Program) (input : List ℕ) → IsProgramOf unit input → IsUnit unit
is_unit unit input (OfText text says) = said_unit input unit says
is_unit unit input (OfObject object is same) = is

-- the addresses of formed entries are global ones
formed_small : (boards : ℕ) (es : List Entry) → AllByRecursion (IsFormed boards) es → AllByRecursion IsSmall es
formed_small boards [] formed = tt
formed_small boards (e ∷ es) formed = (formed.0.small, formed_small boards es formed.1)

formed_global : (boards : ℕ) (es : List Entry) → AllByRecursion (IsFormed boards) es → AreGlobal (plain_entries es)
formed_global boards es formed = All-filter is_plain IsSmall es (All-from_recursion IsSmall es (formed_small boards es formed))

module _ (options : Options) (input : List ℕ) (unit : Program) (order : Order) (before now : Swap) (report : Report)
    (loadable : IsLoadable options input unit) (reports : IsReportOf (opening_of unit options) order before now report) where
  valid : IsValidFlat (opening_flat unit options)
  valid = flat_valid unit options (is_unit unit input loadable.program) loadable.loads

  clean : AreClean (opening_flat unit options)
  clean = none-valid-is-clean (opening_flat unit options) (flat_absent unit options (is_unit unit input loadable.program))

  global : AreGlobal (plain_entries report.history)
  global = formed_global _ report.history reports.run.order.formed

  but_values : (told : Option (List ℕ)) → IsOfOneMachine (first_state (opening_of unit options)) report.history report.last told → IsLegalButValues (opening_flat unit options) report.history
  but_values (Some words) is = legal_but_values (opening_flat unit options) report.history is.entries.legal
  but_values None is = is.legal

  history_by : (told : Option (List ℕ)) → IsOfOneMachine (first_state (opening_of unit options)) report.history report.last told
      → IsOnPlainMemory (opening_flat unit options) report.history told
  history_by (Some words) is = paging-is-invisible (opening_flat unit options) report.history valid clean global is.entries.legal
  history_by None is = paging-is-invisible-but-values (opening_flat unit options) report.history valid clean global is.legal

  pub on_plain_memory : IsRunOnPlainMemory plain (plain_memory_of unit) (plain_start (opening_of unit options) before.faults) (run_in report reports.boards now)
  on_plain_memory =
      let legal = but_values now.pages reports.run.machine in
      let all = run-is-plain-but-values plain (opening_flat unit options) report.history valid clean global legal in
      record {
        begins = opening_is_plain unit options (is_unit unit input loadable.program) loadable.loads;
        history = history_by now.pages reports.run.machine;
        boards = λ i first board at there.
            all.boards i board.segs board.budget first board.course board.course.retired (reports.run.order.each i first board at there).led;
      }
