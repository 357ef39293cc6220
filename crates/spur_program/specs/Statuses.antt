-- The numbers of the statuses, with which the program exits.
use Rattle.std.specs.Prelude.{ℕ}
use Rattle.spur_program.specs.declared.report.Status.{Status}
use Rattle.spur_program.specs.declared.report.Status.TheVariants.{Fine, Ended, Words, Input, ReadFault, WriteFault, SwapAtStart, Stopped, NoMemory}

abbrev pub status_number : Status → ℕ
status_number Fine = 0
status_number Ended = 1
status_number Words = 2
status_number Input = 3
status_number ReadFault = 4
status_number WriteFault = 5
status_number SwapAtStart = 6
status_number Stopped = 7
status_number NoMemory = 9
