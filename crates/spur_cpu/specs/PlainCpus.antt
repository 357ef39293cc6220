-- What a plain processor of the program is in the model, and its spare room for shown values.
use Rattle.std.specs.Prelude.{ℕ, ◌-◌, vec_len, vec_capacity}
use Rattle.spur_cpu.specs.declared.plain.PlainCpu.{PlainCpu}
use Rattle.spur_cpu.specs.Plain.{Plain}

abbrev pub plain_of : PlainCpu → Plain
plain_of c = record { code = c.code; registers = c.registers; place = c.place; shown = c.shown.items; ended = c.ended }

-- how many values may be shown before memory would be needed
abbrev pub room_of : PlainCpu → ℕ
room_of c = vec_capacity c.shown - vec_len c.shown
