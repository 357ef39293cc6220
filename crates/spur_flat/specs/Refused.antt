-- Refusals of entries, with their two numbers.
use Rattle.std.specs.Prelude.{ℕ, Bool, true, false, Option, Some, None, Result, Ok, Err}
use Rattle.spur_flat.specs.declared.illegal.Clause.{Clause}
use Rattle.spur_flat.specs.declared.illegal.Illegal.{Illegal}

-- a refusal by a rule, with WANTED and FOUND
abbrev pub refused : Clause → ℕ → ℕ → Option Illegal
refused rule wanted found = Some record { clause = rule; wanted = wanted; found = found }

-- the first of two refusals
abbrev pub or_else : Option Illegal → Option Illegal → Option Illegal
or_else None second = second
or_else (Some first) second = Some first

-- a condition of a rule, with the numbers of its refusal: what follows is asked only where it holds
abbrev pub unless : Clause → Bool → ℕ → ℕ → Option Illegal → Option Illegal
unless rule true wanted found rest = rest
unless rule false wanted found rest = refused rule wanted found

-- the answer of a call that takes an entry, or refuses it
abbrev pub result_of : Option Illegal → Result (Unit {0}) Illegal
result_of None = Ok tt
result_of (Some why) = Err why

-- the place of an access's word, or why the access may not be done
abbrev pub place_or : Option Illegal → ℕ → Result ℕ Illegal
place_or None place = Ok place
place_or (Some why) place = Err why
