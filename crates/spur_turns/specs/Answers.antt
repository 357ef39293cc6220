-- The two answers of a try.
use Rattle.spur_turns.specs.declared.turns.Own.{Own}
use Rattle.spur_turns.specs.declared.turns.Own.TheVariants.{Got, Busy}

-- where the place was got, this holds of it
abbrev pub IfGot : {A : Type 0} → Own A → (A → Type 0) → Type 0
IfGot (Got x) holds = holds x
IfGot Busy holds = Unit {0}

-- where the bus had it, this holds
abbrev pub IfBusy : {A : Type 0} → Own A → Type 0 → Type 0
IfBusy (Got x) holds = Unit {0}
IfBusy Busy holds = holds
