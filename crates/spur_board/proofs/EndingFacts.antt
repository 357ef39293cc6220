-- What an ending says of the instruction that was completed.
use Rattle.std.proofs.Common.{Bool, true, false, ◌≡◌, ◌≢◌, ℕ, ◌==◌, if◌then◌else◌, refl, Option, Some, None, arith}
use Rattle.std.specs.Prelude.{is_some}
use Rattle.std.proofs.lemmas.Bool.Decides.{nat_tests}
use Rattle.spur_flat.specs.declared.access.FaultKind.{FaultKind}
use Rattle.spur_cpu.specs.declared.cpu.Want.{Want}
use Rattle.spur_cpu.specs.declared.cpu.Want.TheVariants as want
use Rattle.spur_board.specs.declared.ending.Ending.{Ending}
use Rattle.spur_board.specs.declared.ending.Ending.TheVariants as ending
use Rattle.spur_board.specs.Boards.{ended_at}

-- what it says that a completed instruction gives no ending
not_met : (n budget : ℕ) → (if n == budget then Some ending.Spent else None) ≡ None → n ≢ budget
not_met n budget e q = grind (arith, nat_tests, e, q)

pub goes_left : (w : Want) (budget n : ℕ) → ended_at w budget n ≡ None → n ≢ budget
goes_left want.Local budget n e = not_met n budget e
goes_left (want.Access kind va value) budget n e = not_met n budget e
goes_left want.Ended budget n e = absurd cc

pub goes_on : (w : Want) (budget n : ℕ) → ended_at w budget n ≡ None → w ≢ want.Ended
goes_on want.Local budget n e q = absurd cc
goes_on (want.Access kind va value) budget n e q = absurd cc
goes_on want.Ended budget n e q = absurd cc

pub some_none : {e : Ending} → ◌≡◌ {A = Option Ending} (Some e) None → ⊥
some_none h = absurd cc

spent_only : (b : Bool) (kind : FaultKind) (at : ℕ) → (if b then Some ending.Spent else None) ≡ Some (ending.Faulted kind at) → ⊥
spent_only true kind at e = absurd cc
spent_only false kind at e = absurd cc

pub never_faulted : (w : Want) (budget n : ℕ) (kind : FaultKind) (at : ℕ) → ended_at w budget n ≡ Some (ending.Faulted kind at) → ⊥
never_faulted want.Local budget n kind at e = spent_only (n == budget) kind at e
never_faulted (want.Access k va value) budget n kind at e = spent_only (n == budget) kind at e
never_faulted want.Ended budget n kind at e = absurd cc

pub none_if : (o : Option Ending) → is_some o ≡ false → o ≡ None
none_if None h = refl
none_if (Some e) h = absurd cc
