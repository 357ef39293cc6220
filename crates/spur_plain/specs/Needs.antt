-- What the law needs: a state in which it fails.
use Rattle.std.specs.Prelude.{ℕ, ◌≢◌}
use Rattle.spur_flat.specs.declared.flat.Flat.{Flat}
use Rattle.spur_flat.specs.declared.entry.Entry.TheVariants.{PageOut}
use Rattle.spur_flat.specs.History.{on, IsAllowed}
use Rattle.spur_flat.specs.Validity.{IsValidFlat}
use Rattle.spur_plain.specs.Virtual.{virtual}

-- There is a valid flat state whose one page is not dirty, and whose slot has other words than its frame. The page may go out,
-- and plain memory is another one then.
pub record CleanPagesAreNeeded : Type 0 where
  pub flat : Flat
  pub valid : IsValidFlat flat
  pub board : ℕ
  pub at : ℕ
  pub allowed : IsAllowed flat (PageOut board at)
  pub lost : virtual (on flat (PageOut board at)) ≢ virtual flat
