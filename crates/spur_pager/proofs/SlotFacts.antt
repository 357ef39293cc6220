-- The slots of pages: each declared page has one of its own.
use Rattle.std.proofs.Common.{◌≡◌, ◌≢◌, ◌∙◌, ℕ, ◌<◌, ap, sym, List, length, slice_index}
use Rattle.spur_flat.specs.Pager.{position_in}
use Rattle.spur_flat.specs.Validity.{IsDeclared}
use Rattle.spur_flat.proofs.PagerFacts.{is_at_position}
use Rattle.spur_pager.proofs.EntryFacts.{any_at}

-- a declared page stands at its position
pub declared_at : (pages : List ℕ) (p : ℕ) → IsDeclared pages p → slice_index pages (position_in pages p) ≡ p
declared_at pages p d = (is_at_position pages p (any_at pages p d.position d.within d.is)).is

pub declared_within : (pages : List ℕ) (p : ℕ) → IsDeclared pages p → position_in pages p < length pages
declared_within pages p d = (is_at_position pages p (any_at pages p d.position d.within d.is)).within

-- so two such pages have two positions
pub positions_apart : (pages : List ℕ) (p q : ℕ) → IsDeclared pages p → IsDeclared pages q → p ≢ q → position_in pages p ≢ position_in pages q
positions_apart pages p q dp dq apart same = apart (sym (declared_at pages p dp) ∙ ap (λ (n : ℕ). slice_index pages n) same ∙ declared_at pages q dq)
