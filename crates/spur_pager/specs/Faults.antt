-- How many faults of an access may still be served in a turn, and which kinds no more.
use Rattle.std.specs.Prelude.{ℕ, ◌≡◌, ◌+◌, ◌<◌, ◌&&◌, Bool, true, false, [], get_or, length}
use Rattle.spur_addr.specs.Address.{table_start}
use Rattle.spur_addr.specs.PageEntry.{is_dirty, is_leaving, is_referenced, is_valid}
use Rattle.spur_snoop.specs.declared.Need.{Need}
use Rattle.spur_flat.specs.declared.access.FaultKind.{FaultKind}
use Rattle.spur_flat.specs.declared.access.FaultKind.TheVariants as fault
use Rattle.spur_flat.specs.declared.entry.Entry.{Entry}
use Rattle.spur_flat.specs.Pager.{word_of}
use Rattle.spur_walk.specs.declared.step.Walked.TheVariants as walked
use Rattle.spur_walk.specs.Bounds.{steps_left}
use Rattle.spur_walk.specs.Plan.{access_plan}
use Rattle.spur_walk.specs.Steps.{Steps, answer_of}
use Rattle.spur_pager.specs.View.{View}
use Rattle.spur_pager.specs.Stand.{IsServable, flat_in}
use Rattle.spur_pager.specs.Served.{HasFault, IsServed}
use Rattle.spur_pager.specs.Again.{HasStepped, SharesSame}

-- one for a bit that is clear
abbrev pub one_if_clear : Bool → ℕ
one_if_clear true = 0
one_if_clear false = 1

-- How many faults may still be served, at most, by the bits of the page's entry: valid, leaving, referenced and dirty.
-- A page that is not valid comes in, and then both its bits may have to be set; one that is leaving goes out before.
abbrev pub faults_by_bits : Bool → Bool → Bool → Bool → ℕ
faults_by_bits false leaving referenced dirty = 3
faults_by_bits true true referenced dirty = 4
faults_by_bits true false referenced dirty = one_if_clear referenced + one_if_clear dirty

abbrev pub faults_by_word : ℕ → ℕ
faults_by_word e = faults_by_bits (is_valid e) (is_leaving e) (is_referenced e) (is_dirty e)

-- the same for an access of board b to the word at `at`
abbrev pub faults_left : View → ℕ → ℕ → ℕ
faults_left w b at = faults_by_word (word_of (flat_in w) at)

-- a kind of fault that can't be served any more in the turn, by the same bits. Missing: the page is in its frame and is to
-- stay. Leaving: it is not in its frame, or is to stay. Reference and Dirty: it is to stay, and has the bit
abbrev pub IsPastBy : FaultKind → Bool → Bool → Bool → Bool → Type 0
IsPastBy fault.Missing valid leaving referenced dirty = (valid ≡ true) × (leaving ≡ false)
IsPastBy fault.Leaving valid leaving referenced dirty = (valid && leaving) ≡ false
IsPastBy fault.Reference valid leaving referenced dirty = (valid ≡ true) × (leaving ≡ false) × (referenced ≡ true)
IsPastBy fault.Dirty valid leaving referenced dirty = (valid ≡ true) × (leaving ≡ false) × (dirty ≡ true)
IsPastBy kind valid leaving referenced dirty = ⊥

abbrev pub IsPastOf : ℕ → FaultKind → Type 0
IsPastOf e kind = IsPastBy kind (is_valid e) (is_leaving e) (is_referenced e) (is_dirty e)

-- the same for an access of board b to the word at `at`
abbrev pub IsPast : View → ℕ → ℕ → FaultKind → Type 0
IsPast w b at kind = IsPastOf (word_of (flat_in w) at) kind

-- a fault was served: fewer are left, its kind is past, and so are those that were
pub record FaultFalls (w v : View) (b : ℕ) (kind : FaultKind) (at : ℕ) : Type 0 where
  pub fewer : faults_left v b at < faults_left w b at
  pub past : IsPast v b at kind
  pub still : (other : FaultKind) → IsPast w b at other → IsPast v b at other

abbrev pub ServedFaultFalls : Type 0
ServedFaultFalls = (w v : View) (b : ℕ) (kind : FaultKind) (at : ℕ) → IsServable w → b < length w.caches
    → at < table_start → HasFault w b kind at → IsServed b w kind at v → FaultFalls w v b kind at

-- a kind that is past does not answer
abbrev pub PastIsNoFault : Type 0
PastIsNoFault = (w : View) (b : ℕ) (kind : FaultKind) (at : ℕ) → IsServable w → b < length w.caches → at < table_start
    → IsPast w b at kind → HasFault w b kind at → ⊥

-- as many faults are left, and the same kinds are past
pub record KeepsFaults (w v : View) (b at : ℕ) : Type 0 where
  pub faults : faults_left v b at ≡ faults_left w b at
  pub still : (kind : FaultKind) → IsPast w b at kind → IsPast v b at kind

-- so it is after steps; and with each step towards the access fewer of these are left
abbrev pub SteppedKeepsFaults : Type 0
SteppedKeepsFaults = (w v : View) (b at : ℕ) → HasStepped w v → KeepsFaults w v b at

pub record StepFalls (w v : View) (b at : ℕ) (need : Need) : Type 0 where
  pub keeps : KeepsFaults w v b at
  pub steps : steps_left (get_or v.caches b []) at need < steps_left (get_or w.caches b []) at need

abbrev pub MovedFalls : Type 0
MovedFalls = (w v : View) (b at : ℕ) (need : Need) (e : Entry) → IsServable w → b < length w.caches → at < table_start
    → Steps w.caches w.memory b at (access_plan w.caches w.memory b at need) v.caches v.memory → SharesSame w v
    → answer_of b at (access_plan w.caches w.memory b at need) ≡ walked.Moved e → StepFalls w v b at need
