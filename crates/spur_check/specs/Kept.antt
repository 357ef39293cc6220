-- What the checker's code keeps, in the definitions' words.
use Rattle.std.specs.Prelude.{◌≡◌, ℕ, ◌<◌, length}
use Rattle.spur_flat.specs.declared.entry.Entry.{Entry}
use Rattle.spur_flat.specs.History.{on}
use Rattle.spur_flat.specs.Needed.{numbers_on, open_on}
use Rattle.spur_flat.specs.TagLines.{tags_on}
use Rattle.spur_flat.specs.Validity.{IsValidFlat}
use Rattle.spur_cpu.specs.Plain.{Plain, plain}
use Rattle.spur_check.specs.declared.checker.Checker.{Checker}
use Rattle.spur_check.specs.Replays.{replays_on}
use Rattle.spur_check.specs.Judged.{Progress}
use Rattle.spur_check.specs.Numbered.{entries_of, numbers_of}

-- what is known after so many entries
abbrev pub progress_of : ℕ → Checker → Progress Plain
progress_of count c = record {
  state = record { flat = c.flat; tags = c.tags; opened = entries_of c.lists.items; lines = c.lines };
  numbers = numbers_of c.lists.items;
  replays = c.replays.items;
  count = count;
}

-- what is known of so many boards
pub record IsSound (boards : ℕ) (c : Checker) : Type 0 where
  pub valid : IsValidFlat c.flat
  pub tags : length c.tags ≡ boards
  pub lists : length c.lists.items ≡ boards
  pub replays : length c.replays.items ≡ boards
  pub lines : 0 < c.lines

-- an entry has changed all but the open entries
pub record IsJudged (old : Checker) (entry : Entry) (new : Checker) : Type 0 where
  pub flat : new.flat ≡ on old.flat entry
  pub tags : new.tags ≡ tags_on old.flat old.tags entry
  pub replays : new.replays.items ≡ replays_on plain old.replays.items entry
  pub lists : new.lists.items ≡ old.lists.items
  pub lines : new.lines ≡ old.lines
  pub sound : IsSound (length old.replays.items) new

-- an entry has changed the open entries alone
pub record IsNoted (old : Checker) (entry : Entry) (number : ℕ) (new : Checker) : Type 0 where
  pub flat : new.flat ≡ old.flat
  pub tags : new.tags ≡ old.tags
  pub replays : new.replays.items ≡ old.replays.items
  pub entries : entries_of new.lists.items ≡ open_on (entries_of old.lists.items) entry
  pub numbers : numbers_of new.lists.items ≡ numbers_on (numbers_of old.lists.items) number entry
  pub boards : length new.lists.items ≡ length old.lists.items
  pub lines : new.lines ≡ old.lines
