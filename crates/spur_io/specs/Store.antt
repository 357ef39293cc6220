-- Bytes that were put into a room in memory.
use Rattle.std.specs.Prelude.{ℕ, ◌+◌, Bool, ◌&&◌, nat_le, List, ◌++◌, length, take, Some, None, if◌then◌else◌}
use Rattle.std.specs.declared.option.Option.{Option}

-- the bytes put that fit the room, whether all of them do, and for how many bytes there is room
pub record Store : Type 0 where
  pub kept : List ℕ
  pub fits : Bool
  pub room : ℕ

-- the bytes put are told as long as all of them fit
abbrev pub told_bytes : Store → Option (List ℕ)
told_bytes s = if s.fits then Some s.kept else None

-- after these were put: those that fit the room are kept, and later ones are dropped
abbrev pub after_put : Store → List ℕ → Store
after_put s bytes = record {
  kept = take s.room (s.kept ++ bytes);
  fits = s.fits && nat_le (length s.kept + length bytes) s.room;
  room = s.room;
}
