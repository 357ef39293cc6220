-- The history that is seen.
use Rattle.spur_flat.specs.Past.{Past}
use Rattle.spur_pager.specs.View.{View}

-- its entries, and its spare room
abbrev pub past_of : View → Past
past_of w = record { entries = w.history; room = w.room }
