-- What the pager needs of the state that stands, and keeps: beside what the walk needs, what is said of present pages, of
-- frames and of clean pages.
use Rattle.std.specs.Prelude.{ℕ, ◌≡◌, ◌+◌, ◌<◌, true, List, length, Option, Some, None}
use Rattle.spur_addr.specs.Address.{page_address, user_pages}
use Rattle.spur_addr.specs.PageEntry.{is_valid, is_leaving, number_of}
use Rattle.spur_flat.specs.declared.flat.Flat.{Flat}
use Rattle.spur_flat.specs.declared.entry.Entry.{Entry}
use Rattle.spur_flat.specs.Pager.{position_in, word_of}
use Rattle.spur_flat.specs.State.{State, IsCarried, nothing_beside}
use Rattle.spur_flat.specs.Untold.{IsCarriedUntold}
use Rattle.spur_flat.specs.Clean.{AreClean}
use Rattle.spur_flat.specs.Validity.{IsDeclared, IsValidFlat}
use Rattle.spur_bus.specs.Stand.{flat_of, state_of}
use Rattle.spur_frames.specs.Frames.{Frames, IsFrame, holder_of}
use Rattle.spur_frames.specs.Clock.{page_of_frame}
use Rattle.spur_walk.specs.Tables.{logical_flat}
use Rattle.spur_walk.specs.Present.{ArePresent, MayWalk}
use Rattle.spur_pager.specs.View.{View}

-- the words of all entries, in the logical memory
abbrev pub flat_in : View → Flat
flat_in w = logical_flat w.caches w.memory

-- the word of a page's entry
abbrev pub entry_in : View → ℕ → ℕ
entry_in w page = word_of (flat_in w) (page_address page)

-- `rest` has the declared pages, the numbers of table pages and data frames, and swapped words; where the swap object
-- tells its pages, these are the swapped words
abbrev pub with_told : Flat → Option (List ℕ) → Flat
with_told rest None = rest
with_told rest (Some words) = record rest { swap = words }

-- the flat state that stands
abbrev pub standing_flat : Flat → View → Flat
standing_flat rest w = flat_of (with_told rest w.pages) w.caches w.memory

-- the state that stands, where no board has an open entry
abbrev pub standing_state : Flat → View → State
standing_state rest w = state_of (with_told rest w.pages) w.caches w.memory (nothing_beside (length w.caches))

-- a taken frame holds a page that is valid with that frame, and its slot
pub record FrameHolds (F : Flat) (frame page slot : ℕ) : Type 0 where
  pub small : page < user_pages
  pub declared : IsDeclared F.pages page
  pub slot_is : slot ≡ position_in F.pages page
  pub valid : is_valid (word_of F (page_address page)) ≡ true
  pub number : number_of (word_of F (page_address page)) ≡ frame

-- The frame table: its frames are the data frames. The taken ones are exactly those of the valid pages, with page and
-- slot. The leaving frame is that of the one valid page that is leaving, and there is none where no valid page is.
pub record AreFramed (F : Flat) (frames : Frames) : Type 0 where
  pub first : frames.first ≡ 64 + F.tables
  pub count : length frames.held ≡ F.frames
  pub taken : (frame page slot : ℕ) → IsFrame frames frame → holder_of frames frame ≡ Some (page, slot) → FrameHolds F frame page slot
  pub holds : (page : ℕ) → page < user_pages → is_valid (word_of F (page_address page)) ≡ true
      → holder_of frames (number_of (word_of F (page_address page))) ≡ Some (page, position_in F.pages page)
  pub leaving : (frame : ℕ) → frames.leaving ≡ Some frame → is_leaving (word_of F (page_address (page_of_frame frames frame))) ≡ true
  pub leaves : (page : ℕ) → page < user_pages → is_valid (word_of F (page_address page)) ≡ true → is_leaving (word_of F (page_address page)) ≡ true
      → frames.leaving ≡ Some (number_of (word_of F (page_address page)))

-- All of this, with the declared pages of `rest`. That clean pages have the words of their slots is said where the swap
-- object tells its pages.
pub record Stands (rest : Flat) (w : View) : Type 0 where
  pub walk : MayWalk w.caches w.memory
  pub valid : IsValidFlat (standing_flat rest w)
  pub present : ArePresent (flat_in w) w.caches
  pub framed : AreFramed (standing_flat rest w) w.frames
  pub slots : w.slots ≡ length rest.pages
  pub clean : (words : List ℕ) → w.pages ≡ Some words → AreClean (standing_flat rest w)

-- there are such declared pages
pub record IsServable (w : View) : Type 0 where
  pub rest : Flat
  pub stands : Stands rest w

-- A piece of a history is carried from the state that stood to the one that stands: where the swap object tells its
-- pages, with all values; and, whether or not it tells them, but for the values that were read, from each state with
-- the same words of the root and of the page table.
pub record AreCarried (rest : Flat) (before after : View) (piece : List Entry) : Type 0 where
  pub told : (words : List ℕ) → before.pages ≡ Some words → IsCarried (standing_state rest before) (standing_state rest after) piece
  pub untold : IsCarriedUntold (standing_state rest before) (standing_state rest after) piece

-- the entries are carried, and the state stands again
pub record CarriesOn (rest : Flat) (w v : View) (piece : List Entry) : Type 0 where
  pub carried : AreCarried rest w v piece
  pub stands : Stands rest v
