-- The state before anything was done, and that it stands.
use Rattle.std.specs.Prelude.{ℕ, ◌≡◌, ◌+◌, ◌<◌, ◌≤◌, false, List, length, replicate, Some, None}
use Rattle.spur_addr.specs.PageEntry.{is_valid}
use Rattle.spur_snoop.specs.Size.{IsLineCount}
use Rattle.spur_flat.specs.declared.flat.Flat.{Flat}
use Rattle.spur_flat.specs.Pager.{word_of}
use Rattle.spur_flat.specs.State.{opening_state}
use Rattle.spur_flat.specs.Validity.{IsValidFlat}
use Rattle.spur_frames.specs.Frames.{new_frames}
use Rattle.spur_pager.specs.View.{View}
use Rattle.spur_pager.specs.Stand.{AreFramed, Stands, standing_flat, standing_state}
use Rattle.spur_flat.specs.Clean.{AreClean}
use Rattle.spur_addr.specs.Address.{page_address, user_pages}

-- The caches hold nothing, and the memory has the words of F, which is valid. The swap has a slot for each page of F,
-- and where it tells its pages, F's.
pub record HoldsNothing (boards lines : ℕ) (F : Flat) (w : View) : Type 0 where
  pub some : 1 ≤ boards
  pub few : boards ≤ 12
  pub count : IsLineCount lines
  pub valid : IsValidFlat F
  pub caches : w.caches ≡ replicate boards (replicate lines None)
  pub memory : w.memory ≡ F.words
  pub slots : w.slots ≡ length F.pages
  pub told : (words : List ℕ) → w.pages ≡ Some words → words ≡ F.swap

-- moreover the frame table has the frames of the valid pages, and clean pages have the words of their slots, where told
pub record IsLaidOut (boards lines : ℕ) (F : Flat) (w : View) : Type 0 where
  pub empty : HoldsNothing boards lines F w
  pub framed : AreFramed F w.frames
  pub clean : (words : List ℕ) → w.pages ≡ Some words → AreClean F

-- nothing was done yet: no page's entry is valid, and all frames are free
pub record IsNewMachine (boards lines : ℕ) (F : Flat) (w : View) : Type 0 where
  pub empty : HoldsNothing boards lines F w
  pub absent : (page : ℕ) → page < user_pages → is_valid (word_of F (page_address page)) ≡ false
  pub frames : w.frames ≡ new_frames (64 + F.tables) F.frames

-- what stands is the state before anything was done
pub record OpensAs (boards lines : ℕ) (F : Flat) (w : View) : Type 0 where
  pub stands : Stands F w
  pub flat : standing_flat F w ≡ F
  pub state : standing_state F w ≡ opening_state boards lines F

-- so it is where pages are laid out, and at an opening
abbrev pub LayoutStands : Type 0
LayoutStands = (boards lines : ℕ) (F : Flat) (w : View) → IsLaidOut boards lines F w → OpensAs boards lines F w

abbrev pub OpeningStands : Type 0
OpeningStands = (boards lines : ℕ) (F : Flat) (w : View) → IsNewMachine boards lines F w → OpensAs boards lines F w
