-- The page of a slot is read into a frame of the memory.
use Rattle.std.specs.Prelude.{ℕ, ◌≡◌, List, length, Option}
use Rattle.spur_addr.specs.Pages.{with_page}
use Rattle.spur_swap.specs.Told.{IsTold}

-- The memory has a page's words in the frame, and all else as it was. They are the slot's, where the swap object tells its
-- pages.
pub record IsLoaded (pages : Option (List ℕ)) (slot frame : ℕ) (before after : List ℕ) : Type 0 where
  pub words : List ℕ
  pub long : length words ≡ 1024
  pub told : IsTold pages slot words
  pub memory : after ≡ with_page before frame words
