-- What stands where in an opening, and what a run asks of one.
use Rattle.std.specs.Prelude.{◌≡◌, ℕ, ◌+◌, ◌*◌, ◌<◌, List, Some, length, map, slice_index, slice_get}
use Rattle.std.specs.List.{All}
use Rattle.spur_snoop.specs.Size.{IsBoardCount}
use Rattle.spur_object.specs.declared.unit.Unit.{Unit as Program}
use Rattle.spur_object.specs.declared.unit.PageText.{PageText}
use Rattle.spur_flat.specs.declared.flat.Flat.{Flat}
use Rattle.spur_flat.specs.State.{opening_state}
use Rattle.spur_flat.specs.Validity.{IsValidFlat}
use Rattle.spur_loader.specs.declared.opening.Opening.{Opening}
use Rattle.spur_loader.specs.declared.opening.Options.{Options}
use Rattle.spur_loader.specs.Limits.{IsOptions}
use Rattle.spur_loader.specs.Opening.{IsNothingResident, board_count, entry_word, first_state, page_numbers, page_word, root_word}
use Rattle.spur_loader.specs.Parts.{AreRoots}

-- the flat memory in which a unit begins with these options
pub record IsFirstFlat (unit : Program) (options : Options) (F : Flat) : Type 0 where
  -- the slot of a page is its position among the declared ones, and there are as many data frames as the options say
  pub pages : F.pages ≡ page_numbers unit.pages
  pub frames : F.frames ≡ options.frames
  -- a page of the page table for each needed root entry, in ascending order
  pub roots : List ℕ
  pub are_roots : AreRoots unit.pages roots
  pub tables : F.tables ≡ length roots
  -- memory: the root table in frames 0 to 63, the page table in frames 64 and up, then the data frames, all zero
  pub size : length F.words ≡ 1024 * (64 + F.tables + F.frames)
  pub root : (r : ℕ) → r < 65536 → slice_index F.words r ≡ root_word roots r
  pub entry : (t r j : ℕ) → slice_get roots t ≡ Some r → j < 1024
      → slice_index F.words ((64 + t) * 1024 + j) ≡ entry_word unit.pages (r * 1024 + j)
  pub frame : (k : ℕ) → k < 1024 * F.frames → slice_index F.words (1024 * (64 + F.tables) + k) ≡ 0
  -- swap: a slot for each declared page, with the page's words
  pub swap_size : length F.swap ≡ 1024 * length unit.pages
  pub swap : (k j : ℕ) (page : PageText) → slice_get unit.pages k ≡ Some page → j < 1024
      → slice_index F.swap (k * 1024 + j) ≡ page_word unit.words page.page j

-- the opening of a unit with these options
pub record IsOpening (unit : Program) (options : Options) (opening : Opening) : Type 0 where
  pub flat : IsFirstFlat unit options opening.flat
  -- as many boards as the unit has, with their segment registers and their code
  pub boards : board_count opening ≡ length unit.boards
  pub segs : opening.segs ≡ map (λ board. board.segs) unit.boards
  pub code : opening.code ≡ map (λ board. board.code) unit.boards
  pub chosen : opening.options ≡ options
  -- the state before anything was done
  pub state : first_state opening ≡ opening_state (length unit.boards) options.lines opening.flat

-- four segment registers, none of which names segment 255, in which the page table stands
pub record AreRegisters (segs : List ℕ) : Type 0 where
  pub four : length segs ≡ 4
  pub below : All (λ seg. seg < 255) segs

-- an opening with which a run may begin, wherever it comes from
pub record MayBegin (opening : Opening) : Type 0 where
  pub boards : IsBoardCount (board_count opening)
  pub registers : All AreRegisters opening.segs
  pub options : IsOptions opening.options
  pub frames : opening.flat.frames ≡ opening.options.frames
  pub valid : IsValidFlat opening.flat
  pub absent : IsNothingResident opening.flat
