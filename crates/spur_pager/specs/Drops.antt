-- The lines of a leaving page are dropped from the caches.
use Rattle.std.specs.Prelude.{ℕ, ◌≡◌, ◌≢◌, ◌+◌, ◌<◌, ◌&&◌, ◌++◌, true, [], ◌∷◌, length, Some}
use Rattle.spur_addr.specs.Address.{block_start_of, page_of, table_start, page_address, user_pages}
use Rattle.spur_addr.specs.PageEntry.{is_leaving, is_valid}
use Rattle.spur_cache.specs.declared.line.Line.{Line}
use Rattle.spur_flat.specs.declared.flat.Flat.{Flat}
use Rattle.spur_flat.specs.declared.entry.Entry.TheVariants.{BlockFlush}
use Rattle.spur_flat.specs.Pager.{word_of}
use Rattle.spur_bus.specs.Boards.{dropped, line_in, line_of_block}
use Rattle.spur_bus.specs.Logical.{logical_words}
use Rattle.spur_bus.specs.Calls.{flushed}
use Rattle.spur_pager.specs.View.{View}
use Rattle.spur_walk.specs.Tables.{block_address}
use Rattle.spur_pager.specs.Stand.{CarriesOn, Stands, entry_in, flat_in}
use Rattle.spur_pager.specs.Acts.{Flushes, Hold}
use Rattle.spur_flat.specs.Formed.{IsMade}
use Rattle.spur_pager.specs.Room.{page_line_count}
use Rattle.spur_pager.specs.Runs.{Runs}
use Rattle.spur_pager.specs.Served.{Keeps, hold_of}

-- the block of g is of a page that is valid and leaving
pub record IsLeavingBlock (w : View) (g : ℕ) : Type 0 where
  pub user : g < table_start
  pub leaving : (is_valid (word_of (flat_in w) (block_start_of g)) && is_leaving (word_of (flat_in w) (block_start_of g))) ≡ true

-- a page is valid and leaving
pub record IsLeavingPage (w : View) (page : ℕ) : Type 0 where
  pub small : page < user_pages
  pub valid : is_valid (entry_in w page) ≡ true
  pub leaving : is_leaving (entry_in w page) ≡ true

-- no cache has a line of the page of g
pub record IsUnheld (h : Hold) (g : ℕ) : Type 0 where
  pub none : (i s : ℕ) (line : Line) → line_in h.caches i s ≡ Some line → block_address line.tag < table_start → page_of (block_address line.tag) ≢ page_of g

-- It was dropped from the cache `holder` for board b, and written to memory where it was owned. The logical memory is as it
-- was, the entry of the flush is carried, and the state stands again.
pub record DropsBlock (b holder g : ℕ) (w v : View) : Type 0 where
  pub history : v.history ≡ w.history ++ BlockFlush b holder (block_start_of g) ∷ []
  pub room : v.room + 1 ≡ w.room
  pub made : IsMade b (length w.caches) (BlockFlush b holder (block_start_of g))
  pub caches : v.caches ≡ dropped w.caches holder g
  pub memory : v.memory ≡ flushed w.memory g (line_of_block w.caches holder g)
  pub logical : logical_words v.caches v.memory ≡ logical_words w.caches w.memory
  pub keeps : Keeps w v
  pub carries : (rest : Flat) → Stands rest w → CarriesOn rest w v (BlockFlush b holder (block_start_of g) ∷ [])

-- All lines of a page were flushed: no cache has one now, and the logical memory is as it was.
pub record FlushesPage (b page : ℕ) (w v : View) : Type 0 where
  pub runs : Runs b (Flushes page ∷ []) w v
  pub room : v.room + page_line_count w.caches page ≡ w.room
  pub logical : logical_words v.caches v.memory ≡ logical_words w.caches w.memory
  pub none : page_line_count v.caches page ≡ 0
  pub unheld : IsUnheld (hold_of v) (page_address page)
