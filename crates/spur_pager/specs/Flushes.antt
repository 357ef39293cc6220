-- Some of a leaving page's lines were flushed, and the others are left.
use Rattle.std.specs.Prelude.{ℕ, ◌≡◌, ◌+◌, ◌<◌, ◌≤◌, Bool, true, false, List, [], ◌∷◌, ◌++◌, get_or, length, map, Option, Some, None}
use Rattle.std.specs.List.{AllByRecursion}
use Rattle.spur_cache.specs.declared.line.Line.{Line}
use Rattle.spur_cache.specs.Lines.{page_lines_from}
use Rattle.spur_flat.specs.declared.flat.Flat.{Flat}
use Rattle.spur_flat.specs.declared.entry.Entry.{Entry}
use Rattle.spur_bus.specs.Logical.{logical_words}
use Rattle.spur_pager.specs.View.{View}
use Rattle.spur_pager.specs.Stand.{CarriesOn, Stands}
use Rattle.spur_pager.specs.Acts.{FlushesFirst, after_flushes, flushed_all, flushes_from, without_page}
use Rattle.spur_flat.specs.Formed.{IsMade}
use Rattle.spur_pager.specs.Served.{Keeps, appended, hold_of}
use Rattle.spur_pager.specs.Drops.{FlushesPage}
use Rattle.spur_pager.specs.Room.{page_line_count}
use Rattle.spur_pager.specs.Runs.{Runs}

-- the places of a page's lines in cache i, ascending
abbrev pub places_in : List (List (Option Line)) → ℕ → ℕ → List ℕ
places_in caches i page = page_lines_from page 0 (get_or caches i [])

-- the caches below this number have no line of a page
abbrev pub AreFlushed : List (List (Option Line)) → ℕ → ℕ → Type 0
AreFlushed caches count page = (i : ℕ) → i < count → places_in caches i page ≡ []

-- Some lines of a page were flushed by board b from w on, and their entries appended: to flush from u on those that are left
-- comes to what it is to flush all of them from w on. The logical memory is as it was, the entries are carried, and the
-- state stands again.
pub record IsFlushing (b page : ℕ) (w u : View) : Type 0 where
  pub piece : List Entry
  pub history : u.history ≡ w.history ++ piece
  pub room : u.room + length piece ≡ w.room
  pub made : AllByRecursion (IsMade b (length w.caches)) piece
  pub entries : flushes_from b 0 page w.caches ≡ piece ++ flushes_from b 0 page u.caches
  pub caches : map (without_page page) u.caches ≡ map (without_page page) w.caches
  pub memory : flushed_all page u.memory u.caches ≡ flushed_all page w.memory w.caches
  pub logical : logical_words u.caches u.memory ≡ logical_words w.caches w.memory
  pub keeps : Keeps w u
  pub carries : (rest : Flat) → Stands rest w → CarriesOn rest w u piece

-- Where a flush of at most so many lines stopped: past the caches below a number, with so many to spare; or at a line that
-- is left, with none to spare.
pub record IsPast (page most count left : ℕ) (w v : View) : Type 0 where
  pub spent : v.room + most ≡ w.room + left
  pub none : AreFlushed v.caches count page

pub record IsShort (page most : ℕ) (w v : View) : Type 0 where
  pub spent : v.room + most ≡ w.room
  pub more : 1 ≤ page_line_count v.caches page

abbrev pub StopsAt : ℕ → ℕ → ℕ → View → View → Option ℕ → Type 0
StopsAt page most count w v (Some left) = IsPast page most count left w v
StopsAt page most count w v None = IsShort page most w v

-- At most so many lines of a page were flushed, and the caches and the memory are as these flushes say.
pub record FlushesSome (b page most count : ℕ) (w v : View) (left : Option ℕ) : Type 0 where
  pub flushing : IsFlushing b page w v
  pub hold : hold_of v ≡ after_flushes (appended w v) (hold_of w)
  pub stops : StopsAt page most count w v left

-- All lines of a page were flushed, and there were at most so many; or just so many of the first of them, and there were
-- more.
pub record FlushesAll (b page most : ℕ) (w v : View) : Type 0 where
  pub few : page_line_count w.caches page ≤ most
  pub flushes : FlushesPage b page w v

pub record FlushesPart (b page most : ℕ) (w v : View) : Type 0 where
  pub more : most < page_line_count w.caches page
  pub runs : Runs b (FlushesFirst page most ∷ []) w v
  pub room : v.room + most ≡ w.room
  pub left : page_line_count v.caches page + most ≡ page_line_count w.caches page
  pub logical : logical_words v.caches v.memory ≡ logical_words w.caches w.memory

abbrev pub FlushesAtMost : ℕ → ℕ → ℕ → View → View → Bool → Type 0
FlushesAtMost b page most w v true = FlushesAll b page most w v
FlushesAtMost b page most w v false = FlushesPart b page most w v
