-- What the pager does, act by act, and the entries that each act appends.
use Rattle.std.specs.Prelude.{ℕ, ◌≡◌, ◌+◌, true, false, if◌then◌else◌, List, [], ◌∷◌, ◌++◌, get_or, length, map, slice_set, take, Option, Some, None}
use Rattle.spur_addr.specs.Address.{entry_address_of, page_address}
use Rattle.spur_addr.specs.PageEntry.{protection_of, swapped_of, with_bit}
use Rattle.spur_cache.specs.declared.line.Line.{Line}
use Rattle.spur_cache.specs.Lens.{Lens, caches}
use Rattle.spur_cache.specs.Lines.{is_of_page, with_word}
use Rattle.spur_addr.specs.Pages.{with_page}
use Rattle.spur_flat.specs.declared.entry.Entry.{Entry}
use Rattle.spur_flat.specs.declared.entry.Entry.TheVariants.{BlockFlush, Leave, PageOut, PageIn, SetRef, SetDirty, ClearRef}
use Rattle.spur_flat.specs.Pager.{word_of, brought_entry}
use Rattle.spur_bus.specs.Boards.{dropped, line_of_block}
use Rattle.spur_bus.specs.Calls.{flushed}
use Rattle.spur_walk.specs.declared.plan.Plan.TheVariants as plan
use Rattle.spur_walk.specs.declared.step.Walked.TheVariants as walked
use Rattle.spur_walk.specs.Plan.{page_plan}
use Rattle.spur_walk.specs.Steps.{answer_of, stepped, stepped_memory}
use Rattle.spur_walk.specs.Tables.{block_address, logical_flat}

-- caches and memory
pub record Hold : Type 0 where
  pub caches : List (List (Option Line))
  pub memory : List ℕ

-- those of boards
abbrev pub hold_by : {X : Type 0} → Lens X → List X → List ℕ → Hold
hold_by lens boards words = record { caches = caches lens boards; memory = words }

-- caches and memory after one step of `advance_entry` of board b towards the entry of the page of g, and its answer
abbrev pub step_of : ℕ → ℕ → Hold → Hold
step_of b g h = record {
  caches = stepped h.caches h.memory b (entry_address_of g) (page_plan h.caches h.memory b g);
  memory = stepped_memory h.caches h.memory b (page_plan h.caches h.memory b g);
}

-- such steps, one after another, with their entries
pub data IsWay (b g : ℕ) (from : Hold) : List Entry → Hold → Type 0 where
  Stays : IsWay b g from [] from
  Goes : (before : List Entry) (h : Hold) (e : Entry) → IsWay b g from before h
      → answer_of b (entry_address_of g) (page_plan h.caches h.memory b g) ≡ walked.Moved e → IsWay b g from (before ++ e ∷ []) (step_of b g h)

-- such steps until the answer is Ready: the entry's block is then exclusive in cache b
pub record IsFetch (b g : ℕ) (from : Hold) (fetched : List Entry) (to : Hold) : Type 0 where
  pub way : IsWay b g from fetched to
  pub ready : page_plan to.caches to.memory b g ≡ plan.Ready

-- another word for the entry of the page of g, in cache b
abbrev pub with_entry_word : List (List (Option Line)) → ℕ → ℕ → ℕ → List (List (Option Line))
with_entry_word caches b g word = slice_set caches b (with_word (get_or caches b []) (entry_address_of g) word)

abbrev pub written_in : ℕ → ℕ → (ℕ → ℕ) → Hold → Hold
written_in b g change h = record { caches = with_entry_word h.caches b g (change (word_of (logical_flat h.caches h.memory) g)); memory = h.memory }

-- the flushes by board b of a page's lines in cache i, its lines ascending; and in all caches from number k on, ascending
abbrev pub flushes_in : ℕ → ℕ → ℕ → List (Option Line) → List Entry
flushes_in b i page [] = []
flushes_in b i page (None ∷ rest) = flushes_in b i page rest
flushes_in b i page (Some line ∷ rest) = if is_of_page page line then BlockFlush b i (block_address line.tag) ∷ flushes_in b i page rest else flushes_in b i page rest

abbrev pub flushes_from : ℕ → ℕ → ℕ → List (List (Option Line)) → List Entry
flushes_from b k page [] = []
flushes_from b k page (lines ∷ rest) = flushes_in b k page lines ++ flushes_from b (k + 1) page rest

-- a cache without a page's lines
abbrev pub unless_of : ℕ → Option Line → Option Line
unless_of page None = None
unless_of page (Some line) = if is_of_page page line then None else Some line

abbrev pub without_page : ℕ → List (Option Line) → List (Option Line)
without_page page lines = map (unless_of page) lines

-- the memory after a page's lines of a cache were flushed: those that are owned are written
abbrev pub flushed_lines : ℕ → List ℕ → List (Option Line) → List ℕ
flushed_lines page memory [] = memory
flushed_lines page memory (None ∷ rest) = flushed_lines page memory rest
flushed_lines page memory (Some line ∷ rest) =
    flushed_lines page (if is_of_page page line then flushed memory (block_address line.tag) (Some line) else memory) rest

abbrev pub flushed_all : ℕ → List ℕ → List (List (Option Line)) → List ℕ
flushed_all page memory [] = memory
flushed_all page memory (lines ∷ rest) = flushed_all page (flushed_lines page memory lines) rest

abbrev pub flushed_hold : ℕ → Hold → Hold
flushed_hold page h = record { caches = map (without_page page) h.caches; memory = flushed_all page h.memory h.caches }

-- what the entry of a flush does: its block is dropped from the cache that it names, and written to memory where that
-- cache owned it; and what such entries do, one after another
abbrev pub after_flush : Entry → Hold → Hold
after_flush (BlockFlush board holder at) h = record {
  caches = dropped h.caches holder at;
  memory = flushed h.memory at (line_of_block h.caches holder at);
}
after_flush e h = h

abbrev pub after_flushes : List Entry → Hold → Hold
after_flushes [] h = h
after_flushes (e ∷ es) h = after_flushes es (after_flush e h)

-- a frame with the words of a page
abbrev pub loaded_hold : ℕ → List ℕ → Hold → Hold
loaded_hold frame words h = record h { memory = with_page h.memory frame words }

-- An act of the pager: the entry of the page of g is changed, with an entry of the history; a page's lines are flushed,
-- or so many of the first of them; a page is read from swap into a frame.
pub data Act : Type 0 where
  Writes : (g : ℕ) → Entry → (ℕ → ℕ) → Act
  Flushes : (page : ℕ) → Act
  FlushesFirst : (page count : ℕ) → Act
  Loads : (frame : ℕ) → Act

-- What acts of board b do, and the entries that they append. Before the entry of a page is changed, `advance_entry` brings
-- its block: its entries come first.
pub data IsDone (b : ℕ) : List Act → Hold → List Entry → Hold → Type 0 where
  NoAct : (h : Hold) → IsDone b [] h [] h
  Written : (g : ℕ) (e : Entry) (change : ℕ → ℕ) (acts : List Act) (from mid to : Hold) (fetched rest : List Entry)
      → IsFetch b g from fetched mid → IsDone b acts (written_in b g change mid) rest to → IsDone b (Writes g e change ∷ acts) from (fetched ++ e ∷ rest) to
  Flushed : (page : ℕ) (acts : List Act) (from to : Hold) (rest : List Entry)
      → IsDone b acts (flushed_hold page from) rest to → IsDone b (Flushes page ∷ acts) from (flushes_from b 0 page from.caches ++ rest) to
  FlushedFirst : (page count : ℕ) (acts : List Act) (from to : Hold) (rest : List Entry)
      → IsDone b acts (after_flushes (take count (flushes_from b 0 page from.caches)) from) rest to
      → IsDone b (FlushesFirst page count ∷ acts) from (take count (flushes_from b 0 page from.caches) ++ rest) to
  Loaded : (frame : ℕ) (words : List ℕ) (acts : List Act) (from to : Hold) (piece : List Entry) → length words ≡ 1024
      → IsDone b acts (loaded_hold frame words from) piece to → IsDone b (Loads frame ∷ acts) from piece to

-- the six changes of an entry, each with its entry of the history
abbrev pub set_referenced : ℕ → ℕ → Act
set_referenced b page = Writes (page_address page) (SetRef b (page_address page)) (λ (e : ℕ). with_bit e 1 true)

abbrev pub clear_referenced : ℕ → ℕ → Act
clear_referenced b page = Writes (page_address page) (ClearRef b (page_address page)) (λ (e : ℕ). with_bit e 1 false)

abbrev pub set_dirty : ℕ → ℕ → Act
set_dirty b page = Writes (page_address page) (SetDirty b (page_address page)) (λ (e : ℕ). with_bit e 2 true)

abbrev pub leave : ℕ → ℕ → Act
leave b page = Writes (page_address page) (Leave b (page_address page)) (λ (e : ℕ). with_bit e 6 true)

abbrev pub page_out : ℕ → ℕ → ℕ → Act
page_out b page slot = Writes (page_address page) (PageOut b (page_address page)) (λ (e : ℕ). swapped_of slot (protection_of e))

abbrev pub page_in : ℕ → ℕ → ℕ → Act
page_in b page frame = Writes (page_address page) (PageIn b (page_address page) frame) (brought_entry frame)
