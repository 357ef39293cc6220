-- A swap object is filled with the pages that a run begins with.
use Rattle.std.specs.Prelude.{ℕ, zero, suc, ◌==◌, Bool, if◌then◌else◌, List, Some, None}
use Rattle.std.specs.declared.option.Option.{Option}
use Rattle.std.specs.List.{list_all}
use Rattle.spur_addr.specs.Pages.{page_at}
use Rattle.spur_swap.specs.declared.backing.PrepareFault.{PrepareFault}
use Rattle.spur_swap.specs.declared.backing.PrepareFault.TheVariants as prepare_fault
use Rattle.spur_swap.specs.Meaning.{Swap, after_write}
use Rattle.spur_swap.specs.Told.{one_call_more, told_with}
use Rattle.spur_core.specs.declared.begin.BeginFault.{BeginFault}
use Rattle.spur_core.specs.declared.begin.BeginFault.TheVariants.{Swap as SwapFailed, NoMemory}

-- why a world did not begin whose swap object was not prepared
abbrev pub begin_fault : PrepareFault → BeginFault
begin_fault prepare_fault.Failed = SwapFailed
begin_fault prepare_fault.NoMemory = NoMemory

-- whether all words of a page are zero
abbrev pub is_zero_page : List ℕ → Bool
is_zero_page page = list_all (λ word. word == 0) page

-- how many of the first n pages of these words are not all zeros
abbrev pub nonzero_pages : List ℕ → ℕ → ℕ
nonzero_pages words zero = 0
nonzero_pages words (suc n) = if is_zero_page (page_at words n) then nonzero_pages words n else suc (nonzero_pages words n)

-- the number of calls of a kind after n more
abbrev pub calls_more : ℕ → ℕ → ℕ
calls_more zero calls = calls
calls_more (suc n) calls = one_call_more (calls_more n calls)

-- told pages became these
abbrev pub told_as : Option (List ℕ) → List ℕ → Option (List ℕ)
told_as None words = None
told_as (Some before) words = Some words

-- A swap object with so many slots in the place of all that it had, which hold these pages: as many pages were written as
-- are not all zeros, and none was read.
abbrev pub filled_with : Swap → ℕ → List ℕ → Swap
filled_with s slots words = record s {
  pages = told_as s.pages words;
  slots = slots;
  writes = calls_more (nonzero_pages words slots) s.writes;
}

-- a swap object after a page was written into a slot, unless the page is all zeros
abbrev pub with_slot_page : Swap → ℕ → List ℕ → Swap
with_slot_page s slot page = if is_zero_page page then s else after_write s (told_with s.pages slot page)

-- after the first n pages of these words were, each into its slot
abbrev pub with_slot_pages : Swap → List ℕ → ℕ → Swap
with_slot_pages s words zero = s
with_slot_pages s words (suc n) = with_slot_page (with_slot_pages s words n) n (page_at words n)
