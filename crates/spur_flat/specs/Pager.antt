-- The entries of the pager: when they may stand, and what they change.
use Rattle.std.specs.Prelude.{ℕ, ◌≡◌, ◌==◌, ◌&&◌, ◌+◌, ◌*◌, ◌/◌, ◌%◌, ◌^◌, nat_lt, nat_le, not, Bool, true, false, if◌then◌else◌, List, [], ◌∷◌, slice_index, slice_set, Option, Some, None}
use Rattle.std.specs.List.{list_any}
use Rattle.spur_addr.specs.Address.{page_of}
use Rattle.spur_addr.specs.PageEntry.{is_valid, is_referenced, is_dirty, is_on_swap, is_leaving, protection_of, number_of, with_bit, resident_of, swapped_of}
use Rattle.spur_addr.specs.declared.page_entry.Protection.{Protection}
use Rattle.spur_addr.specs.declared.page_entry.Protection.TheVariants.{Nothing, ReadOnly, ReadWrite}
use Rattle.spur_addr.specs.Pages.{page_at, with_page}
use Rattle.spur_flat.specs.declared.flat.Flat.{Flat}
use Rattle.spur_flat.specs.declared.illegal.Clause.TheVariants as clause
use Rattle.spur_flat.specs.declared.illegal.Illegal.{Illegal}
use Rattle.spur_flat.specs.Refused.{unless}
use Rattle.spur_flat.specs.Table.{walk_of}

-- the word of a page's entry, and 0 where there is none: 0 is neither valid nor on swap, and passes no condition
abbrev pub or_zero : Option ℕ → ℕ
or_zero None = 0
or_zero (Some word) = word

abbrev pub word_of : Flat → ℕ → ℕ
word_of F g = or_zero (walk_of F g)

-- whether the page of g is declared
abbrev pub is_declared : Flat → ℕ → Bool
is_declared F g = list_any (λ page. page == page_of g) F.pages

-- what each entry of the pager asks of the entry of its page: a page leaves where it is valid and not yet leaving
abbrev pub may_leave : ℕ → Bool
may_leave e = is_valid e && not (is_leaving e)

-- it goes out where it is valid and leaving
abbrev pub may_go_out : ℕ → Bool
may_go_out e = is_valid e && is_leaving e

-- it comes in where it is on swap and not valid
abbrev pub may_come_in : ℕ → Bool
may_come_in e = not (is_valid e) && is_on_swap e

-- it becomes referenced where it is valid and not referenced
abbrev pub may_set_referenced : ℕ → Bool
may_set_referenced e = is_valid e && not (is_referenced e)

-- it becomes dirty where it is valid, not dirty, and may be written
abbrev pub is_read_write : Protection → Bool
is_read_write Nothing = false
is_read_write ReadOnly = false
is_read_write ReadWrite = true

abbrev pub may_set_dirty : ℕ → Bool
may_set_dirty e = is_valid e && not (is_dirty e) && is_read_write (protection_of e)

-- it stops being referenced where it is valid and referenced, and not leaving
abbrev pub may_clear_referenced : ℕ → Bool
may_clear_referenced e = is_valid e && is_referenced e && not (is_leaving e)

-- whether the entry of a page is valid and names this frame
abbrev pub has_frame : Flat → ℕ → ℕ → Bool
has_frame F frame page = is_valid (word_of F (page * 2 ^ 12)) && (number_of (word_of F (page * 2 ^ 12)) == frame)

-- whether a frame is one of the data, and no valid entry of a declared page has it
abbrev pub is_free_frame : Flat → ℕ → Bool
is_free_frame F frame =
    nat_le (64 + F.tables) frame && nat_lt frame (64 + F.tables + F.frames) && not (list_any (has_frame F frame) F.pages)

-- the refusal of an entry of the pager: by condition 1 where its page is not declared, with FOUND 0, and by the
-- condition of its own where the page's entry does not pass, with that entry's word
abbrev pub paged : Flat → ℕ → (ℕ → Bool) → ℕ → Option Illegal → Option Illegal
paged F at test number rest =
    unless clause.Pager (is_declared F at) 1 0 (unless clause.Pager (test (word_of F at)) number (word_of F at) rest)

-- that such an entry may stand: its page is declared, and the page's entry passes
pub record MayPage (F : Flat) (at : ℕ) (test : ℕ → Bool) : Type 0 where
  pub declared : is_declared F at ≡ true
  pub entry : test (word_of F at) ≡ true

-- what they change. The entry of the page of g stands at this place of memory
abbrev pub entry_place : Flat → ℕ → ℕ
entry_place F g = number_of (slice_index F.words (g / 2 ^ 22)) * 1024 + g / 2 ^ 12 % 1024

-- the flat state with another entry for the page of g
abbrev pub with_entry : Flat → ℕ → ℕ → Flat
with_entry F g entry = record F { words = slice_set F.words (entry_place F g) entry }

-- the flat state with one bit of that entry set or cleared
abbrev pub with_entry_bit : Flat → ℕ → ℕ → Bool → Flat
with_entry_bit F g bit to = with_entry F g (with_bit (word_of F g) bit to)

-- the position of a page among the declared ones, which is the number of its swap slot
abbrev pub position_in : List ℕ → ℕ → ℕ
position_in [] page = 0
position_in (p ∷ ps) page = if p == page then 0 else 1 + position_in ps page

abbrev pub swap_slot_of : Flat → ℕ → ℕ
swap_slot_of F g = position_in F.pages (page_of g)

-- the words of the page's frame in the page's slot, where the page was written
abbrev pub saved : Flat → ℕ → ℕ → Flat
saved F g entry = if is_dirty entry then record F { swap = with_page F.swap (swap_slot_of F g) (page_at F.words (number_of entry)) } else F

-- the page of g, whose entry is this one, goes out: its slot is saved, and its entry is that of a page on swap
abbrev pub gone_out : Flat → ℕ → ℕ → Flat
gone_out F g entry = with_entry (saved F g entry) g (swapped_of (swap_slot_of F g) (protection_of entry))

-- the words of the page's slot in a frame
abbrev pub page_loaded : Flat → ℕ → ℕ → Flat
page_loaded F g frame = record F { words = with_page F.words frame (page_at F.swap (swap_slot_of F g)) }

-- the entry of a page that has just come into a frame, where its entry was this one
abbrev pub brought_entry : ℕ → ℕ → ℕ
brought_entry frame entry = resident_of frame (protection_of entry)

-- the page of g, whose entry is this one, comes in: the frame has the slot's words, and the entry is that of a page
-- that has just come into the frame
abbrev pub come_in : Flat → ℕ → ℕ → ℕ → Flat
come_in F g entry frame = with_entry (page_loaded F g frame) g (brought_entry frame entry)
