-- Page-table entries, as words below 2 ^ 32 and their digits.
use Rattle.std.specs.Prelude.{ℕ, ◌+◌, ◌*◌, ◌/◌, ◌%◌, ◌^◌, ◌==◌, ◌&&◌, Bool, true, false, not, if◌then◌else◌, Result, Ok, Err}
use Rattle.std.specs.Int.{bit_at}
use Rattle.spur_addr.specs.declared.page_entry.Protection.{Protection}
use Rattle.spur_addr.specs.declared.page_entry.Protection.TheVariants.{Nothing, ReadOnly, ReadWrite}
use Rattle.spur_addr.specs.declared.page_entry.PteFault.{PteFault}
use Rattle.spur_addr.specs.declared.page_entry.PteFault.TheVariants.{Reserved}

-- the number in the `width` bits of a word from bit `at` on
abbrev pub field : ℕ → ℕ → ℕ → ℕ
field word at width = word / 2 ^ at % 2 ^ width

-- bit 0: the page is in the frame that the entry names
abbrev pub is_valid : ℕ → Bool
is_valid word = bit_at word 0 == 1

-- bit 1: the page counts as used since the bit was last cleared
abbrev pub is_referenced : ℕ → Bool
is_referenced word = bit_at word 1 == 1

-- bit 2: the page may have been written since it came into its frame
abbrev pub is_dirty : ℕ → Bool
is_dirty word = bit_at word 2 == 1

-- bit 5: the page is in the swap slot that the entry names
abbrev pub is_on_swap : ℕ → Bool
is_on_swap word = bit_at word 5 == 1

-- bit 6: the page is about to give up its frame
abbrev pub is_leaving : ℕ → Bool
is_leaving word = bit_at word 6 == 1

-- bits 3 and 4, of a readable word
abbrev pub protection_of : ℕ → Protection
protection_of word =
    if field word 3 2 == 0 then Nothing
    else if field word 3 2 == 1 then ReadOnly
    else ReadWrite

-- bits 12 to 31: the number of a frame, or of a swap slot
abbrev pub number_of : ℕ → ℕ
number_of word = word / 2 ^ 12

-- whether a word is an entry: bits 7 to 11 are zero, and the protection is not 3
abbrev pub is_readable : ℕ → Bool
is_readable word = (field word 7 5 == 0) && not (field word 3 2 == 3)

-- the entry that a word is, or the fault of one that is none
abbrev pub read_of : ℕ → Result ℕ PteFault
read_of word = if is_readable word then Ok word else Err (Reserved word)

-- the number of a protection
abbrev pub protection_number : Protection → ℕ
protection_number Nothing = 0
protection_number ReadOnly = 1
protection_number ReadWrite = 2

-- the digit of a bit that is set or clear
abbrev pub bit_number : Bool → ℕ
bit_number true = 1
bit_number false = 0

-- the word with bit `at` set or cleared: the digits above it, the bit, and the digits below it
abbrev pub with_bit : ℕ → ℕ → Bool → ℕ
with_bit word at to = (word / 2 ^ (at + 1) * 2 + bit_number to) * 2 ^ at + word % 2 ^ at

-- the entry of a page that has just come into a frame: valid, referenced
abbrev pub resident_of : ℕ → Protection → ℕ
resident_of frame protection = frame * 2 ^ 12 + protection_number protection * 2 ^ 3 + 2 ^ 1 + 2 ^ 0

-- the entry of a page in a swap slot: on swap
abbrev pub swapped_of : ℕ → Protection → ℕ
swapped_of slot protection = slot * 2 ^ 12 + 2 ^ 5 + protection_number protection * 2 ^ 3
