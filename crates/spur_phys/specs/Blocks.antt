-- Blocks of eight words in a physical memory.
use Rattle.std.specs.Prelude.{ℕ, zero, suc, ◌+◌, ◌*◌, ◌%◌, List, slice_index, slice_set}
use Rattle.spur_list.specs.Parts.{part_at}
use Rattle.spur_addr.specs.Address.{block_of}

-- the word at which a block starts in a frame, by the block's number: a page has 128 blocks, in their
-- order
abbrev pub block_start : ℕ → ℕ → ℕ
block_start frame block = frame * 1024 + block % 128 * 8

-- the word at which the block of address g starts in a frame
abbrev pub block_place : ℕ → ℕ → ℕ
block_place frame g = block_start frame (block_of g)

-- the eight words of the memory from a place on
abbrev pub block_at : List ℕ → ℕ → List ℕ
block_at memory place = part_at memory place 8

-- the memory with the first n words of a list put in one by one from a place on
abbrev pub with_words : ℕ → List ℕ → ℕ → List ℕ → List ℕ
with_words zero memory place words = memory
with_words (suc n) memory place words = slice_set (with_words n memory place words) (place + n) (slice_index words n)

-- the memory with a block put in from a place on
abbrev pub with_block : List ℕ → ℕ → List ℕ → List ℕ
with_block memory place words = with_words 8 memory place words
