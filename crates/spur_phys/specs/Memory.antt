-- A physical memory, as the list of its words.
use Rattle.std.specs.Prelude.{ℕ, ◌≡◌, ◌≤◌, ◌*◌, ◌%◌, List, length}

-- whole frames of 1024 words, from 1 frame to 4096
pub record IsMemory (words : List ℕ) : Type 0 where
  pub whole : length words % 1024 ≡ 0
  pub some_frames : 1024 ≤ length words
  pub few_frames : length words ≤ 1024 * 4096
