-- The ownership rules in the protocol's own words, over what the lines of all boards are known to hold.
use Rattle.std.specs.Prelude.{ℕ, ◌≡◌, true, List, Option}
use Rattle.spur_snoop.specs.Protocol.{is_owned, is_alive, is_exclusive}
use Rattle.spur_flat.specs.declared.flat.Flat.{Flat}
use Rattle.spur_flat.specs.declared.tag.Tag.{Tag}
use Rattle.spur_flat.specs.declared.entry.Entry.{Entry}
use Rattle.spur_flat.specs.TagLines.{no_tags, block_state, tag_at}
use Rattle.spur_flat.specs.State.{tags_after}

-- a block has one owner at most, and one that is exclusive at a board is valid at no other
pub record HasOneOwner (T : List (List (Option Tag))) (block : ℕ) : Type 0 where
  pub one_owner : (i j : ℕ)
      → is_owned (block_state (tag_at T i block)) ≡ true → is_owned (block_state (tag_at T j block)) ≡ true → i ≡ j
  pub exclusive : (i j : ℕ)
      → is_exclusive (block_state (tag_at T i block)) ≡ true → is_alive (block_state (tag_at T j block)) ≡ true → i ≡ j

-- so is each block after any history from no tags: each entry's change keeps it, whether the tags allow the entry or not
abbrev pub EachHasOneOwner : Type 0
EachHasOneOwner = (F : Flat) (boards lines : ℕ) (history : List Entry) (block : ℕ)
    → HasOneOwner (tags_after F (no_tags boards lines) history) block
