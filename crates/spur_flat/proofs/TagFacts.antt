-- An entry changes the tags of boards, and not how many boards there are.
use Rattle.std.proofs.Common.{◌≡◌, ℕ, ◌+◌, suc, List, [], ◌∷◌, length, Option, refl, ap}
use Rattle.std.proofs.lemmas.List.{length-set}
use Rattle.spur_addr.specs.Address.{block_of}
use Rattle.spur_flat.specs.declared.flat.Flat.{Flat}
use Rattle.spur_flat.specs.declared.tag.Tag.{Tag}
use Rattle.spur_flat.specs.declared.entry.Entry.{Entry}
use Rattle.spur_flat.specs.declared.entry.Entry.TheVariants.{Load, Store, Tas, Fault, Fill, Claim, WriteBack, Refresh, BlockFlush, Leave, PageOut, PageIn, SetRef, SetDirty, ClearRef}
use Rattle.spur_flat.specs.TagLines.{each_from, lines_at, snooped_board, tags_on, with_tag}

length-each_from : {X : Type 0} (f : ℕ → X → X) (k : ℕ) (xs : List X) → length (each_from f k xs) ≡ length xs
length-each_from f k [] = refl
length-each_from f k (x ∷ xs) = ap suc (length-each_from f (k + 1) xs)

pub length_tags_on : (F : Flat) (T : List (List (Option Tag))) (entry : Entry) → length (tags_on F T entry) ≡ length T
length_tags_on F T (Load board at value) = refl
length_tags_on F T (Store board at value) = refl
length_tags_on F T (Tas board at old) = refl
length_tags_on F T (Fault board kind access at) = refl
length_tags_on F T (Fill board layer need at) = length-each_from (snooped_board board (block_of at) _ _) 0 T
length_tags_on F T (Claim board at) = length-each_from (snooped_board board (block_of at) _ _) 0 T
length_tags_on F T (WriteBack board at) = length-each_from (snooped_board board (block_of at) _ _) 0 T
length_tags_on F T (Refresh board at) = length-set T board (with_tag (lines_at T board) (block_of at) _)
length_tags_on F T (BlockFlush board holder at) = length-set T holder (with_tag (lines_at T holder) (block_of at) _)
length_tags_on F T (Leave board at) = refl
length_tags_on F T (PageOut board at) = refl
length_tags_on F T (PageIn board at frame) = refl
length_tags_on F T (SetRef board at) = refl
length_tags_on F T (SetDirty board at) = refl
length_tags_on F T (ClearRef board at) = refl
