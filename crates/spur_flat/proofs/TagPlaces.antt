-- What stands on the place of a block, and the tag of a block, where lines of boards are changed.
use Rattle.std.proofs.Common.{◌≡◌, ℕ, zero, suc, ◌+◌, ◌<◌, ◌≤◌, ◌%◌, ◌==◌, Bool, true, false, if◌then◌else◌, List, [], ◌∷◌, length, get_or, replicate, slice_get, slice_set, Option, Some, None, ◌⊎◌, inl, inr, refl, sym, ap, ◌∙◌, subst, add-zero, arith}
use Rattle.std.proofs.lemmas.Bool.{cases_eq, cases_lt, eq-eqb, eqb-true, ne_eqb}
use Rattle.std.proofs.lemmas.List.{get_or-set_other, get_or-set_same, get_or_past, length-set}
use Rattle.spur_snoop.specs.declared.BlockState.{BlockState}
use Rattle.spur_snoop.specs.declared.BlockState.TheVariants.{Invalid, UnOwned, OwnedNonExclusive, OwnedExclusive}
use Rattle.spur_snoop.specs.declared.BusKind.{BusKind}
use Rattle.spur_snoop.specs.Protocol.{snooped_of}
use Rattle.spur_flat.specs.declared.tag.Tag.{Tag}
use Rattle.spur_flat.specs.TagLines.{IsOfBlock, bus_on, each_from, tag_in_state, joined, lines_at, no_tags, of_block, snooped_board, tag_index, standing_tag, tag_at, tag_in, snooped_tags, snooped_tag, with_tag, with_tag_at}

-- a member that was put in a list stands there, where there is such a place
get_set_same : {X : Type 0} (xs : List X) (i : ℕ) (y : X) → (slice_get (slice_set xs i y) i ≡ Some y) ⊎ (slice_get (slice_set xs i y) i ≡ None)
get_set_same [] i y = inr refl
get_set_same (x ∷ xs) zero y = inl refl
get_set_same (x ∷ xs) (suc i) y = get_set_same xs i y

get_set_other : {X : Type 0} (xs : List X) (i j : ℕ) (y : X) → (j ≡ i → ⊥) → slice_get (slice_set xs i y) j ≡ slice_get xs j
get_set_other [] i j y other = refl
get_set_other (x ∷ xs) zero zero y other = absurd (other refl)
get_set_other (x ∷ xs) zero (suc j) y other = refl
get_set_other (x ∷ xs) (suc i) zero y other = refl
get_set_other (x ∷ xs) (suc i) (suc j) y other = get_set_other xs i j y (λ e. other (ap suc e))

-- a member of a list that is changed member by member
get_each : {X : Type 0} (f : ℕ → X → X) (k : ℕ) (xs : List X) (i : ℕ) (d : X) → (get_or (each_from f k xs) i d ≡ f (k + i) (get_or xs i d)) ⊎ (get_or (each_from f k xs) i d ≡ d)
get_each f k [] i d = inr refl
get_each {X} f k (x ∷ xs) zero d = inl (ap (λ (n : ℕ). f n x) (sym (add-zero k)))
get_each {X} f k (x ∷ xs) (suc i) d = later (get_each f (k + 1) xs i d) where
  later : (get_or (each_from f (k + 1) xs) i d ≡ f (k + 1 + i) (get_or xs i d)) ⊎ (get_or (each_from f (k + 1) xs) i d ≡ d) → (get_or (each_from f (k + 1) xs) i d ≡ f (k + suc i) (get_or xs i d)) ⊎ (get_or (each_from f (k + 1) xs) i d ≡ d)
  later (inl e) = let same : k + 1 + i ≡ k + suc i = omega arith in inl (e ∙ ap (λ (n : ℕ). f n (get_or xs i d)) same)
  later (inr e) = inr e

-- the tag of a block is of that block
pub tag_is_of_block : (lines : List (Option Tag)) (block : ℕ) → IsOfBlock block (tag_in lines block)
tag_is_of_block lines block = of_what (standing_tag lines block) where
  by_test : (t : Tag) (b : Bool) → (t.block == block) ≡ b → IsOfBlock block (if b then Some t else None)
  by_test t true e = eqb-true t.block block e
  by_test t false e = tt

  of_what : (o : Option Tag) → IsOfBlock block (of_block block o)
  of_what None = tt
  of_what (Some t) = by_test t (t.block == block) refl

of_same : (block : ℕ) (tag : Option Tag) → IsOfBlock block tag → of_block block tag ≡ tag
of_same block None is = refl
of_same block (Some t) is = ap (λ (b : Bool). if b then Some t else None) (eq-eqb t.block block is)

of_other : (b block : ℕ) (tag : Option Tag) → (b ≡ block → ⊥) → IsOfBlock block tag → of_block b tag ≡ None
of_other b block None other is = refl
of_other b block (Some t) other is = ap (λ (c : Bool). if c then Some t else None) (ne_eqb t.block b (λ e. other (sym e ∙ is)))

-- the place of a block is the same where a tag was put
standing-with_tag : (lines : List (Option Tag)) (block b : ℕ) (tag : Option Tag) → standing_tag (with_tag lines block tag) b ≡ joined (slice_get (slice_set lines (tag_index lines block) tag) (tag_index lines b))
standing-with_tag lines block b tag = ap (λ (n : ℕ). joined (slice_get (slice_set lines (tag_index lines block) tag) (b % n))) (length-set lines (tag_index lines block) tag)

-- a tag of a block that was put on its place is the block's, where there is a place
pub put_here : (lines : List (Option Tag)) (block : ℕ) (tag : Option Tag) → IsOfBlock block tag → (tag_in (with_tag lines block tag) block ≡ None) ⊎ (tag_in (with_tag lines block tag) block ≡ tag)
put_here lines block tag is = by_place (get_set_same lines (tag_index lines block) tag) where
  place : tag_in (with_tag lines block tag) block ≡ of_block block (joined (slice_get (slice_set lines (tag_index lines block) tag) (tag_index lines block)))
  place = ap (of_block block) (standing-with_tag lines block block tag)

  by_place : (slice_get (slice_set lines (tag_index lines block) tag) (tag_index lines block) ≡ Some tag) ⊎ (slice_get (slice_set lines (tag_index lines block) tag) (tag_index lines block) ≡ None) → (tag_in (with_tag lines block tag) block ≡ None) ⊎ (tag_in (with_tag lines block tag) block ≡ tag)
  by_place (inl e) = inr (place ∙ ap (λ (o : Option (Option Tag)). of_block block (joined o)) e ∙ of_same block tag is)
  by_place (inr e) = inl (place ∙ ap (λ (o : Option (Option Tag)). of_block block (joined o)) e)

-- another block's tag is gone, or the same
pub put_apart : (lines : List (Option Tag)) (block b : ℕ) (tag : Option Tag) → (b ≡ block → ⊥) → IsOfBlock block tag → (tag_in (with_tag lines block tag) b ≡ None) ⊎ (tag_in (with_tag lines block tag) b ≡ tag_in lines b)
put_apart lines block b tag other is = by_slot (cases_eq (tag_index lines b) (tag_index lines block)) where
  place : tag_in (with_tag lines block tag) b ≡ of_block b (joined (slice_get (slice_set lines (tag_index lines block) tag) (tag_index lines b)))
  place = ap (of_block b) (standing-with_tag lines block b tag)

  by_place : tag_index lines b ≡ tag_index lines block → (slice_get (slice_set lines (tag_index lines block) tag) (tag_index lines block) ≡ Some tag) ⊎ (slice_get (slice_set lines (tag_index lines block) tag) (tag_index lines block) ≡ None) → tag_in (with_tag lines block tag) b ≡ None
  by_place same (inl e) = place ∙ ap (λ (n : ℕ). of_block b (joined (slice_get (slice_set lines (tag_index lines block) tag) n))) same ∙ ap (λ (o : Option (Option Tag)). of_block b (joined o)) e ∙ of_other b block tag other is
  by_place same (inr e) = place ∙ ap (λ (n : ℕ). of_block b (joined (slice_get (slice_set lines (tag_index lines block) tag) n))) same ∙ ap (λ (o : Option (Option Tag)). of_block b (joined o)) e

  by_slot : (tag_index lines b ≡ tag_index lines block) ⊎ (tag_index lines b ≡ tag_index lines block → ⊥) → (tag_in (with_tag lines block tag) b ≡ None) ⊎ (tag_in (with_tag lines block tag) b ≡ tag_in lines b)
  by_slot (inl same) = inl (by_place same (get_set_same lines (tag_index lines block) tag))
  by_slot (inr apart) = inr (place ∙ ap (λ (o : Option (Option Tag)). of_block b (joined o)) (get_set_other lines (tag_index lines block) (tag_index lines b) tag apart))

-- how a board's tag of a block moves in a transaction on the block: it is gone, it is the one that the board put there, or
-- it saw the transaction
pub data Moves (own : ℕ) (kind : BusKind) (mine : Option Tag) (board : ℕ) (before after : Option Tag) : Type 0 where
  Gone : after ≡ None → Moves own kind mine board before after
  Put : board ≡ own → after ≡ mine → Moves own kind mine board before after
  Saw : (t : Tag) → before ≡ Some t → after ≡ tag_in_state (snooped_of t.state kind) t → Moves own kind mine board before after

of_in_state : (s : BlockState) (t : Tag) (block : ℕ) → t.block ≡ block → IsOfBlock block (tag_in_state s t)
of_in_state Invalid t block is = tt
of_in_state UnOwned t block is = is
of_in_state OwnedNonExclusive t block is = is
of_in_state OwnedExclusive t block is = is

told_here : (own : ℕ) (kind : BusKind) (mine : Option Tag) (board : ℕ) (lines : List (Option Tag)) (block : ℕ) → Moves own kind mine board (tag_in lines block) (tag_in (snooped_tags lines block kind) block)
told_here own kind mine board lines block = by_tag (tag_in lines block) refl (tag_is_of_block lines block) where
  by_put : (t : Tag) → tag_in lines block ≡ Some t → (tag_in (snooped_tag lines block kind (Some t)) block ≡ None) ⊎ (tag_in (snooped_tag lines block kind (Some t)) block ≡ tag_in_state (snooped_of t.state kind) t) → Moves own kind mine board (tag_in lines block) (tag_in (snooped_tag lines block kind (Some t)) block)
  by_put t e (inl gone) = Gone gone
  by_put t e (inr saw) = Saw t e saw

  by_tag : (o : Option Tag) → tag_in lines block ≡ o → IsOfBlock block o → Moves own kind mine board (tag_in lines block) (tag_in (snooped_tag lines block kind o) block)
  by_tag None e is = Gone e
  by_tag (Some t) e is = by_put t e (put_here lines block (tag_in_state (snooped_of t.state kind) t) (of_in_state (snooped_of t.state kind) t block is))

told_apart : (lines : List (Option Tag)) (block b : ℕ) (kind : BusKind) → (b ≡ block → ⊥) → (tag_in (snooped_tags lines block kind) b ≡ None) ⊎ (tag_in (snooped_tags lines block kind) b ≡ tag_in lines b)
told_apart lines block b kind other = by_tag (tag_in lines block) (tag_is_of_block lines block) where
  by_tag : (o : Option Tag) → IsOfBlock block o → (tag_in (snooped_tag lines block kind o) b ≡ None) ⊎ (tag_in (snooped_tag lines block kind o) b ≡ tag_in lines b)
  by_tag None is = inr refl
  by_tag (Some t) is = put_apart lines block b (tag_in_state (snooped_of t.state kind) t) other (of_in_state (snooped_of t.state kind) t block is)

seen_here : (own : ℕ) (kind : BusKind) (mine : Option Tag) (board : ℕ) (lines : List (Option Tag)) (block : ℕ) → IsOfBlock block mine → Moves own kind mine board (tag_in lines block) (tag_in (snooped_board own block kind mine board lines) block)
seen_here own kind mine board lines block is = by_board (board == own) refl where
  by_put : board ≡ own → (tag_in (with_tag lines block mine) block ≡ None) ⊎ (tag_in (with_tag lines block mine) block ≡ mine) → Moves own kind mine board (tag_in lines block) (tag_in (with_tag lines block mine) block)
  by_put at (inl gone) = Gone gone
  by_put at (inr put) = Put at put

  by_board : (b : Bool) → (board == own) ≡ b → Moves own kind mine board (tag_in lines block) (tag_in (if b then with_tag lines block mine else snooped_tags lines block kind) block)
  by_board true at = by_put (eqb-true board own at) (put_here lines block mine is)
  by_board false at = told_here own kind mine board lines block

seen_apart : (own : ℕ) (kind : BusKind) (mine : Option Tag) (board : ℕ) (lines : List (Option Tag)) (block b : ℕ) → (b ≡ block → ⊥) → IsOfBlock block mine → (tag_in (snooped_board own block kind mine board lines) b ≡ None) ⊎ (tag_in (snooped_board own block kind mine board lines) b ≡ tag_in lines b)
seen_apart own kind mine board lines block b other is = by_board (board == own) where
  by_board : (c : Bool) → (tag_in (if c then with_tag lines block mine else snooped_tags lines block kind) b ≡ None) ⊎ (tag_in (if c then with_tag lines block mine else snooped_tags lines block kind) b ≡ tag_in lines b)
  by_board true = put_apart lines block b mine other is
  by_board false = told_apart lines block b kind other

-- each board's tag of a block after a transaction on it
pub bus_here : (T : List (List (Option Tag))) (own block : ℕ) (kind : BusKind) (mine : Option Tag) (board : ℕ) → IsOfBlock block mine → Moves own kind mine board (tag_at T board block) (tag_at (bus_on T own block kind mine) board block)
bus_here T own block kind mine board is = by_lines (get_each (snooped_board own block kind mine) 0 T board []) where
  same : 0 + board ≡ board
  same = omega arith

  by_lines : (lines_at (bus_on T own block kind mine) board ≡ snooped_board own block kind mine (0 + board) (lines_at T board)) ⊎ (lines_at (bus_on T own block kind mine) board ≡ []) → Moves own kind mine board (tag_at T board block) (tag_at (bus_on T own block kind mine) board block)
  by_lines (inl e) = subst (λ (lines : List (Option Tag)). Moves own kind mine board (tag_at T board block) (tag_in lines block)) (sym (e ∙ ap (λ (k : ℕ). snooped_board own block kind mine k (lines_at T board)) same)) (seen_here own kind mine board (lines_at T board) block is)
  by_lines (inr e) = Gone (ap (λ (lines : List (Option Tag)). tag_in lines block) e)

-- and of another block: it is gone, or the same
pub bus_apart : (T : List (List (Option Tag))) (own block : ℕ) (kind : BusKind) (mine : Option Tag) (board b : ℕ) → (b ≡ block → ⊥) → IsOfBlock block mine → (tag_at (bus_on T own block kind mine) board b ≡ None) ⊎ (tag_at (bus_on T own block kind mine) board b ≡ tag_at T board b)
bus_apart T own block kind mine board b other is = by_lines (get_each (snooped_board own block kind mine) 0 T board []) where
  by_lines : (lines_at (bus_on T own block kind mine) board ≡ snooped_board own block kind mine (0 + board) (lines_at T board)) ⊎ (lines_at (bus_on T own block kind mine) board ≡ []) → (tag_at (bus_on T own block kind mine) board b ≡ None) ⊎ (tag_at (bus_on T own block kind mine) board b ≡ tag_at T board b)
  by_lines (inl e) = subst (λ (lines : List (Option Tag)). (tag_in lines b ≡ None) ⊎ (tag_in lines b ≡ tag_at T board b)) (sym e) (seen_apart own kind mine (0 + board) (lines_at T board) block b other is)
  by_lines (inr e) = inl (ap (λ (lines : List (Option Tag)). tag_in lines b) e)

-- a board's tag of a block where one board's place was changed: it is gone, the one that was put there, or the same
pub data Changes (own : ℕ) (mine : Option Tag) (board : ℕ) (before after : Option Tag) : Type 0 where
  Lost : after ≡ None → Changes own mine board before after
  Changed : board ≡ own → after ≡ mine → Changes own mine board before after
  Kept : after ≡ before → Changes own mine board before after

set_lines : (T : List (List (Option Tag))) (own board : ℕ) (lines : List (Option Tag)) → (board ≡ own) ⊎ (board ≡ own → ⊥) → (lines_at (slice_set T own lines) board ≡ []) ⊎ (((board ≡ own) × (lines_at (slice_set T own lines) board ≡ lines)) ⊎ (lines_at (slice_set T own lines) board ≡ lines_at T board))
set_lines T own board lines (inr away) = inr (inr (get_or-set_other T own board lines [] away))
set_lines T own board lines (inl at) = by_length (cases_lt own (length T)) where
  by_length : (own < length T) ⊎ (length T ≤ own) → (lines_at (slice_set T own lines) board ≡ []) ⊎ (((board ≡ own) × (lines_at (slice_set T own lines) board ≡ lines)) ⊎ (lines_at (slice_set T own lines) board ≡ lines_at T board))
  by_length (inl within) = inr (inl (at, ap (λ (n : ℕ). lines_at (slice_set T own lines) n) at ∙ get_or-set_same T own lines [] within))
  by_length (inr past) = inl (ap (λ (n : ℕ). lines_at (slice_set T own lines) n) at ∙ get_or_past (slice_set T own lines) own [] (omega (arith, length-set T own lines)))

pub set_here : (T : List (List (Option Tag))) (own block : ℕ) (mine : Option Tag) (board : ℕ) → IsOfBlock block mine → Changes own mine board (tag_at T board block) (tag_at (with_tag_at T own block mine) board block)
set_here T own block mine board is = by_lines (set_lines T own board (with_tag (lines_at T own) block mine) (cases_eq board own)) where
  by_put : board ≡ own → (tag_in (with_tag (lines_at T own) block mine) block ≡ None) ⊎ (tag_in (with_tag (lines_at T own) block mine) block ≡ mine) → Changes own mine board (tag_at T board block) (tag_in (with_tag (lines_at T own) block mine) block)
  by_put at (inl gone) = Lost gone
  by_put at (inr put) = Changed at put

  by_lines : (lines_at (with_tag_at T own block mine) board ≡ []) ⊎ (((board ≡ own) × (lines_at (with_tag_at T own block mine) board ≡ with_tag (lines_at T own) block mine)) ⊎ (lines_at (with_tag_at T own block mine) board ≡ lines_at T board)) → Changes own mine board (tag_at T board block) (tag_at (with_tag_at T own block mine) board block)
  by_lines (inl e) = Lost (ap (λ (lines : List (Option Tag)). tag_in lines block) e)
  by_lines (inr (inl (at, e))) = subst (λ (lines : List (Option Tag)). Changes own mine board (tag_at T board block) (tag_in lines block)) (sym e) (by_put at (put_here (lines_at T own) block mine is))
  by_lines (inr (inr e)) = Kept (ap (λ (lines : List (Option Tag)). tag_in lines block) e)

pub set_apart : (T : List (List (Option Tag))) (own block : ℕ) (mine : Option Tag) (board b : ℕ) → (b ≡ block → ⊥) → IsOfBlock block mine → (tag_at (with_tag_at T own block mine) board b ≡ None) ⊎ (tag_at (with_tag_at T own block mine) board b ≡ tag_at T board b)
set_apart T own block mine board b other is = by_lines (set_lines T own board (with_tag (lines_at T own) block mine) (cases_eq board own)) where
  by_put : board ≡ own → (tag_in (with_tag (lines_at T own) block mine) b ≡ None) ⊎ (tag_in (with_tag (lines_at T own) block mine) b ≡ tag_at T own b) → (tag_in (with_tag (lines_at T own) block mine) b ≡ None) ⊎ (tag_in (with_tag (lines_at T own) block mine) b ≡ tag_at T board b)
  by_put at (inl gone) = inl gone
  by_put at (inr same) = inr (same ∙ ap (λ (n : ℕ). tag_at T n b) (sym at))

  by_lines : (lines_at (with_tag_at T own block mine) board ≡ []) ⊎ (((board ≡ own) × (lines_at (with_tag_at T own block mine) board ≡ with_tag (lines_at T own) block mine)) ⊎ (lines_at (with_tag_at T own block mine) board ≡ lines_at T board)) → (tag_at (with_tag_at T own block mine) board b ≡ None) ⊎ (tag_at (with_tag_at T own block mine) board b ≡ tag_at T board b)
  by_lines (inl e) = inl (ap (λ (lines : List (Option Tag)). tag_in lines b) e)
  by_lines (inr (inl (at, e))) = subst (λ (lines : List (Option Tag)). (tag_in lines b ≡ None) ⊎ (tag_in lines b ≡ tag_at T board b)) (sym e) (by_put at (put_apart (lines_at T own) block b mine other is))
  by_lines (inr (inr e)) = inr (ap (λ (lines : List (Option Tag)). tag_in lines b) e)

-- no board has a tag where nothing stands
pub none_at : (boards lines board block : ℕ) → tag_at (no_tags boards lines) board block ≡ None
none_at boards lines board block = by_boards boards board where
  no_line : (n k : ℕ) → joined (slice_get (replicate n None) k) ≡ None
  no_line zero k = refl
  no_line (suc n) zero = refl
  no_line (suc n) (suc k) = no_line n k

  by_boards : (n k : ℕ) → tag_in (get_or (replicate n (replicate lines None)) k []) block ≡ None
  by_boards zero k = refl
  by_boards (suc n) zero = ap (of_block block) (no_line lines (tag_index (replicate lines None) block))
  by_boards (suc n) (suc k) = by_boards n k
