-- A block has one owner at most: what each entry leaves of the boards' tags of a block.
use Rattle.std.proofs.Common.{◌≡◌, ℕ, ◌&&◌, ◌||◌, not, Bool, true, false, List, [], ◌∷◌, Option, Some, None, ◌⊎◌, inl, inr, refl, sym, ap, ◌∙◌, subst}
use Rattle.std.specs.Prelude.{⊤}
use Rattle.std.proofs.lemmas.Bool.{cases_eq}
use Rattle.spur_addr.specs.Address.{block_of}
use Rattle.spur_snoop.specs.declared.BlockState.{BlockState}
use Rattle.spur_snoop.specs.declared.BlockState.TheVariants.{Invalid, UnOwned, OwnedNonExclusive, OwnedExclusive}
use Rattle.spur_snoop.specs.declared.BusKind.{BusKind}
use Rattle.spur_snoop.specs.declared.BusKind.TheVariants as bus
use Rattle.spur_snoop.specs.declared.Need.{Need}
use Rattle.spur_snoop.specs.declared.Need.TheVariants.{Read, Write}
use Rattle.spur_snoop.specs.Protocol.{is_owned, snooped_of, is_alive, is_exclusive}
use Rattle.spur_flat.specs.declared.flat.Flat.{Flat}
use Rattle.spur_flat.specs.declared.tag.Tag.{Tag}
use Rattle.spur_flat.specs.declared.entry.Layer.{Layer}
use Rattle.spur_flat.specs.declared.entry.Layer.TheVariants.{RootBlock, PteBlock, UserBlock}
use Rattle.spur_flat.specs.declared.entry.Entry.{Entry}
use Rattle.spur_flat.specs.declared.entry.Entry.TheVariants.{Load, Store, Tas, Fault, Fill, Claim, WriteBack, Refresh, BlockFlush, Leave, PageOut, PageIn, SetRef, SetDirty, ClearRef}
use Rattle.spur_flat.specs.History.{on}
use Rattle.spur_flat.specs.TagLines.{IsOfBlock, bus_on, dirtied_tag, filled_state, fresh_tag, tag_in_state, no_tags, restated_tag, block_state, tag_at, tags_on, with_tag_at}
use Rattle.spur_flat.specs.State.{tags_after}
use Rattle.spur_flat.specs.Ownership.{EachHasOneOwner}
use Rattle.spur_flat.proofs.TagPlaces.{Changes, Lost, Changed, Kept, Moves, Gone, Put, Saw, bus_apart, bus_here, none_at, set_apart, set_here, tag_is_of_block}

-- a tag, where there is one, is of a block that is valid
abbrev IsValidTag : Option Tag → Type 0
IsValidTag None = ⊤
IsValidTag (Some tag) = is_alive tag.state ≡ true

-- the boards' tags of one block: one owner at most, none valid beside one that is exclusive, and each of a valid block
record AreOfOneOwner (tags : ℕ → Option Tag) : Type 0 where
  one_owner : (i j : ℕ) → is_owned (block_state (tags i)) ≡ true → is_owned (block_state (tags j)) ≡ true → i ≡ j
  exclusive : (i j : ℕ) → is_exclusive (block_state (tags i)) ≡ true → is_alive (block_state (tags j)) ≡ true → i ≡ j
  valid : (i : ℕ) → IsValidTag (tags i)

-- a state that is owned, exclusive or valid only where another is
abbrev only_if : (BlockState → Bool) → BlockState → BlockState → Bool
only_if test before after = not (test after) || test before

abbrev is_weaker : BlockState → BlockState → Bool
is_weaker before after = only_if is_owned before after && (only_if is_exclusive before after && only_if is_alive before after)

record Falls (before after : Option Tag) : Type 0 where
  weaker : is_weaker (block_state before) (block_state after) ≡ true
  valid : IsValidTag after

both_of : (a b : Bool) → (a && b) ≡ true → (a ≡ true) × (b ≡ true)
both_of true b e = (refl, e)
both_of false b e = absurd cc

implied : (a b : Bool) → (not a || b) ≡ true → a ≡ true → b ≡ true
implied true b e is = e
implied false b e is = absurd cc

owned_before : (before after : BlockState) → is_weaker before after ≡ true → is_owned after ≡ true → is_owned before ≡ true
owned_before before after weaker =
    implied (is_owned after) (is_owned before)
    (both_of (only_if is_owned before after) (only_if is_exclusive before after && only_if is_alive before after) weaker).0

others_before : (before after : BlockState) → is_weaker before after ≡ true → (only_if is_exclusive before after ≡ true) × (only_if is_alive before after ≡ true)
others_before before after weaker =
    both_of (only_if is_exclusive before after) (only_if is_alive before after)
    (both_of (only_if is_owned before after) (only_if is_exclusive before after && only_if is_alive before after) weaker).1

exclusive_before : (before after : BlockState) → is_weaker before after ≡ true → is_exclusive after ≡ true → is_exclusive before ≡ true
exclusive_before before after weaker = implied (is_exclusive after) (is_exclusive before) (others_before before after weaker).0

alive_before : (before after : BlockState) → is_weaker before after ≡ true → is_alive after ≡ true → is_alive before ≡ true
alive_before before after weaker = implied (is_alive after) (is_alive before) (others_before before after weaker).1

-- where each tag becomes weaker, one owner is left at most
each_falls : (before after : ℕ → Option Tag) → AreOfOneOwner before → ((i : ℕ) → Falls (before i) (after i)) → AreOfOneOwner after
each_falls before after h falls = record {
  one_owner = λ i j owned other. h.one_owner i j (owned_before (block_state (before i)) (block_state (after i)) (falls i).weaker owned) (owned_before (block_state (before j)) (block_state (after j)) (falls j).weaker other);
  exclusive = λ i j alone alive. h.exclusive i j (exclusive_before (block_state (before i)) (block_state (after i)) (falls i).weaker alone) (alive_before (block_state (before j)) (block_state (after j)) (falls j).weaker alive);
  valid = λ i. (falls i).valid;
}

alive_if_owned : (s : BlockState) → is_owned s ≡ true → is_alive s ≡ true
alive_if_owned Invalid e = e
alive_if_owned UnOwned e = refl
alive_if_owned OwnedNonExclusive e = refl
alive_if_owned OwnedExclusive e = refl

owned_if_exclusive : (s : BlockState) → is_exclusive s ≡ true → is_owned s ≡ true
owned_if_exclusive Invalid e = e
owned_if_exclusive UnOwned e = e
owned_if_exclusive OwnedNonExclusive e = refl
owned_if_exclusive OwnedExclusive e = refl

-- where at most one board has a tag, it is the one owner
one_left : (after : ℕ → Option Tag) (own : ℕ) → ((i : ℕ) → IsValidTag (after i)) → ((i : ℕ) → (after i ≡ None) ⊎ (i ≡ own)) → AreOfOneOwner after
one_left after own valid left = record {
  one_owner = λ i j owned other. is_own i (alive_if_owned (block_state (after i)) owned) ∙ sym (is_own j (alive_if_owned (block_state (after j)) other));
  exclusive = λ i j alone alive. is_own i (alive_if_owned (block_state (after i)) (owned_if_exclusive (block_state (after i)) alone)) ∙ sym (is_own j alive);
  valid = valid;
} where
  by_case : (i : ℕ) → is_alive (block_state (after i)) ≡ true → (after i ≡ None) ⊎ (i ≡ own) → i ≡ own
  by_case i alive (inl none) = let never : false ≡ true = sym (ap (λ (o : Option Tag). is_alive (block_state o)) none) ∙ alive in absurd cc
  by_case i alive (inr e) = e

  is_own : (i : ℕ) → is_alive (block_state (after i)) ≡ true → i ≡ own
  is_own i alive = by_case i alive (left i)

-- a tag that is owned only where it was, and is not exclusive
record Shares (before after : Option Tag) : Type 0 where
  owned : is_owned (block_state after) ≡ true → is_owned (block_state before) ≡ true
  shared : is_exclusive (block_state after) ≡ false
  valid : IsValidTag after

each_shares : (before after : ℕ → Option Tag) → AreOfOneOwner before → ((i : ℕ) → Shares (before i) (after i)) → AreOfOneOwner after
each_shares before after h shares = record {
  one_owner = λ i j owned other. h.one_owner i j ((shares i).owned owned) ((shares j).owned other);
  exclusive = λ i j alone alive. let never : false ≡ true = sym (shares i).shared ∙ alone in absurd cc;
  valid = λ i. (shares i).valid;
}

-- the states, one by one
weaker_same : (s : BlockState) → is_weaker s s ≡ true
weaker_same Invalid = refl
weaker_same UnOwned = refl
weaker_same OwnedNonExclusive = refl
weaker_same OwnedExclusive = refl

weaker_unowned : (s : BlockState) → is_alive s ≡ true → is_weaker s UnOwned ≡ true
weaker_unowned Invalid alive = alive
weaker_unowned UnOwned alive = refl
weaker_unowned OwnedNonExclusive alive = refl
weaker_unowned OwnedExclusive alive = refl

weaker_snooped : (s : BlockState) (kind : BusKind) → is_weaker s (snooped_of s kind) ≡ true
weaker_snooped Invalid bus.ReadShared = refl
weaker_snooped Invalid bus.ReadOwned = refl
weaker_snooped Invalid bus.Claim = refl
weaker_snooped Invalid bus.WriteBack = refl
weaker_snooped UnOwned bus.ReadShared = refl
weaker_snooped UnOwned bus.ReadOwned = refl
weaker_snooped UnOwned bus.Claim = refl
weaker_snooped UnOwned bus.WriteBack = refl
weaker_snooped OwnedNonExclusive bus.ReadShared = refl
weaker_snooped OwnedNonExclusive bus.ReadOwned = refl
weaker_snooped OwnedNonExclusive bus.Claim = refl
weaker_snooped OwnedNonExclusive bus.WriteBack = refl
weaker_snooped OwnedExclusive bus.ReadShared = refl
weaker_snooped OwnedExclusive bus.ReadOwned = refl
weaker_snooped OwnedExclusive bus.Claim = refl
weaker_snooped OwnedExclusive bus.WriteBack = refl

shared_snooped : (s : BlockState) → is_exclusive (snooped_of s bus.ReadShared) ≡ false
shared_snooped Invalid = refl
shared_snooped UnOwned = refl
shared_snooped OwnedNonExclusive = refl
shared_snooped OwnedExclusive = refl

none_if_read_owned : (s : BlockState) (t : Tag) → tag_in_state (snooped_of s bus.ReadOwned) t ≡ None
none_if_read_owned Invalid t = refl
none_if_read_owned UnOwned t = refl
none_if_read_owned OwnedNonExclusive t = refl
none_if_read_owned OwnedExclusive t = refl

none_if_claimed : (s : BlockState) (t : Tag) → tag_in_state (snooped_of s bus.Claim) t ≡ None
none_if_claimed Invalid t = refl
none_if_claimed UnOwned t = refl
none_if_claimed OwnedNonExclusive t = refl
none_if_claimed OwnedExclusive t = refl

state-in_state : (s : BlockState) (t : Tag) → block_state (tag_in_state s t) ≡ s
state-in_state Invalid t = refl
state-in_state UnOwned t = refl
state-in_state OwnedNonExclusive t = refl
state-in_state OwnedExclusive t = refl

valid-in_state : (s : BlockState) (t : Tag) → IsValidTag (tag_in_state s t)
valid-in_state Invalid t = tt
valid-in_state UnOwned t = refl
valid-in_state OwnedNonExclusive t = refl
valid-in_state OwnedExclusive t = refl

-- the tags, one by one
falls_none : (before : Option Tag) → Falls before None
falls_none before = record { weaker = refl; valid = tt }

falls_same : (before : Option Tag) → IsValidTag before → Falls before before
falls_same before valid = record { weaker = weaker_same (block_state before); valid = valid }

falls_or_none : (before after : Option Tag) → IsValidTag before → (after ≡ None) ⊎ (after ≡ before) → Falls before after
falls_or_none before after valid (inl none) = subst (Falls before) (sym none) (falls_none before)
falls_or_none before after valid (inr same) = subst (Falls before) (sym same) (falls_same before valid)

falls_snooped : (before : Option Tag) (t : Tag) (kind : BusKind) → before ≡ Some t → Falls before (tag_in_state (snooped_of t.state kind) t)
falls_snooped before t kind is = record {
  weaker =
      ap (λ (o : Option Tag). is_weaker (block_state o) (block_state (tag_in_state (snooped_of t.state kind) t))) is
      ∙ ap (λ (s : BlockState). is_weaker t.state s) (state-in_state (snooped_of t.state kind) t)
      ∙ weaker_snooped t.state kind;
  valid = valid-in_state (snooped_of t.state kind) t;
}

falls_unowned : (before : Option Tag) → IsValidTag before → Falls before (restated_tag before UnOwned)
falls_unowned None valid = falls_none None
falls_unowned (Some t) valid = record { weaker = weaker_unowned t.state valid; valid = refl }

falls_dirtied : (before : Option Tag) → IsValidTag before → Falls before (dirtied_tag before)
falls_dirtied None valid = falls_none None
falls_dirtied (Some t) valid = record { weaker = weaker_same t.state; valid = valid }

valid-restated : (before : Option Tag) → IsValidTag (restated_tag before OwnedExclusive)
valid-restated None = tt
valid-restated (Some t) = refl

restated_is_of_block : (block : ℕ) (before : Option Tag) (s : BlockState) → IsOfBlock block before → IsOfBlock block (restated_tag before s)
restated_is_of_block block None s is = tt
restated_is_of_block block (Some t) s is = is

dirtied_is_of_block : (block : ℕ) (before : Option Tag) → IsOfBlock block before → IsOfBlock block (dirtied_tag before)
dirtied_is_of_block block None is = tt
dirtied_is_of_block block (Some t) is = is

fresh_is_of_block : (F : Flat) (layer : Layer) (need : Need) (at : ℕ) → (fresh_tag F layer need at).block ≡ block_of at
fresh_is_of_block F RootBlock need at = refl
fresh_is_of_block F PteBlock need at = refl
fresh_is_of_block F UserBlock need at = refl

fresh_state : (F : Flat) (layer : Layer) (need : Need) (at : ℕ) → (fresh_tag F layer need at).state ≡ filled_state need
fresh_state F RootBlock need at = refl
fresh_state F PteBlock need at = refl
fresh_state F UserBlock need at = refl

-- the boards' tags of one block, of all tags
abbrev OneOwner : List (List (Option Tag)) → ℕ → Type 0
OneOwner T block = AreOfOneOwner (λ i. tag_at T i block)

-- where the tags of other blocks are gone or the same, one block is left to look at
each_block : (T after : List (List (Option Tag))) (block b : ℕ) → ((i : ℕ) → (b ≡ block → ⊥) → (tag_at after i b ≡ None) ⊎ (tag_at after i b ≡ tag_at T i b)) → (OneOwner T block → OneOwner after block) → OneOwner T b → OneOwner after b
each_block T after block b apart here h = by_case (cases_eq b block) where
  by_case : (b ≡ block) ⊎ (b ≡ block → ⊥) → OneOwner after b
  by_case (inl same) = subst (OneOwner after) (sym same) (here (subst (OneOwner T) same h))
  by_case (inr other) = each_falls (λ i. tag_at T i b) (λ i. tag_at after i b) h (λ i. falls_or_none (tag_at T i b) (tag_at after i b) (h.valid i) (apart i other))

-- a transaction that no other copy outlives
bus_alone : (T : List (List (Option Tag))) (own block : ℕ) (kind : BusKind) (mine : Option Tag) → IsOfBlock block mine → IsValidTag mine → ((s : BlockState) (t : Tag) → tag_in_state (snooped_of s kind) t ≡ None) → OneOwner (bus_on T own block kind mine) block
bus_alone T own block kind mine is valid dies = one_left (λ i. tag_at (bus_on T own block kind mine) i block) own valid_at left_at where
  valid_in : (i : ℕ) (before after : Option Tag) → Moves own kind mine i before after → IsValidTag after
  valid_in i before after (Gone e) = subst IsValidTag (sym e) tt
  valid_in i before after (Put at e) = subst IsValidTag (sym e) valid
  valid_in i before after (Saw t b e) = subst IsValidTag (sym e) (valid-in_state (snooped_of t.state kind) t)

  left_in : (i : ℕ) (before after : Option Tag) → Moves own kind mine i before after → (after ≡ None) ⊎ (i ≡ own)
  left_in i before after (Gone e) = inl e
  left_in i before after (Put at e) = inr at
  left_in i before after (Saw t b e) = inl (e ∙ dies t.state t)

  valid_at : (i : ℕ) → IsValidTag (tag_at (bus_on T own block kind mine) i block)
  valid_at i = valid_in i (tag_at T i block) (tag_at (bus_on T own block kind mine) i block) (bus_here T own block kind mine i is)

  left_at : (i : ℕ) → (tag_at (bus_on T own block kind mine) i block ≡ None) ⊎ (i ≡ own)
  left_at i = left_in i (tag_at T i block) (tag_at (bus_on T own block kind mine) i block) (bus_here T own block kind mine i is)

-- a block is read, and shared
bus_shared : (T : List (List (Option Tag))) (own block : ℕ) (tag : Tag) → tag.block ≡ block → tag.state ≡ UnOwned → OneOwner T block → OneOwner (bus_on T own block bus.ReadShared (Some tag)) block
bus_shared T own block tag is unowned h = each_shares (λ i. tag_at T i block) (λ i. tag_at (bus_on T own block bus.ReadShared (Some tag)) i block) h shares_at where
  by_owned : is_owned tag.state ≡ false
  by_owned = ap is_owned unowned

  shares_mine : (before : Option Tag) → Shares before (Some tag)
  shares_mine before = record {
    owned = λ owned. let never : false ≡ true = sym by_owned ∙ owned in absurd cc;
    shared = ap is_exclusive unowned;
    valid = ap is_alive unowned;
  }

  shares_none : (before : Option Tag) → Shares before None
  shares_none before = record { owned = λ owned. let never : false ≡ true = owned in absurd cc; shared = refl; valid = tt }

  shares_seen : (before : Option Tag) (t : Tag) → before ≡ Some t → Shares before (tag_in_state (snooped_of t.state bus.ReadShared) t)
  shares_seen before t b =
      let falls : Falls before (tag_in_state (snooped_of t.state bus.ReadShared) t) = falls_snooped before t bus.ReadShared b in
      record {
        owned = owned_before (block_state before) (block_state (tag_in_state (snooped_of t.state bus.ReadShared) t)) falls.weaker;
        shared = ap is_exclusive (state-in_state (snooped_of t.state bus.ReadShared) t) ∙ shared_snooped t.state;
        valid = falls.valid;
      }

  shares_in : (i : ℕ) (before after : Option Tag) → Moves own bus.ReadShared (Some tag) i before after → Shares before after
  shares_in i before after (Gone e) = subst (Shares before) (sym e) (shares_none before)
  shares_in i before after (Put at e) = subst (Shares before) (sym e) (shares_mine before)
  shares_in i before after (Saw t b e) = subst (Shares before) (sym e) (shares_seen before t b)

  shares_at : (i : ℕ) → Shares (tag_at T i block) (tag_at (bus_on T own block bus.ReadShared (Some tag)) i block)
  shares_at i = shares_in i (tag_at T i block) (tag_at (bus_on T own block bus.ReadShared (Some tag)) i block) (bus_here T own block bus.ReadShared (Some tag) i is)

-- a block is written back
bus_written : (T : List (List (Option Tag))) (own block : ℕ) → OneOwner T block → OneOwner (bus_on T own block bus.WriteBack (restated_tag (tag_at T own block) UnOwned)) block
bus_written T own block h = each_falls (λ i. tag_at T i block) (λ i. tag_at (bus_on T own block bus.WriteBack (restated_tag (tag_at T own block) UnOwned)) i block) h falls_at where
  falls_in : (i : ℕ) (after : Option Tag) → Moves own bus.WriteBack (restated_tag (tag_at T own block) UnOwned) i (tag_at T i block) after → Falls (tag_at T i block) after
  falls_in i after (Gone e) = subst (Falls (tag_at T i block)) (sym e) (falls_none (tag_at T i block))
  falls_in i after (Put at e) = subst (Falls (tag_at T i block)) (ap (λ (n : ℕ). restated_tag (tag_at T n block) UnOwned) at ∙ sym e) (falls_unowned (tag_at T i block) (h.valid i))
  falls_in i after (Saw t b e) = subst (Falls (tag_at T i block)) (sym e) (falls_snooped (tag_at T i block) t bus.WriteBack b)

  falls_at : (i : ℕ) → Falls (tag_at T i block) (tag_at (bus_on T own block bus.WriteBack (restated_tag (tag_at T own block) UnOwned)) i block)
  falls_at i = falls_in i (tag_at (bus_on T own block bus.WriteBack (restated_tag (tag_at T own block) UnOwned)) i block) (bus_here T own block bus.WriteBack (restated_tag (tag_at T own block) UnOwned) i (restated_is_of_block block (tag_at T own block) UnOwned (tag_is_of_block _ block)))

-- one board's tag of a block is changed: what is put there is no stronger than what was
set_weaker : (T : List (List (Option Tag))) (own block : ℕ) (mine : Option Tag) → IsOfBlock block mine → Falls (tag_at T own block) mine → OneOwner T block → OneOwner (with_tag_at T own block mine) block
set_weaker T own block mine is falls h = each_falls (λ i. tag_at T i block) (λ i. tag_at (with_tag_at T own block mine) i block) h falls_at where
  falls_in : (i : ℕ) (after : Option Tag) → Changes own mine i (tag_at T i block) after → Falls (tag_at T i block) after
  falls_in i after (Lost e) = subst (Falls (tag_at T i block)) (sym e) (falls_none (tag_at T i block))
  falls_in i after (Changed at e) = subst (Falls (tag_at T i block)) (sym e) (subst (λ (n : ℕ). Falls (tag_at T n block) mine) (sym at) falls)
  falls_in i after (Kept e) = subst (Falls (tag_at T i block)) (sym e) (falls_same (tag_at T i block) (h.valid i))

  falls_at : (i : ℕ) → Falls (tag_at T i block) (tag_at (with_tag_at T own block mine) i block)
  falls_at i = falls_in i (tag_at (with_tag_at T own block mine) i block) (set_here T own block mine i is)

-- each entry keeps it
one_owner-tags_on : (F : Flat) (T : List (List (Option Tag))) (entry : Entry) (b : ℕ) → OneOwner T b → OneOwner (tags_on F T entry) b
one_owner-tags_on F T (Load board at value) b h = h
one_owner-tags_on F T (Store board at value) b h = h
one_owner-tags_on F T (Tas board at old) b h = h
one_owner-tags_on F T (Fault board kind access at) b h = h
one_owner-tags_on F T (Fill board layer Read at) b h =
    let tag : Tag = fresh_tag F layer Read at in
    let is : tag.block ≡ block_of at = fresh_is_of_block F layer Read at in
    each_block T (bus_on T board (block_of at) bus.ReadShared (Some tag)) (block_of at) b
    (λ i other. bus_apart T board (block_of at) bus.ReadShared (Some tag) i b other is)
    (bus_shared T board (block_of at) tag is (fresh_state F layer Read at))
    h
one_owner-tags_on F T (Fill board layer Write at) b h =
    let tag : Tag = fresh_tag F layer Write at in
    let is : tag.block ≡ block_of at = fresh_is_of_block F layer Write at in
    each_block T (bus_on T board (block_of at) bus.ReadOwned (Some tag)) (block_of at) b
    (λ i other. bus_apart T board (block_of at) bus.ReadOwned (Some tag) i b other is)
    (λ before. bus_alone T board (block_of at) bus.ReadOwned (Some tag) is (ap is_alive (fresh_state F layer Write at)) none_if_read_owned)
    h
one_owner-tags_on F T (Claim board at) b h =
    let mine : Option Tag = restated_tag (tag_at T board (block_of at)) OwnedExclusive in
    let is : IsOfBlock (block_of at) mine = restated_is_of_block (block_of at) (tag_at T board (block_of at)) OwnedExclusive (tag_is_of_block _ (block_of at)) in
    each_block T (bus_on T board (block_of at) bus.Claim mine) (block_of at) b
    (λ i other. bus_apart T board (block_of at) bus.Claim mine i b other is)
    (λ before. bus_alone T board (block_of at) bus.Claim mine is (valid-restated (tag_at T board (block_of at))) none_if_claimed)
    h
one_owner-tags_on F T (WriteBack board at) b h =
    let mine : Option Tag = restated_tag (tag_at T board (block_of at)) UnOwned in
    let is : IsOfBlock (block_of at) mine = restated_is_of_block (block_of at) (tag_at T board (block_of at)) UnOwned (tag_is_of_block _ (block_of at)) in
    each_block T (bus_on T board (block_of at) bus.WriteBack mine) (block_of at) b
    (λ i other. bus_apart T board (block_of at) bus.WriteBack mine i b other is)
    (bus_written T board (block_of at))
    h
one_owner-tags_on F T (Refresh board at) b h =
    let mine : Option Tag = dirtied_tag (tag_at T board (block_of at)) in
    let is : IsOfBlock (block_of at) mine = dirtied_is_of_block (block_of at) (tag_at T board (block_of at)) (tag_is_of_block _ (block_of at)) in
    each_block T (with_tag_at T board (block_of at) mine) (block_of at) b
    (λ i other. set_apart T board (block_of at) mine i b other is)
    (λ before. set_weaker T board (block_of at) mine is (falls_dirtied (tag_at T board (block_of at)) (before.valid board)) before)
    h
one_owner-tags_on F T (BlockFlush board holder at) b h =
    each_block T (with_tag_at T holder (block_of at) None) (block_of at) b
    (λ i other. set_apart T holder (block_of at) None i b other tt)
    (set_weaker T holder (block_of at) None tt (falls_none (tag_at T holder (block_of at))))
    h
one_owner-tags_on F T (Leave board at) b h = h
one_owner-tags_on F T (PageOut board at) b h = h
one_owner-tags_on F T (PageIn board at frame) b h = h
one_owner-tags_on F T (SetRef board at) b h = h
one_owner-tags_on F T (SetDirty board at) b h = h
one_owner-tags_on F T (ClearRef board at) b h = h

one_owner-tags_after : (F : Flat) (T : List (List (Option Tag))) (history : List Entry) (b : ℕ) → OneOwner T b → OneOwner (tags_after F T history) b
one_owner-tags_after F T [] b h = h
one_owner-tags_after F T (entry ∷ rest) b h = one_owner-tags_after (on F entry) (tags_on F T entry) rest b (one_owner-tags_on F T entry b h)

one_owner-no_tags : (boards lines b : ℕ) → OneOwner (no_tags boards lines) b
one_owner-no_tags boards lines b = one_left (λ i. tag_at (no_tags boards lines) i b) 0 (λ i. subst IsValidTag (sym (none_at boards lines i b)) tt) (λ i. inl (none_at boards lines i b))

pub each-has-one-owner : EachHasOneOwner
each-has-one-owner F boards lines history block =
    let left = one_owner-tags_after F (no_tags boards lines) history block (one_owner-no_tags boards lines block) in
    record { one_owner = left.one_owner; exclusive = left.exclusive }
