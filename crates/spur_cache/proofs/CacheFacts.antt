-- What stays true of a cache's lines when one place changes.
use Rattle.std.proofs.Common.{◌≡◌, ◌≢◌, ℕ, zero, suc, ◌%◌, ◌==◌, ◌⊎◌, inl, inr, ⊎_elim, Bool, true, false, if◌then◌else◌, List, [], ◌∷◌, length, slice_set, Option, Some, None, refl, sym, ap, ◌∙◌, subst, arith, get_or, ◌<◌}
use Rattle.std.proofs.lemmas.Bool.{eq-eqb, eqb-true}
use Rattle.std.specs.Option.{option_map}
use Rattle.std.specs.Prelude.{IsSome}
use Rattle.std.proofs.lemmas.List.{length-set}
use Rattle.spur_addr.specs.Address.{block_of}
use Rattle.spur_cache.specs.declared.line.Line.{Line}
use Rattle.spur_snoop.specs.Size.{IsLineCount}
use Rattle.spur_cache.specs.Lines.{IsCache, IsHeld, found, tagged, line_at, index_of, filled, left_by, with_line, dirtied, written, in_live_state}
use Rattle.spur_snoop.specs.declared.BlockState.{BlockState}
use Rattle.spur_snoop.specs.declared.BlockState.TheVariants.{Invalid, UnOwned, OwnedNonExclusive, OwnedExclusive}

-- the line that is set, or what was there
pub set_or_kept : (lines : List (Option Line)) (slot s : ℕ) (new : Option Line) (l : Line) → line_at (slice_set lines slot new) s ≡ Some l
    → ((s ≡ slot) × (new ≡ Some l)) ⊎ (line_at lines s ≡ Some l)
set_or_kept [] slot s new l h = inr h
set_or_kept (x ∷ xs) zero zero new l h = inl (refl, h)
set_or_kept (x ∷ xs) zero (suc s) new l h = inr h
set_or_kept (x ∷ xs) (suc slot) zero new l h = inr h
set_or_kept (x ∷ xs) (suc slot) (suc s) new l h =
    ⊎_elim (λ (here : (s ≡ slot) × (new ≡ Some l)). inl (ap (λ (n : ℕ). suc n) here.0, here.1)) (λ (kept : line_at xs s ≡ Some l). inr kept) (set_or_kept xs slot s new l h)

pub some_same : (a b : Line) → Some a ≡ Some b → a ≡ b
some_same a b h = cc

-- what may stand at a place
pub record MayStand (lines : List (Option Line)) (slot : ℕ) (new : Option Line) : Type 0 where
  pub placed : (line : Line) → new ≡ Some line → index_of lines line.tag ≡ slot
  pub held : (line : Line) → new ≡ Some line → IsHeld line

-- it may be put there
pub cache-set : (lines : List (Option Line)) (slot : ℕ) (new : Option Line) → IsCache lines → MayStand lines slot new → IsCache (slice_set lines slot new)
cache-set lines slot new cache may =
    let size : length (slice_set lines slot new) ≡ length lines = length-set lines slot new in
    record {
      count = subst IsLineCount (sym size) cache.count;
      placed = λ s l there.
          ap (λ (n : ℕ). l.tag % n) size
          ∙ ⊎_elim
          (λ (here : (s ≡ slot) × (new ≡ Some l)). may.placed l here.1 ∙ sym here.0)
          (λ (kept : line_at lines s ≡ Some l). cache.placed s l kept)
          (set_or_kept lines slot s new l there);
      held = λ s l there.
          ⊎_elim
          (λ (here : (s ≡ slot) × (new ≡ Some l)). may.held l here.1)
          (λ (kept : line_at lines s ≡ Some l). cache.held s l kept)
          (set_or_kept lines slot s new l there);
    }

-- a line that a cache may hold, at its place
pub may_fill : (lines : List (Option Line)) (line : Line) → IsHeld line → MayStand lines (index_of lines line.tag) (Some line)
may_fill lines line held = record {
  placed = λ l is. ap (λ (m : Line). index_of lines m.tag) (sym (some_same line l is));
  held = λ l is. subst IsHeld (some_same line l is) held;
}

pub cache-fill : (lines : List (Option Line)) (line : Line) → IsCache lines → IsHeld line → IsCache (with_line lines line)
cache-fill lines line cache held = cache-set lines (index_of lines line.tag) (Some line) cache (may_fill lines line held)

-- a valid line is there once it is filled in
left_valid : (state : BlockState) (line : Line) → state ≢ Invalid → left_by state line ≡ Some line
left_valid Invalid line live = absurd (live refl)
left_valid UnOwned line live = refl
left_valid OwnedNonExclusive line live = refl
left_valid OwnedExclusive line live = refl

pub filled_valid : (lines : List (Option Line)) (line : Line) → line.state ≢ Invalid → filled lines line ≡ with_line lines line
filled_valid lines line live = ap (slice_set lines (index_of lines line.tag)) (left_valid line.state line live)

-- nothing, at any place
pub cache-drop : (lines : List (Option Line)) (slot : ℕ) → IsCache lines → IsCache (slice_set lines slot None)
cache-drop lines slot cache = cache-set lines slot None cache record { placed = λ l is. cc; held = λ l is. cc }

tagged_some : (b : Bool) (a line : Line) → (if b then Some a else None) ≡ Some line → (b ≡ true) × (a ≡ line)
tagged_some true a line h = (refl, some_same a line h)
tagged_some false a line h = cc

-- a line that is found has the tag, and stands there
pub tagged_is : (tag : ℕ) (o : Option Line) (line : Line) → tagged tag o ≡ Some line → (o ≡ Some line) × (line.tag ≡ tag)
tagged_is tag None line h = cc
tagged_is tag (Some a) line h =
    let both = tagged_some (a.tag == tag) a line h in
    (ap (λ (l : Line). Some l) both.1, subst (λ (l : Line). l.tag ≡ tag) both.1 (eqb-true a.tag tag both.0))

-- and one that has the tag is found
pub tagged_there : (tag : ℕ) (line : Line) → line.tag ≡ tag → tagged tag (Some line) ≡ Some line
tagged_there tag line is = ap (λ (b : Bool). if b then Some line else None) (eq-eqb line.tag tag is)

pub found_tag : (lines : List (Option Line)) (g : ℕ) (line : Line) → found lines g ≡ Some line → line.tag ≡ block_of g
found_tag lines g line is = (tagged_is (block_of g) (line_at lines (index_of lines (block_of g))) line is).1

pub found_held : (lines : List (Option Line)) (g : ℕ) (line : Line) → IsCache lines → found lines g ≡ Some line → IsHeld line
found_held lines g line cache is = cache.held (index_of lines (block_of g)) line (tagged_is (block_of g) (line_at lines (index_of lines (block_of g))) line is).0

-- a change of a line that leaves its block, and leaves it one that a cache may hold
pub record KeepsLine (change : Line → Line) : Type 0 where
  pub tag : (line : Line) → (change line).tag ≡ line.tag
  pub held : (line : Line) → IsHeld line → IsHeld (change line)

pub dirtied-keeps : KeepsLine dirtied
dirtied-keeps = record { tag = λ line. refl; held = λ line h. record { valid = h.valid; tag = h.tag; words = h.words } }

pub written-keeps : (word value : ℕ) → KeepsLine (written word value)
written-keeps word value = record {
  tag = λ line. refl;
  held = λ line h. record { valid = h.valid; tag = h.tag; words = length-set line.words word value ∙ h.words };
}

pub in_live_state-keeps : (state : BlockState) → state ≢ Invalid → KeepsLine (in_live_state state)
in_live_state-keeps state live = record { tag = λ line. refl; held = λ line h. record { valid = live; tag = h.tag; words = h.words } }

-- this is what stands at the place of a block that the lines have
pub record IsPlace (lines : List (Option Line)) (g slot : ℕ) (place : Option Line) : Type 0 where
  pub slot_is : slot ≡ index_of lines (block_of g)
  pub there : line_at lines slot ≡ place
  pub some : IsSome (found lines g)

-- what is read at a place stands there
pub line_at-get : (lines : List (Option Line)) (slot : ℕ) (place : Option Line) → slot < length lines → place ≡ get_or lines slot place
    → line_at lines slot ≡ place
line_at-get [] slot place within is = absurd (omega arith)
line_at-get (x ∷ xs) zero place within is = sym is
line_at-get (x ∷ xs) (suc slot) place within is = line_at-get xs slot place (omega arith) is

-- the same, told of the lines that contracts see
pub place_is : (lines now : List (Option Line)) (g slot : ℕ) (place : Option Line) → lines ≡ now → slot ≡ index_of now (block_of g) → slot < length now
    → place ≡ get_or lines slot place → IsSome (found now g) → IsPlace lines g slot place
place_is lines now g slot place same slot_is within read some =
    record {
      slot_is = slot_is ∙ sym (ap (λ (ls : List (Option Line)). index_of ls (block_of g)) same);
      there = line_at-get lines slot place (subst (λ (ls : List (Option Line)). slot < length ls) (sym same) within) read;
      some = subst (λ (ls : List (Option Line)). IsSome (found ls g)) (sym same) some;
    }

-- its line
pub record HasLine (lines : List (Option Line)) (g : ℕ) (place : Option Line) : Type 0 where
  pub line : Line
  pub stands : place ≡ Some line
  pub is_found : found lines g ≡ Some line

some_is : (o : Option Line) → IsSome o → (line : Line) × (o ≡ Some line)
some_is None some = cc
some_is (Some line) some = (line, refl)

pub line_there : (lines : List (Option Line)) (g slot : ℕ) (place : Option Line) → IsPlace lines g slot place → HasLine lines g place
line_there lines g slot place is =
    let one = some_is (found lines g) is.some in
    let at : place ≡ line_at lines (index_of lines (block_of g)) = sym is.there ∙ ap (line_at lines) is.slot_is in
    record { line = one.0; stands = at ∙ (tagged_is (block_of g) (line_at lines (index_of lines (block_of g))) one.0 one.1).0; is_found = one.1 }

-- to change the line where it stands leaves the lines those of a cache
pub cache-changed : (lines : List (Option Line)) (g slot : ℕ) (change : Line → Line) (place : Option Line) → IsCache lines → IsPlace lines g slot place
    → KeepsLine change → IsCache (slice_set lines slot (option_map change place))
cache-changed lines g slot change place cache is keeps =
    let it = line_there lines g slot place is in
    let line : Line = it.line in
    let its_place : index_of lines (change line).tag ≡ slot =
    ap (index_of lines) (keeps.tag line ∙ found_tag lines g line it.is_found) ∙ sym is.slot_is in
    subst (λ (p : Option Line). IsCache (slice_set lines slot (option_map change p))) (sym it.stands)
    (cache-set lines slot (Some (change line)) cache record {
      placed = λ l same. ap (λ (m : Line). index_of lines m.tag) (sym (some_same (change line) l same)) ∙ its_place;
      held = λ l same. subst IsHeld (some_same (change line) l same) (keeps.held line (found_held lines g line cache it.is_found));
    })
