-- Lines of one cache, and what they become when it sees a transaction.
use Rattle.std.proofs.Common.{◌≡◌, ◌≢◌, ℕ, zero, suc, ◌<◌, ◌==◌, ◌⊎◌, inl, inr, ⊎_elim, Bool, true, false, if◌then◌else◌, List, [], ◌∷◌, length, slice_get, slice_set, Option, Some, None, refl, sym, ap, ◌∙◌, subst, arith}
use Rattle.std.proofs.lemmas.Bool.{cases_eq, eq-eqb, eqb-true, ne_eqb}
use Rattle.spur_addr.specs.Address.{block_of}
use Rattle.spur_cache.specs.declared.line.Line.{Line}
use Rattle.spur_cache.specs.Lines.{IsCache, found, tagged, line_at, joined, index_of, set_found, in_state}
use Rattle.spur_snoop.specs.declared.BlockState.{BlockState}
use Rattle.spur_snoop.specs.declared.BlockState.TheVariants.{Invalid, UnOwned, OwnedNonExclusive, OwnedExclusive}
use Rattle.spur_snoop.specs.declared.BusKind.{BusKind}
use Rattle.spur_snoop.specs.Protocol.{snooped_of}
use Rattle.spur_bus.specs.Boards.{snooped_line, snooped_lines}
use Rattle.spur_bus.proofs.Turn.{CameFrom, state_after}

pub slice_get-set_same : {X : Type 0} (xs : List X) (i : ℕ) (x y : X) → slice_get xs i ≡ Some x → slice_get (slice_set xs i y) i ≡ Some y
slice_get-set_same [] i x y h = cc
slice_get-set_same (z ∷ zs) zero x y h = refl
slice_get-set_same (z ∷ zs) (suc i) x y h = slice_get-set_same zs i x y h

pub slice_get-set_other : {X : Type 0} (xs : List X) (i j : ℕ) (y : X) → j ≢ i → slice_get (slice_set xs i y) j ≡ slice_get xs j
slice_get-set_other [] i j y apart = refl
slice_get-set_other (z ∷ zs) zero zero y apart = absurd (apart refl)
slice_get-set_other (z ∷ zs) zero (suc j) y apart = refl
slice_get-set_other (z ∷ zs) (suc i) zero y apart = refl
slice_get-set_other (z ∷ zs) (suc i) (suc j) y apart = slice_get-set_other zs i j y (λ e. apart (ap (λ (n : ℕ). suc n) e))

pub some_same : {X : Type 0} (a b : X) → Some a ≡ Some b → a ≡ b
some_same a b h = cc

-- the entry that is set, or what was there
pub set_or_kept : (lines : List (Option Line)) (slot s : ℕ) (y : Option Line) (l : Line) → line_at (slice_set lines slot y) s ≡ Some l → (y ≡ Some l) ⊎ (line_at lines s ≡ Some l)
set_or_kept [] slot s y l h = inr h
set_or_kept (z ∷ zs) zero zero y l h = inl h
set_or_kept (z ∷ zs) zero (suc s) y l h = inr h
set_or_kept (z ∷ zs) (suc slot) zero y l h = inr h
set_or_kept (z ∷ zs) (suc slot) (suc s) y l h = set_or_kept zs slot s y l h

-- and the place tells which
pub set_here : (lines : List (Option Line)) (slot : ℕ) (x l : Line) (y : Option Line) → line_at lines slot ≡ Some x → line_at (slice_set lines slot y) slot ≡ Some l → y ≡ Some l
set_here [] slot x l y there h = cc
set_here (z ∷ zs) zero x l y there h = h
set_here (z ∷ zs) (suc slot) x l y there h = set_here zs slot x l y there h

pub in_state_is : (st : BlockState) (x l : Line) → in_state st x ≡ Some l → (l ≡ record x { state = st }) × (st ≡ Invalid → ⊥)
in_state_is Invalid x l h = cc
in_state_is UnOwned x l h = (sym (some_same _ _ h), λ e. cc)
in_state_is OwnedNonExclusive x l h = (sym (some_same _ _ h), λ e. cc)
in_state_is OwnedExclusive x l h = (sym (some_same _ _ h), λ e. cc)

pub not_that : (block : ℕ) (kind : BusKind) (line : Line) → line.tag ≢ block → state_after block kind line ≡ line.state
not_that block kind line apart = ap (λ (b : Bool). if b then snooped_of line.state kind else line.state) (ne_eqb line.tag block apart)

pub that : (block : ℕ) (kind : BusKind) (line : Line) → line.tag ≡ block → state_after block kind line ≡ snooped_of line.state kind
that block kind line is = ap (λ (b : Bool). if b then snooped_of line.state kind else line.state) (eq-eqb line.tag block is)

pub tagged_some : (b : Bool) (a line : Line) → (if b then Some a else None) ≡ Some line → (b ≡ true) × (a ≡ line)
tagged_some true a line h = (refl, some_same a line h)
tagged_some false a line h = cc

-- a line that is found has the tag, and stands there
pub tagged_is : (tag : ℕ) (o : Option Line) (line : Line) → tagged tag o ≡ Some line → (o ≡ Some line) × (line.tag ≡ tag)
tagged_is tag None line h = cc
tagged_is tag (Some a) line h =
    let both = tagged_some (a.tag == tag) a line h in
    (ap (λ (l : Line). Some l) both.1, subst (λ (l : Line). l.tag ≡ tag) both.1 (eqb-true a.tag tag both.0))

-- and one that has the tag is found
pub tagged_there : (tag : ℕ) (line : Line) → line.tag ≡ tag → tagged tag (Some line) ≡ Some line
tagged_there tag line is = ap (λ (b : Bool). if b then Some line else None) (eq-eqb line.tag tag is)

pub record Origin (lines : List (Option Line)) (block : ℕ) (kind : BusKind) (slot : ℕ) (new : Line) : Type 0 where
  pub old : Line
  pub stood : line_at lines slot ≡ Some old
  pub came : CameFrom block kind old new

pub unchanged : (lines : List (Option Line)) (block : ℕ) (kind : BusKind) (s : ℕ) (l : Line) → IsCache lines → line_at lines s ≡ Some l → l.tag ≢ block → Origin lines block kind s l
unchanged lines block kind s l placed stood apart = record {
  old = l;
  stood = stood;
  came = record { tag = refl; frame = refl; prot = refl; dirty = refl; words = refl; state = sym (not_that block kind l apart); alive = (placed.held s l stood).valid };
}

pub told_from : (lines : List (Option Line)) (at : ℕ) (kind : BusKind) (s : ℕ) (l : Line) (o : Option Line) → IsCache lines → found lines at ≡ o → line_at (snooped_line lines at kind o) s ≡ Some l → Origin lines (block_of at) kind s l
told_from lines at kind s l None placed is h =
    unchanged lines (block_of at) kind s l placed h (λ (same : l.tag ≡ block_of at).
    let slot : s ≡ index_of lines (block_of at) = sym (placed.placed s l h) ∙ ap (index_of lines) same in
    let there : line_at lines (index_of lines (block_of at)) ≡ Some l = ap (line_at lines) (sym slot) ∙ h in
    let seen : found lines at ≡ Some l = ap (tagged (block_of at)) there ∙ tagged_there (block_of at) l same in
    let clash : None ≡ Some l = sym is ∙ seen in
    cc)
told_from lines at kind s l (Some x) placed is h =
    let slot : ℕ = index_of lines (block_of at) in
    let st : BlockState = snooped_of x.state kind in
    let x_is = tagged_is (block_of at) (line_at lines slot) x is in
    let changed : line_at (slice_set lines slot (in_state st x)) s ≡ Some l =
    ap (λ (o : Option Line). line_at (set_found lines slot st o) s) (sym is) ∙ h in
    ⊎_elim
    (λ (e : s ≡ slot).
    let here : in_state st x ≡ Some l = set_here lines slot x l (in_state st x) x_is.0 (ap (line_at (slice_set lines slot (in_state st x))) (sym e) ∙ changed) in
    let both = in_state_is st x l here in
    record {
      old = x;
      stood = ap (line_at lines) e ∙ x_is.0;
      came = record {
        tag = ap (λ (m : Line). m.tag) both.0;
        frame = ap (λ (m : Line). m.frame) both.0;
        prot = ap (λ (m : Line). m.prot) both.0;
        dirty = ap (λ (m : Line). m.dirty) both.0;
        words = ap (λ (m : Line). m.words) both.0;
        state = ap (λ (m : Line). m.state) both.0 ∙ sym (that (block_of at) kind x x_is.1);
        alive = λ dead. both.1 (sym (ap (λ (m : Line). m.state) both.0) ∙ dead);
      };
    })
    (λ (apart : s ≢ slot).
    let kept : line_at lines s ≡ Some l = sym (ap joined (slice_get-set_other lines slot s (in_state st x) apart)) ∙ changed in
    unchanged lines (block_of at) kind s l placed kept (λ (same : l.tag ≡ block_of at). apart (sym (placed.placed s l kept) ∙ ap (index_of lines) same)))
    (cases_eq s slot)

pub told_origin : (lines : List (Option Line)) (at : ℕ) (kind : BusKind) (s : ℕ) (l : Line) → IsCache lines → line_at (snooped_lines lines at kind) s ≡ Some l → Origin lines (block_of at) kind s l
told_origin lines at kind s l placed h = told_from lines at kind s l (found lines at) placed refl h

pub joined_is : (o : Option (Option Line)) (line : Line) → joined o ≡ Some line → o ≡ Some (Some line)
joined_is None line h = cc
joined_is (Some o) line h = ap (λ (l : Option Line). Some l) h

-- what is set is what stands there
pub set_hit : (lines : List (Option Line)) (slot : ℕ) (y : Option Line) (l : Line) → line_at (slice_set lines slot y) slot ≡ Some l → y ≡ Some l
set_hit [] slot y l h = cc
set_hit (z ∷ zs) zero y l h = h
set_hit (z ∷ zs) (suc slot) y l h = set_hit zs slot y l h

pub set_there : (lines : List (Option Line)) (slot : ℕ) (y : Option Line) → slot < length lines → line_at (slice_set lines slot y) slot ≡ y
set_there [] slot y within = absurd (omega arith)
set_there (z ∷ zs) zero y within = refl
set_there (z ∷ zs) (suc slot) y within = set_there zs slot y (omega arith)

pub line_within : (lines : List (Option Line)) (slot : ℕ) (l : Line) → line_at lines slot ≡ Some l → slot < length lines
line_within [] slot l h = cc
line_within (z ∷ zs) zero l h = omega arith
line_within (z ∷ zs) (suc slot) l h = let rest : slot < length zs = line_within zs slot l h in omega arith

pub set_away : (lines : List (Option Line)) (slot s : ℕ) (y : Option Line) → s ≢ slot → line_at (slice_set lines slot y) s ≡ line_at lines s
set_away lines slot s y apart = ap joined (slice_get-set_other lines slot s y apart)

-- the other way: a line of another block stays
pub told_apart : (lines : List (Option Line)) (at : ℕ) (kind : BusKind) (s : ℕ) (l : Line) (o : Option Line) → found lines at ≡ o → line_at lines s ≡ Some l → l.tag ≢ block_of at → line_at (snooped_line lines at kind o) s ≡ Some l
told_apart lines at kind s l None is there apart = there
told_apart lines at kind s l (Some x) is there apart =
    let slot : ℕ = index_of lines (block_of at) in
    let st : BlockState = snooped_of x.state kind in
    let x_is = tagged_is (block_of at) (line_at lines slot) x is in
    let away : s ≢ slot = λ (e : s ≡ slot).
    let both : Some x ≡ Some l = sym x_is.0 ∙ ap (line_at lines) (sym e) ∙ there in
    apart (sym (ap (λ (m : Line). m.tag) (some_same x l both)) ∙ x_is.1) in
    ap (λ (o : Option Line). line_at (set_found lines slot st o) s) is ∙ set_away lines slot s (in_state st x) away ∙ there

pub in_live : (st : BlockState) (l : Line) → st ≢ Invalid → in_state st l ≡ Some (record l { state = st })
in_live Invalid l alive = absurd (alive refl)
in_live UnOwned l alive = refl
in_live OwnedNonExclusive l alive = refl
in_live OwnedExclusive l alive = refl

-- and one of the block is in the state that the table says
pub told_block : (lines : List (Option Line)) (at : ℕ) (kind : BusKind) (s : ℕ) (l : Line) → IsCache lines → line_at lines s ≡ Some l → l.tag ≡ block_of at → snooped_of l.state kind ≢ Invalid
    → line_at (snooped_lines lines at kind) s ≡ Some (record l { state = snooped_of l.state kind })
told_block lines at kind s l placed there same alive =
    let slot : ℕ = index_of lines (block_of at) in
    let st : BlockState = snooped_of l.state kind in
    let here : s ≡ slot = sym (placed.placed s l there) ∙ ap (index_of lines) same in
    let stands : line_at lines slot ≡ Some l = ap (line_at lines) (sym here) ∙ there in
    let seen : found lines at ≡ Some l = ap (tagged (block_of at)) stands ∙ tagged_there (block_of at) l same in
    ap (λ (o : Option Line). line_at (snooped_line lines at kind o) s) seen
    ∙ ap (λ (o : Option Line). line_at (set_found lines slot st o) s) seen
    ∙ ap (line_at (slice_set lines slot (in_state st l))) here
    ∙ set_there lines slot (in_state st l) (line_within lines slot l stands)
    ∙ in_live st l alive
