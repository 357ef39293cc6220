-- The owner of a place of the memory.
use Rattle.std.proofs.Common.{◌≡◌, ℕ, zero, suc, ◌%◌, ◌/◌, ◌==◌, ◌&&◌, Bool, true, false, if◌then◌else◌, List, [], ◌∷◌, map, slice_get, slice_index, Option, Some, None, refl, sym, ap, ◌∙◌}
use Rattle.std.proofs.lemmas.Bool.{eq-eqb, eqb-true}
use Rattle.spur_cache.specs.declared.line.Line.{Line}
use Rattle.spur_cache.specs.Lines.{line_at, joined, index_of}
use Rattle.spur_snoop.specs.Protocol.{is_owned}
use Rattle.spur_bus.specs.Boards.{line_of, line_in, first_some}
use Rattle.spur_bus.specs.Logical.{owned_words, owner_in, owner_of, word_or, logical_word}
use Rattle.spur_bus.specs.Agrees.{Agrees, IsAt}
use Rattle.spur_bus.proofs.LineFacts.{joined_is, some_same}

-- a line that owns the block at a place
pub record OwnsAt (frame position : ℕ) (l : Line) : Type 0 where
  pub owned : is_owned l.state ≡ true
  pub in_frame : l.frame ≡ frame
  pub in_position : l.tag % 128 ≡ position

pub record Passed (a b c : Bool) (u w : List ℕ) : Type 0 where
  pub first : a ≡ true
  pub second : b ≡ true
  pub third : c ≡ true
  pub same : u ≡ w

passed : (a b c : Bool) (u w : List ℕ) → (if a && b && c then Some u else None) ≡ Some w → Passed a b c u w
passed true true true u w h = record { first = refl; second = refl; third = refl; same = some_same u w h }
passed true true false u w h = cc
passed true false true u w h = cc
passed true false false u w h = cc
passed false true true u w h = cc
passed false true false u w h = cc
passed false false true u w h = cc
passed false false false u w h = cc

pub owns : (f p : ℕ) (l : Line) (w : List ℕ) → owned_words f p (Some l) ≡ Some w → OwnsAt f p l × (l.words ≡ w)
owns f p l w h =
    let t = passed (is_owned l.state) (l.frame == f) (l.tag % 128 == p) l.words w h in
    (record { owned = t.first; in_frame = eqb-true l.frame f t.second; in_position = eqb-true (l.tag % 128) p t.third }, t.same)

tests : (a b c : Bool) (u : List ℕ) → a ≡ true → b ≡ true → c ≡ true → (if a && b && c then Some u else None) ≡ Some u
tests true true true u ha hb hc = refl
tests true true false u ha hb hc = cc
tests true false true u ha hb hc = cc
tests true false false u ha hb hc = cc
tests false true true u ha hb hc = cc
tests false true false u ha hb hc = cc
tests false false true u ha hb hc = cc
tests false false false u ha hb hc = cc

pub owns_words : (f p : ℕ) (l : Line) → OwnsAt f p l → owned_words f p (Some l) ≡ Some l.words
owns_words f p l o = tests (is_owned l.state) (l.frame == f) (l.tag % 128 == p) l.words o.owned (eq-eqb l.frame f o.in_frame) (eq-eqb (l.tag % 128) p o.in_position)

-- the first of a list that gives something
pub record FirstIn {X Y : Type 0} (f : X → Option Y) (xs : List X) (y : Y) : Type 0 where
  pub place : ℕ
  pub item : X
  pub there : slice_get xs place ≡ Some item
  pub gives : f item ≡ Some y

first_cons : {X Y : Type 0} (f : X → Option Y) (x : X) (xs : List X) (y : Y) (o : Option Y) → f x ≡ o → (first_some (map f xs) ≡ Some y → FirstIn f xs y) → first_some (o ∷ map f xs) ≡ Some y → FirstIn f (x ∷ xs) y
first_cons f x xs y None is rest h = let r = rest h in record { place = suc r.place; item = r.item; there = r.there; gives = r.gives }
first_cons f x xs y (Some z) is rest h = record { place = zero; item = x; there = refl; gives = is ∙ h }

first_in : {X Y : Type 0} (f : X → Option Y) (xs : List X) (y : Y) → first_some (map f xs) ≡ Some y → FirstIn f xs y
first_in f [] y h = cc
first_in f (x ∷ xs) y h = first_cons f x xs y (f x) refl (first_in f xs y) h

none_cons : {Y : Type 0} (o : Option Y) (os : List (Option Y)) → first_some (o ∷ os) ≡ None → (o ≡ None) × (first_some os ≡ None)
none_cons None os h = (refl, h)
none_cons (Some y) os h = cc

none_in : {X Y : Type 0} (f : X → Option Y) (xs : List X) (k : ℕ) (x : X) → first_some (map f xs) ≡ None → slice_get xs k ≡ Some x → f x ≡ None
none_in f [] k x h there = cc
none_in f (z ∷ zs) zero x h there = ap f (sym (some_same z x there)) ∙ (none_cons (f z) (map f zs) h).0
none_in f (z ∷ zs) (suc k) x h there = none_in f zs k x (none_cons (f z) (map f zs) h).1 there

-- who owns the block at a place: a line, or none
pub data Owner (caches : List (List (Option Line))) (f p : ℕ) : Type 0 where
  Owned : (i s : ℕ) (l : Line) → line_in caches i s ≡ Some l → OwnsAt f p l → owner_of f p caches ≡ Some l.words → Owner caches f p
  Free : owner_of f p caches ≡ None → ((i s : ℕ) (l : Line) → line_in caches i s ≡ Some l → OwnsAt f p l → ⊥) → Owner caches f p

owned_by : (caches : List (List (Option Line))) (f p : ℕ) (w : List ℕ) → owner_of f p caches ≡ Some w → (i : ℕ) (lines : List (Option Line)) → slice_get caches i ≡ Some lines → (s : ℕ) (o : Option Line)
    → slice_get lines s ≡ Some o → owned_words f p o ≡ Some w → Owner caches f p
owned_by caches f p w is i lines at s None there gives = cc
owned_by caches f p w is i lines at s (Some l) there gives =
    let both = owns f p l w gives in
    Owned i s l (ap (λ (o : Option (List (Option Line))). line_of o s) at ∙ ap joined there) both.0 (is ∙ ap (λ (u : List ℕ). Some u) (sym both.1))

nobody : (caches : List (List (Option Line))) (f p i s : ℕ) (l : Line) (o : Option (List (Option Line))) → owner_of f p caches ≡ None → slice_get caches i ≡ o → line_of o s ≡ Some l → OwnsAt f p l → ⊥
nobody caches f p i s l None is at there o = cc
nobody caches f p i s l (Some lines) is at there o =
    let cache_none : owner_in f p lines ≡ None = none_in (owner_in f p) caches i lines is at in
    let line_none : owned_words f p (Some l) ≡ None = none_in (owned_words f p) lines s (Some l) cache_none (joined_is (slice_get lines s) l there) in
    let clash : None ≡ Some l.words = sym line_none ∙ owns_words f p l o in
    cc

owner_is : (caches : List (List (Option Line))) (f p : ℕ) (o : Option (List ℕ)) → owner_of f p caches ≡ o → Owner caches f p
owner_is caches f p None is = Free is (λ (i s : ℕ) (l : Line) (there : line_in caches i s ≡ Some l) (o : OwnsAt f p l). nobody caches f p i s l (slice_get caches i) is refl there o)
owner_is caches f p (Some w) is =
    let c = first_in (owner_in f p) caches w is in
    let l = first_in (owned_words f p) c.item w c.gives in
    owned_by caches f p w is c.place c.item c.there l.place l.item l.there l.gives

pub owner : (caches : List (List (Option Line))) (f p : ℕ) → Owner caches f p
owner caches f p = owner_is caches f p (owner_of f p caches) refl

-- two lines of one block in one cache are one
same_in : (caches : List (List (Option Line))) (i s t : ℕ) (l m : Line) (o : Option (List (Option Line))) → Agrees caches → slice_get caches i ≡ o → line_of o s ≡ Some l → line_of o t ≡ Some m → l.tag ≡ m.tag → l ≡ m
same_in caches i s t l m None agree at a b same = cc
same_in caches i s t l m (Some lines) agree at a b same =
    let p = agree.each i lines at in
    let places : s ≡ t = sym (p.placed s l a) ∙ ap (index_of lines) same ∙ p.placed t m b in
    some_same l m (sym a ∙ ap (line_at lines) places ∙ b)

pub same_line : (caches : List (List (Option Line))) (i j s t : ℕ) (l m : Line) → Agrees caches → line_in caches i s ≡ Some l → line_in caches j t ≡ Some m → i ≡ j → l.tag ≡ m.tag → l ≡ m
same_line caches i j s t l m agree a b same tags =
    same_in caches j s t l m (slice_get caches j) agree refl (ap (λ (n : ℕ). line_in caches n s) (sym same) ∙ a) b tags

-- an owned line gives the words
owner_words_in : (caches : List (List (Option Line))) (f p i s : ℕ) (l : Line) → Agrees caches → line_in caches i s ≡ Some l → OwnsAt f p l → Owner caches f p → owner_of f p caches ≡ Some l.words
owner_words_in caches f p i s l agree there o (Free is none) = absurd (none i s l there o)
owner_words_in caches f p i s l agree there o (Owned j t m there_m o_m is) =
    let tags : l.tag ≡ m.tag = agree.one_place i j s t l m there there_m (o.in_frame ∙ sym o_m.in_frame) (o.in_position ∙ sym o_m.in_position) in
    let caches_same : i ≡ j = agree.one_owner i j s t l m there there_m tags o.owned o_m.owned in
    is ∙ ap (λ (x : Line). Some x.words) (sym (same_line caches i j s t l m agree there there_m caches_same tags))

pub owner_words : (caches : List (List (Option Line))) (f p i s : ℕ) (l : Line) → Agrees caches → line_in caches i s ≡ Some l → OwnsAt f p l → owner_of f p caches ≡ Some l.words
owner_words caches f p i s l agree there o = owner_words_in caches f p i s l agree there o (owner caches f p)

pub logical_owned : (caches : List (List (Option Line))) (memory : List ℕ) (k i s : ℕ) (l : Line) → Agrees caches → line_in caches i s ≡ Some l → OwnsAt (k / 1024) (k / 8 % 128) l → logical_word caches memory k ≡ slice_index l.words (k % 8)
logical_owned caches memory k i s l agree there o = ap (λ (w : Option (List ℕ)). word_or w (slice_index memory k) k) (owner_words caches (k / 1024) (k / 8 % 128) i s l agree there o)

pub is_at : (k : ℕ) (l : Line) → OwnsAt (k / 1024) (k / 8 % 128) l → IsAt k l
is_at k l o = record { frame = sym o.in_frame; position = sym o.in_position }
