-- A block is dropped from a cache.
use Rattle.std.proofs.Common.{◌≡◌, ◌≢◌, ◌∙◌, ℕ, zero, suc, ◌+◌, ◌<◌, ◌≤◌, ◌*◌, ◌/◌, ◌%◌, ◌==◌, ◌⊎◌, inl, inr, ⊎_elim, Bool, true, false, if◌then◌else◌, ap, sym, refl, subst, get_or, List, [], ◌∷◌, length, map, slice_get, slice_set, slice_index, Option, Some, None, arith, zero-add, add-zero}
use Rattle.std.specs.Option.{option_map}
use Rattle.std.proofs.Math.ListN.{set}
use Rattle.std.proofs.lemmas.Bool.{cases_eq, eq-eqb, ne_eqb}
use Rattle.std.proofs.lemmas.List.{length-set}
use Rattle.spur_addr.specs.Address.{block_of, block_start_of}
use Rattle.spur_cache.specs.declared.line.Line.{Line}
use Rattle.spur_snoop.specs.Size.{IsLineCount}
use Rattle.spur_cache.specs.Lines.{IsCache, found, line_at, index_of, with_state, set_found}
use Rattle.spur_snoop.specs.declared.BlockState.TheVariants.{Invalid}
use Rattle.spur_snoop.specs.Protocol.{is_owned}
use Rattle.spur_phys.specs.Blocks.{block_place, with_block}
use Rattle.spur_flat.specs.declared.tag.Tag.{Tag}
use Rattle.spur_flat.specs.TagLines.{each_from}
use Rattle.spur_bus.specs.Boards.{line_of, line_in, line_of_block, dropped_lines, dropped}
use Rattle.spur_bus.specs.Logical.{word_or, logical_word}
use Rattle.spur_bus.specs.Agrees.{Agrees, IsAt, AgreesWithMemory}
use Rattle.spur_bus.specs.Calls.{flushed, cache_tags, tags_of, KeepsWords}
use Rattle.spur_flat.specs.TagLines as T
use Rattle.spur_bus.proofs.Turn.{IsWritten}
use Rattle.spur_bus.proofs.EachFacts.{each_id, length-each, slice_get-each}
use Rattle.spur_bus.proofs.LineFacts.{set_away, set_hit, some_same, tagged_is}
use Rattle.spur_bus.proofs.OwnerFacts.{Free, Owned, Owner, OwnsAt, is_at, logical_owned, owner, same_line}
use Rattle.spur_bus.proofs.WordsFacts.{count-each, same-words}
use Rattle.spur_bus.proofs.TagsFacts.{with-tags}
use Rattle.spur_bus.proofs.CallFacts.{IsHere, Promised, is_here, start_block}
use Rattle.spur_bus.proofs.BackFacts.{block_memory, block_word, length-words, place_is, room_of, start_of}

pub line-dropped : (caches : List (List (Option Line))) (holder at i s : ℕ) → line_in (dropped caches holder at) i s ≡ line_of (option_map (dropped_lines holder at i) (slice_get caches i)) s
line-dropped caches holder at i s =
    ap (λ (o : Option (List (Option Line))). line_of o s)
    (slice_get-each (dropped_lines holder at) 0 caches i ∙ ap (λ (n : ℕ). option_map (dropped_lines holder at n) (slice_get caches i)) (zero-add i))

-- one cache: what stands after it stood before, and is not the block
dropped_one : (lines : List (Option Line)) (at s : ℕ) (l : Line) (o : Option Line) → found lines at ≡ o → line_at (set_found lines (index_of lines (block_of at)) Invalid o) s ≡ Some l → line_at lines s ≡ Some l
dropped_one lines at s l None is h = h
dropped_one lines at s l (Some x) is h =
    let slot : ℕ = index_of lines (block_of at) in
    ⊎_elim
    (λ (e : s ≡ slot). let clash : None ≡ Some l = set_hit lines slot None l (ap (line_at (slice_set lines slot None)) (sym e) ∙ h) in cc)
    (λ (apart : s ≢ slot). sym (set_away lines slot s None apart) ∙ h)
    (cases_eq s slot)

kept_one : (lines : List (Option Line)) (at s : ℕ) (l : Line) (o : Option Line) → found lines at ≡ o → line_at lines s ≡ Some l → l.tag ≢ block_of at → line_at (set_found lines (index_of lines (block_of at)) Invalid o) s ≡ Some l
kept_one lines at s l None is there away = there
kept_one lines at s l (Some x) is there away =
    let slot : ℕ = index_of lines (block_of at) in
    let x_is = tagged_is (block_of at) (line_at lines slot) x is in
    set_away lines slot s None (λ (e : s ≡ slot).
    let both : Some x ≡ Some l = sym x_is.0 ∙ ap (line_at lines) (sym e) ∙ there in
    away (ap (λ (m : Line). m.tag) (sym (some_same x l both)) ∙ x_is.1)) ∙ there

mine_is : (holder at i : ℕ) (lines : List (Option Line)) → i ≡ holder → dropped_lines holder at i lines ≡ with_state lines at Invalid
mine_is holder at i lines e = ap (λ (b : Bool). if b then with_state lines at Invalid else lines) (eq-eqb i holder e)

other_is : (holder at i : ℕ) (lines : List (Option Line)) → i ≢ holder → dropped_lines holder at i lines ≡ lines
other_is holder at i lines apart = ap (λ (b : Bool). if b then with_state lines at Invalid else lines) (ne_eqb i holder apart)

stood_in : (caches : List (List (Option Line))) (holder at i s : ℕ) (l : Line) (o : Option (List (Option Line))) → slice_get caches i ≡ o → line_of (option_map (dropped_lines holder at i) o) s ≡ Some l → line_of o s ≡ Some l
stood_in caches holder at i s l None is h = cc
stood_in caches holder at i s l (Some lines) is h =
    ⊎_elim
    (λ (e : i ≡ holder). dropped_one lines at s l (found lines at) refl (ap (λ (ls : List (Option Line)). line_at ls s) (sym (mine_is holder at i lines e)) ∙ h))
    (λ (apart : i ≢ holder). ap (λ (ls : List (Option Line)). line_at ls s) (sym (other_is holder at i lines apart)) ∙ h)
    (cases_eq i holder)

pub stood : (caches : List (List (Option Line))) (holder at i s : ℕ) (l : Line) → line_in (dropped caches holder at) i s ≡ Some l → line_in caches i s ≡ Some l
stood caches holder at i s l h = stood_in caches holder at i s l (slice_get caches i) refl (sym (line-dropped caches holder at i s) ∙ h)

keeps_in : (caches : List (List (Option Line))) (holder at i s : ℕ) (l : Line) (o : Option (List (Option Line))) → line_of o s ≡ Some l → (i ≢ holder) ⊎ (l.tag ≢ block_of at) → line_of (option_map (dropped_lines holder at i) o) s ≡ Some l
keeps_in caches holder at i s l None there away = cc
keeps_in caches holder at i s l (Some lines) there (inl apart) = ap (λ (ls : List (Option Line)). line_at ls s) (other_is holder at i lines apart) ∙ there
keeps_in caches holder at i s l (Some lines) there (inr away) =
    ⊎_elim
    (λ (e : i ≡ holder). ap (λ (ls : List (Option Line)). line_at ls s) (mine_is holder at i lines e) ∙ kept_one lines at s l (found lines at) refl there away)
    (λ (apart : i ≢ holder). ap (λ (ls : List (Option Line)). line_at ls s) (other_is holder at i lines apart) ∙ there)
    (cases_eq i holder)

pub keeps : (caches : List (List (Option Line))) (holder at i s : ℕ) (l : Line) → line_in caches i s ≡ Some l → (i ≢ holder) ⊎ (l.tag ≢ block_of at) → line_in (dropped caches holder at) i s ≡ Some l
keeps caches holder at i s l there away = line-dropped caches holder at i s ∙ keeps_in caches holder at i s l (slice_get caches i) there away

-- how many lines there are

length-found : (lines : List (Option Line)) (slot : ℕ) (o : Option Line) → length (set_found lines slot Invalid o) ≡ length lines
length-found lines slot None = refl
length-found lines slot (Some l) = length-set lines slot None

length-if : (b : Bool) (news lines : List (Option Line)) → length news ≡ length lines → length (if b then news else lines) ≡ length lines
length-if true news lines h = h
length-if false news lines h = refl

pub length-lines : (holder at i : ℕ) (lines : List (Option Line)) → length (dropped_lines holder at i lines) ≡ length lines
length-lines holder at i lines = length-if (i == holder) (with_state lines at Invalid) lines (length-found lines (index_of lines (block_of at)) (found lines at))

pub record Was (caches : List (List (Option Line))) (holder at i : ℕ) (now : List (Option Line)) : Type 0 where
  pub lines : List (Option Line)
  pub there : slice_get caches i ≡ Some lines
  pub size : length now ≡ length lines

was_in : (caches : List (List (Option Line))) (holder at i : ℕ) (now : List (Option Line)) (o : Option (List (Option Line))) → slice_get caches i ≡ o → option_map (dropped_lines holder at i) o ≡ Some now → Was caches holder at i now
was_in caches holder at i now None is h = cc
was_in caches holder at i now (Some lines) is h = record {
  lines = lines;
  there = is;
  size = ap (λ (ls : List (Option Line)). length ls) (sym (some_same (dropped_lines holder at i lines) now h)) ∙ length-lines holder at i lines;
}

was : (caches : List (List (Option Line))) (holder at i : ℕ) (now : List (Option Line)) → slice_get (dropped caches holder at) i ≡ Some now → Was caches holder at i now
was caches holder at i now h =
    was_in caches holder at i now (slice_get caches i) refl
    (sym (slice_get-each (dropped_lines holder at) 0 caches i ∙ ap (λ (n : ℕ). option_map (dropped_lines holder at n) (slice_get caches i)) (zero-add i)) ∙ h)

-- each is a cache
each_in : (caches : List (List (Option Line))) (holder at i : ℕ) (now : List (Option Line)) → Agrees caches → slice_get (dropped caches holder at) i ≡ Some now → IsCache now
each_in caches holder at i now agree h =
    let w = was caches holder at i now h in
    let p = agree.each i w.lines w.there in
    let before : (s : ℕ) (l : Line) → line_at now s ≡ Some l → line_at w.lines s ≡ Some l =
    λ (s : ℕ) (l : Line) (there : line_at now s ≡ Some l).
    ap (λ (o : Option (List (Option Line))). line_of o s) (sym w.there) ∙ stood caches holder at i s l (ap (λ (o : Option (List (Option Line))). line_of o s) h ∙ there) in
    record {
      count = subst (λ (n : ℕ). IsLineCount n) (sym w.size) p.count;
      placed = λ (s : ℕ) (l : Line) (there : line_at now s ≡ Some l). ap (λ (n : ℕ). l.tag % n) w.size ∙ p.placed s l (before s l there);
      held = λ (s : ℕ) (l : Line) (there : line_at now s ≡ Some l). p.held s l (before s l there);
    }

pub agrees-dropped : (caches : List (List (Option Line))) (holder at : ℕ) → Agrees caches → Agrees (dropped caches holder at)
agrees-dropped caches holder at agree =
    let news = dropped caches holder at in
    let count : length news ≡ length caches = length-each (dropped_lines holder at) 0 caches in
    let old : (i s : ℕ) (l : Line) → line_in news i s ≡ Some l → line_in caches i s ≡ Some l = stood caches holder at in
    record {
      some_caches = subst (λ (n : ℕ). 1 ≤ n) (sym count) agree.some_caches;
      few_caches = subst (λ (n : ℕ). n ≤ 12) (sym count) agree.few_caches;
      sizes = λ (i j : ℕ) (a b : List (Option Line)) (ha : slice_get news i ≡ Some a) (hb : slice_get news j ≡ Some b).
          let wa = was caches holder at i a ha in
          let wb = was caches holder at j b hb in
          wa.size ∙ agree.sizes i j wa.lines wb.lines wa.there wb.there ∙ sym wb.size;
      each = λ (i : ℕ) (now : List (Option Line)) (h : slice_get news i ≡ Some now). each_in caches holder at i now agree h;
      one_frame = λ (i j s t : ℕ) (a b : Line) (ha : line_in news i s ≡ Some a) (hb : line_in news j t ≡ Some b). agree.one_frame i j s t a b (old i s a ha) (old j t b hb);
      one_place = λ (i j s t : ℕ) (a b : Line) (ha : line_in news i s ≡ Some a) (hb : line_in news j t ≡ Some b). agree.one_place i j s t a b (old i s a ha) (old j t b hb);
      one_owner = λ (i j s t : ℕ) (a b : Line) (ha : line_in news i s ≡ Some a) (hb : line_in news j t ≡ Some b). agree.one_owner i j s t a b (old i s a ha) (old j t b hb);
      exclusive = λ (i j s t : ℕ) (a b : Line) (ha : line_in news i s ≡ Some a) (hb : line_in news j t ≡ Some b). agree.exclusive i j s t a b (old i s a ha) (old j t b hb);
    }

-- what is needed of the memory: the block's words are written where the line is owned, and else nothing changes
pub record MayDrop (caches : List (List (Option Line))) (holder at : ℕ) (line : Line) (old new : List ℕ) : Type 0 where
  pub here : IsHere caches holder at line
  pub size : length new ≡ length old
  pub memory : (k : ℕ) → (slice_index new k ≡ slice_index old k) ⊎ IsWritten line new k
  pub saved : (k : ℕ) → is_owned line.state ≡ true → IsAt k line → slice_index new k ≡ slice_index line.words (k % 8)

swap : {A B : Type 0} → A ⊎ B → B ⊎ A
swap (inl a) = inr a
swap (inr b) = inl b

free_dropped : (caches : List (List (Option Line))) (holder at : ℕ) (line : Line) (old new : List ℕ) (k : ℕ) → Agrees caches → AgreesWithMemory caches old → MayDrop caches holder at line old new
    → ((j t : ℕ) (m : Line) → line_in (dropped caches holder at) j t ≡ Some m → OwnsAt (k / 1024) (k / 8 % 128) m → ⊥) → Owner caches (k / 1024) (k / 8 % 128) → slice_index new k ≡ logical_word caches old k
free_dropped caches holder at line old new k agree serves may none (Free is before) =
    ⊎_elim
    (λ (same : slice_index new k ≡ slice_index old k). same ∙ sym (ap (λ (w : Option (List ℕ)). word_or w (slice_index old k) k) is))
    (λ (w : IsWritten line new k). w.word ∙ serves.words holder may.here.slot k line may.here.there w.at)
    (may.memory k)
free_dropped caches holder at line old new k agree serves may none (Owned i s l there o is) =
    let here = may.here in
    ⊎_elim
    (λ (apart : i ≢ holder). absurd (none i s l (keeps caches holder at i s l there (inl apart)) o))
    (λ (e : i ≡ holder).
    ⊎_elim
    (λ (same : l.tag ≡ block_of at).
    let is_line : l ≡ line = same_line caches i holder s here.slot l line agree there here.there e (same ∙ sym here.tag) in
    let owns : OwnsAt (k / 1024) (k / 8 % 128) line = subst (λ (m : Line). OwnsAt (k / 1024) (k / 8 % 128) m) is_line o in
    may.saved k owns.owned (is_at k line owns) ∙ sym (logical_owned caches old k holder here.slot line agree here.there owns))
    (λ (away : l.tag ≢ block_of at). absurd (none i s l (keeps caches holder at i s l there (inr away)) o))
    (cases_eq l.tag (block_of at)))
    (swap (cases_eq i holder))

logical_in : (caches : List (List (Option Line))) (holder at : ℕ) (line : Line) (old new : List ℕ) (k : ℕ) → Agrees caches → AgreesWithMemory caches old → MayDrop caches holder at line old new
    → Owner (dropped caches holder at) (k / 1024) (k / 8 % 128) → logical_word (dropped caches holder at) new k ≡ logical_word caches old k
logical_in caches holder at line old new k agree serves may (Free is none) =
    ap (λ (w : Option (List ℕ)). word_or w (slice_index new k) k) is ∙ free_dropped caches holder at line old new k agree serves may none (owner caches (k / 1024) (k / 8 % 128))
logical_in caches holder at line old new k agree serves may (Owned i s l there o is) =
    ap (λ (w : Option (List ℕ)). word_or w (slice_index new k) k) is ∙ sym (logical_owned caches old k i s l agree (stood caches holder at i s l there) o)

pub keeps-dropped : (caches : List (List (Option Line))) (holder at : ℕ) (line : Line) (old new : List ℕ) → Agrees caches → AgreesWithMemory caches old → MayDrop caches holder at line old new → KeepsWords caches (dropped caches holder at) old new
keeps-dropped caches holder at line old new agree serves may =
    let logical : (k : ℕ) → logical_word (dropped caches holder at) new k ≡ logical_word caches old k =
    λ (k : ℕ). logical_in caches holder at line old new k agree serves may (owner (dropped caches holder at) (k / 1024) (k / 8 % 128)) in
    record {
      serves = record {
        within = λ (i s : ℕ) (l : Line) (there : line_in (dropped caches holder at) i s ≡ Some l).
            subst (λ (n : ℕ). l.frame * 1024 + 1024 ≤ n) (sym may.size) (serves.within i s l (stood caches holder at i s l there));
        words = λ (i s k : ℕ) (l : Line) (there : line_in (dropped caches holder at) i s ≡ Some l) (is : IsAt k l).
            serves.words i s k l (stood caches holder at i s l there) is ∙ sym (logical k);
      };
      logical = same-words caches (dropped caches holder at) old new logical may.size;
    }

saved_if : (b : Bool) (line : Line) (old : List ℕ) (k : ℕ) → start_of line + 8 ≤ length old
    → (slice_index (if b then with_block old (start_of line) line.words else old) k ≡ slice_index old k) ⊎ IsWritten line (if b then with_block old (start_of line) line.words else old) k
saved_if true line old k room = block_memory old line k room
saved_if false line old k room = inl refl

size_if : (b : Bool) (line : Line) (old : List ℕ) → length (if b then with_block old (start_of line) line.words else old) ≡ length old
size_if true line old = length-words 8 old (start_of line) line.words
size_if false line old = refl

pub may_drop : (caches : List (List (Option Line))) (holder at : ℕ) (line : Line) (old new : List ℕ) → AgreesWithMemory caches old → holder < length caches → line_of_block caches holder at ≡ Some line
    → new ≡ flushed old at (line_of_block caches holder at) → MayDrop caches holder at line old new
may_drop caches holder at line old new serves within there is =
    let here = is_here caches holder at line within there in
    let room : start_of line + 8 ≤ length old = room_of caches old holder at line serves within there in
    let new_is : new ≡ (if is_owned line.state then with_block old (start_of line) line.words else old) =
    is ∙ ap (flushed old at) there ∙ ap (λ (ws : List ℕ). if is_owned line.state then ws else old) (place_is old at line here.tag) in
    subst (λ (m : List ℕ). MayDrop caches holder at line old m) (sym new_is) (record {
      here = here;
      size = size_if (is_owned line.state) line old;
      memory = λ (k : ℕ). saved_if (is_owned line.state) line old k room;
      saved = λ (k : ℕ) (owned : is_owned line.state ≡ true) (i : IsAt k line).
          ap (λ (b : Bool). slice_index (if b then with_block old (start_of line) line.words else old) k) owned ∙ block_word old line k room i;
    })

pub dropped_all : (caches news : List (List (Option Line))) (holder at : ℕ) (line : Line) (old new : List ℕ) → Agrees caches → AgreesWithMemory caches old → holder < length caches → line_of_block caches holder at ≡ Some line
    → new ≡ flushed old at (line_of_block caches holder at) → news ≡ dropped caches holder at → Promised caches news old new
dropped_all caches news holder at line old new agree serves within there new_is is =
    subst (λ (n : List (List (Option Line))). Promised caches n old new) (sym is) (record {
      agree = agrees-dropped caches holder at agree;
      keeps = keeps-dropped caches holder at line old new agree serves (may_drop caches holder at line old new serves within there new_is);
      lines = count-each (dropped_lines holder at) caches (length-lines holder at);
    })

flushed_if : (b : Bool) (old written : List ℕ) → length written ≡ length old → length (if b then written else old) ≡ length old
flushed_if true old written size = size
flushed_if false old written size = refl

pub flushed_size : (old new : List ℕ) (at : ℕ) (o : Option Line) → new ≡ flushed old at o → length new ≡ length old
flushed_size old new at None is = ap (λ (ws : List ℕ). length ws) is
flushed_size old new at (Some line) is =
    ap (λ (ws : List ℕ). length ws) is
    ∙ flushed_if (is_owned line.state) old (with_block old (block_place line.frame at) line.words) (length-words 8 old (block_place line.frame at) line.words)

-- the tags

tags_one : (lines : List (Option Line)) (at : ℕ) (line : Line) → found lines at ≡ Some line → cache_tags (with_state lines at Invalid) ≡ T.with_tag (cache_tags lines) (block_of at) None
tags_one lines at line is = ap (λ (o : Option Line). cache_tags (set_found lines (index_of lines (block_of at)) Invalid o)) is ∙ with-tags lines (block_of at) None

tags_from : (caches : List (List (Option Line))) (at : ℕ) (line : Line) (i k : ℕ) → i < length caches → found (get_or caches i []) at ≡ Some line
    → map cache_tags (each_from (dropped_lines (k + i) at) k caches) ≡ slice_set (map cache_tags caches) i (T.with_tag (get_or (map cache_tags caches) i []) (block_of at) None)
tags_from [] at line i k within is = absurd (omega arith)
tags_from (c ∷ cs) at line zero k within is =
    let rest : cs ≡ each_from (dropped_lines (k + 0) at) (k + 1) cs =
    each_id (dropped_lines (k + 0) at) (k + 1) cs (λ (j : ℕ) (ls : List (Option Line)) (low : k + 1 ≤ j). other_is (k + 0) at j ls (λ (e : j ≡ k + 0). omega arith)) in
    ap (λ (ls : List (List (Option Line))). cache_tags (dropped_lines (k + 0) at k c) ∷ map cache_tags ls) (sym rest)
    ∙ ap (λ (ls : List (Option Tag)). ls ∷ map cache_tags cs) (ap cache_tags (mine_is (k + 0) at k c (sym (add-zero k))) ∙ tags_one c at line is)
tags_from (c ∷ cs) at line (suc i) k within is =
    let place : (k + 1) + i ≡ k + suc i = omega arith in
    ap (λ (ls : List (Option Line)). cache_tags ls ∷ map cache_tags (each_from (dropped_lines (k + suc i) at) (k + 1) cs)) (other_is (k + suc i) at k c (λ (e : k ≡ k + suc i). omega arith))
    ∙ ap (λ (n : ℕ). cache_tags c ∷ map cache_tags (each_from (dropped_lines n at) (k + 1) cs)) (sym place)
    ∙ ap (λ (rest : List (List (Option Tag))). cache_tags c ∷ rest) (tags_from cs at line i (k + 1) (omega arith) is)

pub tags-dropped : (caches news : List (List (Option Line))) (holder at start : ℕ) (line : Line) → holder < length caches → line_of_block caches holder at ≡ Some line → start ≡ block_start_of at → news ≡ dropped caches holder at
    → tags_of news ≡ T.with_tag_at (tags_of caches) holder (block_of start) None
tags-dropped caches news holder at start line within there start_is is =
    ap tags_of is
    ∙ ap (λ (n : ℕ). map cache_tags (each_from (dropped_lines n at) 0 caches)) (sym (zero-add holder))
    ∙ tags_from caches at line holder 0 within there
    ∙ ap (λ (n : ℕ). T.with_tag_at (tags_of caches) holder n None) (sym (start_block at))
    ∙ ap (λ (n : ℕ). T.with_tag_at (tags_of caches) holder (block_of n) None) (sym start_is)
