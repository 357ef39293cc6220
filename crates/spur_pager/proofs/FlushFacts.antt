-- The lines of a page in caches: what it comes to to flush the first of them, and what it is where there are none.
use Rattle.std.proofs.Common.{◌≡◌, ◌≢◌, ◌∙◌, ℕ, zero, suc, ◌+◌, ◌/◌, ◌<◌, Bool, true, false, if◌then◌else◌, ap, sym, refl, List, [], ◌∷◌, ◌++◌, get_or, length, map, slice_set, Option, Some, None, arith, add-zero}
use Rattle.std.proofs.lemmas.Bool.{eqb-false}
use Rattle.std.proofs.lemmas.List.{length-append}
use Rattle.spur_cache.specs.declared.line.Line.{Line}
use Rattle.spur_cache.specs.Lines.{is_of_page, line_at, page_lines_from}
use Rattle.spur_flat.specs.declared.entry.Entry.{Entry}
use Rattle.spur_flat.specs.declared.entry.Entry.TheVariants.{BlockFlush}
use Rattle.spur_bus.specs.Calls.{flushed}
use Rattle.spur_walk.specs.Tables.{block_address}
use Rattle.spur_pager.specs.Acts.{flushed_all, flushed_lines, flushes_from, flushes_in, unless_of, without_page}

-- a cache without lines of a page

other_is : (t : Bool) (k : ℕ) (xs : List ℕ) → (if t then k ∷ xs else xs) ≡ [] → (t ≡ false) × (xs ≡ [])
other_is true k xs h = cc
other_is false k xs h = (refl, h)

pub none_entries : (b i page k : ℕ) (lines : List (Option Line)) → page_lines_from page k lines ≡ [] → flushes_in b i page lines ≡ []
none_entries b i page k [] none = refl
none_entries b i page k (None ∷ rest) none = none_entries b i page (k + 1) rest none
none_entries b i page k (Some line ∷ rest) none =
    let o = other_is (is_of_page page line) k (page_lines_from page (k + 1) rest) none in
    ap (λ (t : Bool). if t then BlockFlush b i (block_address line.tag) ∷ flushes_in b i page rest else flushes_in b i page rest) o.0
    ∙ none_entries b i page (k + 1) rest o.1

pub none_memory : (page k : ℕ) (memory : List ℕ) (lines : List (Option Line)) → page_lines_from page k lines ≡ [] → flushed_lines page memory lines ≡ memory
none_memory page k memory [] none = refl
none_memory page k memory (None ∷ rest) none = none_memory page (k + 1) memory rest none
none_memory page k memory (Some line ∷ rest) none =
    let o = other_is (is_of_page page line) k (page_lines_from page (k + 1) rest) none in
    ap (λ (t : Bool). flushed_lines page (if t then flushed memory (block_address line.tag) (Some line) else memory) rest) o.0
    ∙ none_memory page (k + 1) memory rest o.1

pub none_without : (page k : ℕ) (lines : List (Option Line)) → page_lines_from page k lines ≡ [] → without_page page lines ≡ lines
none_without page k [] none = refl
none_without page k (None ∷ rest) none = ap (λ (ls : List (Option Line)). None ∷ ls) (none_without page (k + 1) rest none)
none_without page k (Some line ∷ rest) none =
    let o = other_is (is_of_page page line) k (page_lines_from page (k + 1) rest) none in
    ap (λ (t : Bool). (if t then None else Some line) ∷ without_page page rest) o.0
    ∙ ap (λ (ls : List (Option Line)). Some line ∷ ls) (none_without page (k + 1) rest o.1)

pub none_there : (page k : ℕ) (lines : List (Option Line)) (s : ℕ) (line : Line) → page_lines_from page k lines ≡ [] → line_at lines s ≡ Some line → line.tag / 128 ≢ page
none_there page k [] s line none there = cc
none_there page k (None ∷ rest) zero line none there = cc
none_there page k (None ∷ rest) (suc s) line none there = none_there page (k + 1) rest s line none there
none_there page k (Some x ∷ rest) zero line none there =
    let o = other_is (is_of_page page x) k (page_lines_from page (k + 1) rest) none in
    let same : x ≡ line = cc in
    eqb-false (line.tag / 128) page (ap (λ (l : Line). is_of_page page l) (sym same) ∙ o.0)
none_there page k (Some x ∷ rest) (suc s) line none there =
    let o = other_is (is_of_page page x) k (page_lines_from page (k + 1) rest) none in
    none_there page (k + 1) rest s line o.1 there

-- The first line of a page in a cache: to flush all of them is to flush this one, and then those of the cache without it.
pub record IsFirst (page k : ℕ) (lines : List (Option Line)) (number : ℕ) (rest : List ℕ) : Type 0 where
  pub slot : ℕ
  pub place : k + slot ≡ number
  pub line : Line
  pub there : line_at lines slot ≡ Some line
  pub of_page : is_of_page page line ≡ true
  pub places : page_lines_from page k (slice_set lines slot None) ≡ rest
  pub entries : (b i : ℕ) → flushes_in b i page lines ≡ BlockFlush b i (block_address line.tag) ∷ flushes_in b i page (slice_set lines slot None)
  pub memory : (m : List ℕ) → flushed_lines page m lines ≡ flushed_lines page (flushed m (block_address line.tag) (Some line)) (slice_set lines slot None)
  pub without : without_page page (slice_set lines slot None) ≡ without_page page lines

first_here : (page k : ℕ) (x : Line) (xs : List (Option Line)) (number : ℕ) (rest : List ℕ) → is_of_page page x ≡ true → k ≡ number → page_lines_from page (k + 1) xs ≡ rest
    → IsFirst page k (Some x ∷ xs) number rest
first_here page k x xs number rest mine at places = record {
  slot = 0;
  place = add-zero k ∙ at;
  line = x;
  there = refl;
  of_page = mine;
  places = places;
  entries = λ (b i : ℕ). ap (λ (t : Bool). if t then BlockFlush b i (block_address x.tag) ∷ flushes_in b i page xs else flushes_in b i page xs) mine;
  memory = λ (m : List ℕ). ap (λ (t : Bool). flushed_lines page (if t then flushed m (block_address x.tag) (Some x) else m) xs) mine;
  without = sym (ap (λ (t : Bool). (if t then None else Some x) ∷ without_page page xs) mine);
}

first_past : (page k : ℕ) (x : Line) (xs : List (Option Line)) (number : ℕ) (rest : List ℕ) → is_of_page page x ≡ false → IsFirst page (k + 1) xs number rest → IsFirst page k (Some x ∷ xs) number rest
first_past page k x xs number rest no_line f =
    let place : (k + 1) + f.slot ≡ number = f.place in
    let left : List (Option Line) = slice_set xs f.slot None in
    record {
      slot = suc f.slot;
      place = omega arith;
      line = f.line;
      there = f.there;
      of_page = f.of_page;
      places = ap (λ (t : Bool). if t then k ∷ page_lines_from page (k + 1) left else page_lines_from page (k + 1) left) no_line ∙ f.places;
      entries = λ (b i : ℕ).
          let mine : Entry = BlockFlush b i (block_address x.tag) in
          ap (λ (t : Bool). if t then mine ∷ flushes_in b i page xs else flushes_in b i page xs) no_line
          ∙ f.entries b i
          ∙ ap (λ (es : List Entry). BlockFlush b i (block_address f.line.tag) ∷ es) (sym (ap (λ (t : Bool). if t then mine ∷ flushes_in b i page left else flushes_in b i page left) no_line));
      memory = λ (m : List ℕ).
          let now : List ℕ = flushed m (block_address f.line.tag) (Some f.line) in
          ap (λ (t : Bool). flushed_lines page (if t then flushed m (block_address x.tag) (Some x) else m) xs) no_line
          ∙ f.memory m
          ∙ sym (ap (λ (t : Bool). flushed_lines page (if t then flushed now (block_address x.tag) (Some x) else now) left) no_line);
      without = ap (λ (ls : List (Option Line)). unless_of page (Some x) ∷ ls) f.without;
    }

first_none : (page k : ℕ) (xs : List (Option Line)) (number : ℕ) (rest : List ℕ) → IsFirst page (k + 1) xs number rest → IsFirst page k (None ∷ xs) number rest
first_none page k xs number rest f =
    let place : (k + 1) + f.slot ≡ number = f.place in
    record {
      slot = suc f.slot;
      place = omega arith;
      line = f.line;
      there = f.there;
      of_page = f.of_page;
      places = f.places;
      entries = f.entries;
      memory = f.memory;
      without = ap (λ (ls : List (Option Line)). None ∷ ls) f.without;
    }

first_by : (t : Bool) (page k : ℕ) (x : Line) (xs : List (Option Line)) (number : ℕ) (rest : List ℕ) → is_of_page page x ≡ t
    → (page_lines_from page (k + 1) xs ≡ number ∷ rest → IsFirst page (k + 1) xs number rest)
    → (if t then k ∷ page_lines_from page (k + 1) xs else page_lines_from page (k + 1) xs) ≡ number ∷ rest → IsFirst page k (Some x ∷ xs) number rest
first_by true page k x xs number rest test later is =
    let at : k ≡ number = cc in
    let places : page_lines_from page (k + 1) xs ≡ rest = cc in
    first_here page k x xs number rest test at places
first_by false page k x xs number rest test later is = first_past page k x xs number rest test (later is)

pub first_line : (page k : ℕ) (lines : List (Option Line)) (number : ℕ) (rest : List ℕ) → page_lines_from page k lines ≡ number ∷ rest → IsFirst page k lines number rest
first_line page k [] number rest is = cc
first_line page k (None ∷ xs) number rest is = first_none page k xs number rest (first_line page (k + 1) xs number rest is)
first_line page k (Some x ∷ xs) number rest is = first_by (is_of_page page x) page k x xs number rest refl (first_line page (k + 1) xs number rest) is

-- all caches, of which the first have no lines of the page: one line of cache h is flushed

pub all_entries : (b k page g : ℕ) (caches : List (List (Option Line))) (h : ℕ) (news : List (Option Line)) → h < length caches
    → ((i : ℕ) → i < h → page_lines_from page 0 (get_or caches i []) ≡ [])
    → ((i : ℕ) → flushes_in b i page (get_or caches h []) ≡ BlockFlush b i g ∷ flushes_in b i page news)
    → flushes_from b k page caches ≡ BlockFlush b (k + h) g ∷ flushes_from b k page (slice_set caches h news)
all_entries b k page g [] h news within below first = absurd (omega arith)
all_entries b k page g (lines ∷ cs) zero news within below first =
    ap (λ (es : List Entry). es ++ flushes_from b (k + 1) page cs) (first k)
    ∙ ap (λ (n : ℕ). BlockFlush b n g ∷ (flushes_in b k page news ++ flushes_from b (k + 1) page cs)) (sym (add-zero k))
all_entries b k page g (lines ∷ cs) (suc h) news within below first =
    let none : page_lines_from page 0 lines ≡ [] = below 0 (omega arith) in
    let place : (k + 1) + h ≡ k + suc h = omega arith in
    let left : List (List (Option Line)) = slice_set cs h news in
    let here : flushes_in b k page lines ≡ [] = none_entries b k page 0 lines none in
    ap (λ (es : List Entry). es ++ flushes_from b (k + 1) page cs) here
    ∙ all_entries b (k + 1) page g cs h news (omega arith) (λ (i : ℕ) (low : i < h). below (suc i) (omega arith)) first
    ∙ ap (λ (n : ℕ). BlockFlush b n g ∷ flushes_from b (k + 1) page left) place
    ∙ ap (λ (es : List Entry). BlockFlush b (k + suc h) g ∷ (es ++ flushes_from b (k + 1) page left)) (sym here)

pub all_memory : (page : ℕ) (x y : List ℕ) (caches : List (List (Option Line))) (h : ℕ) (news : List (Option Line)) → h < length caches
    → ((i : ℕ) → i < h → page_lines_from page 0 (get_or caches i []) ≡ [])
    → flushed_lines page x (get_or caches h []) ≡ flushed_lines page y news
    → flushed_all page x caches ≡ flushed_all page y (slice_set caches h news)
all_memory page x y [] h news within below same = absurd (omega arith)
all_memory page x y (lines ∷ cs) zero news within below same = ap (λ (m : List ℕ). flushed_all page m cs) same
all_memory page x y (lines ∷ cs) (suc h) news within below same =
    let none : page_lines_from page 0 lines ≡ [] = below 0 (omega arith) in
    ap (λ (m : List ℕ). flushed_all page m cs) (none_memory page 0 x lines none)
    ∙ all_memory page x y cs h news (omega arith) (λ (i : ℕ) (low : i < h). below (suc i) (omega arith)) same
    ∙ ap (λ (m : List ℕ). flushed_all page m (slice_set cs h news)) (sym (none_memory page 0 y lines none))

-- no cache has a line of the page

pub no_entries : (b k page : ℕ) (caches : List (List (Option Line))) → ((i : ℕ) → i < length caches → page_lines_from page 0 (get_or caches i []) ≡ []) → flushes_from b k page caches ≡ []
no_entries b k page [] none = refl
no_entries b k page (lines ∷ cs) none =
    ap (λ (es : List Entry). es ++ flushes_from b (k + 1) page cs) (none_entries b k page 0 lines (none 0 (omega arith)))
    ∙ no_entries b (k + 1) page cs (λ (i : ℕ) (low : i < length cs). none (suc i) (omega arith))

pub no_memory : (page : ℕ) (memory : List ℕ) (caches : List (List (Option Line))) → ((i : ℕ) → i < length caches → page_lines_from page 0 (get_or caches i []) ≡ []) → flushed_all page memory caches ≡ memory
no_memory page memory [] none = refl
no_memory page memory (lines ∷ cs) none =
    ap (λ (m : List ℕ). flushed_all page m cs) (none_memory page 0 memory lines (none 0 (omega arith)))
    ∙ no_memory page memory cs (λ (i : ℕ) (low : i < length cs). none (suc i) (omega arith))

pub no_without : (page : ℕ) (caches : List (List (Option Line))) → ((i : ℕ) → i < length caches → page_lines_from page 0 (get_or caches i []) ≡ []) → map (without_page page) caches ≡ caches
no_without page [] none = refl
no_without page (lines ∷ cs) none =
    ap (λ (ls : List (Option Line)). ls ∷ map (without_page page) cs) (none_without page 0 lines (none 0 (omega arith)))
    ∙ ap (λ (rest : List (List (Option Line))). lines ∷ rest) (no_without page cs (λ (i : ℕ) (low : i < length cs). none (suc i) (omega arith)))

-- how many entries there are does not hang on the board that flushes

length_if : (t : Bool) (d e : Entry) (ds es : List Entry) → length ds ≡ length es → length (if t then d ∷ ds else ds) ≡ length (if t then e ∷ es else es)
length_if true d e ds es same = omega arith
length_if false d e ds es same = same

count_in : (b c i j page : ℕ) (lines : List (Option Line)) → length (flushes_in b i page lines) ≡ length (flushes_in c j page lines)
count_in b c i j page [] = refl
count_in b c i j page (None ∷ rest) = count_in b c i j page rest
count_in b c i j page (Some line ∷ rest) =
    length_if (is_of_page page line) (BlockFlush b i (block_address line.tag)) (BlockFlush c j (block_address line.tag)) (flushes_in b i page rest) (flushes_in c j page rest) (count_in b c i j page rest)

pub count_from : (b c k j page : ℕ) (caches : List (List (Option Line))) → length (flushes_from b k page caches) ≡ length (flushes_from c j page caches)
count_from b c k j page [] = refl
count_from b c k j page (lines ∷ cs) =
    let one : length (flushes_in b k page lines) ≡ length (flushes_in c j page lines) = count_in b c k j page lines in
    let others : length (flushes_from b (k + 1) page cs) ≡ length (flushes_from c (j + 1) page cs) = count_from b c (k + 1) (j + 1) page cs in
    let left : length (flushes_in b k page lines ++ flushes_from b (k + 1) page cs) ≡ length (flushes_in b k page lines) + length (flushes_from b (k + 1) page cs) =
    length-append (flushes_in b k page lines) (flushes_from b (k + 1) page cs) in
    let right : length (flushes_in c j page lines ++ flushes_from c (j + 1) page cs) ≡ length (flushes_in c j page lines) + length (flushes_from c (j + 1) page cs) =
    length-append (flushes_in c j page lines) (flushes_from c (j + 1) page cs) in
    omega arith
