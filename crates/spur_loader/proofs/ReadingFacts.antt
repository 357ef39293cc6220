-- What stands where in the opening's memory and swap.
use Rattle.std.specs.Prelude.{slice_index, slice_get}
use Rattle.std.specs.List.{All}
use Rattle.std.proofs.Common.{◌≡◌, ℕ, ◌+◌, ◌*◌, ◌/◌, ◌%◌, ◌<◌, List, ◌++◌, Some, length, map, take, replicate, refl, sym, ap, ◌∙◌, arith, ⊎_elim, ◌-◌, ◌≤◌}
use Rattle.std.proofs.Math.ListN.{get_or}
use Rattle.std.proofs.lemmas.List.{take_all, length-append, length-replicate, ext_get_or, get_or_append_left, get_or-append-add, get_or-replicate, get_or-map}
use Rattle.std.proofs.lemmas.List.FromFn.{length-map-range_with_len, get_or-map-range_with_len}
use Rattle.std.proofs.lemmas.Option.{slice_get_within, slice_get-get_or, get_or_from_slice_get}
use Rattle.spur_addr.specs.declared.page_entry.Protection.TheVariants.{ReadWrite}
use Rattle.spur_object.specs.Limits.{IsPage}
use Rattle.spur_object.specs.declared.unit.Unit.{Unit as Program}
use Rattle.spur_object.specs.declared.unit.PageText.{PageText}
use Rattle.spur_flat.specs.declared.flat.Flat.{Flat}
use Rattle.spur_isa.specs.declared.instr.Instr.{Instr}
use Rattle.spur_loader.specs.declared.opening.Options.{Options}
use Rattle.spur_loader.specs.declared.opening.Opening.{Opening}
use Rattle.spur_loader.specs.Opening.{page_numbers, roots_of, root_word, entry_word, table_word, page_word, swap_word, each_below, memory_of, swap_of, opening_flat, opening_of}
use Rattle.spur_loader.specs.Parts.{AreRoots, ArePageTables, HoldsPages}
use Rattle.spur_loader.proofs.EntryWords.{page_key}
use Rattle.std.proofs.lemmas.Bool.{cases_lt}
use Rattle.spur_loader.specs.Readings.{IsFirstFlat}
use Rattle.spur_loader.proofs.RootFacts.{roots_of_are, roots_same}

-- ---- lists by their members

each_size : (n : ℕ) (f : ℕ → ℕ) → length (each_below n f) ≡ n
each_size n f = length-map-range_with_len f 0 n

each_get : (n : ℕ) (f : ℕ → ℕ) (i : ℕ) → i < n → slice_index (each_below n f) i ≡ f i
each_get n f i below = get_or-map-range_with_len f 0 n i i 0 below (omega arith)

-- a list is what a definition gives, member by member
each_is : (n : ℕ) (f : ℕ → ℕ) (xs : List ℕ) → length xs ≡ n → ((i : ℕ) → i < n → slice_index xs i ≡ f i) → xs ≡ each_below n f
each_is n f xs size reads = ext_get_or 0 xs (each_below n f) (size ∙ sym (each_size n f))
    (λ i below. let l : i < n = omega arith in reads i l ∙ sym (each_get n f i l))

-- a list that is made longer keeps its members, and zeros follow
pub grown_is : (words grown : List ℕ) (len n count : ℕ) → len ≡ length words → n ≡ len + count → grown ≡ take n words ++ replicate (n - len) 0
    → grown ≡ words ++ replicate count 0
grown_is words grown len n count size new is =
    let enough : length words ≤ n = omega arith in
    let more : n - len ≡ count = omega arith in
    is ∙ ap (λ (ws : List ℕ). ws ++ replicate (n - len) 0) (take_all n words enough) ∙ ap (λ (k : ℕ). words ++ replicate k 0) more

-- ---- the parts, put together

-- the tables are those of the definition
tables_read : (roots : List ℕ) (pages : List PageText) (words : List ℕ) → ArePageTables roots pages words → (k : ℕ) → k < 1024 * (64 + length roots)
    → slice_index words k ≡ slice_index (each_below 65536 (root_word roots) ++ each_below (1024 * length roots) (table_word roots pages)) k
tables_read roots pages words h k below =
    let a : List ℕ = each_below 65536 (root_word roots) in
    let b : List ℕ = each_below (1024 * length roots) (table_word roots pages) in
    let la : length a ≡ 65536 = each_size 65536 (root_word roots) in
    ⊎_elim
    (λ (first : k < 65536).
    let l : k < length a = omega arith in
    h.root k first ∙ sym (each_get 65536 (root_word roots) k first) ∙ sym (get_or_append_left a b 0 k l))
    (λ (above : 65536 ≤ k).
    let i : ℕ = k - 65536 in
    let inside : i < 1024 * length roots = omega arith in
    let t : i / 1024 < length roots = omega arith in
    let rest : i % 1024 < 1024 = omega arith in
    let place : k ≡ (64 + i / 1024) * 1024 + i % 1024 = omega arith in
    let behind : length a + i ≡ k = omega arith in
    ap (slice_index words) place ∙ h.entry (i / 1024) (get_or roots (i / 1024) 0) (i % 1024) (slice_get-get_or roots (i / 1024) 0 t) rest
    ∙ sym (each_get (1024 * length roots) (table_word roots pages) i inside)
    ∙ sym (get_or-append-add a b i 0)
    ∙ ap (λ (n : ℕ). get_or (a ++ b) n 0) behind)
    (cases_lt k 65536)

tables_are : (roots : List ℕ) (pages : List PageText) (words : List ℕ) → ArePageTables roots pages words
    → words ≡ each_below 65536 (root_word roots) ++ each_below (1024 * length roots) (table_word roots pages)
tables_are roots pages words h =
    let a : List ℕ = each_below 65536 (root_word roots) in
    let b : List ℕ = each_below (1024 * length roots) (table_word roots pages) in
    let la : length a ≡ 65536 = each_size 65536 (root_word roots) in
    let lb : length b ≡ 1024 * length roots = each_size (1024 * length roots) (table_word roots pages) in
    let ab : length (a ++ b) ≡ length a + length b = length-append a b in
    let s = h.size in
    let size : length words ≡ length (a ++ b) = omega arith in
    ext_get_or 0 words (a ++ b) size (λ k below. tables_read roots pages words h k (omega arith))

some_page : PageText
some_page = record { page = 0; prot = ReadWrite }

swap_reads : (unit : Program) (held : List ℕ) → HoldsPages unit.pages unit.words held → (i : ℕ) → i < 1024 * length unit.pages → slice_index held i ≡ swap_word unit i
swap_reads unit held h i below =
    let k : i / 1024 < length unit.pages = omega arith in
    let rest : i % 1024 < 1024 = omega arith in
    let whole : i / 1024 * 1024 + i % 1024 ≡ i = omega arith in
    ap (slice_index held) (sym whole)
    ∙ h.word (i / 1024) (i % 1024) (get_or unit.pages (i / 1024) some_page) (slice_get-get_or unit.pages (i / 1024) some_page k) rest
    ∙ ap (λ (p : ℕ). page_word unit.words p (i % 1024)) (sym (get_or-map page_key unit.pages (i / 1024) some_page 0 k))

pub swap_is : (unit : Program) (held : List ℕ) → HoldsPages unit.pages unit.words held → held ≡ swap_of unit
unfolding swap_of
swap_is unit held h = each_is (1024 * length unit.pages) (swap_word unit) held h.size (swap_reads unit held h)

memory_by : (unit : Program) (options : Options) (roots tables : List ℕ) → roots ≡ roots_of unit.pages
    → tables ≡ each_below 65536 (root_word roots) ++ each_below (1024 * length roots) (table_word roots unit.pages)
    → tables ++ replicate (1024 * options.frames) 0 ≡ memory_of unit options
unfolding memory_of
memory_by unit options roots tables same is =
    let a : List ℕ = each_below 65536 (root_word roots) in
    let b : List ℕ = each_below (1024 * length roots) (table_word roots unit.pages) in
    ap (λ (ws : List ℕ). ws ++ replicate (1024 * options.frames) 0) is
    ∙ ap (λ (rs : List ℕ). each_below 65536 (root_word rs) ++ each_below (1024 * length rs) (table_word rs unit.pages) ++ replicate (1024 * options.frames) 0) same

-- the tables with empty data frames behind them are the defined memory
pub memory_is : (unit : Program) (options : Options) (roots tables : List ℕ) → All IsPage unit.pages → AreRoots unit.pages roots
    → ArePageTables roots unit.pages tables → tables ++ replicate (1024 * options.frames) 0 ≡ memory_of unit options
memory_is unit options roots tables small needed h =
    memory_by unit options roots tables (roots_same unit.pages roots small needed) (tables_are roots unit.pages tables h)

pub flat_is : (unit : Program) (options : Options) (words swap pages : List ℕ) (tables : ℕ) → words ≡ memory_of unit options → swap ≡ swap_of unit
    → pages ≡ page_numbers unit.pages → tables ≡ length (roots_of unit.pages)
    → (let F : Flat = record { words = words; swap = swap; pages = pages; tables = tables; frames = options.frames } in F ≡ opening_flat unit options)
flat_is unit options words swap pages tables a b c d = cc

pub opening_is : (unit : Program) (options : Options) (F : Flat) (segs : List (List ℕ)) (code : List (List Instr)) → F ≡ opening_flat unit options
    → segs ≡ map (λ board. board.segs) unit.boards → code ≡ map (λ board. board.code) unit.boards
    → (let o : Opening = record { flat = F; segs = segs; code = code; options = options } in o ≡ opening_of unit options)
opening_is unit options F segs code a b d = cc

-- ---- the readings

memory_size : (unit : Program) (options : Options) → length (memory_of unit options) ≡ 1024 * (64 + length (roots_of unit.pages) + options.frames)
unfolding memory_of
memory_size unit options =
    let roots : List ℕ = roots_of unit.pages in
    let a : List ℕ = each_below 65536 (root_word roots) in
    let b : List ℕ = each_below (1024 * length roots) (table_word roots unit.pages) in
    let d : List ℕ = replicate (1024 * options.frames) 0 in
    let la : length a ≡ 65536 = each_size 65536 (root_word roots) in
    let lb : length b ≡ 1024 * length roots = each_size (1024 * length roots) (table_word roots unit.pages) in
    let ld : length d ≡ 1024 * options.frames = length-replicate (1024 * options.frames) 0 in
    let ab : length (a ++ b) ≡ length a + length b = length-append a b in
    let all : length (a ++ b ++ d) ≡ length (a ++ b) + length d = length-append (a ++ b) d in
    all ∙ omega arith

memory_root : (unit : Program) (options : Options) (r : ℕ) → r < 65536 → slice_index (memory_of unit options) r ≡ root_word (roots_of unit.pages) r
unfolding memory_of
memory_root unit options r below =
    let roots : List ℕ = roots_of unit.pages in
    let a : List ℕ = each_below 65536 (root_word roots) in
    let b : List ℕ = each_below (1024 * length roots) (table_word roots unit.pages) in
    let d : List ℕ = replicate (1024 * options.frames) 0 in
    let la : length a ≡ 65536 = each_size 65536 (root_word roots) in
    let ab : length (a ++ b) ≡ length a + length b = length-append a b in
    let first : r < length a = omega arith in
    let both : r < length (a ++ b) = omega arith in
    get_or_append_left (a ++ b) d 0 r both ∙ get_or_append_left a b 0 r first ∙ each_get 65536 (root_word roots) r below

memory_entry : (unit : Program) (options : Options) (t r j : ℕ) → slice_get (roots_of unit.pages) t ≡ Some r → j < 1024
    → slice_index (memory_of unit options) ((64 + t) * 1024 + j) ≡ entry_word unit.pages (r * 1024 + j)
unfolding memory_of
memory_entry unit options t r j at below =
    let roots : List ℕ = roots_of unit.pages in
    let a : List ℕ = each_below 65536 (root_word roots) in
    let b : List ℕ = each_below (1024 * length roots) (table_word roots unit.pages) in
    let d : List ℕ = replicate (1024 * options.frames) 0 in
    let la : length a ≡ 65536 = each_size 65536 (root_word roots) in
    let lb : length b ≡ 1024 * length roots = each_size (1024 * length roots) (table_word roots unit.pages) in
    let ab : length (a ++ b) ≡ length a + length b = length-append a b in
    let within : t < length roots = slice_get_within roots t r at in
    let place : (64 + t) * 1024 + j ≡ length a + (t * 1024 + j) = omega arith in
    let both : (64 + t) * 1024 + j < length (a ++ b) = omega arith in
    let inside : t * 1024 + j < 1024 * length roots = omega arith in
    let above : (t * 1024 + j) / 1024 ≡ t = omega arith in
    let rest : (t * 1024 + j) % 1024 ≡ j = omega arith in
    get_or_append_left (a ++ b) d 0 ((64 + t) * 1024 + j) both
    ∙ ap (λ (k : ℕ). get_or (a ++ b) k 0) place
    ∙ get_or-append-add a b (t * 1024 + j) 0
    ∙ each_get (1024 * length roots) (table_word roots unit.pages) (t * 1024 + j) inside
    ∙ ap (λ (k : ℕ). entry_word unit.pages (slice_index roots k * 1024 + (t * 1024 + j) % 1024)) above
    ∙ ap (λ (k : ℕ). entry_word unit.pages (slice_index roots t * 1024 + k)) rest
    ∙ ap (λ (q : ℕ). entry_word unit.pages (q * 1024 + j)) (get_or_from_slice_get roots t r 0 at)

memory_data : (unit : Program) (options : Options) (k : ℕ) → k < 1024 * options.frames → slice_index (memory_of unit options) (1024 * (64 + length (roots_of unit.pages)) + k) ≡ 0
unfolding memory_of
memory_data unit options k below =
    let roots : List ℕ = roots_of unit.pages in
    let a : List ℕ = each_below 65536 (root_word roots) in
    let b : List ℕ = each_below (1024 * length roots) (table_word roots unit.pages) in
    let d : List ℕ = replicate (1024 * options.frames) 0 in
    let la : length a ≡ 65536 = each_size 65536 (root_word roots) in
    let lb : length b ≡ 1024 * length roots = each_size (1024 * length roots) (table_word roots unit.pages) in
    let ab : length (a ++ b) ≡ length a + length b = length-append a b in
    let place : 1024 * (64 + length roots) + k ≡ length (a ++ b) + k = omega arith in
    ap (λ (i : ℕ). get_or (a ++ b ++ d) i 0) place
    ∙ get_or-append-add (a ++ b) d k 0
    ∙ get_or-replicate (1024 * options.frames) k 0 0 below

swap_size : (unit : Program) → length (swap_of unit) ≡ 1024 * length unit.pages
unfolding swap_of
swap_size unit = each_size (1024 * length unit.pages) (swap_word unit)

swap_get : (unit : Program) (k j : ℕ) (page : PageText) → slice_get unit.pages k ≡ Some page → j < 1024 → slice_index (swap_of unit) (k * 1024 + j) ≡ page_word unit.words page.page j
unfolding swap_of
swap_get unit k j page at below =
    let within : k < length unit.pages = slice_get_within unit.pages k page at in
    let inside : k * 1024 + j < 1024 * length unit.pages = omega arith in
    let above : (k * 1024 + j) / 1024 ≡ k = omega arith in
    let rest : (k * 1024 + j) % 1024 ≡ j = omega arith in
    each_get (1024 * length unit.pages) (swap_word unit) (k * 1024 + j) inside
    ∙ ap (λ (i : ℕ). page_word unit.words (slice_index (page_numbers unit.pages) i) ((k * 1024 + j) % 1024)) above
    ∙ ap (λ (i : ℕ). page_word unit.words (slice_index (page_numbers unit.pages) k) i) rest
    ∙ ap (λ (p : ℕ). page_word unit.words p j) (get_or-map page_key unit.pages k page 0 within ∙ ap page_key (get_or_from_slice_get unit.pages k page page at))

pub first_flat_reads : (unit : Program) (options : Options) → All IsPage unit.pages → IsFirstFlat unit options (opening_flat unit options)
first_flat_reads unit options small = record {
  pages = refl;
  frames = refl;
  roots = roots_of unit.pages;
  are_roots = roots_of_are unit.pages small;
  tables = refl;
  size = memory_size unit options;
  root = memory_root unit options;
  entry = memory_entry unit options;
  frame = memory_data unit options;
  swap_size = swap_size unit;
  swap = swap_get unit;
}
