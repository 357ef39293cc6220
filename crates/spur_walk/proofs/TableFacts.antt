-- The words of entries, in the lines of their blocks, are those of the logical memory.
use Rattle.std.proofs.Common.{◌≡◌, ◌∙◌, ℕ, ◌+◌, ◌*◌, ◌/◌, ◌%◌, ◌^◌, ◌<◌, ◌≤◌, Bool, true, false, if◌then◌else◌, ap, sym, refl, subst, List, [], get_or, length, slice_index, Option, Some, None, arith}
use Rattle.std.specs.Prelude.{IsTrue}
use Rattle.std.proofs.lemmas.Nat.{shr-shr}
use Rattle.spur_addr.specs.Address.{block_of, block_start_of, entry_address_of, root_index_of, word_in_block_of, table_start, root_start}
use Rattle.spur_addr.specs.PageEntry.{is_valid, is_readable, number_of}
use Rattle.spur_cache.specs.declared.line.Line.{Line}
use Rattle.spur_cache.specs.Lines.{found, word_in}
use Rattle.spur_snoop.specs.declared.Need.{Need}
use Rattle.spur_flat.specs.declared.flat.Flat.{Flat}
use Rattle.spur_flat.specs.Blocks.{root_word_of, wired_frame}
use Rattle.spur_flat.specs.Pager.{word_of, or_zero}
use Rattle.spur_flat.specs.Table.{walk_of}
use Rattle.spur_bus.specs.Boards.{line_of_block}
use Rattle.spur_bus.specs.Agrees.{IsAt}
use Rattle.spur_bus.proofs.CallFacts.{is_here}
use Rattle.spur_bus.proofs.WordsFacts.{logical_index}
use Rattle.spur_walk.specs.Tables.{HasTablesOf, StandsIn, block_address, logical_flat, root_at, user_roots}
use Rattle.spur_walk.specs.Present.{MayWalk}
use Rattle.spur_walk.specs.Look.{look_of}
use Rattle.spur_walk.specs.Plan.{access_plan, cached_word, line_word, own_page_plan, own_plan, page_by, page_plan, plan_by, where_found}
use Rattle.spur_walk.proofs.FrameFacts.{stands_root, stands_table}

-- the address of an entry is one of the page table, and that of its root entry one of the root
pub entry_from : (at : ℕ) → table_start ≤ block_address (block_of (entry_address_of at))
entry_from at = let r : 255 * 2 ^ 30 ≤ (255 * 2 ^ 30 + 4 * (at / 2 ^ 12)) / 2 ^ 5 * 2 ^ 5 = omega arith in r

pub entry_to : (at : ℕ) → at < table_start → block_address (block_of (entry_address_of at)) < root_start
entry_to at user =
    let u : at < 255 * 2 ^ 30 = user in
    let r : (255 * 2 ^ 30 + 4 * (at / 2 ^ 12)) / 2 ^ 5 * 2 ^ 5 < 255 * 2 ^ 30 + 255 * 2 ^ 20 = omega arith in r

pub entry_low : (at : ℕ) → at < table_start → entry_address_of at < root_start
entry_low at user =
    let u : at < 255 * 2 ^ 30 = user in
    let r : 255 * 2 ^ 30 + 4 * (at / 2 ^ 12) < 255 * 2 ^ 30 + 255 * 2 ^ 20 = omega arith in r

pub root_is : (at : ℕ) → entry_address_of (entry_address_of at) ≡ root_start + 4 * (at / 2 ^ 22)
root_is at =
    let a : at / 2 ^ 12 / 2 ^ 10 ≡ at / 2 ^ 22 = shr-shr at 12 10 in
    let r : 255 * 2 ^ 30 + 4 * ((255 * 2 ^ 30 + 4 * (at / 2 ^ 12)) / 2 ^ 12) ≡ 255 * 2 ^ 30 + 255 * 2 ^ 20 + 4 * (at / 2 ^ 22) = omega arith in r

pub root_from : (at : ℕ) → root_start ≤ entry_address_of (entry_address_of at)
root_from at = let e : entry_address_of (entry_address_of at) ≡ root_start + 4 * (at / 2 ^ 22) = root_is at in omega arith

pub root_to : (at : ℕ) → at < table_start → entry_address_of (entry_address_of at) < root_start + 2 ^ 18
root_to at user =
    let u : at < 255 * 2 ^ 30 = user in
    let e : entry_address_of (entry_address_of at) ≡ 255 * 2 ^ 30 + 255 * 2 ^ 20 + 4 * (at / 2 ^ 22) = root_is at in
    let h : at / 2 ^ 22 < 255 * 2 ^ 8 = omega arith in
    subst (λ (n : ℕ). n < root_start + 2 ^ 18) (sym e) (omega arith)

pub index_small : (at : ℕ) → at < table_start → root_index_of at < user_roots
index_small at user = let u : at < 255 * 2 ^ 30 = user in let r : at / 2 ^ 22 < 255 * 2 ^ 8 = omega arith in r

-- the root entry for the address of an entry, or for the first byte of its block
pub root_word_is : (at : ℕ) → at < table_start → root_word_of (entry_address_of at) ≡ root_index_of at
root_word_is at user =
    let u : at < 255 * 2 ^ 30 = user in
    let a : at / 2 ^ 12 / 2 ^ 10 ≡ at / 2 ^ 22 = shr-shr at 12 10 in
    let r : (255 * 2 ^ 30 + 4 * (at / 2 ^ 12)) / 2 ^ 12 % 2 ^ 16 ≡ at / 2 ^ 22 = omega arith in r

pub page_start : (g : ℕ) → block_start_of g / 2 ^ 12 ≡ g / 2 ^ 12
page_start g =
    let a : g / 2 ^ 5 / 2 ^ 7 ≡ g / 2 ^ 12 = shr-shr g 5 7 in
    let r : g / 2 ^ 5 * 2 ^ 5 / 2 ^ 12 ≡ g / 2 ^ 12 = omega arith in r

pub root_word_start : (g : ℕ) → root_word_of (block_start_of g) ≡ root_word_of g
root_word_start g = ap (λ (n : ℕ). n % 2 ^ 16) (page_start g)

pub wired_start : (g : ℕ) → wired_frame (block_start_of g) ≡ wired_frame g
wired_start g = ap (λ (n : ℕ). n % 2 ^ 6) (page_start g)

pub root_start_same : (g : ℕ) → block_start_of g / 2 ^ 22 ≡ g / 2 ^ 22
root_start_same g =
    let a : g / 2 ^ 12 / 2 ^ 10 ≡ g / 2 ^ 22 = shr-shr g 12 10 in
    let b : block_start_of g / 2 ^ 12 / 2 ^ 10 ≡ block_start_of g / 2 ^ 22 = shr-shr (block_start_of g) 12 10 in
    sym b ∙ ap (λ (n : ℕ). n / 2 ^ 10) (page_start g) ∙ a

abbrev pub walk_in : Flat → ℕ → ℕ → Option ℕ
walk_in F r p = if is_valid (slice_index F.words r) then Some (slice_index F.words (number_of (slice_index F.words r) * 1024 + p % 1024)) else None

-- the entry of a page is found from each of its blocks
pub walk_start : (F : Flat) (g : ℕ) → walk_of F (block_start_of g) ≡ walk_of F g
walk_start F g = ap (λ (n : ℕ). walk_in F n (block_start_of g / 2 ^ 12)) (root_start_same g) ∙ ap (λ (n : ℕ). walk_in F (g / 2 ^ 22) n) (page_start g)

pub word_start : (F : Flat) (g : ℕ) → word_of F (block_start_of g) ≡ word_of F g
word_start F g = ap or_zero (walk_start F g)

-- a flat state with the same tables has the same entries
same_in : (F L : Flat) (r p : ℕ) (v : Bool) → HasTablesOf F L.words → r < 2 ^ 16 → is_valid (slice_index L.words r) ≡ v → walk_in F r p ≡ walk_in L r p
same_in F L r p true has small valid =
    ap (λ (w : ℕ). if is_valid w then Some (slice_index F.words (number_of w * 1024 + p % 1024)) else None) (has.root r small)
    ∙ ap (λ (w : ℕ). if is_valid (slice_index L.words r) then Some w else None) (has.table r (p % 1024) small (omega arith) valid)
same_in F L r p false has small valid =
    ap (λ (w : ℕ). if is_valid w then Some (slice_index F.words (number_of w * 1024 + p % 1024)) else None) (has.root r small)
    ∙ ap (λ (b : Bool). if b then Some (slice_index F.words (number_of (slice_index L.words r) * 1024 + p % 1024)) else None) valid
    ∙ sym (ap (λ (b : Bool). if b then Some (slice_index L.words (number_of (slice_index L.words r) * 1024 + p % 1024)) else None) valid)

pub same_walk : (F L : Flat) (at : ℕ) → HasTablesOf F L.words → at < table_start → walk_of F at ≡ walk_of L at
same_walk F L at has user = let u : at < 255 * 2 ^ 30 = user in same_in F L (at / 2 ^ 22) (at / 2 ^ 12) (is_valid (slice_index L.words (at / 2 ^ 22))) has (omega arith) refl

pub same_word : (F L : Flat) (at : ℕ) → HasTablesOf F L.words → at < table_start → word_of F at ≡ word_of L at
same_word F L at has user = ap or_zero (same_walk F L at has user)

pub has_own : (L : Flat) → HasTablesOf L L.words
has_own L = record { root = λ (r : ℕ) (small : r < 2 ^ 16). refl; table = λ (r k : ℕ) (small : r < 2 ^ 16) (within : k < 1024) (valid : is_valid (slice_index L.words r) ≡ true). refl }

-- a line of the block of an entry has its word
walked : (F : Flat) (at w : ℕ) → is_valid (root_at F at) ≡ true → slice_index F.words (number_of (root_at F at) * 1024 + at / 2 ^ 12 % 1024) ≡ w → word_of F at ≡ w
walked F at w valid is = ap (λ (b : Bool). or_zero (if b then Some (slice_index F.words (number_of (root_at F at) * 1024 + at / 2 ^ 12 % 1024)) else None)) valid ∙ is

pub entry_word : (caches : List (List (Option Line))) (memory : List ℕ) (b at : ℕ) (line : Line) → MayWalk caches memory → b < length caches → at < table_start
    → line_of_block caches b (entry_address_of at) ≡ Some line → word_of (logical_flat caches memory) at ≡ slice_index line.words (word_in_block_of (entry_address_of at))
entry_word caches memory b at line may within user is =
    let F : Flat = logical_flat caches memory in
    let here = is_here caches b (entry_address_of at) line within is in
    let stands : StandsIn F (block_of (entry_address_of at)) line.frame = subst (λ (n : ℕ). StandsIn F n line.frame) here.tag (may.mapped b here.slot line here.there) in
    let table = stands_table F (block_of (entry_address_of at)) line.frame stands (entry_from at) (entry_to at user) in
    let index : root_word_of (block_address (block_of (entry_address_of at))) ≡ root_index_of at = root_word_start (entry_address_of at) ∙ root_word_is at user in
    let valid : is_valid (root_at F at) ≡ true = ap (λ (n : ℕ). is_valid (slice_index F.words n)) (sym index) ∙ table.valid in
    let frame : number_of (root_at F at) ≡ line.frame = ap (λ (n : ℕ). number_of (slice_index F.words n)) (sym index) ∙ table.number in
    let k : ℕ = line.frame * 1024 + at / 2 ^ 12 % 1024 in
    let room : line.frame * 1024 + 1024 ≤ length memory = may.serves.within b here.slot line here.there in
    let tag : line.tag ≡ (255 * 2 ^ 30 + 4 * (at / 2 ^ 12)) / 2 ^ 5 = here.tag in
    let at_line : IsAt k line = record { frame = omega arith; position = omega arith } in
    let word : k % 8 ≡ word_in_block_of (entry_address_of at) = omega arith in
    walked F at (slice_index line.words (word_in_block_of (entry_address_of at))) valid
    (ap (λ (n : ℕ). slice_index F.words (n * 1024 + at / 2 ^ 12 % 1024)) frame
    ∙ logical_index caches memory k (omega arith)
    ∙ sym (may.serves.words b here.slot k line here.there at_line)
    ∙ ap (slice_index line.words) word)

-- and one of the block of a root entry
pub root_word : (caches : List (List (Option Line))) (memory : List ℕ) (b at : ℕ) (line : Line) → MayWalk caches memory → b < length caches → at < table_start
    → line_of_block caches b (entry_address_of (entry_address_of at)) ≡ Some line → root_at (logical_flat caches memory) at ≡ slice_index line.words (word_in_block_of (entry_address_of (entry_address_of at)))
root_word caches memory b at line may within user is =
    let F : Flat = logical_flat caches memory in
    let root : ℕ = entry_address_of (entry_address_of at) in
    let here = is_here caches b root line within is in
    let stands : StandsIn F (block_of root) line.frame = subst (λ (n : ℕ). StandsIn F n line.frame) here.tag (may.mapped b here.slot line here.there) in
    let u : at < 255 * 2 ^ 30 = user in
    let root_eq : root ≡ 255 * 2 ^ 30 + 255 * 2 ^ 20 + 4 * (at / 2 ^ 22) = root_is at in
    let from : root_start ≤ block_address (block_of root) = subst (λ (n : ℕ). root_start ≤ block_address (block_of n)) (sym root_eq) (root_block_from (at / 2 ^ 22)) in
    let frame : line.frame ≡ wired_frame root = stands_root F (block_of root) line.frame stands from ∙ wired_start root in
    let room : line.frame * 1024 + 1024 ≤ length memory = may.serves.within b here.slot line here.there in
    let k : ℕ = at / 2 ^ 22 in
    let small : k < 255 * 2 ^ 8 = omega arith in
    let frame_is : line.frame ≡ (255 * 2 ^ 30 + 255 * 2 ^ 20 + 4 * k) / 2 ^ 12 % 2 ^ 6 = frame ∙ ap (λ (n : ℕ). n / 2 ^ 12 % 2 ^ 6) root_eq in
    let tag : line.tag ≡ (255 * 2 ^ 30 + 255 * 2 ^ 20 + 4 * k) / 2 ^ 5 = here.tag ∙ ap (λ (n : ℕ). n / 2 ^ 5) root_eq in
    let at_line : IsAt k line = root_at_line k line small frame_is tag in
    let word : k % 8 ≡ word_in_block_of root = root_in_block k ∙ ap (λ (n : ℕ). n / 2 ^ 2 % 8) (sym root_eq) in
    let in_frame : k / 1024 ≡ line.frame = at_line.frame in
    logical_index caches memory k (omega arith) ∙ sym (may.serves.words b here.slot k line here.there at_line) ∙ ap (slice_index line.words) word
  where
    root_block_from : (k : ℕ) → root_start ≤ block_address (block_of (255 * 2 ^ 30 + 255 * 2 ^ 20 + 4 * k))
    root_block_from k = let r : 255 * 2 ^ 30 + 255 * 2 ^ 20 ≤ (255 * 2 ^ 30 + 255 * 2 ^ 20 + 4 * k) / 2 ^ 5 * 2 ^ 5 = omega arith in r

    root_at_line : (k : ℕ) (line : Line) → k < 255 * 2 ^ 8 → line.frame ≡ (255 * 2 ^ 30 + 255 * 2 ^ 20 + 4 * k) / 2 ^ 12 % 2 ^ 6 → line.tag ≡ (255 * 2 ^ 30 + 255 * 2 ^ 20 + 4 * k) / 2 ^ 5 → IsAt k line
    root_at_line k line small frame tag = record { frame = omega arith; position = omega arith }

    root_in_block : (k : ℕ) → k % 8 ≡ (255 * 2 ^ 30 + 255 * 2 ^ 20 + 4 * k) / 2 ^ 2 % 8
    root_in_block k = omega arith

-- so the plan by the words of the board's own cache is that by the tables
held_where : (o : Option Line) (g word : ℕ) → ((line : Line) → o ≡ Some line → word ≡ slice_index line.words (word_in_block_of g)) → line_word o g ≡ where_found o word
held_where None g word h = refl
held_where (Some line) g word h = ap (λ (n : ℕ). Some n) (sym (h line refl))

pub entry_held : (caches : List (List (Option Line))) (memory : List ℕ) (b at : ℕ) → MayWalk caches memory → b < length caches → at < table_start
    → cached_word (get_or caches b []) (entry_address_of at) ≡ where_found (found (get_or caches b []) (entry_address_of at)) (word_of (logical_flat caches memory) at)
entry_held caches memory b at may within user =
    held_where (found (get_or caches b []) (entry_address_of at)) (entry_address_of at) (word_of (logical_flat caches memory) at)
    (λ (line : Line) (is : found (get_or caches b []) (entry_address_of at) ≡ Some line). entry_word caches memory b at line may within user is)

pub root_held : (caches : List (List (Option Line))) (memory : List ℕ) (b at : ℕ) → MayWalk caches memory → b < length caches → at < table_start
    → cached_word (get_or caches b []) (entry_address_of (entry_address_of at)) ≡ where_found (found (get_or caches b []) (entry_address_of (entry_address_of at))) (root_at (logical_flat caches memory) at)
root_held caches memory b at may within user =
    held_where (found (get_or caches b []) (entry_address_of (entry_address_of at))) (entry_address_of (entry_address_of at)) (root_at (logical_flat caches memory) at)
    (λ (line : Line) (is : found (get_or caches b []) (entry_address_of (entry_address_of at)) ≡ Some line). root_word caches memory b at line may within user is)

pub own_is : (caches : List (List (Option Line))) (memory : List ℕ) (b at : ℕ) (need : Need) → MayWalk caches memory → b < length caches → at < table_start
    → own_plan (get_or caches b []) at need ≡ access_plan caches memory b at need
own_is caches memory b at need may within user =
    let own : List (Option Line) = get_or caches b [] in
    ap (λ (e : Option ℕ). plan_by own at need e (cached_word own (entry_address_of (entry_address_of at))) (look_of (found own at) need)) (entry_held caches memory b at may within user)
    ∙ ap (λ (r : Option ℕ). plan_by own at need (where_found (found own (entry_address_of at)) (word_of (logical_flat caches memory) at)) r (look_of (found own at) need)) (root_held caches memory b at may within user)

pub own_page_is : (caches : List (List (Option Line))) (memory : List ℕ) (b page : ℕ) → MayWalk caches memory → b < length caches → page < table_start
    → own_page_plan (get_or caches b []) page ≡ page_plan caches memory b page
own_page_is caches memory b page may within user =
    ap (λ (r : Option ℕ). page_by (get_or caches b []) page r (found (get_or caches b []) (entry_address_of page))) (root_held caches memory b page may within user)

-- and they are readable
readable_in : (o : Option Line) (g word : ℕ) → IsTrue (is_readable word) → ((line : Line) → o ≡ Some line → word ≡ slice_index line.words (word_in_block_of g)) → IsTrue (is_readable (word_in o g))
readable_in None g word is h = refl
readable_in (Some line) g word is h = subst (λ (n : ℕ). IsTrue (is_readable n)) (h line refl) is

pub entry_readable : (caches : List (List (Option Line))) (memory : List ℕ) (b at : ℕ) → MayWalk caches memory → b < length caches → at < table_start
    → IsTrue (is_readable (word_in (found (get_or caches b []) (entry_address_of at)) (entry_address_of at)))
entry_readable caches memory b at may within user =
    readable_in (found (get_or caches b []) (entry_address_of at)) (entry_address_of at) (word_of (logical_flat caches memory) at) (may.tables.readable at user)
    (λ (line : Line) (is : found (get_or caches b []) (entry_address_of at) ≡ Some line). entry_word caches memory b at line may within user is)

pub root_readable : (caches : List (List (Option Line))) (memory : List ℕ) (b at : ℕ) → MayWalk caches memory → b < length caches → at < table_start
    → IsTrue (is_readable (word_in (found (get_or caches b []) (entry_address_of (entry_address_of at))) (entry_address_of (entry_address_of at))))
root_readable caches memory b at may within user =
    readable_in (found (get_or caches b []) (entry_address_of (entry_address_of at))) (entry_address_of (entry_address_of at)) (root_at (logical_flat caches memory) at) (may.tables.root_readable (root_index_of at) (index_small at user))
    (λ (line : Line) (is : found (get_or caches b []) (entry_address_of (entry_address_of at)) ≡ Some line). root_word caches memory b at line may within user is)
