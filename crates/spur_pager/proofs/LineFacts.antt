-- How many lines of a page there are: with each change of an entry not more than there were.
use Rattle.std.proofs.Common.{◌≡◌, ◌∙◌, ℕ, suc, ◌+◌, ◌*◌, ◌/◌, ◌%◌, ◌^◌, ◌<◌, ◌≤◌, ◌==◌, Bool, true, false, if◌then◌else◌, ap, sym, refl, List, [], ◌∷◌, get_or, length, slice_get, Option, Some, None, arith, zero-add}
use Rattle.std.specs.Option.{option_map}
use Rattle.std.proofs.lemmas.Bool.{eqb-true}
use Rattle.std.proofs.lemmas.List.{length-append}
use Rattle.std.proofs.lemmas.Option.{slice_get-get_or, slice_get-map}
use Rattle.spur_addr.specs.Address.{table_start, user_pages}
use Rattle.spur_cache.specs.declared.line.Line.{Line}
use Rattle.spur_cache.specs.Lines.{is_of_page, joined, line_at}
use Rattle.spur_flat.specs.declared.tag.Tag.{Tag}
use Rattle.spur_flat.specs.declared.entry.Entry.{Entry}
use Rattle.spur_flat.specs.declared.entry.Entry.TheVariants.{BlockFlush}
use Rattle.spur_flat.specs.TagLines as T
use Rattle.spur_bus.specs.Agrees.{Agrees}
use Rattle.spur_bus.specs.Boards.{line_in, line_of}
use Rattle.spur_bus.specs.Calls.{cache_tags, line_count, line_tag, tag_of, tags_of}
use Rattle.spur_walk.specs.Present.{MayWalk}
use Rattle.spur_walk.specs.Tables.{block_address}
use Rattle.spur_pager.specs.declared.change.Change.{Change}
use Rattle.spur_pager.specs.Acts.{Hold, flushes_from, flushes_in}
use Rattle.spur_pager.specs.Changes.{Changes}
use Rattle.spur_pager.specs.Fetch.{Leads, WasThere}
use Rattle.spur_pager.specs.Looks.{HasNoMoreLines}
use Rattle.spur_flat.specs.Past.{Past}
use Rattle.spur_pager.specs.Served.{hold_of}
use Rattle.spur_pager.specs.View.{View}

-- what stands at a place counts for a page: 1 where it is a line of the page
abbrev pub counts : ℕ → Option Line → ℕ
counts page None = 0
counts page (Some line) = if is_of_page page line then 1 else 0

if_length : {X : Type 0} (b : Bool) (x : X) (xs : List X) → length (if b then x ∷ xs else xs) ≡ (if b then 1 else 0) + length xs
if_length true x xs = omega arith
if_length false x xs = sym (zero-add (length xs))

pub one_more : (b i page : ℕ) (o : Option Line) (rest : List (Option Line)) → length (flushes_in b i page (o ∷ rest)) ≡ counts page o + length (flushes_in b i page rest)
one_more b i page None rest = sym (zero-add (length (flushes_in b i page rest)))
one_more b i page (Some line) rest = if_length (is_of_page page line) (BlockFlush b i (block_address line.tag)) (flushes_in b i page rest)

-- place by place no more: so it is in a cache, and in all of them
pub in_few : (b i c j page : ℕ) (ys xs : List (Option Line)) → ((s : ℕ) → counts page (line_at ys s) ≤ counts page (line_at xs s)) → length (flushes_in b i page ys) ≤ length (flushes_in c j page xs)
in_few b i c j page [] xs few = omega arith
in_few b i c j page (y ∷ ys) [] few =
    let one : length (flushes_in b i page (y ∷ ys)) ≡ counts page y + length (flushes_in b i page ys) = one_more b i page y ys in
    let here : counts page y ≤ 0 = few 0 in
    let rest : length (flushes_in b i page ys) ≤ 0 = in_few b i c j page ys [] (λ (s : ℕ). few (suc s)) in
    let r : length (flushes_in b i page (y ∷ ys)) ≤ 0 = omega arith in r
in_few b i c j page (y ∷ ys) (x ∷ xs) few =
    let one : length (flushes_in b i page (y ∷ ys)) ≡ counts page y + length (flushes_in b i page ys) = one_more b i page y ys in
    let was : length (flushes_in c j page (x ∷ xs)) ≡ counts page x + length (flushes_in c j page xs) = one_more c j page x xs in
    let here : counts page y ≤ counts page x = few 0 in
    let rest : length (flushes_in b i page ys) ≤ length (flushes_in c j page xs) = in_few b i c j page ys xs (λ (s : ℕ). few (suc s)) in
    let r : length (flushes_in b i page (y ∷ ys)) ≤ length (flushes_in c j page (x ∷ xs)) = omega arith in r

pub from_more : (b k page : ℕ) (lines : List (Option Line)) (rest : List (List (Option Line)))
    → length (flushes_from b k page (lines ∷ rest)) ≡ length (flushes_in b k page lines) + length (flushes_from b (k + 1) page rest)
from_more b k page lines rest = length-append (flushes_in b k page lines) (flushes_from b (k + 1) page rest)

pub from_few : (b k c l page : ℕ) (ys xs : List (List (Option Line))) → ((i s : ℕ) → counts page (line_in ys i s) ≤ counts page (line_in xs i s))
    → length (flushes_from b k page ys) ≤ length (flushes_from c l page xs)
from_few b k c l page [] xs few = omega arith
from_few b k c l page (y ∷ ys) [] few =
    let one : length (flushes_from b k page (y ∷ ys)) ≡ length (flushes_in b k page y) + length (flushes_from b (k + 1) page ys) = from_more b k page y ys in
    let here : length (flushes_in b k page y) ≤ 0 = in_few b k c l page y [] (λ (s : ℕ). few 0 s) in
    let rest : length (flushes_from b (k + 1) page ys) ≤ 0 = from_few b (k + 1) c (l + 1) page ys [] (λ (i s : ℕ). few (suc i) s) in
    let r : length (flushes_from b k page (y ∷ ys)) ≤ 0 = omega arith in r
from_few b k c l page (y ∷ ys) (x ∷ xs) few =
    let one : length (flushes_from b k page (y ∷ ys)) ≡ length (flushes_in b k page y) + length (flushes_from b (k + 1) page ys) = from_more b k page y ys in
    let was : length (flushes_from c l page (x ∷ xs)) ≡ length (flushes_in c l page x) + length (flushes_from c (l + 1) page xs) = from_more c l page x xs in
    let here : length (flushes_in b k page y) ≤ length (flushes_in c l page x) = in_few b k c l page y x (λ (s : ℕ). few 0 s) in
    let rest : length (flushes_from b (k + 1) page ys) ≤ length (flushes_from c (l + 1) page xs) = from_few b (k + 1) c (l + 1) page ys xs (λ (i s : ℕ). few (suc i) s) in
    let r : length (flushes_from b k page (y ∷ ys)) ≤ length (flushes_from c l page (x ∷ xs)) = omega arith in r

-- a place counts by its tag alone
counts_tag : (page : ℕ) (o p : Option Line) → line_tag o ≡ line_tag p → counts page o ≡ counts page p
counts_tag page None None same = refl
counts_tag page None (Some l) same = cc
counts_tag page (Some m) None same = cc
counts_tag page (Some m) (Some l) same =
    let tags : tag_of m ≡ tag_of l = cc in
    ap (λ (n : ℕ). if n / 128 == page then 1 else 0) (ap (λ (t : Tag). t.block) tags)

joined_tag : (o : Option (Option Line)) → T.joined (option_map line_tag o) ≡ line_tag (joined o)
joined_tag None = refl
joined_tag (Some o) = refl

abbrev tag_in_row : Option (List (Option Tag)) → ℕ → Option Tag
tag_in_row None s = None
tag_in_row (Some tags) s = T.joined (slice_get tags s)

row_tag : (o : Option (List (Option Line))) (s : ℕ) → tag_in_row (option_map cache_tags o) s ≡ line_tag (line_of o s)
row_tag None s = refl
row_tag (Some lines) s = ap T.joined (slice_get-map line_tag lines s) ∙ joined_tag (slice_get lines s)

tag_there : (caches : List (List (Option Line))) (i s : ℕ) → tag_in_row (slice_get (tags_of caches) i) s ≡ line_tag (line_in caches i s)
tag_there caches i s = ap (λ (o : Option (List (Option Tag))). tag_in_row o s) (slice_get-map cache_tags caches i) ∙ row_tag (slice_get caches i) s

same_tag : (after before : List (List (Option Line))) (i s : ℕ) → tags_of after ≡ tags_of before → line_tag (line_in after i s) ≡ line_tag (line_in before i s)
same_tag after before i s tags =
    sym (tag_there after i s) ∙ ap (λ (t : List (List (Option Tag))). tag_in_row (slice_get t i) s) tags ∙ tag_there before i s

-- the cache of a line, which has as many lines as each
pub record IsRow (caches : List (List (Option Line))) (i s : ℕ) (line : Line) : Type 0 where
  pub lines : List (Option Line)
  pub is : slice_get caches i ≡ Some lines
  pub there : line_at lines s ≡ Some line

row_in : (caches : List (List (Option Line))) (i s : ℕ) (line : Line) (o : Option (List (Option Line))) → slice_get caches i ≡ o → line_of o s ≡ Some line → IsRow caches i s line
row_in caches i s line None is there = cc
row_in caches i s line (Some lines) is there = record { lines = lines; is = is; there = there }

pub row : (caches : List (List (Option Line))) (i s : ℕ) (line : Line) → line_in caches i s ≡ Some line → IsRow caches i s line
row caches i s line there = row_in caches i s line (slice_get caches i) refl there

row_size : (caches : List (List (Option Line))) (i : ℕ) (lines : List (Option Line)) → Agrees caches → slice_get caches i ≡ Some lines → length lines ≡ line_count caches
row_size caches i lines agree is = agree.sizes i 0 lines (get_or caches 0 []) is (slice_get-get_or caches 0 [] agree.some_caches)

-- each line stands at the place that its block has
pub line_place : (caches : List (List (Option Line))) (i s : ℕ) (line : Line) → Agrees caches → line_in caches i s ≡ Some line → line.tag % line_count caches ≡ s
line_place caches i s line agree there =
    let r = row caches i s line there in
    let cache = agree.each i r.lines r.is in
    ap (λ (n : ℕ). line.tag % n) (sym (row_size caches i r.lines agree r.is)) ∙ cache.placed s line r.there

had : (page : ℕ) (o p : Option Line) → ((line : Line) → o ≡ Some line → is_of_page page line ≡ true → counts page p ≡ 1) → counts page o ≤ counts page p
had page None p h = omega arith
had page (Some line) p h = choose (is_of_page page line) refl
  where
    choose : (b : Bool) → is_of_page page line ≡ b → counts page (Some line) ≤ counts page p
    choose true is =
        let one : counts page (Some line) ≡ 1 = ap (λ (x : Bool). if x then 1 else 0) is in
        let was : counts page p ≡ 1 = h line refl is in
        let r : counts page (Some line) ≤ counts page p = omega arith in r
    choose false is =
        let one : counts page (Some line) ≡ 0 = ap (λ (x : Bool). if x then 1 else 0) is in
        let r : counts page (Some line) ≤ counts page p = omega arith in r

pub user_block : (tag page : ℕ) → page < user_pages → tag / 128 ≡ page → block_address tag < table_start
user_block tag page small is =
    let s : page < 255 * 2 ^ 18 = small in
    let r : tag * 2 ^ 5 < 255 * 2 ^ 30 = omega arith in r

-- each line after the steps towards an entry was there before, at its place
leads_counts : (b g : ℕ) (from to : Hold) (fetched : List Entry) (page i s : ℕ) → Leads b g from fetched to → MayWalk from.caches from.memory → page < user_pages
    → counts page (line_in to.caches i s) ≤ counts page (line_in from.caches i s)
leads_counts b g from to fetched page i s leads walk small =
    had page (line_in to.caches i s) (line_in from.caches i s) (λ (line : Line) (there : line_in to.caches i s ≡ Some line) (is : is_of_page page line ≡ true).
    let was : WasThere from.caches i line.tag = leads.user i s line there (user_block line.tag page small (eqb-true (line.tag / 128) page is)) in
    let here : line.tag % line_count to.caches ≡ s = line_place to.caches i s line leads.walk.agree there in
    let place : was.line.tag % line_count from.caches ≡ was.slot = line_place from.caches i was.slot was.line walk.agree was.there in
    let same : was.slot ≡ s = sym place ∙ ap (λ (n : ℕ). n % line_count from.caches) was.tag_is ∙ ap (λ (n : ℕ). line.tag % n) (sym leads.lines) ∙ here in
    ap (λ (n : ℕ). counts page (line_in from.caches i n)) (sym same) ∙ ap (counts page) was.there
    ∙ ap (λ (n : ℕ). if n / 128 == page then 1 else 0) was.tag_is ∙ ap (λ (x : Bool). if x then 1 else 0) is)

-- no page has more lines than before a change of an entry
pub changes_lines : (b g : ℕ) (change : Change) (w v : View) (before after : Past) → Changes b g change (hold_of w) before (hold_of v) after → MayWalk w.caches w.memory → HasNoMoreLines w v
changes_lines b g change w v before after c walk page small =
    from_few 0 0 0 0 page v.caches w.caches (λ (i s : ℕ).
    let tags : counts page (line_in v.caches i s) ≡ counts page (line_in c.mid.caches i s) =
    counts_tag page (line_in v.caches i s) (line_in c.mid.caches i s) (same_tag v.caches c.mid.caches i s c.writes.tags) in
    let few : counts page (line_in c.mid.caches i s) ≤ counts page (line_in w.caches i s) = leads_counts b g (hold_of w) c.mid c.fetched page i s c.leads walk small in
    let r : counts page (line_in v.caches i s) ≤ counts page (line_in w.caches i s) = omega arith in r)
