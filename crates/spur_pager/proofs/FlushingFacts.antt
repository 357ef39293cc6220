-- A leaving page is flushed, line by line.
use Rattle.std.proofs.Common.{◌≡◌, ◌≢◌, ◌∙◌, ℕ, zero, suc, ◌+◌, ◌*◌, ◌/◌, ◌<◌, ◌≤◌, ◌^◌, ◌&&◌, ⊎_elim, Bool, if◌then◌else◌, ap, sym, refl, subst, List, [], ◌∷◌, ◌++◌, get_or, length, map, slice_set, Option, Some, None, arith, zero-add}
use Rattle.std.proofs.Math.Seq.{map-set_same}
use Rattle.std.proofs.lemmas.Bool.{cases_eq, eq-eqb, eqb-true, ne_eqb}
use Rattle.std.proofs.lemmas.List.{append-nil, append_assoc, get_or-set_other, get_or-set_same, length-append}
use Rattle.std.proofs.lemmas.Option.{slice_get-get_or}
use Rattle.spur_addr.specs.Address.{block_of, block_start_of, page_of, table_start, page_address}
use Rattle.spur_addr.specs.PageEntry.{is_leaving, is_valid}
use Rattle.spur_cache.specs.declared.line.Line.{Line}
use Rattle.spur_cache.specs.Lines.{IsCache, line_at, page_lines_from, set_found, index_of, tagged, with_state}
use Rattle.spur_snoop.specs.declared.BlockState.TheVariants.{Invalid}
use Rattle.spur_flat.specs.declared.flat.Flat.{Flat}
use Rattle.spur_flat.specs.declared.entry.Entry.{Entry}
use Rattle.spur_flat.specs.declared.entry.Entry.TheVariants.{BlockFlush}
use Rattle.spur_flat.specs.Pager.{word_of}
use Rattle.spur_snoop.specs.Protocol.{is_alive}
use Rattle.spur_bus.specs.Boards.{dropped, dropped_lines, line_in, line_of_block}
use Rattle.spur_bus.specs.Calls.{HasLine, flushed}
use Rattle.spur_bus.proofs.EachFacts.{set_each}
use Rattle.spur_bus.proofs.LineFacts.{tagged_there}
use Rattle.spur_walk.specs.Tables.{block_address}
use Rattle.spur_walk.proofs.FillFacts.{alive}
use Rattle.spur_walk.proofs.PlanFacts.{block_again}
use Rattle.spur_walk.proofs.StepFacts.{same_flat}
use Rattle.spur_pager.specs.View.{View}
use Rattle.spur_pager.specs.Stand.{CarriesOn, IsServable, Stands, entry_in, flat_in}
use Rattle.spur_pager.specs.Acts.{Flushed, Flushes, Hold, IsDone, NoAct, flushed_all, flushed_hold, flushes_from, without_page}
use Rattle.spur_pager.specs.Room.{page_line_count}
use Rattle.spur_flat.specs.Formed.{IsMade}
use Rattle.spur_pager.specs.Served.{hold_of}
use Rattle.spur_pager.specs.Drops.{DropsBlock, FlushesPage, IsLeavingBlock, IsLeavingPage}
use Rattle.spur_pager.specs.Flushes.{AreFlushed, IsFlushing, places_in}
use Rattle.spur_pager.proofs.FetchFacts.{hold_same}
use Rattle.spur_pager.proofs.FlushFacts.{IsFirst, all_entries, all_memory, count_from, first_line, no_entries, no_memory, no_without, none_there}
use Rattle.spur_pager.proofs.JoinFacts.{carried_then, keeps_then, carried_none}
use Rattle.spur_pager.proofs.MadeFacts.{made_then}
use Rattle.spur_pager.proofs.LineFacts.{user_block}
use Rattle.spur_pager.proofs.PlaceFacts.{word_page}

-- A page may be flushed: the state stands, the page is leaving, and there is room for its flushes.
pub record MayFlush (page : ℕ) (w : View) : Type 0 where
  pub stands : IsServable w
  pub leaving : IsLeavingPage w page
  pub room : page_line_count w.caches page ≤ w.room

-- and still so after some lines of it were flushed
pub may_still : (b page : ℕ) (w u : View) → MayFlush page w → IsFlushing b page w u → MayFlush page u
may_still b page w u m f =
    let same : entry_in u page ≡ entry_in w page = ap (λ (F : Flat). word_of F (page_address page)) (same_flat w.caches u.caches w.memory u.memory f.logical) in
    let spare : page_line_count w.caches page ≤ w.room = m.room in
    let used : u.room + length f.piece ≡ w.room = f.room in
    let all : length (flushes_from b 0 page w.caches) ≡ page_line_count w.caches page = count_from b 0 0 0 page w.caches in
    let left : length (flushes_from b 0 page u.caches) ≡ page_line_count u.caches page = count_from b 0 0 0 page u.caches in
    let split : length (flushes_from b 0 page w.caches) ≡ length f.piece + length (flushes_from b 0 page u.caches) =
    ap (λ (es : List Entry). length es) f.entries ∙ length-append f.piece (flushes_from b 0 page u.caches) in
    record {
      stands = record { rest = m.stands.rest; stands = (f.carries m.stands.rest m.stands.stands).stands };
      leaving = record { small = m.leaving.small; valid = ap is_valid same ∙ m.leaving.valid; leaving = ap is_leaving same ∙ m.leaving.leaving };
      room = omega arith;
    }

-- nothing was flushed yet
pub flushing_none : (b page : ℕ) (w : View) → IsFlushing b page w w
flushing_none b page w = record {
  piece = [];
  history = sym (append-nil w.history);
  room = omega arith;
  made = tt;
  entries = refl;
  caches = refl;
  memory = refl;
  logical = refl;
  keeps = record { boards = refl; lines = refl; memory = refl; slots = refl; tells = refl; ahead = refl };
  carries = λ (rest : Flat) (st : Stands rest w). record { carried = carried_none rest w w refl; stands = st };
}

-- some lines, and then some more
pub flushing_then : (b page : ℕ) (w u v : View) → IsFlushing b page w u → IsFlushing b page u v → IsFlushing b page w v
flushing_then b page w u v r s =
    let ru : u.room + length r.piece ≡ w.room = r.room in
    let sv : v.room + length s.piece ≡ u.room = s.room in
    let long : length (r.piece ++ s.piece) ≡ length r.piece + length s.piece = length-append r.piece s.piece in
    record {
      piece = r.piece ++ s.piece;
      history = s.history ∙ ap (λ (es : List Entry). es ++ s.piece) r.history ∙ append_assoc w.history r.piece s.piece;
      room = omega arith;
      made = made_then b w u r.piece s.piece r.keeps r.made s.made;
      entries = r.entries ∙ ap (λ (es : List Entry). r.piece ++ es) s.entries ∙ sym (append_assoc r.piece s.piece (flushes_from b 0 page v.caches));
      caches = s.caches ∙ r.caches;
      memory = s.memory ∙ r.memory;
      logical = s.logical ∙ r.logical;
      keeps = keeps_then w u v r.keeps s.keeps;
      carries = λ (rest : Flat) (st : Stands rest w).
          let one = r.carries rest st in
          let two = s.carries rest one.stands in
          record { carried = carried_then rest w u v r.piece s.piece r.keeps one.carried two.carried; stands = two.stands };
    }

-- one line: the first of the page in cache `holder`, before which no cache has any

pub start_same : (tag : ℕ) → block_start_of (block_address tag) ≡ block_address tag
start_same tag = let r : tag * 2 ^ 5 / 2 ^ 5 * 2 ^ 5 ≡ tag * 2 ^ 5 = omega arith in r

-- what is known of it
pub record IsNext (page holder : ℕ) (u : View) (number : ℕ) (rest : List ℕ) : Type 0 where
  pub first : IsFirst page 0 (get_or u.caches holder []) number rest
  pub there : line_at (get_or u.caches holder []) number ≡ Some first.line
  pub place : index_of (get_or u.caches holder []) (block_of (block_address first.line.tag)) ≡ first.slot
  pub found_is : line_of_block u.caches holder (block_address first.line.tag) ≡ Some first.line
  pub has : HasLine u.caches holder (block_address first.line.tag) is_alive
  pub leaving : IsLeavingBlock u (block_address first.line.tag)
  pub room : 1 ≤ u.room
  pub more : 1 ≤ page_line_count u.caches page

pub next_line : (page holder : ℕ) (u : View) (number : ℕ) (rest : List ℕ) → MayFlush page u → holder < length u.caches → AreFlushed u.caches holder page → places_in u.caches holder page ≡ number ∷ rest
    → IsNext page holder u number rest
next_line page holder u number rest m within before places =
    let lines : List (Option Line) = get_or u.caches holder [] in
    let first : IsFirst page 0 lines number rest = first_line page 0 lines number rest places in
    let line : Line = first.line in
    let g : ℕ = block_address line.tag in
    let slot_is : first.slot ≡ number = sym (zero-add first.slot) ∙ first.place in
    let cache : IsCache lines = m.stands.stands.walk.agree.each holder lines (slice_get-get_or u.caches holder [] within) in
    let place : index_of lines (block_of g) ≡ first.slot = ap (index_of lines) (block_again line.tag) ∙ cache.placed first.slot line first.there in
    let found_is : line_of_block u.caches holder g ≡ Some line =
    ap (λ (n : ℕ). tagged (block_of g) (line_at lines n)) place ∙ ap (tagged (block_of g)) first.there ∙ tagged_there (block_of g) line (sym (block_again line.tag)) in
    let of_page : line.tag / 128 ≡ page = eqb-true (line.tag / 128) page first.of_page in
    let entry : word_of (flat_in u) (block_start_of g) ≡ entry_in u page = word_page (flat_in u) (block_start_of g) (page_address page) (page_same line.tag page of_page) in
    let all : flushes_from 0 0 page u.caches ≡ BlockFlush 0 (0 + holder) g ∷ flushes_from 0 0 page (slice_set u.caches holder (slice_set lines first.slot None)) =
    all_entries 0 0 page g u.caches holder (slice_set lines first.slot None) within before (first.entries 0) in
    let spare : page_line_count u.caches page ≤ u.room = m.room in
    record {
      first = first;
      there = ap (line_at lines) (sym slot_is) ∙ first.there;
      place = place;
      found_is = found_is;
      has = record { line = line; there = found_is; passes = alive line.state (cache.held first.slot line first.there).valid };
      leaving = record {
        user = user_block line.tag page m.leaving.small of_page;
        leaving = ap (λ (e : ℕ). is_valid e && is_leaving e) entry ∙ ap (λ (t : Bool). t && is_leaving (entry_in u page)) m.leaving.valid ∙ m.leaving.leaving;
      };
      room = some_room (page_line_count u.caches page) (length (flushes_from 0 0 page (slice_set u.caches holder (slice_set lines first.slot None)))) u.room (ap (λ (es : List Entry). length es) all) spare;
      more = some_more (page_line_count u.caches page) (length (flushes_from 0 0 page (slice_set u.caches holder (slice_set lines first.slot None)))) (ap (λ (es : List Entry). length es) all);
    }
  where
    page_same : (tag page : ℕ) → tag / 128 ≡ page → page_of (block_start_of (block_address tag)) ≡ page_of (page_address page)
    page_same tag page is = let r : tag * 2 ^ 5 / 2 ^ 5 * 2 ^ 5 / 2 ^ 12 ≡ page * 2 ^ 12 / 2 ^ 12 = omega arith in r

    some_room : (all others room : ℕ) → all ≡ suc others → all ≤ room → 1 ≤ room
    some_room all others room is enough = omega arith

    some_more : (all others : ℕ) → all ≡ suc others → 1 ≤ all
    some_more all others is = omega arith

-- the caches without it
dropped_is : (page holder : ℕ) (u : View) (number : ℕ) (rest : List ℕ) → holder < length u.caches → (n : IsNext page holder u number rest)
    → dropped u.caches holder (block_address n.first.line.tag) ≡ slice_set u.caches holder (slice_set (get_or u.caches holder []) n.first.slot None)
dropped_is page holder u number rest within n =
    let lines : List (Option Line) = get_or u.caches holder [] in
    let g : ℕ = block_address n.first.line.tag in
    let news : List (Option Line) = slice_set lines n.first.slot None in
    let without : with_state lines g Invalid ≡ news =
    ap (λ (o : Option Line). set_found lines (index_of lines (block_of g)) Invalid o) n.found_is ∙ ap (λ (s : ℕ). slice_set lines s None) n.place in
    let mine : news ≡ dropped_lines holder g (0 + holder) lines =
    sym (ap (λ (t : Bool). if t then with_state lines g Invalid else lines) (eq-eqb (0 + holder) holder (zero-add holder)) ∙ without) in
    sym (set_each (dropped_lines holder g) 0 u.caches holder [] news within mine
    (λ (j : ℕ) (x : List (Option Line)) (apart : j ≢ 0 + holder).
    ap (λ (t : Bool). if t then with_state x g Invalid else x) (ne_eqb j holder (λ (e : j ≡ holder). apart (e ∙ sym (zero-add holder))))))

-- it was flushed: the others of the cache are left, and no cache before has any
pub record IsGone (b page holder : ℕ) (u v : View) (rest : List ℕ) : Type 0 where
  pub flushing : IsFlushing b page u v
  pub before : AreFlushed v.caches holder page
  pub left : places_in v.caches holder page ≡ rest

pub line_gone : (b page holder : ℕ) (u v : View) (number : ℕ) (rest : List ℕ) → holder < length u.caches → AreFlushed u.caches holder page → (n : IsNext page holder u number rest)
    → DropsBlock b holder (block_address n.first.line.tag) u v → IsGone b page holder u v rest
line_gone b page holder u v number rest within before n d =
    let lines : List (Option Line) = get_or u.caches holder [] in
    let line : Line = n.first.line in
    let g : ℕ = block_address line.tag in
    let news : List (Option Line) = slice_set lines n.first.slot None in
    let after : List (List (Option Line)) = slice_set u.caches holder news in
    let caches : v.caches ≡ after = d.caches ∙ dropped_is page holder u number rest within n in
    let used : v.room + 1 ≡ u.room = d.room in
    record {
      flushing = record {
        piece = BlockFlush b holder g ∷ [];
        history = d.history ∙ ap (λ (at : ℕ). u.history ++ BlockFlush b holder at ∷ []) (start_same line.tag);
        room = used;
        made = (subst (λ (at : ℕ). IsMade b (length u.caches) (BlockFlush b holder at)) (start_same line.tag) d.made, tt);
        entries = all_entries b 0 page g u.caches holder news within before (n.first.entries b)
            ∙ ap (λ (i : ℕ). BlockFlush b i g ∷ flushes_from b 0 page after) (zero-add holder)
            ∙ ap (λ (cs : List (List (Option Line))). BlockFlush b holder g ∷ flushes_from b 0 page cs) (sym caches);
        caches = ap (map (without_page page)) caches ∙ map-set_same (without_page page) u.caches holder news [] n.first.without;
        memory = ap (flushed_all page v.memory) caches
            ∙ ap (λ (m : List ℕ). flushed_all page m after) (d.memory ∙ ap (flushed u.memory g) n.found_is)
            ∙ sym (all_memory page u.memory (flushed u.memory g (Some line)) u.caches holder news within before (n.first.memory u.memory));
        logical = d.logical;
        keeps = d.keeps;
        carries = λ (rest : Flat) (st : Stands rest u). subst (λ (at : ℕ). CarriesOn rest u v (BlockFlush b holder at ∷ [])) (start_same line.tag) (d.carries rest st);
      };
      before = λ (i : ℕ) (low : i < holder).
          ap (λ (cs : List (List (Option Line))). page_lines_from page 0 (get_or cs i [])) caches
          ∙ ap (page_lines_from page 0) (get_or-set_other u.caches holder i news [] (λ (e : i ≡ holder). omega arith)) ∙ before i low;
      left = ap (λ (cs : List (List (Option Line))). page_lines_from page 0 (get_or cs holder [])) caches
          ∙ ap (page_lines_from page 0) (get_or-set_same u.caches holder news [] within) ∙ n.first.places;
    }

-- one cache more has no line of the page
pub one_more : (page holder : ℕ) (caches : List (List (Option Line))) → AreFlushed caches holder page → places_in caches holder page ≡ [] → AreFlushed caches (holder + 1) page
one_more page holder caches before here i low = ⊎_elim
    (λ (e : i ≡ holder). ap (λ (n : ℕ). places_in caches n page) e ∙ here)
    (λ (apart : i ≢ holder). before i (omega arith))
    (cases_eq i holder)

-- no cache has one

unheld_in : (page : ℕ) (caches : List (List (Option Line))) → AreFlushed caches (length caches) page → (i s : ℕ) (line : Line) → line_in caches i s ≡ Some line → line.tag / 128 ≢ page
unheld_in page [] none i s line there = cc
unheld_in page (lines ∷ cs) none zero s line there = none_there page 0 lines s line (none 0 (omega arith)) there
unheld_in page (lines ∷ cs) none (suc i) s line there = unheld_in page cs (λ (j : ℕ) (low : j < length cs). none (suc j) (omega arith)) i s line there

pub page_flushed : (b page : ℕ) (w v : View) → IsFlushing b page w v → AreFlushed v.caches (length v.caches) page → FlushesPage b page w v
page_flushed b page w v f none =
    let piece_is : flushes_from b 0 page w.caches ≡ f.piece = f.entries ∙ ap (λ (es : List Entry). f.piece ++ es) (no_entries b 0 page v.caches none) ∙ append-nil f.piece in
    let hold : flushed_hold page (hold_of w) ≡ hold_of v =
    hold_same (flushed_hold page (hold_of w)) (hold_of v)
    (sym f.caches ∙ no_without page v.caches none) (sym f.memory ∙ no_memory page v.memory v.caches none) in
    let used : v.room + length f.piece ≡ w.room = f.room in
    let count : length (flushes_from b 0 page w.caches) ≡ page_line_count w.caches page = count_from b 0 0 0 page w.caches in
    let same : length (flushes_from b 0 page w.caches) ≡ length f.piece = ap (λ (es : List Entry). length es) piece_is in
    record {
      runs = record {
        piece = f.piece;
        history = f.history;
        room = f.room;
        done = subst (λ (es : List Entry). IsDone b (Flushes page ∷ []) (hold_of w) es (hold_of v)) (append-nil (flushes_from b 0 page w.caches) ∙ piece_is)
            (Flushed page [] (hold_of w) (hold_of v) [] (subst (λ (h : Hold). IsDone b [] h [] (hold_of v)) (sym hold) (NoAct (hold_of v))));
        made = f.made;
        keeps = f.keeps;
        carries = f.carries;
      };
      room = omega arith;
      logical = f.logical;
      none = ap (λ (es : List Entry). length es) (no_entries 0 0 page v.caches none);
      unheld = record {
        none = λ (i s : ℕ) (line : Line) (there : line_in v.caches i s ≡ Some line) (user : block_address line.tag < table_start) (of_page : page_of (block_address line.tag) ≡ page_of (page_address page)).
            unheld_in page v.caches none i s line there (number_same line.tag page of_page);
      };
    }
  where
    number_same : (tag page : ℕ) → page_of (block_address tag) ≡ page_of (page_address page) → tag / 128 ≡ page
    number_same tag page is = let h : tag * 2 ^ 5 / 2 ^ 12 ≡ page * 2 ^ 12 / 2 ^ 12 = is in omega arith
