-- The first lines of a leaving page are flushed.
use Rattle.std.proofs.Common.{◌≡◌, ◌∙◌, ℕ, ◌+◌, ◌*◌, ◌<◌, ◌≤◌, Bool, true, false, ap, sym, refl, subst, List, [], ◌∷◌, ◌++◌, length, drop, take, Some, None, arith}
use Rattle.std.proofs.Math.Seq.{drop-append_seam, take-append_seam}
use Rattle.std.proofs.lemmas.List.{append-nil, append_assoc, length-append}
use Rattle.spur_flat.specs.declared.entry.Entry.{Entry}
use Rattle.spur_flat.specs.declared.entry.Entry.TheVariants.{BlockFlush}
use Rattle.spur_walk.specs.Tables.{block_address}
use Rattle.spur_pager.specs.View.{View}
use Rattle.spur_pager.specs.Stand.{IsServable}
use Rattle.spur_pager.specs.Acts.{FlushedFirst, FlushesFirst, Hold, IsDone, NoAct, after_flush, after_flushes, flushes_from}
use Rattle.spur_pager.specs.Room.{page_line_count}
use Rattle.spur_pager.specs.Served.{appended, hold_of}
use Rattle.spur_pager.specs.Drops.{DropsBlock, FlushesPage}
use Rattle.spur_pager.specs.Flushes.{AreFlushed, FlushesAll, FlushesAtMost, FlushesPart, FlushesSome, IsFlushing}
use Rattle.spur_pager.proofs.BoundFacts.{page-lines-are-few}
use Rattle.spur_pager.proofs.FetchFacts.{hold_same}
use Rattle.spur_pager.proofs.FlushFacts.{count_from}
use Rattle.spur_pager.proofs.FlushingFacts.{IsGone, IsNext, flushing_none, flushing_then, page_flushed, start_same}

-- what was appended, by the histories
pub appended_is : (w v : View) (piece : List Entry) → v.history ≡ w.history ++ piece → appended w v ≡ piece
appended_is w v piece is = ap (λ (es : List Entry). drop (length w.history) es) is ∙ drop-append_seam w.history piece

pub appended_none : (w : View) → appended w w ≡ []
appended_none w = appended_is w w [] (sym (append-nil w.history))

pub appended_then : (w u v : View) (some more : List Entry) → u.history ≡ w.history ++ some → v.history ≡ u.history ++ more → appended w v ≡ appended w u ++ appended u v
appended_then w u v some more first second =
    appended_is w v (some ++ more) (second ∙ ap (λ (es : List Entry). es ++ more) first ∙ append_assoc w.history some more)
    ∙ ap (λ (es : List Entry). es ++ more) (sym (appended_is w u some first))
    ∙ ap (λ (es : List Entry). appended w u ++ es) (sym (appended_is u v more second))

-- flushes one after another
pub after_then : (some more : List Entry) (h : Hold) → after_flushes (some ++ more) h ≡ after_flushes more (after_flushes some h)
after_then [] more h = refl
after_then (e ∷ es) more h = after_then es more (after_flush e h)

-- Some lines were flushed, of at most so many, with so many to spare.
pub record FlushesOn (b page most left : ℕ) (w u : View) : Type 0 where
  pub flushing : IsFlushing b page w u
  pub hold : hold_of u ≡ after_flushes (appended w u) (hold_of w)
  pub spent : u.room + most ≡ w.room + left

pub on_none : (b page most : ℕ) (w : View) → FlushesOn b page most most w w
on_none b page most w = record {
  flushing = flushing_none b page w;
  hold = sym (ap (λ (es : List Entry). after_flushes es (hold_of w)) (appended_none w));
  spent = refl;
}

hold_then : (b page : ℕ) (w u v : View) → IsFlushing b page w u → IsFlushing b page u v → hold_of u ≡ after_flushes (appended w u) (hold_of w) → hold_of v ≡ after_flushes (appended u v) (hold_of u)
    → hold_of v ≡ after_flushes (appended w v) (hold_of w)
hold_then b page w u v r s first second =
    second ∙ ap (after_flushes (appended u v)) first ∙ sym (after_then (appended w u) (appended u v) (hold_of w))
    ∙ sym (ap (λ (es : List Entry). after_flushes es (hold_of w)) (appended_then w u v r.piece s.piece r.history s.history))

-- one line more
line_hold : (b page holder : ℕ) (u v : View) (number : ℕ) (rest : List ℕ) → (n : IsNext page holder u number rest) → DropsBlock b holder (block_address n.first.line.tag) u v → hold_of v ≡ after_flushes (appended u v) (hold_of u)
line_hold b page holder u v number rest n d =
    let g : ℕ = block_address n.first.line.tag in
    let history : v.history ≡ u.history ++ BlockFlush b holder g ∷ [] = d.history ∙ ap (λ (at : ℕ). u.history ++ BlockFlush b holder at ∷ []) (start_same n.first.line.tag) in
    hold_same (hold_of v) (after_flush (BlockFlush b holder g) (hold_of u)) d.caches d.memory
    ∙ sym (ap (λ (es : List Entry). after_flushes es (hold_of u)) (appended_is u v (BlockFlush b holder g ∷ []) history))

pub on_more : (b page holder most left fewer : ℕ) (w u v : View) (number : ℕ) (rest : List ℕ) → FlushesOn b page most left w u → (n : IsNext page holder u number rest) → DropsBlock b holder (block_address n.first.line.tag) u v
    → IsGone b page holder u v rest → fewer + 1 ≡ left → FlushesOn b page most fewer w v
on_more b page holder most left fewer w u v number rest f n d gone less =
    let before : u.room + most ≡ w.room + left = f.spent in
    let used : v.room + 1 ≡ u.room = d.room in
    record {
      flushing = flushing_then b page w u v f.flushing gone.flushing;
      hold = hold_then b page w u v f.flushing gone.flushing f.hold (line_hold b page holder u v number rest n d);
      spent = omega arith;
    }

-- it stopped past a cache, or at a line
pub on_past : (b page most count left : ℕ) (w u : View) → FlushesOn b page most left w u → AreFlushed u.caches count page → FlushesSome b page most count w u (Some left)
on_past b page most count left w u f none = record { flushing = f.flushing; hold = f.hold; stops = record { spent = f.spent; none = none } }

pub on_short : (b page most count left : ℕ) (w u : View) → FlushesOn b page most left w u → left ≡ 0 → 1 ≤ page_line_count u.caches page → FlushesSome b page most count w u None
on_short b page most count left w u f zero more =
    let spent : u.room + most ≡ w.room + left = f.spent in
    record { flushing = f.flushing; hold = f.hold; stops = record { spent = omega arith; more = more } }

-- one cache after others: the next flush may take what was to spare
pub on_cache : (b page most left spare count : ℕ) (w u v : View) → FlushesOn b page most left w u → FlushesSome b page left count u v (Some spare) → FlushesOn b page most spare w v
on_cache b page most left spare count w u v f s =
    let before : u.room + most ≡ w.room + left = f.spent in
    let now : v.room + left ≡ u.room + spare = s.stops.spent in
    record {
      flushing = flushing_then b page w u v f.flushing s.flushing;
      hold = hold_then b page w u v f.flushing s.flushing f.hold s.hold;
      spent = omega arith;
    }

-- all were flushed
few_lines : (b page : ℕ) (w v : View) → IsFlushing b page w v → v.room + page_line_count w.caches page ≡ w.room + page_line_count v.caches page
few_lines b page w v f =
    let all : length (flushes_from b 0 page w.caches) ≡ page_line_count w.caches page = count_from b 0 0 0 page w.caches in
    let left : length (flushes_from b 0 page v.caches) ≡ page_line_count v.caches page = count_from b 0 0 0 page v.caches in
    let split : length (flushes_from b 0 page w.caches) ≡ length f.piece + length (flushes_from b 0 page v.caches) =
    ap (λ (es : List Entry). length es) f.entries ∙ length-append f.piece (flushes_from b 0 page v.caches) in
    let used : v.room + length f.piece ≡ w.room = f.room in
    omega arith

pub all_flushed : (b page most left : ℕ) (w v : View) → FlushesOn b page most left w v → AreFlushed v.caches (length v.caches) page → FlushesAll b page most w v
all_flushed b page most left w v f none =
    let flushes = page_flushed b page w v f.flushing none in
    let gone : v.room + page_line_count w.caches page ≡ w.room = flushes.room in
    let spent : v.room + most ≡ w.room + left = f.spent in
    record { few = omega arith; flushes = flushes }

-- or so many of the first, and there were more
pub part_flushed : (b page most left count : ℕ) (w u v : View) → FlushesOn b page most left w u → FlushesSome b page left count u v None → FlushesPart b page most w v
part_flushed b page most left count w u v f s =
    let flushing = flushing_then b page w u v f.flushing s.flushing in
    let hold : hold_of v ≡ after_flushes (appended w v) (hold_of w) = hold_then b page w u v f.flushing s.flushing f.hold s.hold in
    let before : u.room + most ≡ w.room + left = f.spent in
    let now : v.room + left ≡ u.room = s.stops.spent in
    let more : 1 ≤ page_line_count v.caches page = s.stops.more in
    let few : v.room + page_line_count w.caches page ≡ w.room + page_line_count v.caches page = few_lines b page w v flushing in
    let used : v.room + length flushing.piece ≡ w.room = flushing.room in
    let room : v.room + most ≡ w.room = omega arith in
    let long : length flushing.piece ≡ most = omega arith in
    let first : take most (flushes_from b 0 page w.caches) ≡ flushing.piece =
    ap (λ (n : ℕ). take n (flushes_from b 0 page w.caches)) (sym long) ∙ ap (λ (es : List Entry). take (length flushing.piece) es) flushing.entries
    ∙ take-append_seam flushing.piece (flushes_from b 0 page v.caches) in
    let done : after_flushes (take most (flushes_from b 0 page w.caches)) (hold_of w) ≡ hold_of v =
    ap (λ (es : List Entry). after_flushes es (hold_of w)) (first ∙ sym (appended_is w v flushing.piece flushing.history)) ∙ sym hold in
    record {
      more = omega arith;
      runs = record {
        piece = flushing.piece;
        history = flushing.history;
        room = flushing.room;
        done = subst (λ (es : List Entry). IsDone b (FlushesFirst page most ∷ []) (hold_of w) es (hold_of v)) (append-nil (take most (flushes_from b 0 page w.caches)) ∙ first)
            (FlushedFirst page most [] (hold_of w) (hold_of v) [] (subst (λ (h : Hold). IsDone b [] h [] (hold_of v)) (sym done) (NoAct (hold_of v))));
        made = flushing.made;
        keeps = flushing.keeps;
        carries = flushing.carries;
      };
      room = room;
      left = omega arith;
      logical = flushing.logical;
    }

-- a page has no more lines than there can be: all of them are flushed where at most so many are
pub flushed_within : (b page most : ℕ) (w v : View) (none : Bool) → IsServable w → 128 * 12 ≤ most → FlushesAtMost b page most w v none → FlushesPage b page w v
flushed_within b page most w v true s enough f = f.flushes
flushed_within b page most w v false s enough f =
    let few : page_line_count w.caches page ≤ 128 * length w.caches = page-lines-are-few w page s in
    let boards : length w.caches ≤ 12 = s.stands.walk.agree.few_caches in
    let more : most < page_line_count w.caches page = f.more in
    absurd (omega arith)
