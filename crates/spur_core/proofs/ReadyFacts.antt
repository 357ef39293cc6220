-- The logs were merged, and a step ahead was done: what a world is then.
use Rattle.std.proofs.Common.{◌≡◌, ◌∙◌, ℕ, zero, suc, ◌+◌, ◌<◌, ◌≤◌, Bool, true, false, if◌then◌else◌, ap, sym, refl, subst, List, [], ◌∷◌, ◌++◌, length, map, Option, Some, arith, append-nil}
use Rattle.std.specs.Prelude.{filter, slice_get}
use Rattle.std.specs.List.{AllByRecursion}
use Rattle.std.proofs.lemmas.List.{length-map}
use Rattle.spur_cache.specs.declared.line.Line.{Line}
use Rattle.spur_cache.specs.Lens.{OnlyLines, caches, with_caches}
use Rattle.spur_bus.proofs.LensFacts.{only_lines-count}
use Rattle.spur_flat.specs.declared.entry.Entry.{Entry}
use Rattle.spur_flat.specs.declared.access.FaultKind.{FaultKind}
use Rattle.spur_flat.specs.Formed.{IsFormed, IsMade}
use Rattle.spur_flat.specs.History.{own_entries}
use Rattle.spur_flat.proofs.HistoryFacts.{own_entries-append}
use Rattle.spur_commute.proofs.LogFacts.{all_append}
use Rattle.spur_cpu.specs.Meaning.{Meaning}
use Rattle.spur_frames.specs.Frames.{AreFrames}
use Rattle.spur_swap.specs.Meaning.{Swap}
use Rattle.spur_pager.specs.declared.store.Store.{Store}
use Rattle.spur_pager.specs.Ahead.{DoesAhead, entries_ahead}
use Rattle.spur_pager.specs.Served.{IsCarriedOn, Keeps, appended}
use Rattle.spur_pager.specs.Stand.{IsServable}
use Rattle.spur_pager.specs.View.{View, view_of}
use Rattle.spur_board.specs.declared.board.Board.{Board}
use Rattle.spur_core.specs.declared.world.World.{World}
use Rattle.spur_core.specs.Boards.{IsBoardLog, LogsAreEmpty, board_lens, emptied, is_swapped, swap_count, view_in, whole}
use Rattle.spur_core.specs.Comes.{IsOfTurn}
use Rattle.spur_core.specs.Good.{HasLed, IsGood}
use Rattle.spur_core.specs.Start.{IsStart, Start, opened_state}
use Rattle.spur_core.specs.Programs.{FollowPrograms}
use Rattle.spur_core.specs.Step.{Runner, runner_of, runners_of}
use Rattle.spur_core.specs.Takes.{OnlyItsLines}
use Rattle.spur_core.specs.Tally.{IsFrugal, access_fetches, fault_count}
use Rattle.spur_core.specs.Turn.{StepsAhead}
use Rattle.spur_core.specs.World.{IsMerged}
use Rattle.spur_core.proofs.ComesFacts.{all_of_turn}
use Rattle.spur_core.proofs.GoodFacts.{board_seen, empty_joined, formed_turn, led_then}
use Rattle.spur_core.proofs.MergedFacts.{caches_same}
use Rattle.spur_core.proofs.RoundFacts.{carried_settled}
use Rattle.spur_core.proofs.TallyFacts.{IsSettled, fault_count-append, fetches_made, fetches_settled, made_no_fault}

-- of each board nothing has changed but its lines
with_at : {C : Type 0} (olds : List (Board C)) (given : List (List (Option Line))) (i : ℕ) (x : Board C) → slice_get (with_caches board_lens olds given) i ≡ Some x → OnlyItsLines olds i x
with_at [] given i x e = cc
with_at (b ∷ bs) [] i x e = record { old = x; there = e; is = refl }
with_at {C} (b ∷ bs) (lines ∷ rest) zero x e =
    let same : record b { cache = lines } ≡ x = cc in
    record { old = b; there = refl; is = subst (λ (y : Board C). y ≡ record b { cache = y.cache }) same refl }
with_at (b ∷ bs) (lines ∷ rest) (suc i) x e = let o = with_at bs rest i x e in record { old = o.old; there = o.there; is = o.is }

pub only_at : {C : Type 0} (olds news : List (Board C)) (i : ℕ) (x : Board C) → OnlyLines board_lens olds news → slice_get news i ≡ Some x → OnlyItsLines olds i x
only_at {C} olds news i x only e = with_at olds (caches board_lens news) i x (ap (λ (bs : List (Board C)). slice_get bs i) (sym only) ∙ e)

swaps_with : {C : Type 0} (olds : List (Board C)) (given : List (List (Option Line))) → swap_count (with_caches board_lens olds given) ≡ swap_count olds
swaps_with [] given = refl
swaps_with (b ∷ bs) [] = refl
swaps_with {C} (b ∷ bs) (lines ∷ rest) = one (is_swapped b.ended) b (record b { cache = lines }) (with_caches board_lens bs rest) bs (swaps_with bs rest)
  where
    one : (s : Bool) (x y : Board C) (xs ys : List (Board C)) → length (filter (λ (c : Board C). is_swapped c.ended) xs) ≡ length (filter (λ (c : Board C). is_swapped c.ended) ys)
        → length (if s then y ∷ filter (λ (c : Board C). is_swapped c.ended) xs else filter (λ (c : Board C). is_swapped c.ended) xs)
        ≡ length (if s then x ∷ filter (λ (c : Board C). is_swapped c.ended) ys else filter (λ (c : Board C). is_swapped c.ended) ys)
    one true x y xs ys same = ap suc same
    one false x y xs ys same = same

only_empty : {C : Type 0} (olds news : List (Board C)) → OnlyLines board_lens olds news → LogsAreEmpty olds → LogsAreEmpty news
only_empty {C} olds news only empty = record {
  each = λ i x e. let o = only_at olds news i x only e in ap (λ (y : Board C). y.log.entries) o.is ∙ empty.each i o.old o.there;
}

-- what a step ahead appends
ahead_settled : (b : ℕ) (w v : View) → IsServable w → b < length w.caches → DoesAhead b w v → IsCarriedOn w v → IsSettled (appended w v)
ahead_settled b w v servable within does carried = carried_settled b w v servable within does.made carried

module _ {C S : Type 0} (m : Meaning S) (state : C → S) (spare : C → ℕ) where
  -- a step ahead keeps a good world
  pub ahead_good : {B : Type 0} (meaning : B → Swap) (start : Start S) (store after : Store B) (olds news : List (Board C)) (b : ℕ) → IsGood m state spare meaning start store olds → LogsAreEmpty olds
      → DoesAhead b (view_in meaning store olds) (view_in meaning after news) → IsCarriedOn (view_in meaning store olds) (view_in meaning after news) → Keeps (view_in meaning store olds) (view_in meaning after news)
      → OnlyLines board_lens olds news → (meaning store.backing).faults ≤ (meaning after.backing).faults → AreFrames after.frames → IsGood m state spare meaning start after news
  ahead_good {B} meaning start store after olds news b good empty does carried keeps only later table =
      let w : View = view_in meaning store olds in
      let v : View = view_in meaning after news in
      let piece : List Entry = appended w v in
      let on = carried start.flat good.stands in
      let count : length news ≡ length olds = only_lines-count board_lens olds news only in
      let before : whole store olds ≡ store.history.entries = ap (λ (es : List Entry). store.history.entries ++ es) (empty_joined olds empty) ∙ append-nil store.history.entries in
      let now : whole after news ≡ after.history.entries = ap (λ (es : List Entry). after.history.entries ++ es) (empty_joined news (only_empty olds news only empty)) ∙ append-nil after.history.entries in
      let all : whole after news ≡ whole store olds ++ piece = now ∙ does.history ∙ ap (λ (es : List Entry). es ++ piece) (sym before) in
      let turns : AllByRecursion (IsOfTurn b (length olds)) piece = all_of_turn b (length olds) (length w.caches) piece (length-map olds (λ (x : Board C). x.cache)) does.made in
      let more : (meaning store.backing).faults ≤ (meaning after.backing).faults = later in
      let swaps : swap_count news ≡ swap_count olds = ap swap_count only ∙ swaps_with olds (caches board_lens news) in
      let had : swap_count olds + start.faults ≤ (meaning store.backing).faults = good.swaps in
      record {
        history = subst (λ (es : List Entry). HasLed (opened_state start) v es) (sym all) (led_then start w v (whole store olds) piece good.history on.carried keeps);
        formed = subst (λ (z : ℕ × List Entry). AllByRecursion (IsFormed z.0) z.1) (λ k. (sym count k, sym all k)) (all_append (IsFormed (length olds)) (whole store olds) piece good.formed (formed_turn b (length olds) piece turns));
        stands = on.stands;
        table = table;
        logs = record {
          each = λ i x e. let o = only_at olds news i x only e in let was = good.logs.each i o.old o.there in
              subst (IsBoardLog i) (sym o.is) (record { few = was.few; room = was.room; entries = was.entries });
        };
        programs = subst (λ (es : List Entry). FollowPrograms m state spare start es news) (sym all) (record {
          each = λ i x e. board_seen m state spare start (whole store olds) (whole store olds ++ piece) i olds x good.programs (only_at olds news i x only e)
              (own_entries-append (whole store olds) piece i ∙ ap (λ (es : List Entry). own_entries (whole store olds) i ++ es) (does.own i) ∙ append-nil (own_entries (whole store olds) i));
        });
        swaps = omega arith;
        begins = subst (IsStart m start) (sym count) good.begins;
        settings = record { ahead = keeps.ahead ∙ good.settings.ahead };
      }

  pub ahead_empty : (olds news : List (Board C)) → OnlyLines board_lens olds news → LogsAreEmpty olds → LogsAreEmpty news
  ahead_empty olds news only empty = only_empty olds news only empty

  runners_with : (olds : List (Board C)) (given : List (List (Option Line))) → runners_of m state (with_caches board_lens olds given) ≡ runners_of m state olds
  runners_with [] given = refl
  runners_with (b ∷ bs) [] = refl
  runners_with (b ∷ bs) (lines ∷ rest) = ap (λ (rs : List (Runner S)). runner_of m state b ∷ rs) (runners_with bs rest)

  runners_emptied : (bs : List (Board C)) → runners_of m state (map emptied bs) ≡ runners_of m state bs
  runners_emptied [] = refl
  runners_emptied (b ∷ bs) = ap (λ (rs : List (Runner S)). runner_of m state b ∷ rs) (runners_emptied bs)

  -- The world after a merge and a step ahead: what is appended behind the logs, and of the boards nothing has changed but
  -- their lines and logs.
  pub record IsReady {B : Type 0} (meaning : B → Swap) (b : ℕ) (old mid : World C B) (piece : List Entry) : Type 0 where
    pub history : mid.store.history.entries ≡ whole old.store old.boards.items ++ piece
    pub only : (i : ℕ) (x : Board C) → slice_get mid.boards.items i ≡ Some x → OnlyItsLines (map emptied old.boards.items) i x
    pub count : length mid.boards.items ≡ length old.boards.items
    pub runners : runners_of m state mid.boards.items ≡ runners_of m state old.boards.items
    pub made : AllByRecursion (IsMade b (length old.boards.items)) piece
    pub settled : IsSettled piece
    pub later : (meaning old.store.backing).faults ≤ (meaning mid.store.backing).faults

  pub ready_of : {B : Type 0} (meaning : B → Swap) (b : ℕ) (old first mid : World C B) → b < length old.boards.items → IsServable (view_in meaning first.store first.boards.items) → IsMerged old first → (s : StepsAhead meaning b first mid)
      → IsReady meaning b old mid (appended (view_in meaning first.store first.boards.items) (view_in meaning mid.store mid.boards.items))
  ready_of {B} meaning b old first mid within servable merged s =
      let w : View = view_in meaning first.store first.boards.items in
      let olds : List (Board C) = old.boards.items in
      let boards : length first.boards.items ≡ length olds = ap (λ (bs : List (Board C)). length bs) merged.boards ∙ length-map olds emptied in
      let lists : length w.caches ≡ length olds = length-map first.boards.items (λ (x : Board C). x.cache) ∙ boards in
      let same : (meaning first.store.backing).faults ≡ (meaning old.store.backing).faults = ap (λ (t : Store B). (meaning t.backing).faults) merged.store in
      let more : (meaning first.store.backing).faults ≤ (meaning mid.store.backing).faults = s.later in
      let inside : b < length w.caches = subst (λ (n : ℕ). b < n) (sym lists) within in
      record {
        history = s.does.history ∙ ap (λ (es : List Entry). es ++ appended w (view_in meaning mid.store mid.boards.items)) merged.history;
        only = λ i x e. subst (λ (bs : List (Board C)). OnlyItsLines bs i x) merged.boards (only_at first.boards.items mid.boards.items i x s.lens e);
        count = only_lines-count board_lens first.boards.items mid.boards.items s.lens ∙ boards;
        runners = ap (runners_of m state) s.lens ∙ runners_with first.boards.items (caches board_lens mid.boards.items) ∙ ap (runners_of m state) merged.boards ∙ runners_emptied olds;
        made = subst (λ (n : ℕ). AllByRecursion (IsMade b n) (appended w (view_in meaning mid.store mid.boards.items))) lists s.does.made;
        settled = ahead_settled b w (view_in meaning mid.store mid.boards.items) servable inside s.does s.carried;
        later = omega arith;
      }

-- the entries of a step ahead are those by the state before the merge
pub ahead_same : {C B : Type 0} (meaning : B → Swap) (b : ℕ) (old first : World C B) (written : Bool) → IsMerged old first
    → entries_ahead b (view_in meaning first.store first.boards.items) written ≡ entries_ahead b (view_in meaning old.store old.boards.items) written
ahead_same {C} {B} meaning b old first written merged =
    ap (λ (s : Store B). entries_ahead b (view_in meaning s first.boards.items) written) merged.store
    ∙ ap (λ (cs : List (List (Option Line))). entries_ahead b (view_of meaning cs (record old.store { history = first.store.history })) written)
    (ap (caches (board_lens {C = C})) merged.boards ∙ caches_same old.boards.items)

-- what is counted: a step ahead has none
pub frugal_ahead : (b n : ℕ) (piece entries : List Entry) → AllByRecursion (IsMade b n) piece → IsSettled piece → IsFrugal entries → IsFrugal (piece ++ entries)
frugal_ahead b n piece entries made settled f = record {
  once = λ (kind : FaultKind).
      let sum : fault_count kind (piece ++ entries) ≡ fault_count kind piece + fault_count kind entries = fault_count-append kind piece entries in
      let none : fault_count kind piece ≡ 0 = made_no_fault kind b n piece made in
      let few : fault_count kind entries ≤ 1 = f.once kind in
      omega arith;
  fetches =
      let sum : access_fetches (piece ++ entries) ≡ access_fetches piece + access_fetches entries = fetches_settled piece entries settled in
      let none : access_fetches piece ≡ 0 = fetches_made b n piece made in
      let few : access_fetches entries ≤ 3 = f.fetches in
      omega arith;
}
