-- A merge keeps a good world, and so does more room in the history.
use Rattle.std.proofs.Common.{◌≡◌, ◌∙◌, ℕ, suc, true, false, ◌+◌, ◌≤◌, ap, sym, refl, subst, List, [], ◌∷◌, ◌++◌, length, map, Option, Bool, if◌then◌else◌, arith, append-nil}
use Rattle.std.specs.Prelude.{filter}
use Rattle.std.specs.List.{AllByRecursion}
use Rattle.std.proofs.lemmas.List.{length-map}
use Rattle.spur_cache.specs.declared.line.Line.{Line}
use Rattle.spur_cache.specs.Lens.{caches}
use Rattle.spur_flat.specs.declared.entry.Entry.{Entry}
use Rattle.spur_flat.specs.Formed.{IsFormed}
use Rattle.spur_cpu.specs.Meaning.{Meaning}
use Rattle.spur_frames.specs.Frames.{AreFrames}
use Rattle.spur_swap.specs.Meaning.{Swap}
use Rattle.spur_pager.specs.declared.store.Store.{Store}
use Rattle.spur_pager.specs.Again.{ShowsSame}
use Rattle.spur_pager.specs.View.{View}
use Rattle.spur_board.specs.declared.board.Board.{Board}
use Rattle.spur_commute.specs.Logs.{joined_logs}
use Rattle.spur_core.specs.Boards.{AreBoardLogs, IsBoardLog, LogsAreEmpty, board_lens, emptied, is_swapped, logs_of, swap_count, view_in, whole}
use Rattle.spur_core.specs.Good.{IsGood}
use Rattle.spur_core.specs.Programs.{FollowPrograms, FollowsProgram}
use Rattle.spur_core.specs.Start.{IsStart, Start, opened_state}
use Rattle.spur_core.proofs.MergeFacts.{joined_none}
use Rattle.spur_core.proofs.SameFacts.{got_map, led_same, stands_same}

pub caches_same : {C : Type 0} (bs : List (Board C)) → caches (board_lens {C = C}) (map emptied bs) ≡ caches (board_lens {C = C}) bs
caches_same [] = refl
caches_same (b ∷ bs) = ap (λ (cs : List (List (Option Line))). b.cache ∷ cs) (caches_same bs)

swaps_same : {C : Type 0} (bs : List (Board C)) → swap_count (map emptied bs) ≡ swap_count bs
swaps_same [] = refl
swaps_same {C} (b ∷ bs) = one (is_swapped b.ended) b (emptied b) (map emptied bs) bs (swaps_same bs)
  where
    one : (s : Bool) (x y : Board C) (xs ys : List (Board C)) → length (filter (λ (c : Board C). is_swapped c.ended) xs) ≡ length (filter (λ (c : Board C). is_swapped c.ended) ys)
        → length (if s then y ∷ filter (λ (c : Board C). is_swapped c.ended) xs else filter (λ (c : Board C). is_swapped c.ended) xs)
        ≡ length (if s then x ∷ filter (λ (c : Board C). is_swapped c.ended) ys else filter (λ (c : Board C). is_swapped c.ended) ys)
    one true x y xs ys same = ap suc same
    one false x y xs ys same = same

logs_emptied : {C : Type 0} (bs : List (Board C)) → AreBoardLogs bs → AreBoardLogs (map emptied bs)
logs_emptied bs all = record {
  each = λ i b at.
      let r = got_map emptied bs i b at in
      let log = all.each i r.old r.there in
      let room : 1024 ≤ length r.old.log.entries + r.old.log.room = log.room in
      subst (IsBoardLog i) r.is (record { few = omega arith; room = omega arith; entries = tt });
}

pub empty_emptied : {C : Type 0} (bs : List (Board C)) → LogsAreEmpty (map emptied bs)
empty_emptied {C} bs = record { each = λ i b at. let r = got_map emptied bs i b at in ap (λ (x : Board C). x.log.entries) (sym r.is) }

module _ {C S : Type 0} (m : Meaning S) (state : C → S) (spare : C → ℕ) where
  emptied_board : (start : Start S) (h : List Entry) (i : ℕ) (b : Board C) → FollowsProgram m state spare start h i b → FollowsProgram m state spare start h i (emptied b)
  emptied_board start h i b was = record {
    number = was.number;
    segs = was.segs;
    budget = was.budget;
    room = was.room;
    led = was.led;
    swapped = λ e. let s = was.swapped e in record { before = s.before; kind = s.kind; access = s.access; va = s.va; value = s.value; last = s.last; asked = s.asked; wants = s.wants };
  }

  pub merged_good : {B : Type 0} (meaning : B → Swap) (start : Start S) (store after : Store B) (boards news : List (Board C)) → IsGood m state spare meaning start store boards
      → news ≡ map emptied boards → after.history.entries ≡ whole store boards → after ≡ record store { history = after.history } → IsGood m state spare meaning start after news
  merged_good {B} meaning start store after boards news good is history same =
      let lists : caches (board_lens {C = C}) news ≡ caches (board_lens {C = C}) boards = ap (caches (board_lens {C = C})) is ∙ caches_same boards in
      let none : joined_logs (logs_of news) ≡ [] = ap (λ (bs : List (Board C)). joined_logs (logs_of bs)) is ∙ joined_none boards in
      let all : whole after news ≡ whole store boards = ap (λ (es : List Entry). after.history.entries ++ es) none ∙ append-nil after.history.entries ∙ history in
      let count : length news ≡ length boards = ap (λ (bs : List (Board C)). length bs) is ∙ length-map boards emptied in
      let w : View = view_in meaning store boards in
      let v : View = view_in meaning after news in
      let shows : ShowsSame w v = record {
        caches = lists;
        memory = ap (λ (s : Store B). s.phys) same;
        shares = record {
          frames = ap (λ (s : Store B). s.frames) same;
          pages = ap (λ (s : Store B). (meaning s.backing).pages) same;
          slots = ap (λ (s : Store B). (meaning s.backing).slots) same;
        };
      } in
      record {
        history = led_same (opened_state start) w v (whole store boards) (whole after news) shows all good.history;
        formed = subst (λ (z : ℕ × List Entry). AllByRecursion (IsFormed z.0) z.1) (λ k. (sym count k, sym all k)) good.formed;
        stands = stands_same start.flat w v shows good.stands;
        table = subst AreFrames (sym shows.shares.frames) good.table;
        logs = subst AreBoardLogs (sym is) (logs_emptied boards good.logs);
        programs = subst (λ (z : List Entry × List (Board C)). FollowPrograms m state spare start z.0 z.1) (λ k. (sym all k, sym is k)) (record {
          each = λ i b at.
              let r = got_map emptied boards i b at in
              subst (FollowsProgram m state spare start (whole store boards) i) r.is (emptied_board start (whole store boards) i r.old (good.programs.each i r.old r.there));
        });
        swaps = subst (λ (z : ℕ × ℕ). z.0 + start.faults ≤ z.1) (λ k. (sym (ap swap_count is ∙ swaps_same boards) k, sym (ap (λ (s : Store B). (meaning s.backing).faults) same) k)) good.swaps;
        begins = subst (IsStart m start) (sym count) good.begins;
        settings = record { ahead = ap (λ (s : Store B). s.ahead) same ∙ good.settings.ahead };
      }

  pub roomier_good : {B : Type 0} (meaning : B → Swap) (start : Start S) (store after : Store B) (boards : List (Board C)) → IsGood m state spare meaning start store boards
      → after.history.entries ≡ store.history.entries → after ≡ record store { history = after.history } → IsGood m state spare meaning start after boards
  roomier_good {B} meaning start store after boards good kept same =
      let all : whole after boards ≡ whole store boards = ap (λ (es : List Entry). es ++ joined_logs (logs_of boards)) kept in
      let w : View = view_in meaning store boards in
      let v : View = view_in meaning after boards in
      let shows : ShowsSame w v = record {
        caches = refl;
        memory = ap (λ (s : Store B). s.phys) same;
        shares = record {
          frames = ap (λ (s : Store B). s.frames) same;
          pages = ap (λ (s : Store B). (meaning s.backing).pages) same;
          slots = ap (λ (s : Store B). (meaning s.backing).slots) same;
        };
      } in
      record {
        history = led_same (opened_state start) w v (whole store boards) (whole after boards) shows all good.history;
        formed = subst (λ (es : List Entry). AllByRecursion (IsFormed (length boards)) es) (sym all) good.formed;
        stands = stands_same start.flat w v shows good.stands;
        table = subst AreFrames (sym shows.shares.frames) good.table;
        logs = good.logs;
        programs = subst (λ (es : List Entry). FollowPrograms m state spare start es boards) (sym all) good.programs;
        swaps = subst (λ (n : ℕ). swap_count boards + start.faults ≤ n) (sym (ap (λ (s : Store B). (meaning s.backing).faults) same)) good.swaps;
        begins = good.begins;
        settings = record { ahead = ap (λ (s : Store B). s.ahead) same ∙ good.settings.ahead };
      }
