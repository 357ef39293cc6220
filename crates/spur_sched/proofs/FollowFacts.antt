-- A schedule goes on by one pick.
use Rattle.std.proofs.Common.{◌≡◌, ◌≢◌, ◌∙◌, ℕ, ◌+◌, ◌*◌, ◌/◌, ◌^◌, ◌<◌, ◌≤◌, ◌==◌, Bool, true, false, if◌then◌else◌, ap, sym, refl, subst, List, [], ◌∷◌, ◌++◌, length, Option, Some, None, arith, append-nil, ⊎_elim, ne_eqb, eq-eqb}
use Rattle.std.specs.Prelude.{IfNone, IfSome, is_some, option_map, slice_get}
use Rattle.std.specs.List.{AllByRecursion}
use Rattle.std.proofs.Math.ListN.{set}
use Rattle.std.proofs.lemmas.Bool.{cases_eq}
use Rattle.std.proofs.lemmas.List.{append_assoc, append_cancel_left, length-append}
use Rattle.std.proofs.lemmas.Option.{slice_get-map}
use Rattle.spur_flat.specs.declared.entry.Entry.{Entry}
use Rattle.spur_flat.specs.Blocks.{board_of}
use Rattle.spur_flat.specs.History.{own_entries}
use Rattle.spur_flat.proofs.HistoryFacts.{own_entries-append}
use Rattle.spur_cpu.specs.Meaning.{Meaning}
use Rattle.spur_swap.specs.Meaning.{Swap}
use Rattle.spur_pager.specs.declared.store.Store.{Store}
use Rattle.spur_board.specs.declared.board.Board.{Board}
use Rattle.spur_core.specs.Boards.{is_swapped}
use Rattle.spur_core.specs.Good.{IsGood}
use Rattle.spur_core.specs.Own.{IsUnended}
use Rattle.spur_core.specs.Start.{Start}
use Rattle.spur_core.specs.Step.{EndsWithAnswer, HasTakenInstruction, IsStepped, Runner, is_out, runner_of, runners_of}
use Rattle.spur_core.specs.World.{IsPrefix}
use Rattle.spur_bus.proofs.LineFacts.{slice_get-set_same}
use Rattle.spur_core.proofs.AskFacts.{going_good, same_at}
use Rattle.spur_sched.specs.Picks.{are_out, next_number, picked_board, running_boards}
use Rattle.spur_sched.specs.Followed.{AreInOrder, ArePicks, IsInLast, IsPick, IsScheduled, Pick, own_in, still_running}
use Rattle.spur_sched.proofs.LeftFacts.{all_left, board_out, left_most, outs_same, taken_less}
use Rattle.spur_sched.proofs.PickFacts.{none_picked}

-- entries that were added to a history, in the order of picks
pub record AreAddedInOrder (before now : List Entry) (picks : List Pick) : Type 0 where
  pub entries : List Entry
  pub history : now ≡ before ++ entries
  pub order : AreInOrder entries picks

-- what a schedule has come to, over the history with the logs
pub record IsScheduling {C S : Type 0} (m : Meaning S) (state : C → S) (late : Bool) (start x : ℕ) (before now : List Entry) (olds news : List (Board C)) : Type 0 where
  pub picks : List Pick
  pub are : ArePicks m start (runners_of m state olds) picks x (runners_of m state news)
  pub used : (b : ℕ) → own_entries now b ≡ own_entries before b ++ own_in b picks
  pub in_order : late ≡ false → AreAddedInOrder before now picks
  pub few : length picks + all_left (runners_of m state news) ≤ all_left (runners_of m state olds)

own_of_one : (b : ℕ) (p : Pick) (ps qs : List Pick) (t : Bool) → own_in b (ps ++ qs) ≡ own_in b ps ++ own_in b qs → (if t then p.own ++ own_in b (ps ++ qs) else own_in b (ps ++ qs)) ≡ (if t then p.own ++ own_in b ps else own_in b ps) ++ own_in b qs
own_of_one b p ps qs true rest = ap (λ (es : List Entry). p.own ++ es) rest ∙ sym (append_assoc p.own (own_in b ps) (own_in b qs))
own_of_one b p ps qs false rest = rest

own_in-append : (b : ℕ) (ps qs : List Pick) → own_in b (ps ++ qs) ≡ own_in b ps ++ own_in b qs
own_in-append b [] qs = refl
own_in-append b (p ∷ ps) qs = own_of_one b p ps qs (p.board == b) (own_in-append b ps qs)

-- a pick has its own board's entries alone
used_mine : (p : Pick) → own_in p.board (p ∷ []) ≡ p.own
used_mine p = ap (λ (t : Bool). if t then p.own ++ [] else []) (eq-eqb p.board p.board refl) ∙ append-nil p.own

used_other : (b : ℕ) (p : Pick) → b ≢ p.board → own_in b (p ∷ []) ≡ []
used_other b p apart = ap (λ (t : Bool). if t then p.own ++ [] else []) (ne_eqb p.board b (λ h. apart (sym h)))

order_then : (es : List Entry) (ps : List Pick) (p : Pick) (piece : List Entry) → AreInOrder es ps → AllByRecursion (λ (e : Entry). board_of e ≡ p.board) piece → own_entries piece p.board ≡ p.own → (p.swapped ≡ false → EndsWithAnswer p.board piece) → AreInOrder (es ++ piece) (ps ++ p ∷ [])
order_then es [] p piece none turns own reaches = record { piece = piece; rest = []; is = ap (λ (l : List Entry). l ++ piece) none ∙ sym (append-nil piece); turns = turns; own = own; reaches = reaches; goes_on = refl }
order_then es (q ∷ ps) p piece next turns own reaches = record {
  piece = next.piece;
  rest = next.rest ++ piece;
  is = ap (λ (l : List Entry). l ++ piece) next.is ∙ append_assoc next.piece next.rest piece;
  turns = next.turns;
  own = next.own;
  reaches = next.reaches;
  goes_on = order_then next.rest ps p piece next.goes_on turns own reaches;
}

picks_then : {S : Type 0} (m : Meaning S) (x y : ℕ) (olds mids news : List (Runner S)) (ps : List Pick) (p : Pick) → ArePicks m x olds ps y mids → IsPick m (next_number y) mids p news → ArePicks m x olds (ps ++ p ∷ []) (next_number y) news
picks_then {S} m x y olds mids news [] p are pick = record {
  mid = news;
  first = subst (λ (z : ℕ × List (Runner S)). IsPick m (next_number z.0) z.1 p news) (λ k. (are.0 k, are.1 k)) pick;
  rest = (ap next_number are.0, refl);
}
picks_then m x y olds mids news (q ∷ ps) p are pick = record { mid = are.mid; first = are.first; rest = picks_then m (next_number x) y are.mid mids news ps p are.rest pick }

module _ {C S : Type 0} (m : Meaning S) (state : C → S) where
  pub scheduled_none : (late : Bool) (start : ℕ) (h : List Entry) (bs : List (Board C)) → IsScheduling m state late start start h h bs bs
  scheduled_none late start h bs = record {
    picks = [];
    are = (refl, refl);
    used = λ b. sym (append-nil (own_entries h b));
    in_order = λ early. record { entries = []; history = sym (append-nil h); order = refl };
    few = omega arith;
  }

  -- board b has not ended, and has instructions left
  pub record MayGoOn (bs : List (Board C)) (b : ℕ) : Type 0 where
    pub going : (x : Board C) → slice_get bs b ≡ Some x → x.ended ≡ None
    pub left : (x : Board C) → slice_get bs b ≡ Some x → x.retired < x.budget

  pub may_go_on : (spare : C → ℕ) {B : Type 0} (meaning : B → Swap) (begins : Start S) (store : Store B) (b : ℕ) (bs : List (Board C)) → IsGood m state spare meaning begins store bs → IsUnended bs b → MayGoOn bs b
  may_go_on spare meaning begins store b bs good at =
      let none : (x : Board C) → slice_get bs b ≡ Some x → x.ended ≡ None = λ (x : Board C) there. ap (λ (q : Board C). q.ended) (same_at bs b x at.board there at.there) ∙ at.going in
      record { going = none; left = λ x there. (going_good m state spare meaning begins store bs b x good there (none x there)).left }

  -- a pick leaves less
  pub left_then : (b : ℕ) (h k : List Entry) (mids news : List (Board C)) → HasTakenInstruction m state b h k mids news → MayGoOn mids b → all_left (runners_of m state news) < all_left (runners_of m state mids)
  left_then b h k mids news step may =
      let there : slice_get (runners_of m state mids) b ≡ Some (runner_of m state step.old) = slice_get-map (runner_of m state) mids b ∙ ap (option_map (runner_of m state)) step.there in
      let running : is_out (runner_of m state step.old) ≡ false = board_out m state step.old ∙ ap is_some (may.going step.old step.there) in
      let less = taken_less m (runners_of m state mids) b (runner_of m state step.old) (runner_of m state step.new) step.own there step.takes running (may.left step.old step.there) in
      let same : all_left (runners_of m state news) ≡ all_left (set (runners_of m state mids) b (runner_of m state step.new)) = ap all_left step.boards in
      omega arith

  -- the pick of a board that has taken an instruction
  abbrev pick_of : (b : ℕ) (h k : List Entry) (mids news : List (Board C)) → HasTakenInstruction m state b h k mids news → Pick
  pick_of b h k mids news step = record { board = b; own = step.own; swapped = is_swapped step.new.ended }

  used_by : (b i : ℕ) (h k : List Entry) (mids news : List (Board C)) → (step : HasTakenInstruction m state b h k mids news) → own_entries k i ≡ own_entries h i ++ own_in i (pick_of b h k mids news step ∷ [])
  used_by b i h k mids news step = ⊎_elim
      (λ (is : i ≡ b).
      let p : Pick = pick_of b h k mids news step in
      subst (λ (j : ℕ). own_entries k j ≡ own_entries h j ++ own_in j (p ∷ [])) (sym is)
      (step.mine ∙ ap (λ (es : List Entry). own_entries h b ++ es) (sym (used_mine p))))
      (λ (apart : i ≢ b).
      step.others i apart ∙ sym (ap (λ (es : List Entry). own_entries h i ++ es) (used_other i (pick_of b h k mids news step) apart) ∙ append-nil (own_entries h i)))
      (cases_eq i b)

  -- a step whose entries are the last is by these the same instruction
  new_same : (b : ℕ) (h k : List Entry) (mids news : List (Board C)) → (step : HasTakenInstruction m state b h k mids news) → (s : IsStepped m state b h k mids news) → runner_of m state s.new ≡ runner_of m state step.new
  new_same b h k mids news step s =
      let rs : List (Runner S) = runners_of m state mids in
      let at : (x : Board C) → slice_get mids b ≡ Some x → slice_get rs b ≡ Some (runner_of m state x) = λ (x : Board C) there. slice_get-map (runner_of m state) mids b ∙ ap (option_map (runner_of m state)) there in
      same_at (runners_of m state news) b (runner_of m state s.new) (runner_of m state step.new)
      (ap (λ (l : List (Runner S)). slice_get l b) s.boards ∙ slice_get-set_same rs b (runner_of m state s.old) (runner_of m state s.new) (at s.old s.there))
      (ap (λ (l : List (Runner S)). slice_get l b) step.boards ∙ slice_get-set_same rs b (runner_of m state step.old) (runner_of m state step.new) (at step.old step.there))

  own_same : (b : ℕ) (h k : List Entry) (mids news : List (Board C)) → (step : HasTakenInstruction m state b h k mids news) → (s : IsStepped m state b h k mids news) → own_entries s.entries b ≡ step.own
  own_same b h k mids news step s = append_cancel_left (own_entries h b) (own_entries s.entries b) step.own (sym (ap (λ (es : List Entry). own_entries es b) s.history ∙ own_entries-append h s.entries b) ∙ step.mine)

  -- its entries stand behind those of the picks before, in the order of the picks
  added_history : (b : ℕ) (before h k : List Entry) (mids news : List (Board C)) (picks : List Pick) → (first : AreAddedInOrder before h picks) → (s : IsStepped m state b h k mids news) → k ≡ before ++ (first.entries ++ s.entries)
  added_history b before h k mids news picks first s = s.history ∙ ap (λ (es : List Entry). es ++ s.entries) first.history ∙ append_assoc before first.entries s.entries

  step_order : (b : ℕ) (h k : List Entry) (mids news : List (Board C)) (earlier : List Entry) (picks : List Pick) → AreInOrder earlier picks → (step : HasTakenInstruction m state b h k mids news) → (s : IsStepped m state b h k mids news)
      → AreInOrder (earlier ++ s.entries) (picks ++ pick_of b h k mids news step ∷ [])
  step_order b h k mids news earlier picks order step s =
      order_then earlier picks (pick_of b h k mids news step) s.entries order s.turns (own_same b h k mids news step s)
      (λ unswapped. s.reaches (ap (λ (r : Runner S). r.swapped) (new_same b h k mids news step s) ∙ unswapped))

  -- a schedule that has gone on by a pick: where logs are joined after each step, the entries behind those before are its
  pub record IsScheduledOn (late : Bool) (start y : ℕ) (before h k : List Entry) (olds news : List (Board C)) : Type 0 where
    pub now : IsScheduling m state late start y before k olds news
    pub last : late ≡ false → (added : AreAddedInOrder before k now.picks) → (number : ℕ) → length h < length before + number → length before + number ≤ length k → IsInLast number added.entries now.picks

  pub scheduled_on : (late : Bool) (start x b : ℕ) (before h k : List Entry) (olds mids news : List (Board C)) → IsScheduling m state late start x before h olds mids → picked_board (next_number x) (running_boards (are_out mids)) ≡ Some b
      → HasTakenInstruction m state b h k mids news → (late ≡ false → IsStepped m state b h k mids news) → MayGoOn mids b → IsScheduledOn late start (next_number x) before h k olds news
  scheduled_on late start x b before h k olds mids news was picked step stepped may =
      let p : Pick = pick_of b h k mids news step in
      let pick : IsPick m (next_number x) (runners_of m state mids) p (runners_of m state news) = record {
        picked = ap (λ (os : List Bool). picked_board (next_number x) (running_boards os)) (outs_same m state mids) ∙ picked;
        old = runner_of m state step.old;
        there = slice_get-map (runner_of m state) mids b ∙ ap (option_map (runner_of m state)) step.there;
        new = runner_of m state step.new;
        takes = step.takes;
        swapped = refl;
        boards = step.boards;
      } in
      let less = left_then b h k mids news step may in
      let few = was.few in
      let long : length (was.picks ++ p ∷ []) ≡ length was.picks + 1 = length-append was.picks (p ∷ []) in
      record {
        now = record {
          picks = was.picks ++ p ∷ [];
          are = picks_then m start x (runners_of m state olds) (runners_of m state mids) (runners_of m state news) was.picks p was.are pick;
          used = λ i. used_by b i h k mids news step ∙ ap (λ (es : List Entry). es ++ own_in i (p ∷ [])) (was.used i)
              ∙ append_assoc (own_entries before i) (own_in i was.picks) (own_in i (p ∷ []))
              ∙ ap (λ (es : List Entry). own_entries before i ++ es) (sym (own_in-append i was.picks (p ∷ [])));
          in_order = λ early.
              let s : IsStepped m state b h k mids news = stepped early in
              let first : AreAddedInOrder before h was.picks = was.in_order early in
              record {
                entries = first.entries ++ s.entries;
                history = added_history b before h k mids news was.picks first s;
                order = step_order b h k mids news first.entries was.picks first.order step s;
              };
          few = omega arith;
        };
        last = λ early added number low high.
            let s : IsStepped m state b h k mids news = stepped early in
            let first : AreAddedInOrder before h was.picks = was.in_order early in
            let history : k ≡ before ++ (first.entries ++ s.entries) = added_history b before h k mids news was.picks first s in
            let until : length h ≡ length before + length first.entries = ap length first.history ∙ length-append before first.entries in
            let all : length k ≡ length before + length added.entries = ap length added.history ∙ length-append before added.entries in
            record {
              front = was.picks;
              last = p;
              are = refl;
              earlier = first.entries;
              piece = s.entries;
              is = append_cancel_left before added.entries (first.entries ++ s.entries) (sym added.history ∙ history);
              of_front = first.order;
              of_last = step_order b h k mids news [] [] refl step s;
              behind = omega arith;
              within = omega arith;
            };
      }

  -- what a schedule says where it ends: its boards have ended or a probe has stopped it
  pub record IsOver (late : Bool) (stop : Option ℕ) (before now : List Entry) (picks : List Pick) (news : List (Board C)) : Type 0 where
    pub ended : IfNone stop (still_running (runners_of m state news) ≡ [])
    pub stopped : late ≡ false → (added : AreAddedInOrder before now picks) → IfSome stop (λ number. IsInLast number added.entries picks)

  pub scheduled_over : (late : Bool) (start x budget : ℕ) (stop : Option ℕ) (before now : List Entry) (olds news : List (Board C)) → (was : IsScheduling m state late start x before now olds news) → IsPrefix before now
      → IsOver late stop before now was.picks news → ((i : ℕ) (b : Board C) → slice_get olds i ≡ Some b → b.budget ≡ budget) → IsScheduled m state start late (length olds * (budget + 1)) stop before now olds news
  scheduled_over late start x budget stop before now olds news was prefix over budgets =
      let few = was.few in
      let most = left_most m state budget olds budgets in
      let own : (b : ℕ) → own_in b was.picks ≡ own_entries prefix.more b = λ (b : ℕ).
      append_cancel_left (own_entries before b) (own_in b was.picks) (own_entries prefix.more b)
      (sym (was.used b) ∙ ap (λ (es : List Entry). own_entries es b) prefix.is ∙ own_entries-append before prefix.more b) in
      record {
        entries = prefix.more;
        history = prefix.is;
        followed = record { picks = was.picks; last = x; are = was.are; ended = over.ended; used = own };
        in_order = λ early.
            let added : AreAddedInOrder before now was.picks = was.in_order early in
            let same : added.entries ≡ prefix.more = append_cancel_left before added.entries prefix.more (sym added.history ∙ prefix.is) in
            record {
              order = subst (λ (es : List Entry). AreInOrder es was.picks) same added.order;
              stopped = subst (λ (es : List Entry). IfSome stop (λ number. IsInLast number es was.picks)) same (over.stopped early added);
            };
        few = omega arith;
      }

  -- where no board is picked all have ended
  pub all_ended : (x : ℕ) (news : List (Board C)) → picked_board (next_number x) (running_boards (are_out news)) ≡ None → still_running (runners_of m state news) ≡ []
  all_ended x news none = ap running_boards (outs_same m state news) ∙ none_picked (running_boards (are_out news)) (next_number x / 2 ^ 33) none

  if_none_any : {A P : Type 0} (o : Option A) → P → IfNone o P
  if_none_any None p = p
  if_none_any (Some x) p = tt

  if_some_none : {A : Type 0} (P : A → Type 0) (o : Option A) → o ≡ None → IfSome o P
  if_some_none P None is = tt
  if_some_none P (Some x) is = absurd cc

  -- the same of a history and of boards in other words
  pub scheduled_as : (start most : ℕ) (late : Bool) (stop : Option ℕ) (before now after : List Entry) (olds news bs : List (Board C)) → after ≡ now → runners_of m state bs ≡ runners_of m state news
      → IsScheduled m state start late most stop before now olds news → IsScheduled m state start late most stop before after olds bs
  scheduled_as start most late stop before now after olds news bs same runners s = record {
    entries = s.entries;
    history = same ∙ s.history;
    followed = record {
      picks = s.followed.picks;
      last = s.followed.last;
      are = subst (λ (rs : List (Runner S)). ArePicks m start (runners_of m state olds) s.followed.picks s.followed.last rs) (sym runners) s.followed.are;
      ended = subst (λ (rs : List (Runner S)). IfNone stop (still_running rs ≡ [])) (sym runners) s.followed.ended;
      used = s.followed.used;
    };
    in_order = s.in_order;
    few = s.few;
  }

  -- where all boards have ended
  pub scheduled_all : (late : Bool) (start x budget : ℕ) (stop : Option ℕ) (before now : List Entry) (olds news : List (Board C)) → IsScheduling m state late start x before now olds news → IsPrefix before now
      → picked_board (next_number x) (running_boards (are_out news)) ≡ None → (late ≡ false → stop ≡ None) → ((i : ℕ) (b : Board C) → slice_get olds i ≡ Some b → b.budget ≡ budget)
      → IsScheduled m state start late (length olds * (budget + 1)) stop before now olds news
  scheduled_all late start x budget stop before now olds news was prefix none unstopped budgets =
      scheduled_over late start x budget stop before now olds news was prefix
      (record {
        ended = if_none_any stop (all_ended x news none);
        stopped = λ early added. if_some_none (λ number. IsInLast number added.entries was.picks) stop (unstopped early);
      }) budgets

  -- where a probe stops it at an entry of the last pick
  pub record StopsWithin (number : ℕ) (before h k : List Entry) : Type 0 where
    pub low : length h < length before + number
    pub high : length before + number ≤ length k

  pub scheduled_stopped : (late : Bool) (start x b budget number : ℕ) (stop : Option ℕ) (before h k : List Entry) (olds mids news : List (Board C)) → IsScheduling m state late start x before h olds mids → picked_board (next_number x) (running_boards (are_out mids)) ≡ Some b
      → HasTakenInstruction m state b h k mids news → (late ≡ false → IsStepped m state b h k mids news) → MayGoOn mids b → IsPrefix before k → (late ≡ false → StopsWithin number before h k)
      → ((i : ℕ) (b : Board C) → slice_get olds i ≡ Some b → b.budget ≡ budget) → stop ≡ Some number → IsScheduled m state start late (length olds * (budget + 1)) stop before k olds news
  scheduled_stopped late start x b budget number stop before h k olds mids news was picked step stepped may prefix within budgets is =
      let on = scheduled_on late start x b before h k olds mids news was picked step stepped may in
      subst (λ (o : Option ℕ). IsScheduled m state start late (length olds * (budget + 1)) o before k olds news) (sym is)
      (scheduled_over late start (next_number x) budget (Some number) before k olds news on.now prefix
      (record { ended = tt; stopped = λ early added. on.last early added number (within early).low (within early).high }) budgets)

  -- the same with its state or its history in other words
  pub scheduling_as : (late : Bool) (start x y : ℕ) (before now after : List Entry) (olds news : List (Board C)) → y ≡ x → after ≡ now → IsScheduling m state late start x before now olds news → IsScheduling m state late start y before after olds news
  scheduling_as late start x y before now after olds news same is was = subst (λ (z : ℕ × List Entry). IsScheduling m state late start z.0 before z.1 olds news) (λ k. (sym same k, sym is k)) was
