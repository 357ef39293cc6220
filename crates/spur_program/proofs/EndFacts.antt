-- What has come of a run where a good world's boards have all ended, and its caches were written back.
use Rattle.std.proofs.Common.{◌*◌, ◌+◌, ◌≡◌, ℕ, ◌≤◌, Bool, true, false, Option, Some, None, List, [], ◌∷◌, ◌++◌, length, take, refl, sym, ap, ◌∙◌, subst, append-nil, arith, if◌then◌else◌, map, zero, suc}
use Rattle.std.specs.Prelude.{IfNone, IsSome, filter, slice_get}
use Rattle.std.specs.List.{All, AllByRecursion}
use Rattle.std.proofs.lemmas.List.{length-map}
use Rattle.std.proofs.lemmas.Option.{get_or_from_slice_get, slice_get_within}
use Rattle.spur_cache.specs.Lens.{OnlyLines, caches, with_caches}
use Rattle.spur_addr.specs.Address.{global_of}
use Rattle.spur_flat.specs.declared.flat.Flat.{Flat}
use Rattle.spur_flat.specs.declared.entry.Entry.{Entry}
use Rattle.spur_flat.specs.declared.entry.Entry.TheVariants as entry
use Rattle.spur_flat.specs.Formed.{IsFormed}
use Rattle.spur_flat.specs.History.{flat_after, own_entries}
use Rattle.spur_flat.specs.Table.{table_words}
use Rattle.spur_bus.specs.Logical.{logical_of}
use Rattle.spur_cpu.specs.Meaning.{Meaning}
use Rattle.spur_swap.specs.Meaning.{Swap}
use Rattle.spur_pager.specs.Stand.{with_told}
use Rattle.spur_pager.specs.declared.store.Store.{Store}
use Rattle.spur_board.specs.declared.board.Board.{Board}
use Rattle.spur_board.specs.declared.ending.Ending.{Ending}
use Rattle.spur_board.specs.declared.ending.Ending.TheVariants as ending
use Rattle.spur_board.specs.Boards.{course_ending}
use Rattle.spur_core.specs.Boards.{LogsAreEmpty, board_lens, is_swapped, swap_count, view_in, whole}
use Rattle.spur_core.specs.Good.{IsGood}
use Rattle.spur_core.specs.Parts.{HistoryIsRight}
use Rattle.spur_core.specs.Programs.{FollowsProgram}
use Rattle.spur_cpu.specs.After.{begun}
use Rattle.spur_loader.specs.declared.opening.Opening.{Opening}
use Rattle.spur_board.specs.Boards.{IsNew}
use Rattle.spur_core.specs.declared.world.Beginning.{Beginning}
use Rattle.spur_core.specs.declared.world.World.{World}
use Rattle.spur_words.specs.declared.task.Order.{Order}
use Rattle.spur_words.specs.declared.task.Schedule.{Schedule}
use Rattle.spur_words.specs.declared.task.Order.TheVariants.{Scheduled, Threads}
use Rattle.spur_core.specs.Begin.{AreNewBoards, KeepsBeginning}
use Rattle.spur_core.specs.World.{start_of}
use Rattle.spur_core.specs.Start.{Start, opened_state}
use Rattle.spur_core.specs.Step.{Runner, is_out, runner_of, runners_of}
use Rattle.spur_core.proofs.GoodFacts.{empty_joined}
use Rattle.spur_core.proofs.PartFacts.{good-has-its-parts}
use Rattle.spur_core.proofs.SameFacts.{got_map}
use Rattle.spur_program.specs.declared.run.Finished.{Finished}
use Rattle.spur_program.specs.Headline.{AllAreOut, HasFollowedProgram, HaveEndings, IsInProgramOrder, IsOfOneMachine, IsRunOf, IsStoppedBySwap, Run}
use Rattle.spur_program.specs.Probes.{stop_number}
use Rattle.spur_sched.specs.Followed.{IsScheduled, still_running}
use Rattle.spur_sched.specs.Picks.{running_from}
use Rattle.spur_program.specs.Runs.{FollowsOrder, GoesByOrder, IsScheduledRun, first_runners, run_of, runners_from, start_from}

-- the swap has ended a board
swap_fault : (ended : Option Ending) → is_swapped ended ≡ true → ended ≡ Some ending.SwapFault
swap_fault None is = absurd cc
swap_fault (Some ending.Halted) is = absurd cc
swap_fault (Some (ending.Faulted kind at)) is = absurd cc
swap_fault (Some ending.Spent) is = absurd cc
swap_fault (Some ending.SwapFault) is = refl

-- what holds where nothing stopped a run
unless_stopped : (stopped : Option (ℕ × ℕ)) (P : Type 0) → IfNone stopped P → IfNone (stop_number stopped) P
unless_stopped None P holds = holds
unless_stopped (Some stop) P holds = tt

-- what the swap tells changes no number of table pages
tables_told : (rest : Flat) (told : Option (List ℕ)) → (with_told rest told).tables ≡ rest.tables
tables_told rest None = refl
tables_told rest (Some words) = refl

module _ {C S : Type 0} (m : Meaning S) (state : C → S) where
  -- a board is on its way as it was where nothing but its lines has changed
  runners_kept : (olds news : List (Board C)) → OnlyLines board_lens olds news → runners_of m state news ≡ runners_of m state olds
  runners_kept [] news only = ap (runners_of m state) only
  runners_kept (old ∷ olds) [] only = absurd cc
  runners_kept (old ∷ olds) (new ∷ news) only =
      let head : new ≡ record old { cache = new.cache } = cc in
      let tail : news ≡ with_caches board_lens olds (caches board_lens news) = cc in
      let first : runner_of m state new ≡ runner_of m state old = ap (runner_of m state) head in
      let rest : runners_of m state news ≡ runners_of m state olds = runners_kept olds news tail in
      λ k. first k ∷ rest k

  swapped_step : (board : Board C) (boards : List (Board C)) (swapped : Bool) → is_swapped board.ended ≡ swapped
      → length (filter (λ r. r.swapped) (runners_of m state boards)) ≡ swap_count boards
      → length (if swapped then runner_of m state board ∷ filter (λ r. r.swapped) (runners_of m state boards) else filter (λ r. r.swapped) (runners_of m state boards))
      ≡ length (if swapped then board ∷ filter (λ b. is_swapped b.ended) boards else filter (λ b. is_swapped b.ended) boards)
  swapped_step board boards true is rest = omega arith
  swapped_step board boards false is rest = rest

  -- as many runners as boards were ended by the swap
  swapped_counted : (boards : List (Board C)) → length (filter (λ r. r.swapped) (runners_of m state boards)) ≡ swap_count boards
  swapped_counted [] = refl
  swapped_counted (board ∷ boards) = swapped_step board boards (is_swapped board.ended) refl (swapped_counted boards)

module _ {C S B : Type 0} (m : Meaning S) (state : C → S) (spare : C → ℕ) (tells : B → Swap) (start : Start S) (store : Store B) (boards : List (Board C)) (good : IsGood m state spare tells start store boards)
    (quiet : LogsAreEmpty boards) where
  abbrev runners : List (Runner S)
  runners = runners_of m state boards

  abbrev past : List Entry
  past = store.history.entries

  whole_is : whole store boards ≡ past
  whole_is = ap (λ (es : List Entry). past ++ es) (empty_joined boards quiet) ∙ append-nil past

  right : HistoryIsRight (opened_state start) (view_in tells store boards) past
  right = subst (HistoryIsRight (opened_state start) (view_in tells store boards)) whole_is (good-has-its-parts m state spare tells start store boards good).history_is_right

  abbrev memory_now : List ℕ
  memory_now = logical_of board_lens boards store.phys

  one_machine : (told : Option (List ℕ)) → (tells store.backing).pages ≡ told → IsOfOneMachine (opened_state start) past memory_now told
  one_machine (Some words) is =
      let so = right.told words is in
      record { entries = so.each; final_memory = sym so.memory; final_swap = sym so.swap }
  one_machine None is =
      let so = right.untold in
      let like = so.like in
      record { legal = so.legal; tagged = so.tagged; needed = so.needed; size = sym like.words; table = sym (subst (λ (n : ℕ). take (table_words n) (flat_after start.flat past).words ≡ take (table_words n) memory_now) (tables_told start.flat (tells store.backing).pages) like.table) }

  followed : (i : ℕ) (b : Board C) → slice_get boards i ≡ Some b → FollowsProgram m state spare start past i b
  followed i b at = subst (λ (h : List Entry). FollowsProgram m state spare start h i b) whole_is (good.programs.each i b at)

  follows_as : (i : ℕ) (first : S) (b : Board C) → slice_get start.firsts i ≡ Some first → FollowsProgram m state spare start past i b → HasFollowedProgram m start i first (own_entries past i) (runner_of m state b)
  follows_as i first b at follows = record { registers = follows.segs; limit = follows.budget; led = follows.led first at }

  in_order : IsInProgramOrder m start past runners
  in_order = record {
    count = length-map boards (runner_of m state) ∙ sym good.begins.segs;
    formed = subst (λ (z : ℕ × List Entry). AllByRecursion (IsFormed z.0) z.1) (λ k. (sym good.begins.segs k, whole_is k)) good.formed;
    each = λ i first runner at here.
        let from = got_map (runner_of m state) boards i runner here in
        subst (HasFollowedProgram m start i first (own_entries past i)) from.is (follows_as i first from.old at (followed i from.old from.there));
  }

  stopped_as : (i : ℕ) (b : Board C) → FollowsProgram m state spare start past i b → is_swapped b.ended ≡ true → IsStoppedBySwap m i (own_entries past i) (runner_of m state b)
  stopped_as i b follows swapped =
      let ended = swap_fault b.ended swapped in
      let ends = follows.swapped ended in
      record {
        before = ends.before;
        kind = ends.kind;
        access = ends.access;
        va = ends.va;
        value = ends.value;
        last = ends.last ∙ ap (λ (n : ℕ). ends.before ++ entry.Fault n ends.kind ends.access (global_of b.segs ends.va) ∷ []) follows.number;
        asked = ends.asked;
        wants = ends.wants;
        standing = ap course_ending ended;
      }

  abbrev come_run : Option ℕ → Run S
  come_run stop = record { history = past; boards = runners; memory = memory_now; swap = (tells store.backing).pages; faults = (tells store.backing).faults; stop = stop }

  ended_all : (stop : Option ℕ) → IfNone stop (AllAreOut runners) → HaveEndings m start (come_run stop)
  ended_all stop out = record {
    all = out;
    swapped = λ i runner here swapped.
        let from = got_map (runner_of m state) boards i runner here in
        subst (IsStoppedBySwap m i (own_entries past i)) from.is (stopped_as i from.old (followed i from.old from.there) (ap (λ (r : Runner S). r.swapped) from.is ∙ swapped));
    few = (let count = swapped_counted m state boards in let few = good.swaps in omega arith);
  }

  -- what a good world has come to, where all boards have ended or a probe has stopped it
  come_to : (stop : Option ℕ) → IfNone stop (AllAreOut runners) → IsRunOf m start (come_run stop)
  come_to stop out = record { machine = one_machine (tells store.backing).pages refl; order = in_order; endings = ended_all stop out }

  -- and where moreover its caches were written back
  pub written_back_run : (ran : Finished C B) → IfNone ran.seen.stopped (AllAreOut runners) → ran.store.phys ≡ memory_now → ran.store ≡ record store { phys = ran.store.phys } → OnlyLines board_lens boards ran.boards.items
      → IsRunOf m start (run_of m state tells ran)
  written_back_run ran out memory kept only =
      let boards_are : runners ≡ runners_of m state ran.boards.items = sym (runners_kept m state boards ran.boards.items only) in
      let same : come_run (stop_number ran.seen.stopped) ≡ run_of m state tells ran = λ k. record {
        history = (sym kept k).history.entries;
        boards = boards_are k;
        memory = sym memory k;
        swap = (tells (sym kept k).backing).pages;
        faults = (tells (sym kept k).backing).faults;
        stop = stop_number ran.seen.stopped;
      } in
      subst (IsRunOf m start) same (come_to (stop_number ran.seen.stopped) (unless_stopped ran.seen.stopped (AllAreOut runners) out))

-- a beginning at which fewer faults were counted
pub from_earlier : {S : Type 0} (m : Meaning S) (start : Start S) (faults : ℕ) (run : Run S) → faults ≤ start.faults → IsRunOf m start run → IsRunOf m (record start { faults = faults }) run
from_earlier m start faults run fewer is =
    let order = is.order in
    let endings = is.endings in
    record {
      machine = is.machine;
      order = record {
        count = order.count;
        formed = order.formed;
        each = λ i first runner at here. (let follows = order.each i first runner at here in record { registers = follows.registers; limit = follows.limit; led = follows.led });
      };
      endings = record { all = endings.all; swapped = endings.swapped; few = (let few = endings.few in omega arith) };
    }

-- ---- the beginning

-- what came of a run from the beginning that a world keeps came of one from the opening and the processors with which it began
pub run_from_opening : {C S B : Type 0} (m : Meaning S) (state : C → S) (tells : B → Swap) (opening : Opening) (cpus : List C) (backing : B) (beginning : Beginning C B) (before : Swap) (run : Run S)
    → KeepsBeginning opening cpus backing beginning → before.faults ≤ (tells backing).faults → IsRunOf m (start_of state tells beginning) run → IsRunOf m (start_from state opening cpus before) run
run_from_opening m state tells opening cpus backing beginning before run keeps fewer is =
    let start : start_of state tells beginning ≡ record (start_from state opening cpus before) { faults = (tells backing).faults } = λ k. record {
      flat = (keeps.opening k).flat;
      segs = (keeps.opening k).segs;
      options = (keeps.opening k).options;
      firsts = map state (keeps.cpus k);
      faults = (tells (keeps.backing k)).faults;
    } in
    from_earlier m (record (start_from state opening cpus before) { faults = (tells backing).faults }) before.faults run fewer (subst (λ (s : Start _). IsRunOf m s run) start is)

-- new boards are at the beginning of their programs
new_runners : {C S : Type 0} (m : Meaning S) (state : C → S) (lines limit : ℕ) (segs : List (List ℕ)) (cpus : List C) (boards : List (Board C)) → length cpus ≡ length segs → length boards ≡ length cpus
    → ((i : ℕ) (registers : List ℕ) (cpu : C) (board : Board C) → slice_get segs i ≡ Some registers → slice_get cpus i ≡ Some cpu → slice_get boards i ≡ Some board
    → (n : ℕ) × IsNew n cpu registers lines limit board)
    → runners_of m state boards ≡ runners_from limit segs (map state cpus)
new_runners m state lines limit [] [] [] count same each = refl
new_runners m state lines limit [] [] (board ∷ boards) count same each = absurd (omega arith)
new_runners m state lines limit [] (cpu ∷ cpus) boards count same each = absurd (omega arith)
new_runners m state lines limit (registers ∷ segs) [] boards count same each = absurd (omega arith)
new_runners m state lines limit (registers ∷ segs) (cpu ∷ cpus) [] count same each = absurd (omega arith)
new_runners m state lines limit (registers ∷ segs) (cpu ∷ cpus) (board ∷ boards) count same each =
    let new = (each 0 registers cpu board refl refl refl).1 in
    let first : runner_of m state board ≡ record { segs = registers; budget = limit; course = begun (state cpu); swapped = false } = λ k. record {
      segs = new.segs k;
      budget = new.budget k;
      course = record { cpu = state (new.cpu k); retired = new.retired k; ending = course_ending (new.ended k) };
      swapped = is_swapped (new.ended k);
    } in
    let rest : runners_of m state boards ≡ runners_from limit segs (map state cpus) =
    new_runners m state lines limit segs cpus boards (omega arith) (omega arith) (λ i r p b at here there. each (suc i) r p b at here there) in
    λ k. first k ∷ rest k

pub new_are_first : {C S : Type 0} (m : Meaning S) (state : C → S) (opening : Opening) (cpus : List C) (boards : List (Board C)) (before : Swap) → length cpus ≡ length opening.segs
    → AreNewBoards opening.segs opening.options.lines opening.options.budget cpus boards → runners_of m state boards ≡ first_runners (start_from state opening cpus before)
new_are_first m state opening cpus boards before count new =
    new_runners m state opening.options.lines opening.options.budget opening.segs cpus boards count new.count (λ i r p b at here there. (i, new.each i r p b at here there))

-- ---- the order

-- boards of which none still runs have all ended
none_runs : (k : ℕ) (outs : List Bool) (i : ℕ) (out : Bool) → running_from k outs ≡ [] → slice_get outs i ≡ Some out → out ≡ true
none_runs k [] i out none at = absurd cc
none_runs k (false ∷ outs) i out none at = absurd cc
none_runs k (true ∷ outs) zero out none at = cc
none_runs k (true ∷ outs) (suc i) out none at = none_runs (k + 1) outs i out none at

pub all_are_out : {S : Type 0} (rs : List (Runner S)) → still_running rs ≡ [] → AllAreOut rs
all_are_out rs none i runner at = none_runs 0 (map is_out rs) i (is_out runner) none (slice_get_map rs i runner at)
  where
    slice_get_map : {S : Type 0} (rs : List (Runner S)) (i : ℕ) (r : Runner S) → slice_get rs i ≡ Some r → slice_get (map is_out rs) i ≡ Some (is_out r)
    slice_get_map [] i r at = absurd cc
    slice_get_map (one ∷ rs) zero r at = (let same : one ≡ r = cc in ap (λ (x : Runner _). Some (is_out x)) same)
    slice_get_map (one ∷ rs) (suc i) r at = slice_get_map rs i r at

-- a board that has an ending is out
out_by : {S : Type 0} (segs : List ℕ) (limit : ℕ) (cpu : S) (retired : ℕ) (ended : Option Ending) → IsSome ended
    → is_out (record { segs = segs; budget = limit; course = record { cpu = cpu; retired = retired; ending = course_ending ended }; swapped = is_swapped ended }) ≡ true
out_by segs limit cpu retired None some = absurd cc
out_by segs limit cpu retired (Some ending.Halted) some = refl
out_by segs limit cpu retired (Some (ending.Faulted kind at)) some = refl
out_by segs limit cpu retired (Some ending.Spent) some = refl
out_by segs limit cpu retired (Some ending.SwapFault) some = refl

pub ended_are_out : {C S : Type 0} (m : Meaning S) (state : C → S) (boards : List (Board C)) → All (λ board. IsSome board.ended) boards → AllAreOut (runners_of m state boards)
ended_are_out {C} {S} m state boards all i runner at =
    let from = got_map (runner_of m state) boards i runner at in
    let b : Board C = from.old in
    let some : IsSome b.ended = subst (λ (x : Board C). IsSome x.ended) (get_or_from_slice_get boards i b b from.there) (all i b (slice_get_within boards i b from.there)) in
    subst (λ (r : Runner S). is_out r ≡ true) from.is (out_by b.segs b.budget (state b.cpu) b.retired b.ended some)

module _ {C S B : Type 0} (m : Meaning S) (state : C → S) (tells : B → Swap) where
  -- a schedule from an empty history is that of the whole run
  scheduled_run : (schedule : Schedule) (most : ℕ) (stop : Option ℕ) (before after : List Entry) (olds news : List (Board C)) → before ≡ [] → IsScheduled m state schedule.start schedule.late most stop before after olds news
      → IsScheduledRun m schedule most stop (runners_of m state olds) after (runners_of m state news)
  scheduled_run schedule most stop before after olds news empty is =
      let entries : is.entries ≡ after = sym (is.history ∙ ap (λ (h : List Entry). h ++ is.entries) empty) in
      subst (λ (es : List Entry). IsScheduledRun m schedule most stop (runners_of m state olds) es (runners_of m state news)) entries
      record { followed = is.followed; in_order = is.in_order; few = is.few }

  -- the order of a world's run is that of the whole run
  pub order_followed : (order : Order) (opening : Opening) (cpus : List C) (before : Swap) (old new : World C B) (ran : Finished C B) → GoesByOrder m state order (stop_number ran.seen.stopped) old new
      → length cpus ≡ length opening.segs → AreNewBoards opening.segs opening.options.lines opening.options.budget cpus old.boards.items → old.beginning.opening.value ≡ opening → old.store.history.entries ≡ []
      → ran.store ≡ record new.store { phys = ran.store.phys } → OnlyLines board_lens new.boards.items ran.boards.items
      → FollowsOrder m order (start_from state opening cpus before) (run_of m state tells ran)
  order_followed Threads opening cpus before old new ran goes count fresh keeps empty kept only = tt
  order_followed (Scheduled schedule) opening cpus before old new ran goes count fresh keeps empty kept only =
      let boards : length old.boards.items ≡ length opening.segs = fresh.count ∙ count in
      let most : length old.boards.items * (old.beginning.opening.value.options.budget + 1) ≡ length opening.segs * (opening.options.budget + 1) = λ k. boards k * ((keeps k).options.budget + 1) in
      let olds = new_are_first m state opening cpus old.boards.items before count fresh in
      let entries : new.store.history.entries ≡ ran.store.history.entries = λ k. (sym kept k).history.entries in
      let news : runners_of m state new.boards.items ≡ runners_of m state ran.boards.items = sym (runners_kept m state new.boards.items ran.boards.items only) in
      subst (λ (z : ℕ × List (Runner S) × List Entry × List (Runner S)). IsScheduledRun m schedule z.0 (stop_number ran.seen.stopped) z.1 z.2 z.3) (λ k. (most k, olds k, entries k, news k))
      (scheduled_run schedule (length old.boards.items * (old.beginning.opening.value.options.budget + 1)) (stop_number ran.seen.stopped) old.store.history.entries new.store.history.entries old.boards.items new.boards.items empty goes)
