use Rattle.std.proofs.Common.{◌≡◌, ◌<◌, ◌≤◌, ◌+◌, ◌∙◌, ℕ, List, Option, Some, true, false, ap, get_or, length, refl, subst, sym, arith}
use Rattle.std.specs.Prelude.{IsSome, slice_get}
use Rattle.std.proofs.Math.ListN.{set}
use Rattle.std.proofs.lemmas.List.{length-map}
use Rattle.spur_cache.specs.declared.line.Line.{Line}
use Rattle.spur_cache.specs.Lens.{caches}
use Rattle.spur_cache.specs.Lines.{found, word_in}
use Rattle.spur_flat.specs.declared.entry.Entry.TheVariants as entry
use Rattle.spur_flat.specs.Table.{data_word}
use Rattle.spur_walk.specs.Laws.{done_entry}
use Rattle.spur_walk.specs.Tables.{logical_flat}
use Rattle.spur_pager.specs.View.{View}
use Rattle.spur_board.specs.declared.board.Board.{Board}
use Rattle.spur_board.specs.Boards.{done_lines, done_value}
use Rattle.spur_core.specs.Boards.{board_lens, is_swapped, view_in}
use Rattle.spur_core.specs.Comes.{BecomesReady, EndsByFault, EndsBySwap}
use Rattle.spur_core.proofs.ComesFacts.{own_is_last}
use Rattle.spur_core.proofs.CourseFacts.{lens_get}
use Rattle.spur_core.proofs.DoneFacts.{done_comes}
use Rattle.spur_core.proofs.OutcomeFacts.{comes_alike, ended_of, read_at, ready_of, ready_there, ready_word, swapped_of}
use Rattle.spur_core.proofs.RoundFacts.{done_is_done, done_is_own}
use Rattle.spur_core.proofs.TakesFacts.{IsStep, asks_access, asks_now, asks_unswapped, cache_at, caches_done, caches_stay, done_step, done_unswapped, fault_step, lined, swap_step, takes_by}
use Rattle.spur_core.proofs.take.take_aligned.Goals as goal

pub complete-requires-clause-going : goal.complete-requires-clause-going
complete-requires-clause-going g c =
    let b : ℕ = c.args.b in
    let at : ℕ = c.args.at in
    let kind = c.args.kind in
    let value : ℕ = c.args.value in
    let olds : List (Board g.row.C.Denot) = c.args.boards.now in
    let mids : List (Board g.row.C.Denot) = c.reach.new.boards in
    let x : Board g.row.C.Denot = get_or mids b c.index-boards-b.result in
    let here : b < length mids = subst (λ (n : ℕ). b < n) (sym c.reach.auto.boards) c.requires.own in
    let there : slice_get mids b ≡ Some x = read_at mids b c.index-boards-b.result here in
    let only = lens_get olds (caches board_lens mids) b x (ap (λ bs. slice_get bs b) (sym c.reach.ensures.lens) ∙ there) in
    let asks = asks_now g.C.Cpu.meaning g.C.Cpu.state g.C.Cpu.room olds b at value kind x c.requires.asking only in
    asks.going

pub complete-requires-clause-access : goal.complete-requires-clause-access
complete-requires-clause-access g c =
    let b : ℕ = c.args.b in
    let at : ℕ = c.args.at in
    let kind = c.args.kind in
    let value : ℕ = c.args.value in
    let olds : List (Board g.row.C.Denot) = c.args.boards.now in
    let mids : List (Board g.row.C.Denot) = c.reach.new.boards in
    let x : Board g.row.C.Denot = get_or mids b c.index-boards-b.result in
    let here : b < length mids = subst (λ (n : ℕ). b < n) (sym c.reach.auto.boards) c.requires.own in
    let there : slice_get mids b ≡ Some x = read_at mids b c.index-boards-b.result here in
    let only = lens_get olds (caches board_lens mids) b x (ap (λ bs. slice_get bs b) (sym c.reach.ensures.lens) ∙ there) in
    let asks = asks_now g.C.Cpu.meaning g.C.Cpu.state g.C.Cpu.room olds b at value kind x c.requires.asking only in
    asks_access g.C.Cpu.meaning g.C.Cpu.state g.C.Cpu.room b at value kind x asks

pub complete-requires-clause-there : goal.complete-requires-clause-there
complete-requires-clause-there g c =
    let b : ℕ = c.args.b in
    let at : ℕ = c.args.at in
    let kind = c.args.kind in
    let value : ℕ = c.args.value in
    let olds : List (Board g.row.C.Denot) = c.args.boards.now in
    let mids : List (Board g.row.C.Denot) = c.reach.new.boards in
    let x : Board g.row.C.Denot = get_or mids b c.index-boards-b.result in
    let here : b < length mids = subst (λ (n : ℕ). b < n) (sym c.reach.auto.boards) c.requires.own in
    let there : slice_get mids b ≡ Some x = read_at mids b c.index-boards-b.result here in
    let only = lens_get olds (caches board_lens mids) b x (ap (λ bs. slice_get bs b) (sym c.reach.ensures.lens) ∙ there) in
    let asks = asks_now g.C.Cpu.meaning g.C.Cpu.state g.C.Cpu.room olds b at value kind x c.requires.asking only in
    let w : View = view_in g.B.Backing.meaning c.args.store.now olds in
    let v : View = view_in g.B.Backing.meaning c.reach.new.store mids in
    let ready : BecomesReady b at kind w v = ready_of b at kind w v c.reach.result c.in-Ready.is c.reach.ensures.reaches in
    subst (λ (ls : List (Option Line)). IsSome (found ls at)) (cache_at mids b x there) (ready_there b at kind w v ready)

pub complete-requires-clause-room : goal.complete-requires-clause-room
complete-requires-clause-room g c =
    let b : ℕ = c.args.b in
    let at : ℕ = c.args.at in
    let kind = c.args.kind in
    let value : ℕ = c.args.value in
    let olds : List (Board g.row.C.Denot) = c.args.boards.now in
    let mids : List (Board g.row.C.Denot) = c.reach.new.boards in
    let x : Board g.row.C.Denot = get_or mids b c.index-boards-b.result in
    let here : b < length mids = subst (λ (n : ℕ). b < n) (sym c.reach.auto.boards) c.requires.own in
    let there : slice_get mids b ≡ Some x = read_at mids b c.index-boards-b.result here in
    let only = lens_get olds (caches board_lens mids) b x (ap (λ bs. slice_get bs b) (sym c.reach.ensures.lens) ∙ there) in
    let asks = asks_now g.C.Cpu.meaning g.C.Cpu.state g.C.Cpu.room olds b at value kind x c.requires.asking only in
    let w : View = view_in g.B.Backing.meaning c.args.store.now olds in
    let v : View = view_in g.B.Backing.meaning c.reach.new.store mids in
    let ready : BecomesReady b at kind w v = ready_of b at kind w v c.reach.result c.in-Ready.is c.reach.ensures.reaches in
    ready.room

pub faulted-requires-clause-going : goal.faulted-requires-clause-going
faulted-requires-clause-going g c =
    let b : ℕ = c.args.b in
    let at : ℕ = c.args.at in
    let kind = c.args.kind in
    let value : ℕ = c.args.value in
    let olds : List (Board g.row.C.Denot) = c.args.boards.now in
    let mids : List (Board g.row.C.Denot) = c.reach.new.boards in
    let x : Board g.row.C.Denot = get_or mids b c.index-boards-b-in-Ends.result in
    let here : b < length mids = subst (λ (n : ℕ). b < n) (sym c.reach.auto.boards) c.requires.own in
    let there : slice_get mids b ≡ Some x = read_at mids b c.index-boards-b-in-Ends.result here in
    let only = lens_get olds (caches board_lens mids) b x (ap (λ bs. slice_get bs b) (sym c.reach.ensures.lens) ∙ there) in
    let asks = asks_now g.C.Cpu.meaning g.C.Cpu.state g.C.Cpu.room olds b at value kind x c.requires.asking only in
    asks.going

pub faulted-requires-clause-access : goal.faulted-requires-clause-access
faulted-requires-clause-access g c =
    let b : ℕ = c.args.b in
    let at : ℕ = c.args.at in
    let kind = c.args.kind in
    let value : ℕ = c.args.value in
    let olds : List (Board g.row.C.Denot) = c.args.boards.now in
    let mids : List (Board g.row.C.Denot) = c.reach.new.boards in
    let x : Board g.row.C.Denot = get_or mids b c.index-boards-b-in-Ends.result in
    let here : b < length mids = subst (λ (n : ℕ). b < n) (sym c.reach.auto.boards) c.requires.own in
    let there : slice_get mids b ≡ Some x = read_at mids b c.index-boards-b-in-Ends.result here in
    let only = lens_get olds (caches board_lens mids) b x (ap (λ bs. slice_get bs b) (sym c.reach.ensures.lens) ∙ there) in
    let asks = asks_now g.C.Cpu.meaning g.C.Cpu.state g.C.Cpu.room olds b at value kind x c.requires.asking only in
    asks_access g.C.Cpu.meaning g.C.Cpu.state g.C.Cpu.room b at value kind x asks

pub returns-in-Ready : goal.returns-in-Ready
returns-in-Ready g c =
    let b : ℕ = c.args.b in
    let at : ℕ = c.args.at in
    let kind = c.args.kind in
    let value : ℕ = c.args.value in
    let olds : List (Board g.row.C.Denot) = c.args.boards.now in
    let mids : List (Board g.row.C.Denot) = c.reach.new.boards in
    let x : Board g.row.C.Denot = get_or mids b c.index-boards-b.result in
    let here : b < length mids = subst (λ (n : ℕ). b < n) (sym c.reach.auto.boards) c.requires.own in
    let there : slice_get mids b ≡ Some x = read_at mids b c.index-boards-b.result here in
    let only = lens_get olds (caches board_lens mids) b x (ap (λ bs. slice_get bs b) (sym c.reach.ensures.lens) ∙ there) in
    let asks = asks_now g.C.Cpu.meaning g.C.Cpu.state g.C.Cpu.room olds b at value kind x c.requires.asking only in
    let w : View = view_in g.B.Backing.meaning c.args.store.now olds in
    let v : View = view_in g.B.Backing.meaning c.reach.new.store mids in
    let y : Board g.row.C.Denot = c.complete.new.board in
    let z : View = view_in g.B.Backing.meaning (record c.reach.new.store { history = c.complete.new.history }) (set mids b y) in
    let within : b < length w.caches = subst (λ (n : ℕ). b < n) (sym (length-map olds (λ (x : Board g.row.C.Denot). x.cache))) c.requires.own in
    let ready : BecomesReady b at kind w v = ready_of b at kind w v c.reach.result c.in-Ready.is c.reach.ensures.reaches in
    let word : ℕ = word_in (found x.cache at) at in
    let done = c.complete.ensures.done in
    let cache : y.cache ≡ done_lines kind x.cache at value = ap (λ (q : Board g.row.C.Denot). q.cache) done.stays.is in
    let word_is : word ≡ data_word (logical_flat v.caches v.memory) at = ap (λ (ls : List (Option Line)). word_in (found ls at) at) (sym (cache_at mids b x there)) ∙ ready_word b at kind w v within c.requires.user ready in
    let comes = done_comes b at word value kind w v z c.requires.stands within c.requires.user c.requires.aligned ready word_is c.complete.ensures.entry c.complete.ensures.room
    (caches_done kind mids b at value x y there cache) refl (record { frames = refl; pages = refl; slots = refl }) refl refl in
    let later = comes.later in
    let none : 0 + w.faults ≤ z.faults = omega arith in
    record {
      takes = takes_by g.C.Cpu.meaning g.C.Cpu.state g.C.Cpu.room b at kind w z _ ready.faults olds mids (caches board_lens mids) x y (done_entry kind b at word value) false comes (λ unswapped. own_is_last b ready.entries ready.way.entries (done_entry kind b at word value) (done_is_own kind b at word value)) (ready.frugal (done_entry kind b at word value) (done_is_done kind b at word value))
          c.reach.ensures.lens there (done_step g.C.Cpu.meaning g.C.Cpu.state g.C.Cpu.room b at value word kind x y asks done) (ap (λ (q : Board g.row.C.Denot). q.log) done.stays.is) (asks_unswapped g.C.Cpu.meaning g.C.Cpu.state g.C.Cpu.room b at value kind x asks)
          (done_unswapped g.C.Cpu.meaning g.C.Cpu.state g.C.Cpu.room (lined g.C.Cpu.meaning g.C.Cpu.state g.C.Cpu.room x kind at value) y (done_value kind word value) done) none;
    }

pub returns-in-Ends : goal.returns-in-Ends
returns-in-Ends g c =
    let b : ℕ = c.args.b in
    let at : ℕ = c.args.at in
    let kind = c.args.kind in
    let value : ℕ = c.args.value in
    let olds : List (Board g.row.C.Denot) = c.args.boards.now in
    let mids : List (Board g.row.C.Denot) = c.reach.new.boards in
    let x : Board g.row.C.Denot = get_or mids b c.index-boards-b-in-Ends.result in
    let here : b < length mids = subst (λ (n : ℕ). b < n) (sym c.reach.auto.boards) c.requires.own in
    let there : slice_get mids b ≡ Some x = read_at mids b c.index-boards-b-in-Ends.result here in
    let only = lens_get olds (caches board_lens mids) b x (ap (λ bs. slice_get bs b) (sym c.reach.ensures.lens) ∙ there) in
    let asks = asks_now g.C.Cpu.meaning g.C.Cpu.state g.C.Cpu.room olds b at value kind x c.requires.asking only in
    let w : View = view_in g.B.Backing.meaning c.args.store.now olds in
    let v : View = view_in g.B.Backing.meaning c.reach.new.store mids in
    let y : Board g.row.C.Denot = c.faulted.new.self in
    let z : View = view_in g.B.Backing.meaning c.reach.new.store (set mids b y) in
    let ended : EndsByFault b at kind w v c.in-Ends.fault = ended_of b at kind w v c.in-Ends.fault c.reach.result c.in-Ends.is c.reach.ensures.reaches in
    let faulted = c.faulted.ensures in
    let cache : y.cache ≡ x.cache = ap (λ (q : Board g.row.C.Denot). q.cache) faulted.stays.is in
    let comes = comes_alike b at kind w v z _ _ _ ended.comes (caches_stay mids b x y there cache) refl in
    let later = comes.later in
    let none : 0 + w.faults ≤ z.faults = omega arith in
    record {
      takes = takes_by g.C.Cpu.meaning g.C.Cpu.state g.C.Cpu.room b at kind w z ended.entries ended.faults olds mids (caches board_lens mids) x y (entry.Fault b c.in-Ends.fault kind at) false comes (λ unswapped. ended.reaches) ended.frugal c.reach.ensures.lens there (fault_step g.C.Cpu.meaning g.C.Cpu.state g.C.Cpu.room b at value kind c.in-Ends.fault x y asks ended.ending faulted) (ap (λ (q : Board g.row.C.Denot). q.log) faulted.stays.is) (asks_unswapped g.C.Cpu.meaning g.C.Cpu.state g.C.Cpu.room b at value kind x asks)
          (ap is_swapped faulted.ended) none;
    }

pub returns-in-SwapFault : goal.returns-in-SwapFault
returns-in-SwapFault g c =
    let b : ℕ = c.args.b in
    let at : ℕ = c.args.at in
    let kind = c.args.kind in
    let value : ℕ = c.args.value in
    let olds : List (Board g.row.C.Denot) = c.args.boards.now in
    let mids : List (Board g.row.C.Denot) = c.reach.new.boards in
    let x : Board g.row.C.Denot = get_or mids b c.index-boards-b-in-SwapFault.result in
    let here : b < length mids = subst (λ (n : ℕ). b < n) (sym c.reach.auto.boards) c.requires.own in
    let there : slice_get mids b ≡ Some x = read_at mids b c.index-boards-b-in-SwapFault.result here in
    let only = lens_get olds (caches board_lens mids) b x (ap (λ bs. slice_get bs b) (sym c.reach.ensures.lens) ∙ there) in
    let asks = asks_now g.C.Cpu.meaning g.C.Cpu.state g.C.Cpu.room olds b at value kind x c.requires.asking only in
    let w : View = view_in g.B.Backing.meaning c.args.store.now olds in
    let v : View = view_in g.B.Backing.meaning c.reach.new.store mids in
    let y : Board g.row.C.Denot = c.swap_failed.new.self in
    let z : View = view_in g.B.Backing.meaning c.reach.new.store (set mids b y) in
    let swapped : EndsBySwap b at kind w v = swapped_of b at kind w v c.reach.result c.in-SwapFault.is c.reach.ensures.reaches in
    let is = c.swap_failed.ensures in
    let comes = comes_alike b at kind w v z _ _ _ swapped.comes (caches_stay mids b x y there (ap (λ (q : Board g.row.C.Denot). q.cache) is)) refl in
    let step = subst (λ (q : Board g.row.C.Denot). IsStep g.C.Cpu.meaning g.C.Cpu.state g.C.Cpu.room x q (entry.Fault b swapped.kind kind at)) (sym is) (swap_step g.C.Cpu.meaning g.C.Cpu.state g.C.Cpu.room b at value kind swapped.kind x asks swapped.asked) in
    let rose = swapped.rose in
    record {
      takes = takes_by g.C.Cpu.meaning g.C.Cpu.state g.C.Cpu.room b at kind w z swapped.entries swapped.faults olds mids (caches board_lens mids) x y (entry.Fault b swapped.kind kind at) true comes (λ unswapped. absurd (cc)) swapped.frugal c.reach.ensures.lens there step (ap (λ (q : Board g.row.C.Denot). q.log) is) (asks_unswapped g.C.Cpu.meaning g.C.Cpu.state g.C.Cpu.room b at value kind x asks)
          (ap (λ (q : Board g.row.C.Denot). is_swapped q.ended) is) (let r : 1 + w.faults ≤ v.faults = omega arith in r);
    }
