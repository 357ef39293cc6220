use Rattle.std.proofs.Common.{◌≡◌, ◌<◌, ◌≤◌, ◌+◌, ℕ, List, [], Some, false, ap, get_or, length, refl, subst, sym, arith, eq-eqb}
use Rattle.std.specs.Prelude.{slice_get}
use Rattle.std.proofs.Math.ListN.{set}
use Rattle.std.proofs.lemmas.List.{length-map}
use Rattle.spur_cache.specs.Lens.{caches}
use Rattle.spur_flat.specs.declared.access.FaultKind.TheVariants as fault
use Rattle.spur_flat.specs.declared.entry.Entry.TheVariants as entry
use Rattle.spur_pager.specs.View.{View}
use Rattle.spur_board.specs.declared.board.Board.{Board}
use Rattle.spur_board.specs.Boards.{Asks}
use Rattle.spur_core.specs.Boards.{board_lens, is_swapped, view_in}
use Rattle.spur_core.specs.Step.{OwnIsLast}
use Rattle.spur_core.proofs.DoneFacts.{align_comes}
use Rattle.spur_core.proofs.OutcomeFacts.{read_at}
use Rattle.spur_core.proofs.RoundFacts.{one_frugal}
use Rattle.spur_core.proofs.TakesFacts.{asks_access, asks_unswapped, caches_stay, fault_step, lens_board, takes_by}
use Rattle.spur_core.proofs.take.misalign.Goals as goal

pub faulted-requires-clause-going : goal.faulted-requires-clause-going
faulted-requires-clause-going g c =
    let b : ℕ = c.args.b in
    let at : ℕ = c.args.at in
    let kind = c.args.kind in
    let value : ℕ = c.args.value in
    let olds : List (Board g.row.C.Denot) = c.args.boards.now in
    let x : Board g.row.C.Denot = get_or olds b c.index-boards-b.result in
    let there : slice_get olds b ≡ Some x = read_at olds b c.index-boards-b.result c.requires.own in
    let asks : Asks g.C.Cpu.meaning g.C.Cpu.state g.C.Cpu.room b kind at value x = c.requires.asking.asks x there in
    asks.going

pub faulted-requires-clause-access : goal.faulted-requires-clause-access
faulted-requires-clause-access g c =
    let b : ℕ = c.args.b in
    let at : ℕ = c.args.at in
    let kind = c.args.kind in
    let value : ℕ = c.args.value in
    let olds : List (Board g.row.C.Denot) = c.args.boards.now in
    let x : Board g.row.C.Denot = get_or olds b c.index-boards-b.result in
    let there : slice_get olds b ≡ Some x = read_at olds b c.index-boards-b.result c.requires.own in
    let asks : Asks g.C.Cpu.meaning g.C.Cpu.state g.C.Cpu.room b kind at value x = c.requires.asking.asks x there in
    asks_access g.C.Cpu.meaning g.C.Cpu.state g.C.Cpu.room b at value kind x asks

pub returns : goal.returns
returns g c =
    let b : ℕ = c.args.b in
    let at : ℕ = c.args.at in
    let kind = c.args.kind in
    let value : ℕ = c.args.value in
    let olds : List (Board g.row.C.Denot) = c.args.boards.now in
    let x : Board g.row.C.Denot = get_or olds b c.index-boards-b.result in
    let there : slice_get olds b ≡ Some x = read_at olds b c.index-boards-b.result c.requires.own in
    let asks : Asks g.C.Cpu.meaning g.C.Cpu.state g.C.Cpu.room b kind at value x = c.requires.asking.asks x there in
    let y : Board g.row.C.Denot = c.faulted.new.self in
    let w : View = view_in g.B.Backing.meaning c.args.store.now olds in
    let z : View = view_in g.B.Backing.meaning (record c.args.store.now { history = c.append.new.self }) (set olds b y) in
    let within : b < length w.caches = subst (λ (n : ℕ). b < n) (sym (length-map olds (λ (q : Board g.row.C.Denot). q.cache))) c.requires.own in
    let faulted = c.faulted.ensures in
    let cache : y.cache ≡ x.cache = ap (λ (q : Board g.row.C.Denot). q.cache) faulted.stays.is in
    let comes = align_comes b at kind w z within c.requires.user c.requires.unaligned c.append.ensures.entry c.append.ensures.room (record { caches = caches_stay olds b x y there cache; memory = refl; shares = record { frames = refl; pages = refl; slots = refl } }) refl refl in
    let later = comes.later in
    let none : 0 + w.faults ≤ z.faults = omega arith in
    record {
      takes = takes_by g.C.Cpu.meaning g.C.Cpu.state g.C.Cpu.room b at kind w z _ _ olds olds (caches board_lens olds) x y (entry.Fault b fault.Align kind at) false comes (λ unswapped. OwnIsLast [] (entry.Fault b fault.Align kind at) refl (eq-eqb b b refl)) (one_frugal (entry.Fault b fault.Align kind at) refl) (lens_board olds) there
          (fault_step g.C.Cpu.meaning g.C.Cpu.state g.C.Cpu.room b at value kind fault.Align x y asks refl faulted) (ap (λ (q : Board g.row.C.Denot). q.log) faulted.stays.is) (asks_unswapped g.C.Cpu.meaning g.C.Cpu.state g.C.Cpu.room b at value kind x asks) (ap is_swapped faulted.ended) none;
    }
