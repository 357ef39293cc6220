use Rattle.std.proofs.Common.{◌≡◌, ◌∙◌, ℕ, List, Some, None, ap, refl, subst}
use Rattle.std.specs.Prelude.{slice_get}
use Rattle.std.specs.Prelude.{Vec}
use Rattle.std.specs.Vec.{with_item}
use Rattle.std.proofs.lemmas.Option.{slice_get_read}
use Rattle.spur_board.specs.declared.board.Board.{Board}
use Rattle.spur_board.specs.Own.{HasTurned}
use Rattle.spur_core.specs.World.{start_of}
use Rattle.spur_core.proofs.InstructionFacts.{events-take-instructions}
use Rattle.spur_core.proofs.AskFacts.{same_at}
use Rattle.spur_core.proofs.OwnEventFacts.{events_good}
use Rattle.spur_core.proofs.OwnStepFacts.{event_stepped, turned_event, turned_still}
use Rattle.spur_core.proofs.SoundFacts.{good-boards-are-sound}
use Rattle.spur_core.proofs.VecFacts.{vector_back}
use Rattle.spur_core.proofs.world.World.own.Goals as goal

pub own_turn-requires : goal.own_turn-requires
own_turn-requires g c =
    let x : Board g.row.C.Denot = c.index_mut.result.now in
    let at : slice_get c.args.self.now.boards.items c.args.b ≡ Some x = slice_get_read _ _ _ _ refl c.requires.board c.index_mut.ensures.value in
    record { sound = good-boards-are-sound g.C.Cpu.meaning g.C.Cpu.state g.C.Cpu.room g.B.Backing.meaning (start_of g.C.Cpu.state g.B.Backing.meaning c.args.self.now.beginning) c.args.self.now.store c.args.self.now.boards.items c.args.b x c.requires.good at }

pub returns-clause-good : goal.returns-clause-good
returns-clause-good g c =
    let x : Board g.row.C.Denot = c.index_mut.result.now in
    let at : slice_get c.args.self.now.boards.items c.args.b ≡ Some x = slice_get_read _ _ _ _ refl c.requires.board c.index_mut.ensures.value in
    events_good g.C.Cpu.meaning g.C.Cpu.state g.C.Cpu.room g.B.Backing.meaning (start_of g.C.Cpu.state g.B.Backing.meaning c.args.self.now.beginning) c.args.self.now.store c.own_turn.ensures.step.count c.args.self.now.boards.items c.args.b x c.own_turn.new.self c.requires.good at c.own_turn.ensures.step.follows

pub returns-clause-own : goal.returns-clause-own
returns-clause-own g c =
    let x : Board g.row.C.Denot = c.index_mut.result.now in
    let at : slice_get c.args.self.now.boards.items c.args.b ≡ Some x = slice_get_read _ _ _ _ refl c.requires.board c.index_mut.ensures.value in
    record { old = x; new = c.own_turn.new.self; there = at; is = refl; turned = c.own_turn.ensures }

pub returns-clause-still : goal.returns-clause-still
returns-clause-still g c = λ one wants.
    let boards = c.args.self.now.boards in
    let x : Board g.row.C.Denot = c.index_mut.result.now in
    let at : slice_get boards.items c.args.b ≡ Some x = slice_get_read _ _ _ _ refl c.requires.board c.index_mut.ensures.value in
    let same : c.own_turn.new.self ≡ x = turned_still g.C.Cpu.meaning g.C.Cpu.state g.C.Cpu.room c.args.at_most x c.own_turn.new.self c.own_turn.result c.own_turn.ensures one wants in
    ap (λ (y : Board g.row.C.Denot). record c.args.self.now { boards = with_item boards c.args.b y }) same
    ∙ ap (λ (v : Vec (Board g.row.C.Denot) _). record c.args.self.now { boards = v }) (vector_back boards c.args.b x at)

pub returns-clause-stepped : goal.returns-clause-stepped
returns-clause-stepped g c = λ one alone unended empty.
    let boards : List (Board g.row.C.Denot) = c.args.self.now.boards.items in
    let x : Board g.row.C.Denot = c.index_mut.result.now in
    let y : Board g.row.C.Denot = c.own_turn.new.self in
    let at : slice_get boards c.args.b ≡ Some x = slice_get_read _ _ _ _ refl c.requires.board c.index_mut.ensures.value in
    let none : x.ended ≡ None = ap (λ (b : Board g.row.C.Denot). b.ended) (same_at boards c.args.b x unended.board at unended.there) ∙ unended.going in
    let turned : HasTurned g.C.Cpu.meaning g.C.Cpu.state g.C.Cpu.room 1 x c.own_turn.result y =
    subst (λ (n : ℕ). HasTurned g.C.Cpu.meaning g.C.Cpu.state g.C.Cpu.room n x c.own_turn.result y) one c.own_turn.ensures in
    event_stepped g.C.Cpu.meaning g.C.Cpu.state g.C.Cpu.room c.args.self.now.store boards c.args.b x y empty at (c.requires.good.programs.each c.args.b x at).number
    (turned_event g.C.Cpu.meaning g.C.Cpu.state g.C.Cpu.room x y c.own_turn.result turned alone none)

pub returns-clause-instruction : goal.returns-clause-instruction
returns-clause-instruction g c = λ one alone unended.
    let boards : List (Board g.row.C.Denot) = c.args.self.now.boards.items in
    let x : Board g.row.C.Denot = c.index_mut.result.now in
    let y : Board g.row.C.Denot = c.own_turn.new.self in
    let at : slice_get boards c.args.b ≡ Some x = slice_get_read _ _ _ _ refl c.requires.board c.index_mut.ensures.value in
    let none : x.ended ≡ None = ap (λ (b : Board g.row.C.Denot). b.ended) (same_at boards c.args.b x unended.board at unended.there) ∙ unended.going in
    let turned : HasTurned g.C.Cpu.meaning g.C.Cpu.state g.C.Cpu.room 1 x c.own_turn.result y =
    subst (λ (n : ℕ). HasTurned g.C.Cpu.meaning g.C.Cpu.state g.C.Cpu.room n x c.own_turn.result y) one c.own_turn.ensures in
    events-take-instructions g.C.Cpu.meaning g.C.Cpu.state g.C.Cpu.room c.args.self.now.store boards c.args.b x y c.requires.good.logs at (c.requires.good.programs.each c.args.b x at).number
    (turned_event g.C.Cpu.meaning g.C.Cpu.state g.C.Cpu.room x y c.own_turn.result turned alone none)
