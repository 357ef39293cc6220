use Rattle.std.proofs.Common.{◌≡◌, ◌<◌, ◌≤◌, ◌∙◌, ℕ, List, Some, length, refl, subst, sym, rules}
use Rattle.std.specs.Prelude.{slice_get}
use Rattle.std.proofs.lemmas.Option.{slice_get_read}
use Rattle.spur_addr.specs.Address.{table_start}
use Rattle.spur_walk.specs.Laws.{need_of}
use Rattle.spur_pager.specs.Reserve.{turn_room}
use Rattle.spur_pager.specs.Stand.{IsServable}
use Rattle.spur_board.specs.declared.board.Board.{Board}
use Rattle.spur_core.specs.Boards.{LogsAreEmpty, view_in}
use Rattle.spur_core.specs.Good.{IsGood}
use Rattle.spur_core.specs.Takes.{IsAsking, TakesAccess}
use Rattle.spur_core.specs.Turn.{Idles, TakesIt}
use Rattle.spur_core.specs.World.{start_of}
use Rattle.spur_core.proofs.AskFacts.{asking_good, idle_ended, idle_other, user_good}
use Rattle.spur_core.proofs.GoodFacts.{taken_good, takes_empty}
use Rattle.spur_core.proofs.MergeFacts.{written_back}
use Rattle.spur_core.proofs.world.World.access.Goals as goal

pub take-requires-clause-user : goal.take-requires-clause-user
take-requires-clause-user g c =
    let boards : List (Board g.row.C.Denot) = c.args.self.now.boards.items in
    let z : slice_get boards c.args.b ≡ Some c.index-3.result.now = slice_get_read _ _ _ _ refl c.requires.board c.index-3.ensures in
    subst (λ (n : ℕ). n < table_start) (sym c.global-at.ensures.value) (user_good g.C.Cpu.meaning g.C.Cpu.state g.C.Cpu.room g.B.Backing.meaning (start_of g.C.Cpu.state g.B.Backing.meaning c.args.self.now.beginning) c.args.self.now.store boards c.args.b c.in-Access.va c.index-3.result.now c.requires.good z)

pub take-requires-clause-asking : goal.take-requires-clause-asking
take-requires-clause-asking g c =
    let boards : List (Board g.row.C.Denot) = c.args.self.now.boards.items in
    let b : ℕ = c.args.b in
    let x : slice_get boards b ≡ Some c.index.result.now = slice_get_read _ _ _ _ refl c.requires.board c.index.ensures in
    let y : slice_get boards b ≡ Some c.index-2.result.now = slice_get_read _ _ _ _ refl c.requires.board c.index-2.ensures in
    let z : slice_get boards b ≡ Some c.index-3.result.now = slice_get_read _ _ _ _ refl c.requires.board c.index-3.ensures in
    let asking = asking_good g.C.Cpu.meaning g.C.Cpu.state g.C.Cpu.room g.B.Backing.meaning (start_of g.C.Cpu.state g.B.Backing.meaning c.args.self.now.beginning) c.args.self.now.store boards b c.global-at.result c.in-Access.value c.in-Access.va
    c.in-Access.kind c.index.result.now c.index-2.result.now c.index-3.result.now c.requires.good x y z (sym c.is_some.ensures ∙ c.if-is_some.false) (sym c.want.ensures ∙ c.in-Access.is) c.global-at.ensures.value in
    subst (λ (bs : List (Board g.row.C.Denot)). IsAsking g.C.Cpu.meaning g.C.Cpu.state g.C.Cpu.room bs b c.in-Access.kind c.global-at.result c.in-Access.value) (sym c.deref_mut.ensures.value) asking

pub take-requires-clause-stands : goal.take-requires-clause-stands
take-requires-clause-stands g c =
    subst (λ (bs : List (Board g.row.C.Denot)). IsServable (view_in g.B.Backing.meaning c.args.self.now.store bs)) (sym c.deref_mut.ensures.value) (record { rest = _; stands = c.requires.good.stands })

pub take-requires-clause-room : goal.take-requires-clause-room
take-requires-clause-room g c =
    subst (λ (bs : List (Board g.row.C.Denot)). turn_room (view_in g.B.Backing.meaning c.args.self.now.store bs) c.args.b c.global-at.result (need_of c.in-Access.kind) ≤ c.args.self.now.store.history.room) (sym c.deref_mut.ensures.value) (c.requires.room c.global-at.result (need_of c.in-Access.kind))

pub returns-clause-good : goal.returns-clause-good
returns-clause-good g c =
    let boards : List (Board g.row.C.Denot) = c.args.self.now.boards.items in
    let b : ℕ = c.args.b in
    let x : slice_get boards b ≡ Some c.index.result.now = slice_get_read _ _ _ _ refl c.requires.board c.index.ensures in
    let y : slice_get boards b ≡ Some c.index-2.result.now = slice_get_read _ _ _ _ refl c.requires.board c.index-2.ensures in
    let z : slice_get boards b ≡ Some c.index-3.result.now = slice_get_read _ _ _ _ refl c.requires.board c.index-3.ensures in
    let asking = asking_good g.C.Cpu.meaning g.C.Cpu.state g.C.Cpu.room g.B.Backing.meaning (start_of g.C.Cpu.state g.B.Backing.meaning c.args.self.now.beginning) c.args.self.now.store boards b c.global-at.result c.in-Access.value c.in-Access.va
    c.in-Access.kind c.index.result.now c.index-2.result.now c.index-3.result.now c.requires.good x y z (sym c.is_some.ensures ∙ c.if-is_some.false) (sym c.want.ensures ∙ c.in-Access.is) c.global-at.ensures.value in
    let news : List (Board g.row.C.Denot) = c.take.new.boards in
    let value = c.deref_mut.ensures.value in
    let long : c.args.self.now.boards.len ≡ length news = search rules in
    let back = written_back news boards _ long in
    let takes = subst (λ (bs : List (Board g.row.C.Denot)). TakesAccess g.C.Cpu.meaning g.C.Cpu.state g.C.Cpu.room b c.global-at.result c.in-Access.kind (view_in g.B.Backing.meaning c.args.self.now.store bs) (view_in g.B.Backing.meaning c.take.new.store news) bs news) value c.take.ensures.takes in
    let good = taken_good g.C.Cpu.meaning g.C.Cpu.state g.C.Cpu.room g.B.Backing.meaning (start_of g.C.Cpu.state g.B.Backing.meaning c.args.self.now.beginning) c.args.self.now.store c.take.new.store boards news b c.global-at.result c.in-Access.value c.in-Access.kind c.requires.good c.requires.empty c.requires.board asking takes c.frames.ensures.table in
    subst (λ (bs : List (Board g.row.C.Denot)). IsGood g.C.Cpu.meaning g.C.Cpu.state g.C.Cpu.room g.B.Backing.meaning (start_of g.C.Cpu.state g.B.Backing.meaning c.args.self.now.beginning) c.take.new.store bs) (sym back) good

pub returns-then-is_some-clause-acted : goal.returns-then-is_some-clause-acted
returns-then-is_some-clause-acted g c =
    let boards : List (Board g.row.C.Denot) = c.args.self.now.boards.items in
    let x : slice_get boards c.args.b ≡ Some c.index.result.now = slice_get_read _ _ _ _ refl c.requires.board c.index.ensures in
    Idles (idle_ended g.C.Cpu.meaning g.C.Cpu.state g.C.Cpu.room boards c.args.b c.index.result.now x (sym c.is_some.ensures ∙ c.if-is_some.true)) refl

pub returns-in_default-clause-acted : goal.returns-in_default-clause-acted
returns-in_default-clause-acted g c =
    let boards : List (Board g.row.C.Denot) = c.args.self.now.boards.items in
    let y : slice_get boards c.args.b ≡ Some c.index-2.result.now = slice_get_read _ _ _ _ refl c.requires.board c.index-2.ensures in
    Idles (idle_other g.C.Cpu.meaning g.C.Cpu.state g.C.Cpu.room boards c.args.b c.index-2.result.now y (λ kind va value h. c.in_default.not-Access kind va value (c.want.ensures ∙ h))) refl

pub returns-clause-acted : goal.returns-clause-acted
returns-clause-acted g c =
    let boards : List (Board g.row.C.Denot) = c.args.self.now.boards.items in
    let b : ℕ = c.args.b in
    let x : slice_get boards b ≡ Some c.index.result.now = slice_get_read _ _ _ _ refl c.requires.board c.index.ensures in
    let y : slice_get boards b ≡ Some c.index-2.result.now = slice_get_read _ _ _ _ refl c.requires.board c.index-2.ensures in
    let z : slice_get boards b ≡ Some c.index-3.result.now = slice_get_read _ _ _ _ refl c.requires.board c.index-3.ensures in
    let asking = asking_good g.C.Cpu.meaning g.C.Cpu.state g.C.Cpu.room g.B.Backing.meaning (start_of g.C.Cpu.state g.B.Backing.meaning c.args.self.now.beginning) c.args.self.now.store boards b c.global-at.result c.in-Access.value c.in-Access.va
    c.in-Access.kind c.index.result.now c.index-2.result.now c.index-3.result.now c.requires.good x y z (sym c.is_some.ensures ∙ c.if-is_some.false) (sym c.want.ensures ∙ c.in-Access.is) c.global-at.ensures.value in
    let news : List (Board g.row.C.Denot) = c.take.new.boards in
    let value = c.deref_mut.ensures.value in
    let long : c.args.self.now.boards.len ≡ length news = search rules in
    let back = written_back news boards _ long in
    let takes = subst (λ (bs : List (Board g.row.C.Denot)). TakesAccess g.C.Cpu.meaning g.C.Cpu.state g.C.Cpu.room b c.global-at.result c.in-Access.kind (view_in g.B.Backing.meaning c.args.self.now.store bs) (view_in g.B.Backing.meaning c.take.new.store news) bs news) value c.take.ensures.takes in
    TakesIt c.global-at.result c.in-Access.value c.in-Access.kind asking
    (subst (λ (bs : List (Board g.row.C.Denot)). TakesAccess g.C.Cpu.meaning g.C.Cpu.state g.C.Cpu.room b c.global-at.result c.in-Access.kind (view_in g.B.Backing.meaning c.args.self.now.store boards) (view_in g.B.Backing.meaning c.take.new.store bs) boards bs) (sym back) takes)

pub returns-clause-empty : goal.returns-clause-empty
returns-clause-empty g c =
    let boards : List (Board g.row.C.Denot) = c.args.self.now.boards.items in
    let b : ℕ = c.args.b in
    let x : slice_get boards b ≡ Some c.index.result.now = slice_get_read _ _ _ _ refl c.requires.board c.index.ensures in
    let y : slice_get boards b ≡ Some c.index-2.result.now = slice_get_read _ _ _ _ refl c.requires.board c.index-2.ensures in
    let z : slice_get boards b ≡ Some c.index-3.result.now = slice_get_read _ _ _ _ refl c.requires.board c.index-3.ensures in
    let asking = asking_good g.C.Cpu.meaning g.C.Cpu.state g.C.Cpu.room g.B.Backing.meaning (start_of g.C.Cpu.state g.B.Backing.meaning c.args.self.now.beginning) c.args.self.now.store boards b c.global-at.result c.in-Access.value c.in-Access.va
    c.in-Access.kind c.index.result.now c.index-2.result.now c.index-3.result.now c.requires.good x y z (sym c.is_some.ensures ∙ c.if-is_some.false) (sym c.want.ensures ∙ c.in-Access.is) c.global-at.ensures.value in
    let news : List (Board g.row.C.Denot) = c.take.new.boards in
    let value = c.deref_mut.ensures.value in
    let long : c.args.self.now.boards.len ≡ length news = search rules in
    let back = written_back news boards _ long in
    let takes = subst (λ (bs : List (Board g.row.C.Denot)). TakesAccess g.C.Cpu.meaning g.C.Cpu.state g.C.Cpu.room b c.global-at.result c.in-Access.kind (view_in g.B.Backing.meaning c.args.self.now.store bs) (view_in g.B.Backing.meaning c.take.new.store news) bs news) value c.take.ensures.takes in
    subst (λ (bs : List (Board g.row.C.Denot)). LogsAreEmpty bs) (sym back) (takes_empty g.C.Cpu.meaning g.C.Cpu.state g.C.Cpu.room boards news b c.global-at.result c.in-Access.kind _ _ c.requires.empty takes)
