use Rattle.std.proofs.Common.{◌≡◌, ◌+◌, ◌*◌, ◌≤◌, ◌∙◌, ℕ, List, length, subst, sym, arith, rules}
use Rattle.std.proofs.lemmas.List.{length-map}
use Rattle.spur_cache.specs.Lens.{OnlyLines}
use Rattle.spur_snoop.specs.declared.Need.{Need}
use Rattle.spur_pager.specs.Ahead.{DoesAhead, LeavesLess, ahead_room}
use Rattle.spur_pager.specs.Reserve.{leaving_left, turn_room}
use Rattle.spur_pager.specs.Served.{IsCarriedOn, Keeps}
use Rattle.spur_pager.specs.Stand.{IsServable}
use Rattle.spur_pager.specs.View.{View}
use Rattle.spur_pager.proofs.AheadStepFacts.{ahead-fits}
use Rattle.spur_pager.proofs.ReserveFacts.{ahead-leaves-room, leaving-is-bounded}
use Rattle.spur_board.specs.declared.board.Board.{Board}
use Rattle.spur_core.specs.Boards.{LogsAreEmpty, board_lens, view_in}
use Rattle.spur_core.specs.Good.{IsGood}
use Rattle.spur_core.specs.World.{start_of}
use Rattle.spur_core.proofs.MergeFacts.{written_back}
use Rattle.spur_core.proofs.ReadyFacts.{ahead_empty, ahead_good}
use Rattle.spur_core.proofs.VecFacts.{world_same}
use Rattle.spur_core.proofs.world.World.step_ahead.Goals as goal

pub ahead_step-requires-clause-stands : goal.ahead_step-requires-clause-stands
ahead_step-requires-clause-stands g c =
    subst (λ (bs : List (Board g.row.C.Denot)). IsServable (view_in g.B.Backing.meaning c.args.self.now.store bs)) (sym c.deref_mut.ensures.value) (record { rest = _; stands = c.requires.good.stands })

pub ahead_step-requires-clause-room : goal.ahead_step-requires-clause-room
ahead_step-requires-clause-room g c =
    let olds : List (Board g.row.C.Denot) = c.args.self.now.boards.items in
    let w : View = view_in g.B.Backing.meaning c.args.self.now.store olds in
    let servable : IsServable w = record { rest = _; stands = c.requires.good.stands } in
    let count : length w.caches ≡ length olds = length-map olds (λ (x : Board g.row.C.Denot). x.cache) in
    let spare : 5 * length w.frames.held + 128 * length olds + 65 ≤ w.room = c.requires.room in
    let fits : ahead_room w ≤ leaving_left w = ahead-fits w in
    let most : leaving_left w ≤ 5 * length w.frames.held + 10 + 128 * length w.caches = leaving-is-bounded w servable in
    let enough : ahead_room w ≤ w.room = omega arith in
    subst (λ (bs : List (Board g.row.C.Denot)). ahead_room (view_in g.B.Backing.meaning c.args.self.now.store bs) ≤ c.args.self.now.store.history.room) (sym c.deref_mut.ensures.value) enough

pub returns-clause-good : goal.returns-clause-good
returns-clause-good g c =
    let olds : List (Board g.row.C.Denot) = c.args.self.now.boards.items in
    let news : List (Board g.row.C.Denot) = c.ahead_step.new.boards in
    let store = c.args.self.now.store in
    let after = c.ahead_step.new.store in
    let meaning = g.B.Backing.meaning in
    let value = c.deref_mut.ensures.value in
    let long : c.args.self.now.boards.len ≡ length news = search rules in
    let back = written_back news olds _ long in
    let w : View = view_in meaning store olds in
    let v : View = view_in meaning after news in
    let does : DoesAhead c.args.b w v = subst (λ (bs : List (Board g.row.C.Denot)). DoesAhead c.args.b (view_in meaning store bs) v) value c.ahead_step.ensures.does in
    let carried : IsCarriedOn w v = subst (λ (bs : List (Board g.row.C.Denot)). IsCarriedOn (view_in meaning store bs) v) value c.ahead_step.ensures.carried in
    let keeps : Keeps w v = subst (λ (bs : List (Board g.row.C.Denot)). Keeps (view_in meaning store bs) v) value c.ahead_step.ensures.keeps in
    let lens : OnlyLines board_lens olds news = subst (λ (bs : List (Board g.row.C.Denot)). OnlyLines board_lens bs news) value c.ahead_step.ensures.lens in
    let later = c.ahead_step.ensures.counts.later in
    let good = ahead_good g.C.Cpu.meaning g.C.Cpu.state g.C.Cpu.room g.B.Backing.meaning (start_of g.C.Cpu.state g.B.Backing.meaning c.args.self.now.beginning) store after olds news c.args.b c.requires.good c.requires.empty does carried keeps lens later c.frames.ensures.table in
    subst (λ (bs : List (Board g.row.C.Denot)). IsGood g.C.Cpu.meaning g.C.Cpu.state g.C.Cpu.room g.B.Backing.meaning (start_of g.C.Cpu.state g.B.Backing.meaning c.args.self.now.beginning) after bs) (sym back) good

pub returns-clause-steps : goal.returns-clause-steps
returns-clause-steps g c =
    let olds : List (Board g.row.C.Denot) = c.args.self.now.boards.items in
    let news : List (Board g.row.C.Denot) = c.ahead_step.new.boards in
    let store = c.args.self.now.store in
    let after = c.ahead_step.new.store in
    let meaning = g.B.Backing.meaning in
    let value = c.deref_mut.ensures.value in
    let long : c.args.self.now.boards.len ≡ length news = search rules in
    let back = written_back news olds _ long in
    let w : View = view_in meaning store olds in
    let v : View = view_in meaning after news in
    let does : DoesAhead c.args.b w v = subst (λ (bs : List (Board g.row.C.Denot)). DoesAhead c.args.b (view_in meaning store bs) v) value c.ahead_step.ensures.does in
    let carried : IsCarriedOn w v = subst (λ (bs : List (Board g.row.C.Denot)). IsCarriedOn (view_in meaning store bs) v) value c.ahead_step.ensures.carried in
    let keeps : Keeps w v = subst (λ (bs : List (Board g.row.C.Denot)). Keeps (view_in meaning store bs) v) value c.ahead_step.ensures.keeps in
    let lens : OnlyLines board_lens olds news = subst (λ (bs : List (Board g.row.C.Denot)). OnlyLines board_lens bs news) value c.ahead_step.ensures.lens in
    let later = c.ahead_step.ensures.counts.later in
    record {
      does = subst (λ (bs : List (Board g.row.C.Denot)). DoesAhead c.args.b w (view_in meaning after bs)) (sym back) does;
      carried = subst (λ (bs : List (Board g.row.C.Denot)). IsCarriedOn w (view_in meaning after bs)) (sym back) carried;
      keeps = subst (λ (bs : List (Board g.row.C.Denot)). Keeps w (view_in meaning after bs)) (sym back) keeps;
      lens = subst (λ (bs : List (Board g.row.C.Denot)). OnlyLines board_lens olds bs) (sym back) lens;
      later = later;
      still = λ idle. world_same c.args.self.now after news (c.ahead_step.ensures.store_stays idle) (c.ahead_step.ensures.boards_stay idle ∙ value);
    }

pub returns-clause-empty : goal.returns-clause-empty
returns-clause-empty g c =
    let olds : List (Board g.row.C.Denot) = c.args.self.now.boards.items in
    let news : List (Board g.row.C.Denot) = c.ahead_step.new.boards in
    let store = c.args.self.now.store in
    let after = c.ahead_step.new.store in
    let meaning = g.B.Backing.meaning in
    let value = c.deref_mut.ensures.value in
    let long : c.args.self.now.boards.len ≡ length news = search rules in
    let back = written_back news olds _ long in
    let w : View = view_in meaning store olds in
    let v : View = view_in meaning after news in
    let does : DoesAhead c.args.b w v = subst (λ (bs : List (Board g.row.C.Denot)). DoesAhead c.args.b (view_in meaning store bs) v) value c.ahead_step.ensures.does in
    let carried : IsCarriedOn w v = subst (λ (bs : List (Board g.row.C.Denot)). IsCarriedOn (view_in meaning store bs) v) value c.ahead_step.ensures.carried in
    let keeps : Keeps w v = subst (λ (bs : List (Board g.row.C.Denot)). Keeps (view_in meaning store bs) v) value c.ahead_step.ensures.keeps in
    let lens : OnlyLines board_lens olds news = subst (λ (bs : List (Board g.row.C.Denot)). OnlyLines board_lens bs news) value c.ahead_step.ensures.lens in
    let later = c.ahead_step.ensures.counts.later in
    subst (λ (bs : List (Board g.row.C.Denot)). LogsAreEmpty bs) (sym back) (ahead_empty g.C.Cpu.meaning g.C.Cpu.state g.C.Cpu.room olds news lens c.requires.empty)

pub returns-clause-room : goal.returns-clause-room
returns-clause-room g c =
    let olds : List (Board g.row.C.Denot) = c.args.self.now.boards.items in
    let news : List (Board g.row.C.Denot) = c.ahead_step.new.boards in
    let store = c.args.self.now.store in
    let after = c.ahead_step.new.store in
    let meaning = g.B.Backing.meaning in
    let value = c.deref_mut.ensures.value in
    let long : c.args.self.now.boards.len ≡ length news = search rules in
    let back = written_back news olds _ long in
    let w : View = view_in meaning store olds in
    let v : View = view_in meaning after news in
    let does : DoesAhead c.args.b w v = subst (λ (bs : List (Board g.row.C.Denot)). DoesAhead c.args.b (view_in meaning store bs) v) value c.ahead_step.ensures.does in
    let carried : IsCarriedOn w v = subst (λ (bs : List (Board g.row.C.Denot)). IsCarriedOn (view_in meaning store bs) v) value c.ahead_step.ensures.carried in
    let keeps : Keeps w v = subst (λ (bs : List (Board g.row.C.Denot)). Keeps (view_in meaning store bs) v) value c.ahead_step.ensures.keeps in
    let lens : OnlyLines board_lens olds news = subst (λ (bs : List (Board g.row.C.Denot)). OnlyLines board_lens bs news) value c.ahead_step.ensures.lens in
    let later = c.ahead_step.ensures.counts.later in
    let servable : IsServable w = record { rest = _; stands = c.requires.good.stands } in
    let count : length w.caches ≡ length olds = length-map olds (λ (x : Board g.row.C.Denot). x.cache) in
    let spare : 5 * length w.frames.held + 128 * length olds + 65 ≤ w.room = c.requires.room in
    let enough : 5 * length w.frames.held + 128 * length w.caches + 65 ≤ w.room = omega arith in
    let less : LeavesLess w v = subst (λ (bs : List (Board g.row.C.Denot)). LeavesLess (view_in meaning store bs) v) value c.ahead_step.ensures.less in
    λ (at : ℕ) (need : Need).
    subst (λ (bs : List (Board g.row.C.Denot)). turn_room (view_in meaning after bs) c.args.b at need ≤ after.history.room) (sym back) (ahead-leaves-room w v c.args.b at need servable less enough)
