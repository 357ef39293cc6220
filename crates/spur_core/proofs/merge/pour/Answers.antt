use Rattle.std.proofs.Common.{◌≡◌, ◌+◌, ◌++◌, ◌∙◌, ◌<◌, ◌≤◌, [], length, take, get_or, ap, sym, arith, List, ℕ}
use Rattle.std.proofs.lemmas.List.{append_assoc, length-append}
use Rattle.spur_flat.specs.declared.entry.Entry.{Entry}
use Rattle.spur_flat.specs.Past.{Past}
use Rattle.spur_board.specs.declared.board.Board.{Board}
use Rattle.spur_commute.specs.Logs.{joined_logs}
use Rattle.spur_core.specs.Boards.{emptied, logs_of}
use Rattle.spur_core.proofs.MergeFacts.{joined_fits, joined_more, map_step, next_same}
use Rattle.spur_core.proofs.merge.pour.Goals as goal

-- an emptied log, part by part
past_is : (log : Past) (room : ℕ) (es : List Entry) → log.entries ≡ [] → log.room ≡ room + length es → log ≡ record { entries = []; room = room + length es }
past_is log room es entries rooms = λ k. record { entries = entries k; room = rooms k }

pub append_all-requires : goal.append_all-requires
append_all-requires g c =
    let old = c.args.boards.now in
    let now = c.loop-board.board-items in
    let i = c.loop-board.board-index in
    let d = c.board-item.result in
    let same : length now ≡ length old = c.loop-board.auto.board-items in
    let within : i < length old = c.loop-board-test.true in
    let head = next_same now old i d within same c.loop-board.invariant.left in
    let fits : length (joined_logs (logs_of (take i old))) + length (get_or old i d).log.entries ≤ length (joined_logs (logs_of old)) = joined_fits old i d within in
    let long : length (get_or now i d).log.entries ≡ length (get_or old i d).log.entries = ap (λ x. length x.log.entries) head in
    let room : c.loop-board.history.room + length (joined_logs (logs_of (take i old))) ≡ c.args.history.now.room = c.loop-board.invariant.room in
    let enough = c.requires in
    omega arith

pub loop-board-preserved : goal.loop-board-preserved
loop-board-preserved g c =
    let old : List (Board g.row.C.Denot) = c.args.boards.now in
    let now : List (Board g.row.C.Denot) = c.loop-board.board-items in
    let i : ℕ = c.loop-board.board-index in
    let d = c.board-item.result in
    let same : length now ≡ length old = c.loop-board.auto.board-items in
    let within : i < length old = c.loop-board-test.true in
    let head = next_same now old i d within same c.loop-board.invariant.left in
    let taken : List Entry = joined_logs (logs_of (take i old)) in
    let log : (get_or now i d).log.entries ≡ (get_or old i d).log.entries = ap (λ (x : Board g.row.C.Denot). x.log.entries) head in
    let more : joined_logs (logs_of (take (i + 1) old)) ≡ taken ++ (get_or old i d).log.entries = joined_more old i d within in
    let long : length (joined_logs (logs_of (take (i + 1) old))) ≡ length taken + length (get_or old i d).log.entries = ap (λ (es : List Entry). length es) more ∙ length-append taken (get_or old i d).log.entries in
    let same_long : length (get_or now i d).log.entries ≡ length (get_or old i d).log.entries = ap (λ (es : List Entry). length es) log in
    let changed = ap (λ (l : Past). record (get_or now i d) { log = l }) (past_is c.append_all.new.other (get_or now i d).log.room (get_or now i d).log.entries c.append_all.ensures.emptied c.append_all.ensures.other_room) in
    let step = map_step (emptied {C = g.row.C.Denot}) now old i d _ within same c.loop-board.invariant.done c.loop-board.invariant.left changed in
    let room : c.loop-board.history.room + length taken ≡ c.args.history.now.room = c.loop-board.invariant.room in
    let left : c.append_all.new.self.room + length (get_or now i d).log.entries ≡ c.loop-board.history.room = c.append_all.ensures.room in
    record {
      done = step.0;
      left = step.1;
      poured = c.append_all.ensures.entries ∙ ap (λ (es : List Entry). c.loop-board.history.entries ++ es) log
          ∙ ap (λ (es : List Entry). es ++ (get_or old i d).log.entries) c.loop-board.invariant.poured
          ∙ append_assoc c.args.history.now.entries taken (get_or old i d).log.entries
          ∙ ap (λ (es : List Entry). c.args.history.now.entries ++ es) (sym more);
      room = omega arith;
    }
