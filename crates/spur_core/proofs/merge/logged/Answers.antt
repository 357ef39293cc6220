use Rattle.std.proofs.Common.{◌≡◌, ◌+◌, ◌∙◌, ◌<◌, length, take, get_or, ap, sym, arith, List}
use Rattle.std.proofs.lemmas.List.{length-append}
use Rattle.spur_flat.specs.declared.entry.Entry.{Entry}
use Rattle.spur_commute.specs.Logs.{joined_logs}
use Rattle.spur_core.specs.Boards.{logs_of}
use Rattle.spur_core.proofs.MergeFacts.{joined_more, log_few}
use Rattle.spur_core.proofs.merge.logged.Goals as goal

pub loop-board-preserved : goal.loop-board-preserved
loop-board-preserved g c =
    let bs = c.args.boards.now in
    let b = c.board-item.result in
    let i = c.loop-board.board-index in
    let within : i < length bs = c.loop-board-test.true in
    let few = log_few bs i b c.requires.logs within c.board-item.is in
    let more : length (joined_logs (logs_of (take (i + 1) bs))) ≡ length (joined_logs (logs_of (take i bs))) + length b.log.entries =
    ap (λ (es : List Entry). length es) (joined_more bs i b within) ∙ length-append (joined_logs (logs_of (take i bs))) (get_or bs i b).log.entries
    ∙ ap (λ x. length (joined_logs (logs_of (take i bs))) + length x.log.entries) (sym c.board-item.is) in
    let counted = c.loop-board.invariant.counted in
    let before = c.loop-board.invariant.few in
    let read : c.entries.result.now ≡ b.log.entries = c.entries.ensures in
    let long : length c.entries.result.now ≡ length b.log.entries = ap (λ (es : List Entry). length es) read in
    record {
      counted = ap (λ n. n + length c.entries.result.now) counted ∙ ap (λ n. length (joined_logs (logs_of (take i bs))) + n) long ∙ sym more;
      few = omega arith;
    }
