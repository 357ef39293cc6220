use Rattle.std.proofs.Common.{◌∙◌, ◌<◌, ℕ, sym, ap, subst, length}
use Rattle.std.proofs.lemmas.List.Elements.{All-get_or}
use Rattle.spur_flat.specs.Blocks.{IsOfBoards, board_of}
use Rattle.spur_loader.specs.Opening.{board_count}
use Rattle.spur_check.proofs.Moves.{board_there, come_further, refused_there, rest_is}
use Rattle.spur_check.proofs.judging.check.Goals as goal

pub returns-in-Err : goal.returns-in-Err
returns-in-Err c =
    c.bad.ensures ∙ sym (refused_there c.args.opening c.args.entries.now c.loop-k.k c.loop-k.checker c.index-entries-k.result c.in-Err.why c.loop-k.invariant
    (rest_is c.args.entries.now c.loop-k.k c.index-entries-k.result c.loop-k-test.true c.index-entries-k.is) (sym c.judge.ensures.exact ∙ c.in-Err.is))

pub note-requires : goal.note-requires
note-requires c =
    let of : IsOfBoards (board_count c.args.opening) c.index-entries-k.result = subst (IsOfBoards (board_count c.args.opening)) (sym c.index-entries-k.is) (All-get_or (IsOfBoards (board_count c.args.opening)) c.args.entries.now c.loop-k.k c.index-entries-k.result c.loop-k-test.true c.requires.entries) in
    record { boards = subst (λ (n : ℕ). board_of c.index-entries-k.result < n) (sym (ap length c.in_default.ensures.ok.lists ∙ c.loop-k.invariant.sound.lists)) (board_there (board_count c.args.opening) c.index-entries-k.result of) }

pub loop-k-preserved : goal.loop-k-preserved
loop-k-preserved c =
    come_further c.args.opening c.args.entries.now c.loop-k.k c.loop-k.checker c.judge.new.self c.note.new.self c.index-entries-k.result c.loop-k.invariant
    (rest_is c.args.entries.now c.loop-k.k c.index-entries-k.result c.loop-k-test.true c.index-entries-k.is)
    (sym c.judge.ensures.exact ∙ c.in_default.is) c.in_default.ensures.ok c.in_ok-note.ensures.ok
