use Rattle.std.proofs.Common.{subst, arith, List}
use Rattle.std.specs.Prelude.{All}
use Rattle.std.proofs.lemmas.List.{take_all}
use Rattle.std.proofs.lemmas.List.Elements.{All-more}
use Rattle.spur_flat.specs.declared.entry.Entry.{Entry}
use Rattle.spur_flat.specs.Blocks.{IsOfBoards}
use Rattle.spur_check.proofs.tests.are_of_boards.Goals as goal

pub loop-entry-preserved : goal.loop-entry-preserved
loop-entry-preserved c =
    All-more (IsOfBoards c.args.boards) c.args.entries.now c.loop-entry.entry-index c.entry-item.result c.loop-entry-test.true c.loop-entry.invariant
    (subst (IsOfBoards c.args.boards) c.entry-item.is (c.is_of_boards.ensures (let f = c.if-not-is_of_boards.false in cc)))

pub returns : goal.returns
returns c = λ t. subst (λ (xs : List Entry). All (IsOfBoards c.args.boards) xs)
    (take_all c.loop-entry.entry-index c.args.entries.now (let past = c.loop-entry-test.false in omega arith)) c.loop-entry.invariant
