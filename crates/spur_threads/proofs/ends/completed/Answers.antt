use Rattle.std.proofs.Common.{◌∙◌, refl, sym}
use Rattle.std.proofs.lemmas.Option.{slice_get_read}
use Rattle.spur_core.proofs.AskFacts.{none_if}
use Rattle.spur_threads.proofs.ends.completed.Goals as goal

pub returns-clause-some : goal.returns-clause-some
returns-clause-some g c =
    let x = c.index-boards-b.result in
    record {
      board = x;
      there = slice_get_read c.args.boards.now _ _ x refl c.requires c.index-boards-b.is;
      going = none_if x.ended (sym c.is_some.ensures ∙ c.if-is_some.false);
      completed = sym c.word.ensures.value;
    }
