use Rattle.std.proofs.Common.{◌≡◌, ◌∙◌, ap, sym, List}
use Rattle.std.specs.Prelude.{Ok}
use Rattle.spur_flat.specs.Blocks.{board_of}
use Rattle.spur_flat.specs.Needed.{lack_of, needed_refusal, numbers_at}
use Rattle.spur_flat.specs.Refused.{or_else, result_of}
use Rattle.spur_flat.specs.Refusal.{refusal_of}
use Rattle.spur_flat.specs.TagRules.{tags_refusal}
use Rattle.spur_cpu.specs.Plain.{Plain, plain}
use Rattle.spur_check.specs.Replays.{Replayed, replay_refusal}
use Rattle.spur_check.specs.Numbered.{Numbered, entries_of, numbers_of}
use Rattle.spur_check.proofs.Moves.{behind}
use Rattle.spur_check.proofs.checker.Checker.judge.Goals as goal

pub returns-clause-exact : goal.returns-clause-exact
returns-clause-exact c =
    let program : result_of (replay_refusal plain c.args.self.now.replays.items c.args.entry.now) ≡ Ok tt = ap (λ (rs : List (Replayed Plain)). result_of (replay_refusal plain rs c.args.entry.now)) (sym c.deref_mut.ensures.value) ∙ sym c.judge_program.ensures.exact ∙ c.in_ok-judge_program.was in
    let memory : result_of (or_else (refusal_of c.args.self.now.flat c.args.entry.now) (tags_refusal c.args.self.now.flat c.args.self.now.tags c.args.entry.now)) ≡ Ok tt = sym c.judge_memory.ensures.exact ∙ c.in_ok-judge_memory.was in
    c.judge_open.ensures
    ∙ ap (λ (xs : List Numbered). result_of (needed_refusal (numbers_at (numbers_of xs) (board_of c.args.entry.now)) (lack_of c.args.self.now.lines (entries_of xs) c.args.entry.now))) c.deref.ensures.value
    ∙ behind (replay_refusal plain c.args.self.now.replays.items c.args.entry.now) (refusal_of c.args.self.now.flat c.args.entry.now) (tags_refusal c.args.self.now.flat c.args.self.now.tags c.args.entry.now) _ program memory
