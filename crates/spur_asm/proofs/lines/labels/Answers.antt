use Rattle.std.proofs.Common.{◌≡◌, ◌∙◌, ap, rules, ℕ, ◌+◌, ◌-◌, ◌≤◌, ◌==◌, false, List, [], ◌++◌, length, map, Option, arith}
use Rattle.std.specs.List.{before_first}
use Rattle.std.specs.Option.{option_copied}
use Rattle.spur_asm.specs.Bytes.{is_feed}
use Rattle.spur_asm.specs.Context.{behind_label, leading_label, next_context, onto_labels, placed_of, sort_in, with_label, with_sort}
use Rattle.spur_asm.specs.Lexeme.{lexemes_of}
use Rattle.spur_asm.specs.declared.statement.Context.{Context}
use Rattle.spur_asm.specs.declared.statement.Sort.{Sort}
use Rattle.spur_asm.proofs.LineFacts.{after_first-shorter, labels_from-line, within_more}
use Rattle.spur_asm.proofs.lines.labels.Goals as goal

pub loop-rest-preserved : goal.loop-rest-preserved
loop-rest-preserved c =
    let text = c.loop-rest.rest.now in
    let line : List ℕ = before_first is_feed text in
    let here : Context = c.loop-rest.context in
    let some : (length text == 0) ≡ false = search rules in
    let label : option_copied c.head-sort.result.0 ≡ leading_label (lexemes_of line) = c.head-sort.ensures.label ∙ ap (λ (l : List ℕ). leading_label (lexemes_of l)) c.split_line.ensures.line in
    let sort : c.head-sort.result.1 ≡ sort_in (behind_label (lexemes_of line)) = c.head-sort.ensures.sort ∙ ap (λ (l : List ℕ). sort_in (behind_label (lexemes_of l))) c.split_line.ensures.line in
    let next : c.after-context.result ≡ next_context here line =
    c.after-context.ensures.after ∙ ap (λ (o : Option (List ℕ)). with_sort c.head-sort.result.1 (with_label o here)) label ∙ ap (λ (s : Option Sort). with_sort s (with_label (leading_label (lexemes_of line)) here)) sort in
    let more : map placed_of c.note.new.labels.items ≡ map placed_of c.loop-rest.labels.items ++ onto_labels here (leading_label (lexemes_of line)) [] =
    c.in_ok-note.ensures ∙ ap (λ (o : Option (List ℕ)). map placed_of c.loop-rest.labels.items ++ onto_labels here o []) label in
    let shorter : length c.split_line.result.1.now + 1 ≤ length text = after_first-shorter text _ some c.split_line.ensures.rest in
    record {
      so_far = rw c.split_line.ensures.rest (labels_from-line here _ _ _ _ text some next more c.loop-rest.invariant.so_far);
      shorter = omega arith;
      within = within_more (length c.args.text.now - length text + 1) _ _ (c.after-context.ensures.within (length c.args.text.now - length text) c.loop-rest.invariant.within) (omega arith);
    }
