use Rattle.std.proofs.Common.{◌∙◌, refl, ap, ℕ, List, replicate}
use Rattle.spur_flat.specs.TagLines.{no_tags}
use Rattle.spur_check.specs.Judged.{first_replays}
use Rattle.spur_check.specs.Numbered.{none_open}
use Rattle.spur_check.proofs.Moves.{at_opening, sound_at_opening}
use Rattle.spur_check.proofs.checker.Checker.begin.Goals as goal

pub returns-clause-progress : goal.returns-clause-progress
returns-clause-progress c =
    let o = c.args.opening in
    at_opening o (record { flat = o.flat; tags = c.in_ok-tags.tags; lists = c.in_ok-lists.lists; replays = c.in_ok-replays.replays; lines = o.options.lines }) refl
    (c.in_ok-tags.ensures ∙ ap (λ (n : ℕ). no_tags n o.options.lines) c.len-boards.ensures)
    (c.in_ok-lists.ensures ∙ ap (λ (n : ℕ). replicate n none_open) c.len-boards.ensures)
    (c.in_ok-replays.ensures ∙ ap (λ (segs : List (List ℕ)). first_replays o.options.budget segs o.code) c.as_slice.ensures) refl

pub returns-clause-sound : goal.returns-clause-sound
returns-clause-sound c =
    let o = c.args.opening in
    sound_at_opening o (record { flat = o.flat; tags = c.in_ok-tags.tags; lists = c.in_ok-lists.lists; replays = c.in_ok-replays.replays; lines = o.options.lines }) c.requires refl
    (c.in_ok-tags.ensures ∙ ap (λ (n : ℕ). no_tags n o.options.lines) c.len-boards.ensures)
    (c.in_ok-lists.ensures ∙ ap (λ (n : ℕ). replicate n none_open) c.len-boards.ensures)
    (c.in_ok-replays.ensures ∙ ap (λ (segs : List (List ℕ)). first_replays o.options.budget segs o.code) c.as_slice.ensures) refl
