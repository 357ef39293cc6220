use Rattle.std.proofs.Common.{◌≡◌, ◌∙◌, ◌++◌, ap, arith, drop, length, refl, take, ℕ, ◌≤◌}
use Rattle.std.proofs.lemmas.List.{length-take-le}
use Rattle.spur_io.proofs.Pieces.{filled_call}
use Rattle.spur_io.specs.Memory.{Supply}
use Rattle.spur_io.proofs.memory.SourceMemorySource.take.Goals as goal

pub returns-clause-given : goal.returns-clause-given
returns-clause-given c =
    let most = c.min-most.result in
    let into = c.args.into.now in
    let rest = c.self.inside.rest in
    let fits : most ≤ length into = omega arith in
    let long : length (take most into) ≡ most = length-take-le most into fits in
    let left-is : rest ≡ c.args.self.now.left = ap (λ (s : Supply). s.left) c.self.view_is in
    filled_call c.take.result c.args.self.now.left into c.take.new.into most fits
    (rw (← left-is) (c.take.ensures.count ∙ rw long refl))
    (rw (← left-is) (c.take.ensures.given ∙ ap (λ (k : ℕ). take k rest ++ drop (length rest) (take most into)) long))
