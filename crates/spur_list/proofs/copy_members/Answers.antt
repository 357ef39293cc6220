use Rattle.std.proofs.Common.{◌≡◌, ◌∙◌, ℕ, ◌+◌, ◌-◌, ◌≤◌, ap, sym, arith, take, drop, length, length-drop}
use Rattle.std.proofs.lemmas.List.{length-take-le}
use Rattle.std.proofs.lemmas.Slice.{put_mid-paste}
use Rattle.spur_list.specs.Parts.{part_at}
use Rattle.spur_list.proofs.copy_members.Goals as goal

pub returns : goal.returns
returns g c =
    let from : c.args.at + c.args.count - c.args.at ≡ c.args.count = omega arith in
    let to : c.args.count ≡ c.args.to + c.args.count - c.args.to = omega arith in
    let here = c.requires.here in
    let rest : c.args.count ≤ length (drop c.args.at c.args.from.now) = simp length-drop (omega arith) in
    let part = c.copy_from_slice.ensures.after ∙ ap (λ (n : ℕ). take n (drop c.args.at c.args.from.now)) from in
    put_mid-paste c.args.to (c.args.to + c.args.count - c.args.to) c.args.members.now c.copy_from_slice.new.self (part_at c.args.from.now c.args.at c.args.count) c.args.count
    part to (sym (length-take-le c.args.count (drop c.args.at c.args.from.now) rest))
