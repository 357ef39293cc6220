use Rattle.std.proofs.Common.{◌≡◌, ◌∙◌, ℕ, ◌+◌, ◌-◌, ◌*◌, ap, arith, List, take, drop}
use Rattle.spur_addr.specs.Pages.{page_at}
use Rattle.spur_phys.proofs.phys.Phys.read_page.Goals as goal

pub returns : goal.returns
returns c =
    let place : ℕ = c.args.frame * 1024 in
    let count : place + 1024 - place ≡ 1024 = omega arith in
    c.copy_from_slice.ensures.after
    ∙ ap (λ (n : ℕ). take n (drop place c.deref.result.now)) count
    ∙ ap (λ (words : List ℕ). page_at words c.args.frame) (c.deref.ensures.value ∙ c.self.view_is)
