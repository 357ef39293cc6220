use Rattle.std.proofs.Common.{◌≡◌, ◌∙◌, ℕ, ◌+◌, ◌-◌, ◌*◌, ap, arith, List, take, drop}
use Rattle.spur_addr.specs.Pages.{page_at}
use Rattle.spur_swap.proofs.pages.Pages.read.Goals as goal

pub returns-clause-page : goal.returns-clause-page
returns-clause-page c =
    let at : ℕ = c.args.slot * 1024 in
    let count : at + 1024 - at ≡ 1024 = omega arith in
    c.copy_from_slice.ensures.after
    ∙ ap (λ (n : ℕ). take n (drop at c.deref.result.now)) count
    ∙ ap (λ (words : List ℕ). page_at words c.args.slot) (c.deref.ensures.value ∙ c.self.view_is)
