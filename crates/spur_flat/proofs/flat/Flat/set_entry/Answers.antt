use Rattle.std.proofs.Common.{◌≡◌, ◌∙◌, ◌/◌, ◌^◌, ◌<◌, ap, arith, length, slice_index, ℕ}
use Rattle.spur_addr.specs.PageEntry.{number_of}
use Rattle.spur_flat.specs.declared.flat.Flat.{Flat}
use Rattle.spur_flat.specs.Pager.{entry_place}
use Rattle.spur_flat.proofs.PagerFacts.{entry_within}
use Rattle.spur_flat.proofs.flat.Flat.set_entry.Goals as goal

pub set-requires : goal.set-requires
set-requires c =
    let F : Flat = c.args.self.now in
    let within : entry_place F c.args.at < length F.words = entry_within F c.args.at c.requires.valid c.number.ensures.small c.requires.declared in
    let root : c.entry-root.result ≡ slice_index F.words (c.args.at / 2 ^ 22) = c.entry-root.ensures ∙ ap (λ (n : ℕ). slice_index F.words (n / 2 ^ 22)) c.number.ensures.value in
    let number : c.number-2.result ≡ number_of (slice_index F.words (c.args.at / 2 ^ 22)) = c.number-2.ensures.value ∙ ap number_of root in
    let page : c.page.result ≡ c.args.at / 2 ^ 12 = c.page.ensures.value in
    omega arith
