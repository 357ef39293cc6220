use Rattle.std.proofs.Common.{ℕ, ◌≡◌, ◌+◌, ◌-◌, ◌*◌, ◌∙◌, List, take, drop, add-one, ap, arith, subst, sym}
use Rattle.spur_addr.specs.Pages.{page_at}
use Rattle.spur_swap.specs.Meaning.{SameButFaults, Swap}
use Rattle.spur_core.specs.Filled.{with_slot_page, with_slot_pages}
use Rattle.spur_core.proofs.FillFacts.{slot_then, slots_stay}
use Rattle.spur_core.proofs.fill.write_pages.Goals as goal

pub loop-slot-preserved : goal.loop-slot-preserved
loop-slot-preserved g c =
    let s : Swap = g.B.Backing.meaning c.args.backing.now in
    let old : Swap = g.B.Backing.meaning c.loop-slot.backing in
    let new : Swap = g.B.Backing.meaning c.write_page.new.backing in
    let swap : List ℕ = c.args.swap.now in
    let slot : ℕ = c.loop-slot.slot in
    let place : ℕ = slot * 1024 in
    let count : place + 1024 - place ≡ 1024 = omega arith in
    let page : take (place + 1024 - place) (drop place swap) ≡ page_at swap slot = ap (λ (n : ℕ). take n (drop place swap)) count in
    let put : SameButFaults (with_slot_page old slot (page_at swap slot)) new =
    subst (λ (words : List ℕ). SameButFaults (with_slot_page old slot words) new) page c.in_ok-write_page.ensures.written in
    let later = c.write_page.ensures.later in
    let before = c.loop-slot.invariant.later in
    record {
      slots = slots_stay old new slot c.args.slots (page_at swap slot) put c.loop-slot.invariant.slots;
      written = subst (λ (n : ℕ). SameButFaults (with_slot_pages s swap n) new) (sym (add-one slot))
          (slot_then (with_slot_pages s swap slot) old new slot (page_at swap slot) c.loop-slot.invariant.written put);
      unread = c.write_page.ensures.unread ∙ c.loop-slot.invariant.unread;
      later = omega arith;
    }
