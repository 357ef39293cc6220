-- A board that is carried to its next access.
use Rattle.std.proofs.Common.{◌≡◌, ℕ, suc, ◌+◌, ◌-◌, ◌<◌, true, false, ap, ◌∙◌, arith}
use Rattle.spur_cpu.specs.Meaning.{Meaning}
use Rattle.spur_cpu.specs.After.{Course, wants_local}
use Rattle.spur_cpu.specs.Onward.{carry_locals}
use Rattle.spur_cpu.proofs.ToAccess.{locals_go, locals_stay}
use Rattle.spur_check.specs.Replays.{Replayed, after_local}

module _ {S : Type 0} (m : Meaning S) where
  abbrev pub with_locals : ℕ → Replayed S → Replayed S
  with_locals n r = record r { course = carry_locals m r.segs r.budget n r.course }

  pub one_local : (r : Replayed S) (last at : ℕ) → at < last → wants_local m r.segs r.budget r.course ≡ true → with_locals (last - at) r ≡ with_locals (last - (at + 1)) (after_local m r)
  one_local r last at small h =
      let more : last - at ≡ suc (last - (at + 1)) = omega arith in
      ap (λ (n : ℕ). with_locals n r) more ∙ ap (λ (c : Course S). record r { course = c }) (locals_go m r.segs r.budget (last - (at + 1)) r.course h)

  pub none_left : (r : Replayed S) (n : ℕ) → wants_local m r.segs r.budget r.course ≡ false → with_locals n r ≡ r
  none_left r n h = ap (λ (c : Course S). record r { course = c }) (locals_stay m r.segs r.budget n r.course h)
