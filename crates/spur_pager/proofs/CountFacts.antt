-- The counts of the swap object's calls.
use Rattle.std.proofs.Common.{◌≡◌, ◌∙◌, ℕ, ◌≤◌, Bool, true, false, List, ap, sym, subst, arith}
use Rattle.spur_cache.specs.Lens.{Lens}
use Rattle.spur_swap.specs.Meaning.{SameButFaults, Swap, after_read, after_write}
use Rattle.spur_pager.specs.declared.store.Store.{Store}
use Rattle.spur_pager.specs.View.{View, seen}
use Rattle.spur_pager.specs.Counts.{Counts, count_if}

-- the swap object has made as many calls, and has had as many faults
pub record SameSwap (w v : View) : Type 0 where
  pub reads : v.reads ≡ w.reads
  pub writes : v.writes ≡ w.writes
  pub faults : v.faults ≡ w.faults

-- so it is where the object is the same
pub same_swap : {B : Type 0} → {X : Type 0} → (meaning : B → Swap) (lens : Lens X) (olds news : List X) (old new : Store B) → new.backing ≡ old.backing
    → SameSwap (seen meaning lens olds old) (seen meaning lens news new)
same_swap meaning lens olds news old new same = record {
  reads = ap (λ b. (meaning b).reads) same;
  writes = ap (λ b. (meaning b).writes) same;
  faults = ap (λ b. (meaning b).faults) same;
}

-- calls after none, told by what is known before
pub counts_after : (w u v : View) (read after before : Bool) → SameSwap w u → after ≡ before → Counts read after u v → Counts read before w v
counts_after w u v read after before same is c = record {
  reads = c.reads ∙ ap (count_if read) same.reads;
  writes = c.writes ∙ ap (count_if after) same.writes ∙ ap (λ (x : Bool). count_if x w.writes) is;
  later = subst (λ (n : ℕ). n ≤ v.faults) same.faults c.later;
}

-- none was made
pub counts_same : (w v : View) → SameSwap w v → Counts false false w v
counts_same w v same = record {
  reads = same.reads;
  writes = same.writes;
  later = subst (λ (n : ℕ). w.faults ≤ n) (sym same.faults) (omega arith);
}

-- calls of one kind after another: a read after at most one write
pub counts_then : (w u v : View) (wrote : Bool) → Counts false wrote w u → Counts true false u v → Counts true wrote w v
counts_then w u v wrote first second = record {
  reads = second.reads ∙ ap (count_if true) first.reads;
  writes = second.writes ∙ first.writes;
  later = later w.faults u.faults v.faults first.later second.later;
}
  where
    later : (a b c : ℕ) → a ≤ b → b ≤ c → a ≤ c
    later a b c first second = omega arith

-- after a call that read a page, and after one that wrote a page
pub counts_read : {B : Type 0} → {X : Type 0} → (meaning : B → Swap) (lens : Lens X) (olds news : List X) (old new : Store B) → SameButFaults (after_read (meaning old.backing)) (meaning new.backing)
    → (meaning old.backing).faults ≤ (meaning new.backing).faults → Counts true false (seen meaning lens olds old) (seen meaning lens news new)
counts_read meaning lens olds news old new stays later = record { reads = ap (λ s. s.reads) stays; writes = ap (λ s. s.writes) stays; later = later }

pub counts_write : {B : Type 0} → {X : Type 0} → (meaning : B → Swap) (lens : Lens X) (olds news : List X) (old new : Store B)
    → SameButFaults (after_write (meaning old.backing) (meaning new.backing).pages) (meaning new.backing)
    → (meaning old.backing).faults ≤ (meaning new.backing).faults → Counts false true (seen meaning lens olds old) (seen meaning lens news new)
counts_write meaning lens olds news old new stays later = record { reads = ap (λ s. s.reads) stays; writes = ap (λ s. s.writes) stays; later = later }

-- what was written, told by what is known
pub counts_as : (w v : View) (read wrote before : Bool) → wrote ≡ before → Counts read wrote w v → Counts read before w v
counts_as w v read wrote before is c = subst (λ (x : Bool). Counts read x w v) is c

-- the same after a write, and without one, told by what is known
pub counts_wrote : {B : Type 0} → {X : Type 0} → {s : B} → (meaning : B → Swap) (lens : Lens X) (olds news : List X) (old new : Store B) (known : Bool) → known ≡ true
    → new.backing ≡ s → SameButFaults (after_write (meaning old.backing) (meaning s).pages) (meaning s) → (meaning old.backing).faults ≤ (meaning s).faults
    → Counts false known (seen meaning lens olds old) (seen meaning lens news new)
counts_wrote {B} {X} {s} meaning lens olds news old new known is same stays later =
    counts_as (seen meaning lens olds old) (seen meaning lens news new) false true known (sym is) (record {
      reads = ap (λ (t : B). (meaning t).reads) same ∙ ap (λ (m : Swap). m.reads) stays;
      writes = ap (λ (t : B). (meaning t).writes) same ∙ ap (λ (m : Swap). m.writes) stays;
      later = subst (λ (t : B). (meaning old.backing).faults ≤ (meaning t).faults) (sym same) later;
    })

pub counts_unwritten : {B : Type 0} → {X : Type 0} → (meaning : B → Swap) (lens : Lens X) (olds news : List X) (old new : Store B) (known : Bool) → known ≡ false
    → new.backing ≡ old.backing → Counts false known (seen meaning lens olds old) (seen meaning lens news new)
counts_unwritten meaning lens olds news old new known is same =
    let w : View = seen meaning lens olds old in
    let v : View = seen meaning lens news new in
    counts_as w v false false known (sym is) (counts_same w v (same_swap meaning lens olds news old new same))
