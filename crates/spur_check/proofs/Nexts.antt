-- An entry is the next access of a board's program exactly where it carries the board on.
use Rattle.std.proofs.Common.{◌≡◌, ℕ, Bool, true, false, List, Option, Some, None, refl, ap, arith, if◌then◌else◌}
use Rattle.std.specs.Prelude.{◌==◌, ◌&&◌}
use Rattle.std.proofs.lemmas.Bool.Decides.{nat_tests}
use Rattle.spur_addr.specs.Address.{global_of}
use Rattle.spur_flat.specs.declared.illegal.Illegal.{Illegal}
use Rattle.spur_flat.specs.declared.access.AccessKind.{AccessKind}
use Rattle.spur_flat.specs.declared.access.AccessKind.TheVariants as access
use Rattle.spur_flat.specs.declared.entry.Entry.{Entry}
use Rattle.spur_flat.specs.declared.entry.Entry.TheVariants.{Load, Store, Tas, Fault}
use Rattle.spur_flat.specs.StateLaws.{IsAccess}
use Rattle.spur_cpu.specs.declared.cpu.Want.{Want}
use Rattle.spur_cpu.specs.declared.cpu.Want.TheVariants.{Local, Access, Ended}
use Rattle.spur_cpu.specs.Meaning.{Meaning, is_ending}
use Rattle.spur_cpu.specs.After.{Course, Stop, carry_want, same_access}
use Rattle.spur_check.specs.Replays.{access_number, access_in, access_refusal, differ, program_refusal}

eq_back : (a b : ℕ) → (a == b) ≡ true → (b == a) ≡ true
eq_back a b e = grind (arith, nat_tests, e)

same_kind : (k w : AccessKind) → (access_number k == access_number w) ≡ true → same_access k w ≡ true
same_kind access.Load access.Load e = refl
same_kind access.Store access.Store e = refl
same_kind access.Tas access.Tas e = refl
same_kind access.Load access.Store e = absurd cc
same_kind access.Load access.Tas e = absurd cc
same_kind access.Store access.Load e = absurd cc
same_kind access.Store access.Tas e = absurd cc
same_kind access.Tas access.Load e = absurd cc
same_kind access.Tas access.Store e = absurd cc

same_number : (k w : AccessKind) → same_access k w ≡ true → (access_number k == access_number w) ≡ true
same_number access.Load access.Load e = refl
same_number access.Store access.Store e = refl
same_number access.Tas access.Tas e = refl
same_number access.Load access.Store e = absurd cc
same_number access.Load access.Tas e = absurd cc
same_number access.Store access.Load e = absurd cc
same_number access.Store access.Tas e = absurd cc
same_number access.Tas access.Load e = absurd cc
same_number access.Tas access.Store e = absurd cc

chosen : (b : Bool) (rest : Option Illegal) (why : Illegal) → (if b then rest else Some why) ≡ None → (b ≡ true) × (rest ≡ None)
chosen true rest why e = (refl, e)
chosen false rest why e = absurd cc

differs_none : (x y : ℕ) (rest : Option Illegal) → differ x y rest ≡ None → ((x == y) ≡ true) × (rest ≡ None)
differs_none x y rest e = chosen (x == y) rest _ e

unchosen : (b : Bool) (rest : Option Illegal) (why : Illegal) → b ≡ true → rest ≡ None → (if b then rest else Some why) ≡ None
unchosen true rest why e r = r
unchosen false rest why e r = absurd cc

none_differs : (x y : ℕ) (rest : Option Illegal) → (x == y) ≡ true → rest ≡ None → differ x y rest ≡ None
none_differs x y rest e r = unchosen (x == y) rest _ e r

both : (a b : Bool) → a ≡ true → b ≡ true → (a && b) ≡ true
both true true e f = refl
both true false e f = absurd cc
both false b e f = absurd cc

first : (a b : Bool) → (a && b) ≡ true → a ≡ true
first true b e = refl
first false b e = absurd cc

second : (a b : Bool) → (a && b) ≡ true → b ≡ true
second true b e = e
second false b e = absurd cc

yes : {A : Type 0} (b : Bool) (x : A) → b ≡ true → (d : A) × ((if b then Some x else None) ≡ Some d)
yes b x e = (x, ap (λ (t : Bool). if t then Some x else None) e)

was : {A : Type 0} (b : Bool) (o : Option A) (d : A) → (if b then o else None) ≡ Some d → b ≡ true
was true o d e = refl
was false o d e = absurd cc

fault_yes : {A : Type 0} (b k : Bool) (x y : A) → b ≡ true → (d : A) × ((if b then (if k then Some x else Some y) else None) ≡ Some d)
fault_yes b true x y e = (x, ap (λ (t : Bool). if t then Some x else None) e)
fault_yes b false x y e = (y, ap (λ (t : Bool). if t then Some y else None) e)

-- the program's access is an entry's
record IsSame (k w : AccessKind) (there here : ℕ) : Type 0 where
  kind : same_access k w ≡ true
  at : (here == there) ≡ true

compared_same : (k w : AccessKind) (there here value : ℕ) (rest : Option Illegal) → access_refusal (Some record { kind = k; at = there; value = value }) w here rest ≡ None → IsSame k w there here × (rest ≡ None)
compared_same k w there here value rest e =
    let one = differs_none (access_number k) (access_number w) (differ there here rest) e in
    let two = differs_none there here rest one.1 in
    (record { kind = same_kind k w one.0; at = eq_back there here two.0 }, two.1)

same_compared : (k w : AccessKind) (there here value : ℕ) (rest : Option Illegal) → IsSame k w there here → rest ≡ None → access_refusal (Some record { kind = k; at = there; value = value }) w here rest ≡ None
same_compared k w there here value rest s r = none_differs (access_number k) (access_number w) (differ there here rest) (same_number k w s.kind) (none_differs there here rest (eq_back here there s.at) r)

module _ {S : Type 0} (m : Meaning S) (segs : List ℕ) (budget : ℕ) where
  -- where the entry is the program's, it carries the board on
  pub carries : (c : Course S) (w : Want) (s : Option Stop) (e : Entry) → IsAccess e → program_refusal (access_in segs w s) e ≡ None → (d : Course S) × (carry_want m segs budget c w s e ≡ Some d)
  carries c (Access k va value) None (Load board at v) is h =
      let p = compared_same k access.Load (global_of segs va) at value None h in
      yes _ _ (both (same_access k access.Load) (at == global_of segs va) p.0.kind p.0.at)
  carries c (Access k va value) None (Tas board at v) is h =
      let p = compared_same k access.Tas (global_of segs va) at value None h in
      yes _ _ (both (same_access k access.Tas) (at == global_of segs va) p.0.kind p.0.at)
  carries c (Access k va value) None (Store board at v) is h =
      let p = compared_same k access.Store (global_of segs va) at value (differ value v None) h in
      let q = differs_none value v None p.1 in
      yes _ _ (three p.0.kind p.0.at (eq_back value v q.0)) where
        three : same_access k access.Store ≡ true → (at == global_of segs va) ≡ true → (v == value) ≡ true → (same_access k access.Store && at == global_of segs va && v == value) ≡ true
        three x y z = cc
  carries c (Access k va value) None (Fault board kind w at) is h =
      let p = compared_same k w (global_of segs va) at value None h in
      fault_yes _ (is_ending kind) _ _ (both (same_access k w) (at == global_of segs va) p.0.kind p.0.at)
  carries c (Access k va value) (Some s) (Load board at v) is h = absurd cc
  carries c (Access k va value) (Some s) (Store board at v) is h = absurd cc
  carries c (Access k va value) (Some s) (Tas board at v) is h = absurd cc
  carries c (Access k va value) (Some s) (Fault board kind w at) is h = absurd cc
  carries c Local s (Load board at v) is h = absurd cc
  carries c Local s (Store board at v) is h = absurd cc
  carries c Local s (Tas board at v) is h = absurd cc
  carries c Local s (Fault board kind w at) is h = absurd cc
  carries c Ended s (Load board at v) is h = absurd cc
  carries c Ended s (Store board at v) is h = absurd cc
  carries c Ended s (Tas board at v) is h = absurd cc
  carries c Ended s (Fault board kind w at) is h = absurd cc
  carries c w s e is h = absurd is

  -- and where it carries the board on, it is the program's
  pub is_next : (c d : Course S) (w : Want) (s : Option Stop) (e : Entry) → carry_want m segs budget c w s e ≡ Some d → program_refusal (access_in segs w s) e ≡ None
  is_next c d (Access k va value) None (Load board at v) h =
      let t = was _ _ d h in
      same_compared k access.Load (global_of segs va) at value None record { kind = first (same_access k access.Load) _ t; at = second (same_access k access.Load) _ t } refl
  is_next c d (Access k va value) None (Tas board at v) h =
      let t = was _ _ d h in
      same_compared k access.Tas (global_of segs va) at value None record { kind = first (same_access k access.Tas) _ t; at = second (same_access k access.Tas) _ t } refl
  is_next c d (Access k va value) None (Store board at v) h =
      let t = parts (same_access k access.Store) (at == global_of segs va) (v == value) (was _ _ d h) in
      same_compared k access.Store (global_of segs va) at value (differ value v None) record { kind = t.0; at = t.1.0 } (none_differs value v None (eq_back v value t.1.1) refl) where
        parts : (x y z : Bool) → (x && y && z) ≡ true → (x ≡ true) × ((y ≡ true) × (z ≡ true))
        parts true true true q = (refl, (refl, refl))
        parts true true false q = absurd cc
        parts true false z q = absurd cc
        parts false y z q = absurd cc
  is_next c d (Access k va value) None (Fault board kind w at) h =
      let t = was _ _ d h in
      same_compared k w (global_of segs va) at value None record { kind = first (same_access k w) _ t; at = second (same_access k w) _ t } refl
  is_next c d (Access k va value) None e h = absurd cc
  is_next c d (Access k va value) (Some s) e h = absurd cc
  is_next c d Local None e h = absurd cc
  is_next c d Local (Some s) e h = absurd cc
  is_next c d Ended None e h = absurd cc
  is_next c d Ended (Some s) e h = absurd cc
