-- A course with its served faults and without.
use Rattle.std.proofs.Common.{◌≡◌, ◌∙◌, ℕ, zero, suc, ◌+◌, ◌==◌, Bool, true, false, ◌⊎◌, inl, inr, List, [], ◌∷◌, ◌++◌, Option, Some, None, refl, sym, ap, subst, if◌then◌else◌, cond}
use Rattle.spur_flat.specs.declared.access.AccessKind.{AccessKind}
use Rattle.spur_flat.specs.declared.access.FaultKind.{FaultKind}
use Rattle.spur_flat.specs.declared.entry.Entry.{Entry}
use Rattle.spur_flat.specs.declared.entry.Entry.TheVariants.{Load, Store, Tas, Fault}
use Rattle.spur_cpu.specs.Meaning.{Meaning, is_ending}
use Rattle.spur_cpu.specs.declared.cpu.Want.{Want}
use Rattle.spur_cpu.specs.declared.cpu.Want.TheVariants.{Local, Access, Ended}
use Rattle.spur_cpu.specs.declared.cpu.Answer.TheVariants.{Done}
use Rattle.spur_cpu.specs.After.{Stop, Faulty, Spent, Course, after, carry_entry, carry_local, carry_want, ending_at, is_done, retire, stop, wants_local}
use Rattle.spur_cpu.specs.Laws.{UsesNothing}
use Rattle.spur_cpu.proofs.Afters.{after_done, after_fault, after_local, at_zero, bind_some, some_is, way}
use Rattle.spur_cpu.proofs.Led.{passed}
use Rattle.spur_cpu.proofs.Going.{ended-uses-nothing}
use Rattle.spur_plain.specs.PlainHistory.{done_entries, is_plain, plain_entries}
use Rattle.spur_plain.specs.Served.{AccessesAndOneFault, ByAccesses, ByOneFault, IsUnfaulted, ServedDropOut}
use Rattle.spur_plain.proofs.HistoryFacts.{done_is_plain}

-- no ending of a completed instruction is a fault
spent_is : (b : Bool) (why : Stop) → (if b then Some Spent else None) ≡ Some why → why ≡ Spent
spent_is true why h = sym (some_is Spent why h)
spent_is false why h = absurd cc

never_faulty : (w : Want) (budget n : ℕ) (kind : FaultKind) (at : ℕ) → ending_at w budget n ≡ Some (Faulty kind at) → ⊥
never_faulty Local budget n kind at e = let is = spent_is (n == budget) (Faulty kind at) e in absurd cc
never_faulty (Access k va value) budget n kind at e = let is = spent_is (n == budget) (Faulty kind at) e in absurd cc
never_faulty Ended budget n kind at e = absurd cc

-- the entries with one more at the front
plain_front : (e : Entry) (es : List Entry) (b : Bool) → is_plain e ≡ b → plain_entries (e ∷ es) ≡ cond b (e ∷ plain_entries es) (plain_entries es)
plain_front e es b is = ap (λ (c : Bool). cond c (e ∷ plain_entries es) (plain_entries es)) is

done_front : (e : Entry) (es : List Entry) (b : Bool) → is_done e ≡ b → done_entries (e ∷ es) ≡ cond b (e ∷ done_entries es) (done_entries es)
done_front e es b is = ap (λ (c : Bool). cond c (e ∷ done_entries es) (done_entries es)) is

module _ {S : Type 0} (m : Meaning S) (segs : List ℕ) (budget : ℕ) where
  -- a carried entry that is no access that is done: a fault that is served, or one that ends the board
  pub data FaultStep (c b : Course S) (e : Entry) : Type 0 where
    Served : is_plain e ≡ false → b ≡ c → FaultStep c b e
    Ends : (board : ℕ) (kind : FaultKind) (access : AccessKind) (at : ℕ) → e ≡ Fault board kind access at → is_plain e ≡ true → b.ending ≡ Some (Faulty kind at) → FaultStep c b e

  fault_if : (c b : Course S) (board : ℕ) (kind : FaultKind) (access : AccessKind) (at : ℕ) (t k : Bool) → is_ending kind ≡ k
      → (if t then (if k then Some (stop m segs budget c kind at) else Some c) else None) ≡ Some b → FaultStep c b (Fault board kind access at)
  fault_if c b board kind access at true true is h = Ends board kind access at refl is (ap (λ (x : Course S). x.ending) (sym (some_is _ _ h)))
  fault_if c b board kind access at true false is h = Served is (sym (some_is _ _ h))
  fault_if c b board kind access at false k is h = absurd cc

  fault_want : (c b : Course S) (w : Want) (s : Option Stop) (e : Entry) → carry_want m segs budget c w s e ≡ Some b → is_done e ≡ false → FaultStep c b e
  fault_want c b Local s e h q = absurd cc
  fault_want c b Ended s e h q = absurd cc
  fault_want c b (Access kind va value) (Some s) e h q = absurd cc
  fault_want c b (Access kind va value) None (Load board at v) h q = absurd cc
  fault_want c b (Access kind va value) None (Store board at v) h q = absurd cc
  fault_want c b (Access kind va value) None (Tas board at v) h q = absurd cc
  fault_want c b (Access kind va value) None (Fault board k w at) h q = fault_if c b board k w at _ (is_ending k) refl h
  fault_want c b (Access kind va value) None e h q = absurd cc

  pub fault_step : (c b : Course S) (e : Entry) → carry_entry m segs budget c e ≡ Some b → is_done e ≡ false → FaultStep c b e
  fault_step c b e h q = fault_want c b (m.wants c.cpu) c.ending e h q

  pub nothing : (c d : Course S) (es : List Entry) (n : ℕ) (why : Stop) → c.ending ≡ Some why → after m segs budget c es n ≡ Some d → UsesNothing m c d es n
  nothing c d es n why h r = ended-uses-nothing m segs budget c d es n why h r

  -- no other step ends it by a fault
  retired_unfaulted : (c : Course S) (s : S) → IsUnfaulted (retire m segs budget c s)
  retired_unfaulted c s kind at h = never_faulty (m.wants s) budget (c.retired + 1) kind at h

  local_unfaulted : (c b : Course S) → carry_local m segs budget c ≡ Some b → IsUnfaulted b
  local_unfaulted c b h = subst (λ (x : Course S). IsUnfaulted x) (passed (wants_local m segs budget c) _ b h) (retired_unfaulted c (m.local c.cpu))

  want_unfaulted : (c b : Course S) (w : Want) (s : Option Stop) (e : Entry) → carry_want m segs budget c w s e ≡ Some b → is_done e ≡ true → IsUnfaulted b
  want_unfaulted c b Local s e h q = absurd cc
  want_unfaulted c b Ended s e h q = absurd cc
  want_unfaulted c b (Access kind va value) (Some s) e h q = absurd cc
  want_unfaulted c b (Access kind va value) None (Load board at v) h q = subst (λ (x : Course S). IsUnfaulted x) (passed _ _ b h) (retired_unfaulted c (m.answer c.cpu (Done v)))
  want_unfaulted c b (Access kind va value) None (Store board at v) h q = subst (λ (x : Course S). IsUnfaulted x) (passed _ _ b h) (retired_unfaulted c (m.answer c.cpu (Done v)))
  want_unfaulted c b (Access kind va value) None (Tas board at v) h q = subst (λ (x : Course S). IsUnfaulted x) (passed _ _ b h) (retired_unfaulted c (m.answer c.cpu (Done v)))
  want_unfaulted c b (Access kind va value) None e h q = absurd cc

  done_unfaulted : (c b : Course S) (e : Entry) → carry_entry m segs budget c e ≡ Some b → is_done e ≡ true → IsUnfaulted b
  done_unfaulted c b e h q = want_unfaulted c b (m.wants c.cpu) c.ending e h q

  abbrev Ways : Course S → Course S → List Entry → ℕ → Type 0
  Ways c d es n = ByAccesses m segs budget c d es n ⊎ ByOneFault m segs budget c d es n

  -- a local instruction first
  local_way : (c b d : Course S) (es : List Entry) (n : ℕ) → carry_local m segs budget c ≡ Some b → Ways b d es n → Ways c d es (suc n)
  local_way c b d es n h (inl a) = inl (record { unfaulted = a.unfaulted; entries = a.entries; comes = after_local m segs budget c b (done_entries es) n h ∙ a.comes })
  local_way c b d es n h (inr f) = inr (record {
    before = f.before;
    board = f.board;
    kind = f.kind;
    access = f.access;
    at = f.at;
    entries = f.entries;
    comes = after_local m segs budget c b (done_entries es) n h ∙ f.comes;
    ends = f.ends;
    ending = f.ending;
  })

  -- an access that is done first
  done_way : (c b d : Course S) (e : Entry) (es : List Entry) (n : ℕ) → carry_entry m segs budget c e ≡ Some b → is_done e ≡ true → Ways b d es n → Ways c d (e ∷ es) (suc n)
  done_way c b d e es n h q (inl a) =
      let is = done_front e es true q in
      inl (record {
        unfaulted = a.unfaulted;
        entries = plain_front e es true (done_is_plain e q) ∙ ap (λ (xs : List Entry). e ∷ xs) a.entries ∙ sym is;
        comes = ap (λ (xs : List Entry). after m segs budget c xs (suc n)) is ∙ after_done m segs budget c b e (done_entries es) n h q ∙ a.comes;
      })
  done_way c b d e es n h q (inr f) =
      let is = done_front e es true q in
      inr (record {
        before = f.before;
        board = f.board;
        kind = f.kind;
        access = f.access;
        at = f.at;
        entries = plain_front e es true (done_is_plain e q) ∙ ap (λ (xs : List Entry). e ∷ xs) f.entries ∙ sym (ap (λ (xs : List Entry). xs ++ Fault f.board f.kind f.access f.at ∷ []) is);
        comes = ap (λ (xs : List Entry). after m segs budget c xs (suc n)) is ∙ after_done m segs budget c b e (done_entries es) n h q ∙ f.comes;
        ends = f.ends;
        ending = f.ending;
      })

  -- a served fault first
  served_way : (c d : Course S) (e : Entry) (es : List Entry) (n : ℕ) → is_done e ≡ false → is_plain e ≡ false → Ways c d es n → Ways c d (e ∷ es) n
  served_way c d e es n q p (inl a) =
      let is = done_front e es false q in
      inl (record { unfaulted = a.unfaulted; entries = plain_front e es false p ∙ a.entries ∙ sym is; comes = ap (λ (xs : List Entry). after m segs budget c xs n) is ∙ a.comes })
  served_way c d e es n q p (inr f) =
      let is = done_front e es false q in
      inr (record {
        before = f.before;
        board = f.board;
        kind = f.kind;
        access = f.access;
        at = f.at;
        entries = plain_front e es false p ∙ f.entries ∙ sym (ap (λ (xs : List Entry). xs ++ Fault f.board f.kind f.access f.at ∷ []) is);
        comes = ap (λ (xs : List Entry). after m segs budget c xs n) is ∙ f.comes;
        ends = f.ends;
        ending = f.ending;
      })

  -- an ending fault, alone
  ending_way : (c d : Course S) (board : ℕ) (kind : FaultKind) (access : AccessKind) (at : ℕ) → is_plain (Fault board kind access at) ≡ true
      → carry_entry m segs budget c (Fault board kind access at) ≡ Some d → d.ending ≡ Some (Faulty kind at) → Ways c d (Fault board kind access at ∷ []) 0
  ending_way c d board kind access at p h ending = inr (record {
    before = c;
    board = board;
    kind = kind;
    access = access;
    at = at;
    entries = plain_front (Fault board kind access at) [] true p;
    comes = refl;
    ends = h;
    ending = ending;
  })

  -- a fault first, served or ending
  fault_way : (c b d : Course S) (e : Entry) (es : List Entry) (n : ℕ) → IsUnfaulted c → carry_entry m segs budget c e ≡ Some b → is_done e ≡ false → after m segs budget b es n ≡ Some d
      → FaultStep c b e → (after m segs budget c es n ≡ Some d → Ways c d es n) → Ways c d (e ∷ es) n
  fault_way c b d e es n ok h q r (Served p is) later = served_way c d e es n q p (later (ap (λ (x : Course S). after m segs budget x es n) (sym is) ∙ r))
  fault_way c b d e es n ok h q r (Ends board kind access at is p ending) later =
      let none = nothing b d es n (Faulty kind at) ending r in
      let step : carry_entry m segs budget c (Fault board kind access at) ≡ Some d = ap (carry_entry m segs budget c) (sym is) ∙ h ∙ ap (λ (x : Course S). Some x) (sym none.course) in
      let way_is = ending_way c d board kind access at (ap is_plain (sym is) ∙ p) step (ap (λ (x : Course S). x.ending) none.course ∙ ending) in
      subst (λ (x : Entry). Ways c d (x ∷ es) n) (sym is)
      (subst (λ (xs : List Entry). Ways c d (Fault board kind access at ∷ xs) n) (sym none.entries)
      (subst (λ (k : ℕ). Ways c d (Fault board kind access at ∷ []) k) (sym none.completed) way_is))

  ways : (c d : Course S) (es : List Entry) (n : ℕ) → IsUnfaulted c → after m segs budget c es n ≡ Some d → Ways c d es n
  ways c d [] zero ok h = inl (record { unfaulted = subst (λ (x : Course S). IsUnfaulted x) (some_is c d h) ok; entries = refl; comes = h })
  ways c d [] (suc n) ok h =
      let b = bind_some (carry_local m segs budget c) (λ x. after m segs budget x [] n) d h in
      local_way c b.0 d [] n b.1 (ways b.0 d [] n (local_unfaulted c b.0 b.1) b.2)
  ways c d (e ∷ es) zero ok h =
      let b = at_zero (is_done e) (carry_entry m segs budget c e) (λ x. after m segs budget x es zero) d h in
      fault_way c b.1.0 d e es zero ok b.1.1 b.0 b.1.2 (fault_step c b.1.0 e b.1.1 b.0) (λ r. ways c d es zero ok r)
  ways c d (e ∷ es) (suc n) ok h =
      elim (way (wants_local m segs budget c) (is_done e) (carry_local m segs budget c) (carry_entry m segs budget c e) (λ x. after m segs budget x (e ∷ es) n) (λ x. after m segs budget x es n) (λ x. after m segs budget x es (suc n)) d h) [
        | inl l ↦ local_way c l.0 d (e ∷ es) n l.1 (ways l.0 d (e ∷ es) n (local_unfaulted c l.0 l.1) l.2)
        | inr (inl r) ↦ done_way c r.1.0 d e es n r.1.1 r.0 (ways r.1.0 d es n (done_unfaulted c r.1.0 e r.1.1 r.0) r.1.2)
        | inr (inr r) ↦ fault_way c r.1.0 d e es (suc n) ok r.1.1 r.0 r.1.2 (fault_step c r.1.0 e r.1.1 r.0) (λ q. ways c d es (suc n) ok q)
      ]

  -- the served faults drop out
  dropped : (c b d : Course S) (e : Entry) (es : List Entry) (n : ℕ) → carry_entry m segs budget c e ≡ Some b → is_done e ≡ false → FaultStep c b e
      → after m segs budget b (plain_entries es) n ≡ Some d → after m segs budget c (plain_entries (e ∷ es)) n ≡ Some d
  dropped c b d e es n h q (Served p is) r = ap (λ (xs : List Entry). after m segs budget c xs n) (plain_front e es false p) ∙ ap (λ (x : Course S). after m segs budget x (plain_entries es) n) (sym is) ∙ r
  dropped c b d e es n h q (Ends board kind access at is p ending) r =
      ap (λ (xs : List Entry). after m segs budget c xs n) (plain_front e es true p) ∙ after_fault m segs budget c b e (plain_entries es) n h q ∙ r

  drop_out : (c d : Course S) (es : List Entry) (n : ℕ) → after m segs budget c es n ≡ Some d → after m segs budget c (plain_entries es) n ≡ Some d
  drop_out c d [] zero h = h
  drop_out c d [] (suc n) h = h
  drop_out c d (e ∷ es) zero h =
      let b = at_zero (is_done e) (carry_entry m segs budget c e) (λ x. after m segs budget x es zero) d h in
      dropped c b.1.0 d e es zero b.1.1 b.0 (fault_step c b.1.0 e b.1.1 b.0) (drop_out b.1.0 d es zero b.1.2)
  drop_out c d (e ∷ es) (suc n) h =
      elim (way (wants_local m segs budget c) (is_done e) (carry_local m segs budget c) (carry_entry m segs budget c e) (λ x. after m segs budget x (e ∷ es) n) (λ x. after m segs budget x es n) (λ x. after m segs budget x es (suc n)) d h) [
        | inl l ↦ after_local m segs budget c l.0 (plain_entries (e ∷ es)) n l.1 ∙ drop_out l.0 d (e ∷ es) n l.2
        | inr (inl r) ↦ ap (λ (xs : List Entry). after m segs budget c xs (suc n)) (plain_front e es true (done_is_plain e r.0)) ∙ after_done m segs budget c r.1.0 e (plain_entries es) n r.1.1 r.0 ∙ drop_out r.1.0 d es n r.1.2
        | inr (inr r) ↦ dropped c r.1.0 d e es (suc n) r.1.1 r.0 (fault_step c r.1.0 e r.1.1 r.0) (drop_out r.1.0 d es (suc n) r.1.2)
      ]

pub served-drop-out : {S : Type 0} (m : Meaning S) → ServedDropOut m
served-drop-out m segs budget c d es n h = drop_out m segs budget c d es n h

pub accesses-and-one-fault : {S : Type 0} (m : Meaning S) → AccessesAndOneFault m
accesses-and-one-fault m segs budget c d es n ok h = ways m segs budget c d es n ok h
