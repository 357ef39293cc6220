-- A board that is carried on by one whole instruction.
use Rattle.std.proofs.Common.{◌≡◌, ℕ, zero, suc, ◌+◌, Bool, true, false, ◌⊎◌, inl, inr, List, [], ◌∷◌, ◌++◌, Option, Some, None, refl, sym, ap, ◌∙◌, subst, arith, if◌then◌else◌}
use Rattle.std.specs.Prelude.{◌||◌, option_and_then}
use Rattle.spur_flat.specs.declared.entry.Entry.{Entry}
use Rattle.spur_flat.specs.declared.entry.Entry.TheVariants.{Load, Store, Tas, Fault}
use Rattle.spur_cpu.specs.Meaning.{Meaning, is_ending}
use Rattle.spur_cpu.specs.declared.cpu.Want.{Want}
use Rattle.spur_cpu.specs.declared.cpu.Want.TheVariants.{Local, Access, Ended}
use Rattle.spur_cpu.specs.After.{Stop, Faulty, Course, HasBudgetLeft, after, carry_entry, carry_local, carry_want, is_done, wants_local}
use Rattle.spur_cpu.specs.Onward.{carry_instruction, carry_tries, is_answer, is_ending_fault}
use Rattle.spur_cpu.specs.OnwardLaws.{BudgetStaysLeft, InstructionIsOne, InstructionLeadsOn, IsOneOn, IsStopped, MadeOfInstructions, NothingCompleted, OneComesFirst}
use Rattle.spur_cpu.proofs.Afters.{after_append, after_done, after_fault, after_local, at_zero, bind_some, not_local, some_is, tested, way}
use Rattle.spur_cpu.proofs.Going.{local_going, uses_nothing}
use Rattle.spur_cpu.proofs.Led.{local_count, passed, want_done, want_fault}
use Rattle.spur_cpu.proofs.ToAccess.{access_left, entry_left, local_done, local_left}

chosen-Some : {A : Type 0} (b : Bool) (o : Option A) (x : A) → (if b then o else None) ≡ Some x → (b ≡ true) × (o ≡ Some x)
chosen-Some true o x h = (refl, h)
chosen-Some false o x h = absurd cc

or-false : (a b : Bool) → (a || b) ≡ false → a ≡ false
or-false true b e = absurd cc
or-false false b e = refl

fault_ends : {A : Type 0} (b k : Bool) (x y z : A) → k ≡ true → (if b then (if k then Some x else Some y) else None) ≡ Some z → x ≡ z
fault_ends true true x y z e h = cc
fault_ends true false x y z e h = absurd cc
fault_ends false k x y z e h = absurd cc

fault_stays : {A : Type 0} (b k : Bool) (x y z : A) → k ≡ false → (if b then (if k then Some x else Some y) else None) ≡ Some z → y ≡ z
fault_stays true true x y z e h = absurd cc
fault_stays true false x y z e h = cc
fault_stays false k x y z e h = absurd cc

module _ {S : Type 0} (m : Meaning S) (segs : List ℕ) (budget : ℕ) where
  -- an answer completes one instruction, or an ending fault stops the board
  want_answer_is_one : (c d : Course S) (w : Want) (s : Option Stop) (e : Entry) → c.ending ≡ s → carry_want m segs budget c w s e ≡ Some d → is_answer e ≡ true → IsOneOn c d
  want_answer_is_one c d Local s e is h q = absurd cc
  want_answer_is_one c d Ended s e is h q = absurd cc
  want_answer_is_one c d (Access kind va value) (Some s) e is h q = absurd cc
  want_answer_is_one c d (Access kind va value) None (Load board at v) is h q = record { going = is; way = inl (ap (λ (x : Course S). x.retired) (sym (passed _ _ d h))) }
  want_answer_is_one c d (Access kind va value) None (Store board at v) is h q = record { going = is; way = inl (ap (λ (x : Course S). x.retired) (sym (passed _ _ d h))) }
  want_answer_is_one c d (Access kind va value) None (Tas board at v) is h q = record { going = is; way = inl (ap (λ (x : Course S). x.retired) (sym (passed _ _ d h))) }
  want_answer_is_one c d (Access kind va value) None (Fault board k w at) is h q =
      let stopped = fault_ends _ (is_ending k) _ _ d q h in
      record { going = is; way = inr record { kind = k; at = at; ending = ap (λ (x : Course S). x.ending) (sym stopped); completed = ap (λ (x : Course S). x.retired) (sym stopped) } }
  want_answer_is_one c d (Access kind va value) None e is h q = absurd cc

  answer_is_one : (c d : Course S) (e : Entry) → carry_entry m segs budget c e ≡ Some d → is_answer e ≡ true → IsOneOn c d
  answer_is_one c d e h q = want_answer_is_one c d (m.wants c.cpu) c.ending e refl h q

  -- any other entry leaves the board where it is
  want_try_stays : (c d : Course S) (w : Want) (s : Option Stop) (e : Entry) → carry_want m segs budget c w s e ≡ Some d → is_answer e ≡ false → c ≡ d
  want_try_stays c d Local s e h q = absurd cc
  want_try_stays c d Ended s e h q = absurd cc
  want_try_stays c d (Access kind va value) (Some s) e h q = absurd cc
  want_try_stays c d (Access kind va value) None (Load board at v) h q = absurd cc
  want_try_stays c d (Access kind va value) None (Store board at v) h q = absurd cc
  want_try_stays c d (Access kind va value) None (Tas board at v) h q = absurd cc
  want_try_stays c d (Access kind va value) None (Fault board k w at) h q = fault_stays _ (is_ending k) _ _ d q h
  want_try_stays c d (Access kind va value) None e h q = absurd cc

  try_stays : (c d : Course S) (e : Entry) → carry_entry m segs budget c e ≡ Some d → is_answer e ≡ false → c ≡ d
  try_stays c d e h q = want_try_stays c d (m.wants c.cpu) c.ending e h q

  -- a whole instruction is a piece of `after`
  record IsPiece (c d : Course S) (es : List Entry) : Type 0 where
    count : ℕ
    counted : d.retired ≡ c.retired + count
    leads : after m segs budget c es count ≡ Some d

  answer_is_a_piece : (b : Bool) (c d : Course S) (e : Entry) → is_done e ≡ b → carry_entry m segs budget c e ≡ Some d → IsPiece c d (e ∷ [])
  answer_is_a_piece true c d e q h = record { count = 1; counted = want_done m segs budget c d (m.wants c.cpu) c.ending e h q; leads = after_done m segs budget c d e [] 0 h q }
  answer_is_a_piece false c d e q h =
      let same : d.retired ≡ c.retired = want_fault m segs budget c d (m.wants c.cpu) c.ending e h q in
      record { count = 0; counted = omega arith; leads = after_fault m segs budget c d e [] 0 h q }

  tries_are_a_piece : (c d : Course S) (e : Entry) (es : List Entry) → carry_tries m segs budget c e es ≡ Some d → IsPiece c d (e ∷ es)
  tries_are_a_piece c d e [] h = answer_is_a_piece (is_done e) c d e refl (chosen-Some (is_answer e) (carry_entry m segs budget c e) d h).1
  tries_are_a_piece c d e (f ∷ fs) h =
      let b = at_zero (is_answer e) (carry_entry m segs budget c e) (λ x. carry_tries m segs budget x f fs) d h in
      let q : is_done e ≡ false = or-false (is_done e) (is_ending_fault e) b.0 in
      let later = tries_are_a_piece b.1.0 d f fs b.1.2 in
      let same : b.1.0.retired ≡ c.retired = want_fault m segs budget c b.1.0 (m.wants c.cpu) c.ending e b.1.1 q in
      record { count = later.count; counted = later.counted ∙ ap (λ (n : ℕ). n + later.count) same; leads = after_fault m segs budget c b.1.0 e (f ∷ fs) later.count b.1.1 q ∙ later.leads }

  instruction_is_a_piece : (c d : Course S) (es : List Entry) → carry_instruction m segs budget c es ≡ Some d → IsPiece c d es
  instruction_is_a_piece c d [] h = record { count = 1; counted = local_count m segs budget c d h; leads = after_local m segs budget c d [] 0 h }
  instruction_is_a_piece c d (e ∷ es) h = tries_are_a_piece c d e es h

  tries_are_one : (c d : Course S) (e : Entry) (es : List Entry) → carry_tries m segs budget c e es ≡ Some d → IsOneOn c d
  tries_are_one c d e [] h = let b = chosen-Some (is_answer e) (carry_entry m segs budget c e) d h in answer_is_one c d e b.1 b.0
  tries_are_one c d e (f ∷ fs) h =
      let b = at_zero (is_answer e) (carry_entry m segs budget c e) (λ x. carry_tries m segs budget x f fs) d h in
      let same : c ≡ b.1.0 = try_stays c b.1.0 e b.1.1 b.0 in
      subst (λ (x : Course S). IsOneOn x d) (sym same) (tries_are_one b.1.0 d f fs b.1.2)

  instruction_is_one : (c d : Course S) (es : List Entry) → carry_instruction m segs budget c es ≡ Some d → IsOneOn c d
  instruction_is_one c d [] h = record { going = local_going m segs budget (m.wants c.cpu) c.ending (tested (wants_local m segs budget c) _ d h); way = inl (local_count m segs budget c d h) }
  instruction_is_one c d (e ∷ es) h = tries_are_one c d e es h

  -- what is left of the budget after an instruction
  left_by_tries : (c d : Course S) (e : Entry) (es : List Entry) → HasBudgetLeft budget c → carry_tries m segs budget c e es ≡ Some d → HasBudgetLeft budget d
  left_by_tries c d e [] left h = entry_left m segs budget c d e left (chosen-Some (is_answer e) (carry_entry m segs budget c e) d h).1
  left_by_tries c d e (f ∷ fs) left h =
      let b = at_zero (is_answer e) (carry_entry m segs budget c e) (λ x. carry_tries m segs budget x f fs) d h in
      left_by_tries b.1.0 d f fs (entry_left m segs budget c b.1.0 e left b.1.1) b.1.2

  instruction_left : (c d : Course S) (es : List Entry) → HasBudgetLeft budget c → carry_instruction m segs budget c es ≡ Some d → HasBudgetLeft budget d
  instruction_left c d [] left h =
      let w = tested (wants_local m segs budget c) _ d h in
      subst (HasBudgetLeft budget) (passed (wants_local m segs budget c) (local_done m segs budget c) d h) (local_left m segs budget c w left)
  instruction_left c d (e ∷ es) left h = left_by_tries c d e es left h

  -- a fault after which the access is tried again comes before the entries of its instruction
  try_first : (c d : Course S) (e f : Entry) (fs : List Entry) → carry_entry m segs budget c e ≡ Some c → is_answer e ≡ false
      → carry_instruction m segs budget c (f ∷ fs) ≡ Some d → carry_instruction m segs budget c (e ∷ f ∷ fs) ≡ Some d
  try_first c d e f fs h q carried =
      ap (λ (b : Bool). if b then None else option_and_then (λ x. carry_tries m segs budget x f fs) (carry_entry m segs budget c e)) q
      ∙ ap (λ (o : Option (Course S)). option_and_then (λ x. carry_tries m segs budget x f fs) o) h ∙ carried

  -- a fault after which the access is tried again, and then a whole instruction by the entries behind it, are one
  one_comes_first_after_a_try : (c d f : Course S) (e : Entry) (es first rest : List Entry) (n : ℕ) → carry_entry m segs budget c e ≡ Some c → is_answer e ≡ false
      → es ≡ first ++ rest → carry_instruction m segs budget c first ≡ Some f → f.retired ≡ c.retired + 1 → after m segs budget f rest n ≡ Some d
      → OneComesFirst m segs budget c d (e ∷ es) n
  one_comes_first_after_a_try c d f e es [] rest n h q entries carried completed follows =
      let wanted = tested (wants_local m segs budget c) _ f carried in
      let none = not_local m segs budget c c (m.wants c.cpu) c.ending e h in
      absurd cc
  one_comes_first_after_a_try c d f e es (g ∷ gs) rest n h q entries carried completed follows = record {
    first = e ∷ g ∷ gs;
    rest = rest;
    course = f;
    entries = ap (λ (xs : List Entry). e ∷ xs) entries;
    carried = try_first c f e g gs h q carried;
    completed = completed;
    follows = follows;
  }

  -- a fault that answers its access stopped the board, which goes no further
  answer_stops : (c f : Course S) (e : Entry) → carry_entry m segs budget c e ≡ Some f → is_done e ≡ false → is_answer e ≡ true → IsStopped c f
  answer_stops c f e h q a =
      let same : f.retired ≡ c.retired = want_fault m segs budget c f (m.wants c.cpu) c.ending e h q in
      elim (answer_is_one c f e h a).way [
        | inl more ↦ absurd (omega (arith, same, more))
        | inr stopped ↦ stopped
      ]

  nothing_behind_a_stop : (c d f : Course S) (e : Entry) (es : List Entry) (n : ℕ) → carry_entry m segs budget c e ≡ Some f → is_done e ≡ false → is_answer e ≡ true
      → after m segs budget f es (suc n) ≡ Some d → ⊥
  nothing_behind_a_stop c d f e es n h q a follows =
      let stopped = answer_stops c f e h q a in
      let none = (uses_nothing m segs budget f d es (suc n) (Faulty stopped.kind stopped.at) stopped.ending follows).completed in
      absurd (omega (arith, none))

  one_comes_first_behind : (b : Bool) (c d f : Course S) (e : Entry) (es : List Entry) (n : ℕ) → is_answer e ≡ b → is_done e ≡ false → carry_entry m segs budget c e ≡ Some f
      → after m segs budget f es (suc n) ≡ Some d → (c ≡ f → OneComesFirst m segs budget f d es n) → OneComesFirst m segs budget c d (e ∷ es) n
  one_comes_first_behind true c d f e es n a q h follows later = absurd (nothing_behind_a_stop c d f e es n h q a follows)
  one_comes_first_behind false c d f e es n a q h follows later =
      let same : c ≡ f = try_stays c f e h a in
      let l : OneComesFirst m segs budget c d es n = subst (λ (x : Course S). OneComesFirst m segs budget x d es n) (sym same) (later same) in
      one_comes_first_after_a_try c d l.course e es l.first l.rest n (h ∙ ap (λ (x : Course S). Some x) (sym same)) a l.entries l.carried l.completed l.follows

  one_comes_first : (c d : Course S) (es : List Entry) (n : ℕ) → after m segs budget c es (suc n) ≡ Some d → OneComesFirst m segs budget c d es n
  one_comes_first c d [] n h =
      let b = bind_some (carry_local m segs budget c) (λ x. after m segs budget x [] n) d h in
      record { first = []; rest = []; course = b.0; entries = refl; carried = b.1; completed = local_count m segs budget c b.0 b.1; follows = b.2 }
  one_comes_first c d (e ∷ es) n h =
      elim (way (wants_local m segs budget c) (is_done e) (carry_local m segs budget c) (carry_entry m segs budget c e) (λ x. after m segs budget x (e ∷ es) n) (λ x. after m segs budget x es n) (λ x. after m segs budget x es (suc n)) d h) [
        | inl l ↦ record { first = []; rest = e ∷ es; course = l.0; entries = refl; carried = l.1; completed = local_count m segs budget c l.0 l.1; follows = l.2 }
        | inr (inl r) ↦ record {
          first = e ∷ [];
          rest = es;
          course = r.1.0;
          entries = refl;
          carried = ap (λ (b : Bool). if b || is_ending_fault e then carry_entry m segs budget c e else None) r.0 ∙ r.1.1;
          completed = want_done m segs budget c r.1.0 (m.wants c.cpu) c.ending e r.1.1 r.0;
          follows = r.1.2;
        }
        | inr (inr r) ↦ one_comes_first_behind (is_answer e) c d r.1.0 e es n refl r.0 r.1.1 r.1.2 (λ same. one_comes_first r.1.0 d es n r.1.2)
      ]

  first_and_rest_join : (c d : Course S) (es : List Entry) (n : ℕ) → OneComesFirst m segs budget c d es n → after m segs budget c es (suc n) ≡ Some d
  first_and_rest_join c d es n o =
      let p = instruction_is_a_piece c o.course o.first o.carried in
      let counted : o.course.retired ≡ c.retired + p.count = p.counted in
      let completed : o.course.retired ≡ c.retired + 1 = o.completed in
      let all : suc n ≡ p.count + n = omega arith in
      ap (λ (xs : List Entry). after m segs budget c xs (suc n)) o.entries ∙ ap (after m segs budget c (o.first ++ o.rest)) all
      ∙ after_append m segs budget c o.course o.first o.rest p.count n p.leads ∙ o.follows

  -- where nothing is completed, the board stands where it was, or an ending fault stopped it
  nothing_is_completed_after_a_try : (c d : Course S) (e : Entry) (es : List Entry) → carry_entry m segs budget c e ≡ Some c → is_answer e ≡ false
      → after m segs budget c es zero ≡ Some d → (d ≡ c) ⊎ (carry_instruction m segs budget c es ≡ Some d) → (d ≡ c) ⊎ (carry_instruction m segs budget c (e ∷ es) ≡ Some d)
  nothing_is_completed_after_a_try c d e es h q follows (inl same) = inl same
  nothing_is_completed_after_a_try c d e [] h q follows (inr carried) = inl (sym (some_is c d follows))
  nothing_is_completed_after_a_try c d e (f ∷ fs) h q follows (inr carried) = inr (try_first c d e f fs h q carried)

  stop_is_an_instruction : (c d f : Course S) (e : Entry) (es : List Entry) → carry_entry m segs budget c e ≡ Some f → is_done e ≡ false → is_answer e ≡ true
      → after m segs budget f es zero ≡ Some d → carry_instruction m segs budget c (e ∷ es) ≡ Some d
  stop_is_an_instruction c d f e es h q a follows =
      let stopped = answer_stops c f e h q a in
      let none = uses_nothing m segs budget f d es zero (Faulty stopped.kind stopped.at) stopped.ending follows in
      ap (λ (xs : List Entry). carry_instruction m segs budget c (e ∷ xs)) none.entries
      ∙ ap (λ (b : Bool). if b then carry_entry m segs budget c e else None) a ∙ h ∙ ap (λ (x : Course S). Some x) (sym none.course)

  nothing_is_completed_behind : (b : Bool) (c d f : Course S) (e : Entry) (es : List Entry) → is_answer e ≡ b → is_done e ≡ false → carry_entry m segs budget c e ≡ Some f
      → after m segs budget f es zero ≡ Some d → ((d ≡ f) ⊎ (carry_instruction m segs budget f es ≡ Some d)) → (d ≡ c) ⊎ (carry_instruction m segs budget c (e ∷ es) ≡ Some d)
  nothing_is_completed_behind true c d f e es a q h follows later = inr (stop_is_an_instruction c d f e es h q a follows)
  nothing_is_completed_behind false c d f e es a q h follows later =
      let same : f ≡ c = sym (try_stays c f e h a) in
      nothing_is_completed_after_a_try c d e es (h ∙ ap (λ (x : Course S). Some x) same) a (ap (λ (x : Course S). after m segs budget x es zero) (sym same) ∙ follows)
      (subst (λ (x : Course S). (d ≡ x) ⊎ (carry_instruction m segs budget x es ≡ Some d)) same later)

  nothing_is_completed : (c d : Course S) (es : List Entry) → after m segs budget c es zero ≡ Some d → (d ≡ c) ⊎ (carry_instruction m segs budget c es ≡ Some d)
  nothing_is_completed c d [] h = inl (sym (some_is c d h))
  nothing_is_completed c d (e ∷ es) h =
      let b = at_zero (is_done e) (carry_entry m segs budget c e) (λ x. after m segs budget x es zero) d h in
      nothing_is_completed_behind (is_answer e) c d b.1.0 e es refl b.0 b.1.1 b.1.2 (nothing_is_completed b.1.0 d es b.1.2)

module _ {S : Type 0} (m : Meaning S) where
  pub instruction-leads-on : InstructionLeadsOn m
  instruction-leads-on segs budget c d f es fs h step =
      let p = instruction_is_a_piece m segs budget d f fs step in
      ap (after m segs budget c (es ++ fs)) p.counted ∙ after_append m segs budget c d es fs d.retired p.count h ∙ p.leads

  pub instruction-is-one : InstructionIsOne m
  instruction-is-one segs budget c d es h = instruction_is_one m segs budget c d es h

  pub made-of-instructions : MadeOfInstructions m
  made-of-instructions segs budget c d es n = (one_comes_first m segs budget c d es n, first_and_rest_join m segs budget c d es n)

  pub nothing-completed : NothingCompleted m
  nothing-completed segs budget c d es h = nothing_is_completed m segs budget c d es h

  pub budget-stays-left : BudgetStaysLeft m
  budget-stays-left = record {
    access = λ segs budget c left. access_left m segs budget c left;
    entry = λ segs budget c d e left h. entry_left m segs budget c d e left h;
    instruction = λ segs budget c d es left h. instruction_left m segs budget c d es left h;
  }
