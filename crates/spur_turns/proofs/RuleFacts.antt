-- The lock rule and its parts, and what stays of it where the view of one seat changes.
use mathlib.Core.Option.{some}
use lib.ListN.{get_elem?}
use lib.Seq.{set-get_or}
use Rattle.std.specs.Prelude.{slice_get}
use Rattle.std.specs.List.{AllByRecursion}
use Rattle.std.proofs.Common.{◌≡◌, ◌≢◌, ℕ, ◌+◌, ◌<◌, Bool, true, false, List, [], length, get_or, set, sym, refl, ap, ◌∙◌, subst, ⊎_elim, arith, Option, Some, None}
use Rattle.atomic_table.specs.Table.{State}
use Rattle.atomic_table.proofs.Lists.{set_again}
use Rattle.spur_turns.specs.declared.table.View.{View}
use Rattle.spur_turns.specs.declared.table.Item.TheVariants.{Bus, Place}
use Rattle.spur_turns.specs.Views.{Slot, Homes}
use Rattle.spur_turns.specs.Rule.{AreEmpty, IsKept, KnowsName, SeatsAreNumbered}
use Rattle.spur_turns.proofs.ListFacts.{true_or_false, none_some}
use Rattle.spur_turns.proofs.NumberFacts.{each_set, lone, numbered_set}
use Rattle.spur_turns.proofs.HoldFacts.{Holds, holds_of, sized_of, bus_word_of, place_words_of, current_of}

pub zero_one : ◌≡◌ {A = ℕ} 0 1 → ⊥
zero_one e = omega arith

pub zero_two : ◌≡◌ {A = ℕ} 0 2 → ⊥
zero_two e = omega arith

pub one_two : ◌≡◌ {A = ℕ} 1 2 → ⊥
one_two e = omega arith

module _ {T P N : Type 0} where
  -- what holds before the first values are in stays where a view changes, and neither its name nor whom it took in
  pub empty_set : (n m : ℕ) (vs : List (View T P N)) (id : ℕ) (v w : View T P N) (cur : ℕ → Slot T P) → get_elem? vs id ≡ some v → w.name ≡ v.name → w.joined ≡ v.joined → AreEmpty n m vs cur → AreEmpty n m (set vs id w) cur
  empty_set n m vs id v w cur at same joined b = record {
    alone = b.alone;
    empty = b.empty;
    nameless = λ f e. each_set (λ j u. j ≡ 0 → (u.name ≡ None) × (u.joined ≡ [])) vs id w
        (λ z. let t = b.nameless v (subst (λ (k : ℕ). get_elem? vs k ≡ some v) z at) in (same ∙ t.0, joined ∙ t.1))
        (λ j u _ e' z. b.nameless u (subst (λ (k : ℕ). get_elem? vs k ≡ some u) z e')) 0 f e refl;
  }

  -- all views know a name also where a live view changes, and neither its name nor whom it took in
  pub knows_set : (x : N) (vs : List (View T P N)) (id : ℕ) (v w : View T P N) → get_elem? vs id ≡ some v → v.live ≡ true → w.name ≡ v.name → w.joined ≡ v.joined
      → ((j : ℕ) (u : View T P N) → get_elem? vs j ≡ some u → KnowsName x u) → (j : ℕ) (u : View T P N) → get_elem? (set vs id w) j ≡ some u → KnowsName x u
  knows_set x vs id v w at live same joined all =
      let k = all id v at in
      each_set (λ j u. KnowsName x u) vs id w
      record { own_name = λ _. same ∙ k.own_name live; joined_names = λ _. subst (λ (l : List (Option N)). AllByRecursion (λ y. y ≡ Some x) l) (sym joined) (k.joined_names live) }
      (λ j u _ e. all j u e)

module _ {T P N : Type 0} (good : T → List P → Type 0) (name : T → N) where
  -- the current values are good, and all know the name of the bus
  pub record Full (m : ℕ) (views : List (View T P N)) (cur : ℕ → Slot T P) : Type 0 where
    pub bus : T
    pub places : List P
    pub many : length places ≡ m
    pub is_good : good bus places
    pub bus_is : cur 0 ≡ Some (Bus bus)
    pub place_is : (i : ℕ) (p : P) → slice_get places i ≡ Some p → cur (i + 1) ≡ Some (Place p)
    pub knows : (j : ℕ) (v : View T P N) → get_elem? views j ≡ some v → KnowsName (name bus) v

  -- the parts of the rule, those that go together in a proof as one
  pub record Parts (s : State (Slot T P) (View T P N)) : Type 0 where
    pub seats : ℕ
    pub places : ℕ
    pub opened : Bool
    pub stands : ℕ → ℕ
    pub holder : ℕ
    pub held : List (Slot T P)
    pub cur : ℕ → Slot T P
    pub roster : SeatsAreNumbered seats opened stands s.views
    pub holds : Holds places s.words s.homes s.views stands holder held cur
    pub bare : opened ≡ false → AreEmpty seats places s.views cur
    pub full : opened ≡ true → Full places s.views cur

  pub kept : (s : State (Slot T P) (View T P N)) → Parts s → IsKept good name s
  kept s p = record {
    places = p.places;
    seats = p.seats;
    opened = p.opened;
    stands = p.stands;
    holder = p.holder;
    held = p.held;
    current = p.cur;
    sized = sized_of p.places s.words s.homes s.views p.stands p.holder p.held p.cur p.holds;
    are_current = current_of p.places s.words s.homes s.views p.stands p.holder p.held p.cur p.holds;
    seats_are_numbered = p.roster;
    bus_word = bus_word_of p.places s.words s.homes s.views p.stands p.holder p.held p.cur p.holds;
    place_words = place_words_of p.places s.words s.homes s.views p.stands p.holder p.held p.cur p.holds;
    values_are_good = λ is. let f = p.full is in record { bus = f.bus; places = f.places; many = f.many; is_good = f.is_good; bus_is = f.bus_is; place_is = f.place_is };
    one_name = λ is. let f = p.full is in record {
      each = λ t bus_is j v at. subst (λ (b : T). KnowsName (name b) v) (inner_bus (sym f.bus_is ∙ bus_is)) (f.knows j v at);
    };
    values_are_empty = p.bare;
  }
    where
      inner_bus : {a b : T} → ◌≡◌ {A = Slot T P} (Some (Bus a)) (Some (Bus b)) → a ≡ b
      inner_bus e = cc

  pub rule_holds : (s : State (Slot T P) (View T P N)) (r : IsKept good name s) → Holds r.places s.words s.homes s.views r.stands r.holder r.held r.current
  rule_holds s r = holds_of r.places s.words s.homes s.views r.stands r.holder r.held r.current r.sized r.bus_word r.place_words r.are_current

  pub full_of : (s : State (Slot T P) (View T P N)) (r : IsKept good name s) → r.opened ≡ true → Full r.places s.views r.current
  full_of s r is = let v = r.values_are_good is in record {
    bus = v.bus;
    places = v.places;
    many = v.many;
    is_good = v.is_good;
    bus_is = v.bus_is;
    place_is = v.place_is;
    knows = (r.one_name is).each v.bus v.bus_is;
  }

  nameless : (s : State (Slot T P) (View T P N)) (r : IsKept good name s) (id : ℕ) (v : View T P N) → get_elem? s.views id ≡ some v → v.live ≡ true → r.opened ≡ false → v.name ≡ None
  nameless s r id v at live unopened = let b = r.values_are_empty unopened in
      (b.nameless v (subst (λ (i : ℕ). get_elem? s.views i ≡ some v) (lone r.seats r.opened r.stands s.views id v r.seats_are_numbered b.alone at live).1 at)).0

  -- where a live seat has a name, the first values are in
  pub is_opened : (s : State (Slot T P) (View T P N)) (r : IsKept good name s) (id : ℕ) (v : View T P N) (x : N) → get_elem? s.views id ≡ some v → v.live ≡ true → v.name ≡ Some x → r.opened ≡ true
  is_opened s r id v x at live is = ⊎_elim (λ (t : r.opened ≡ true). t) (λ (unopened : r.opened ≡ false). absurd (none_some (sym (nameless s r id v at live unopened) ∙ is))) (true_or_false r.opened)

  -- where one has none, they are not
  pub is_unopened : (s : State (Slot T P) (View T P N)) (r : IsKept good name s) (id : ℕ) (v : View T P N) → get_elem? s.views id ≡ some v → v.live ≡ true → v.name ≡ None → r.opened ≡ false
  is_unopened s r id v at live is = ⊎_elim (λ (opened : r.opened ≡ true). let f = full_of s r opened in absurd (none_some (sym is ∙ (f.knows id v at).own_name live))) (λ (t : r.opened ≡ false). t) (true_or_false r.opened)

  full_set : (m : ℕ) (vs : List (View T P N)) (id : ℕ) (v w : View T P N) (cur : ℕ → Slot T P) → get_elem? vs id ≡ some v → v.live ≡ true → w.name ≡ v.name → w.joined ≡ v.joined → Full m vs cur → Full m (set vs id w) cur
  full_set m vs id v w cur at live same joined f = record {
    bus = f.bus;
    places = f.places;
    many = f.many;
    is_good = f.is_good;
    bus_is = f.bus_is;
    place_is = f.place_is;
    knows = knows_set (name f.bus) vs id v w at live same joined f.knows;
  }

  -- the rule stays where a view changes, and no current value
  pub keeps_rule : (s : State (Slot T P) (View T P N)) (r : IsKept good name s) (id : ℕ) (v w : View T P N) (ws : List ℕ) (hs : Homes T P) (holder : ℕ) (held : List (Slot T P))
      → get_elem? s.views id ≡ some v → v.live ≡ true → w.live ≡ true → w.number ≡ v.number → w.seats ≡ v.seats → w.opened ≡ v.opened → w.name ≡ v.name → w.joined ≡ v.joined
      → Holds r.places ws hs (set s.views id w) r.stands holder held r.current → IsKept good name record { words = ws; homes = hs; views = set s.views id w }
  keeps_rule s r id v w ws hs holder held at live live' number seats opened named joined h = kept record { words = ws; homes = hs; views = set s.views id w } record {
    seats = r.seats;
    places = r.places;
    opened = r.opened;
    stands = r.stands;
    holder = holder;
    held = held;
    cur = r.current;
    roster = numbered_set r.seats r.opened r.opened r.stands s.views id v w r.seats_are_numbered at live live' number seats
        (λ z. opened ∙ (r.seats_are_numbered.first v (subst (λ (k : ℕ). get_elem? s.views k ≡ some v) z at)).opened_is) (λ _. refl);
    holds = h;
    bare = λ is. empty_set r.seats r.places s.views id v w r.current at named joined (r.values_are_empty is);
    full = λ is. full_set r.places s.views id v w r.current at live named joined (full_of s r is);
  }

  -- a try that changes nothing
  pub keeps_all : (s : State (Slot T P) (View T P N)) (r : IsKept good name s) (id q : ℕ) (v : View T P N) → get_elem? s.views id ≡ some v → IsKept good name record { words = set s.words q (get_or s.words q 0); homes = s.homes; views = set s.views id v }
  keeps_all s r id q v at = subst (λ (ws : List ℕ). IsKept good name record { words = ws; homes = s.homes; views = set s.views id v }) (sym (set-get_or s.words q 0))
      (subst (λ (vs : List (View T P N)). IsKept good name record { words = s.words; homes = s.homes; views = vs }) (sym (set_again s.views id v at)) r)

  -- other seats have other numbers
  pub other_number : (s : State (Slot T P) (View T P N)) (r : IsKept good name s) (id i : ℕ) (v : View T P N) → get_elem? s.views id ≡ some v → v.live ≡ true → v.number ≡ i → (j : ℕ) (u : View T P N) (p : P) → j ≢ id → get_elem? s.views j ≡ some u → u.own ≡ Some p → u.number ≢ i
  other_number s r id i v at live number j u p ne e owns q = ⊎_elim
      (λ (l : u.live ≡ true). ne (sym (r.seats_are_numbered.live_number j u e l).1 ∙ (ap r.stands (q ∙ sym number) ∙ (r.seats_are_numbered.live_number id v at live).1)))
      (λ (l : u.live ≡ false). none_some (sym (r.seats_are_numbered.spent j u e l).1 ∙ owns)) (true_or_false u.live)

  -- who holds the bus is the one seat that does
  pub one_holder : (s : State (Slot T P) (View T P N)) (r : IsKept good name s) (id : ℕ) (v : View T P N) → get_elem? s.views id ≡ some v → 0 < length v.stock → (j : ℕ) (u : View T P N) → j ≢ id → get_elem? s.views j ≡ some u → 0 < length u.stock → ⊥
  one_holder s r id v at some_mine j u ne e l = ne (((rule_holds s r).stocked j u e l).0 ∙ sym ((rule_holds s r).stocked id v at some_mine).0)
