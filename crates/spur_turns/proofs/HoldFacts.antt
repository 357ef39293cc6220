-- Who holds what: the bus word, the place words and the current values together, and what stays of them where the view of
-- one seat changes.
use Rattle.std.proofs.Common.{◌≡◌, ◌≢◌, ℕ, ◌+◌, ◌<◌, List, [], length, get_or, set, sym, refl, ap, ◌∙◌, subst, arith, Some, None}
use mathlib.Core.Logic.{dite}
use mathlib.Core.Option.{some}
use native.Mathlib.Decide.{ℕ_discrete}
use lib.ListN.{get_elem?}
use Rattle.atomic_table.proofs.Lists.{set_here}
use Rattle.spur_turns.specs.declared.table.View.{View}
use Rattle.spur_turns.specs.declared.table.Item.TheVariants.{Place}
use Rattle.spur_turns.specs.Views.{Slot, Homes, held_at}
use Rattle.spur_turns.specs.Rule.{AreSized, BusWord, PlaceWords, AreCurrent}
use Rattle.spur_turns.proofs.ListFacts.{none_some, there_length}
use Rattle.spur_turns.proofs.StockFacts.{held_within}
use Rattle.spur_turns.proofs.NumberFacts.{each_set, unless}

module _ {T P : Type 0} where
  -- the bus: its word, and its value at home
  pub record BusHeld (words : List ℕ) (homes : Homes T P) (held : List (Slot T P)) (cur : ℕ → Slot T P) : Type 0 where
    pub free : get_or words 0 0 ≡ 0 → (length held ≡ 0) × (get_elem? homes 0 ≡ some (some (cur 0)))
    pub taken : get_or words 0 0 ≢ 0 → (get_or words 0 0 ≡ 1) × (0 < length held)

  -- place i: its word, and its value at home
  pub record PlaceHeld (words : List ℕ) (homes : Homes T P) (held : List (Slot T P)) (cur : ℕ → Slot T P) (i : ℕ) : Type 0 where
    pub under : get_or words (i + 2) 0 < 3
    pub home : get_or words (i + 2) 0 ≡ 0 → get_elem? homes (i + 1) ≡ some (some (cur (i + 1)))
    pub two : get_or words (i + 2) 0 ≡ 2 → i + 1 < length held
    pub held_two : i + 1 < length held → get_or words (i + 2) 0 ≡ 2

module _ {T P N : Type 0} where
  -- what a seat that holds its own place tells
  pub record OwnHeld (m : ℕ) (words : List ℕ) (cur : ℕ → Slot T P) (v : View T P N) (p : P) : Type 0 where
    pub low : v.number < m
    pub word : get_or words (v.number + 2) 0 ≡ 1
    pub value : cur (v.number + 1) ≡ Some (Place p)
    pub stock : v.stock ≡ []

  -- who holds what
  pub record Holds (m : ℕ) (words : List ℕ) (homes : Homes T P) (views : List (View T P N)) (stands : ℕ → ℕ) (holder : ℕ) (held : List (Slot T P)) (cur : ℕ → Slot T P) : Type 0 where
    pub wide : length words ≡ m + 2
    pub deep : length homes ≡ m + 1
    pub room : length held < m + 2
    pub stocked : (j : ℕ) (v : View T P N) → get_elem? views j ≡ some v → 0 < length v.stock → (j ≡ holder) × (v.stock ≡ held)
    pub keeper : 0 < length held → (v : View T P N) × (get_elem? views holder ≡ some v) × (v.stock ≡ held)
    pub values : (k : ℕ) (y : Slot T P) → held_at held k ≡ Some y → cur k ≡ y
    pub bus : BusHeld words homes held cur
    pub each : (i : ℕ) → i < m → PlaceHeld words homes held cur i
    pub owned : (j : ℕ) (v : View T P N) (p : P) → get_elem? views j ≡ some v → v.own ≡ Some p → OwnHeld m words cur v p
    pub owner : (i : ℕ) → i < m → get_or words (i + 2) 0 ≡ 1 → (v : View T P N) × (p : P) × (get_elem? views (stands i) ≡ some v) × (v.own ≡ Some p) × (v.number ≡ i)

  module _ (m : ℕ) (words : List ℕ) (homes : Homes T P) (views : List (View T P N)) (stands : ℕ → ℕ) (holder : ℕ) (held : List (Slot T P)) (cur : ℕ → Slot T P) where
    -- the parts of the rule together
    pub holds_of : AreSized m words homes held → BusWord words views holder held → PlaceWords m words views stands held → AreCurrent m words homes views held cur → Holds m words homes views stands holder held cur
    holds_of sized bus places current = record {
      wide = sized.words_are;
      deep = sized.slots_are;
      room = sized.held_are;
      stocked = bus.one_holder;
      keeper = bus.holder_holds;
      values = current.of_holder;
      bus = record { free = λ z. (bus.free z, current.bus_home z); taken = bus.taken };
      each = λ i low. let o = places.each i low in record { under = o.under; home = current.place_home i low; two = o.for_bus; held_two = o.of_bus };
      owned = λ j v p at own. let o = places.of_own j v p at own in record { low = o.0; word = o.1; value = current.of_own j v p at own; stock = o.2 };
      owner = places.for_own;
    }

    -- and apart again
    pub sized_of : Holds m words homes views stands holder held cur → AreSized m words homes held
    sized_of h = record { words_are = h.wide; slots_are = h.deep; held_are = h.room }

    pub bus_word_of : Holds m words homes views stands holder held cur → BusWord words views holder held
    bus_word_of h = record { free = λ z. (h.bus.free z).0; taken = h.bus.taken; one_holder = h.stocked; holder_holds = h.keeper }

    pub place_words_of : Holds m words homes views stands holder held cur → PlaceWords m words views stands held
    place_words_of h = record {
      each = λ i low. let o = h.each i low in record { under = o.under; for_bus = o.two; of_bus = o.held_two };
      of_own = λ j v p at own. let o = h.owned j v p at own in (o.low, o.word, o.stock);
      for_own = h.owner;
    }

    pub current_of : Holds m words homes views stands holder held cur → AreCurrent m words homes views held cur
    current_of h = record {
      bus_home = λ z. (h.bus.free z).1;
      place_home = λ i low. (h.each i low).home;
      of_holder = h.values;
      of_own = λ j v p at own. (h.owned j v p at own).value;
    }

  -- only the seat number i, its word and its slot change, and it holds nothing of the bus
  pub own_holds : (m : ℕ) (ws ws' : List ℕ) (hs hs' : Homes T P) (vs : List (View T P N)) (stands : ℕ → ℕ) (holder : ℕ) (held : List (Slot T P)) (cur cur' : ℕ → Slot T P) (id i : ℕ) (v w : View T P N)
      → Holds m ws hs vs stands holder held cur → get_elem? vs id ≡ some v → v.stock ≡ [] → w.stock ≡ [] → v.number ≡ i → w.number ≡ i → stands i ≡ id → i < m
      → length ws' ≡ m + 2 → length hs' ≡ m + 1
      → ((q : ℕ) → q ≢ i + 2 → get_or ws' q 0 ≡ get_or ws q 0)
      → ((q : ℕ) → q ≢ i + 1 → get_elem? hs' q ≡ get_elem? hs q)
      → ((q : ℕ) → q ≢ i + 1 → cur' q ≡ cur q)
      → (i + 1 < length held → cur' (i + 1) ≡ cur (i + 1))
      → PlaceHeld ws' hs' held cur' i
      → ((p : P) → w.own ≡ Some p → OwnHeld m ws' cur' w p)
      → (get_or ws' (i + 2) 0 ≡ 1 → (p : P) × (w.own ≡ Some p))
      → ((j : ℕ) (u : View T P N) (p : P) → j ≢ id → get_elem? vs j ≡ some u → u.own ≡ Some p → u.number ≢ i)
      → Holds m ws' hs' (set vs id w) stands holder held cur'
  own_holds m ws ws' hs hs' vs stands holder held cur cur' id i v w h at bare bare' number number' at_id inside wide deep words homes same stay here mine own_there others =
      let low : id < length vs = there_length vs id v at in
      let none_held : length v.stock ≡ 0 = ap (λ (l : List (Slot T P)). length l) bare in
      let none_held' : length w.stock ≡ 0 = ap (λ (l : List (Slot T P)). length l) bare' in
      let w0 : get_or ws' 0 0 ≡ get_or ws 0 0 = words 0 (λ q. omega arith) in record {
        wide = wide;
        deep = deep;
        room = h.room;
        stocked = each_set (λ j u. 0 < length u.stock → (j ≡ holder) × (u.stock ≡ held)) vs id w (λ l. absurd (omega (arith, l, none_held'))) (λ j u _ e. h.stocked j u e);
        keeper = λ l. let t = h.keeper l in (t.0, unless vs id v w t.0 holder at t.1 (λ q. let e : length held ≡ 0 = ap (λ (y : List (Slot T P)). length y) (sym t.2 ∙ (ap (λ (u : View T P N). u.stock) q ∙ bare)) in omega (arith, l, e)), t.2);
        values = λ k y e. dite (ℕ_discrete k (i + 1))
            (λ q. let l = held_within held k y e in (ap cur' q ∙ (stay (omega (arith, l, q)) ∙ ap cur (sym q))) ∙ h.values k y e)
            (λ ne. same k ne ∙ h.values k y e);
        bus = record {
          free = λ z. let t = h.bus.free (sym w0 ∙ z) in (t.0, homes 0 (λ q. omega arith) ∙ (t.1 ∙ ap (λ (y : Slot T P). some (some y)) (sym (same 0 (λ q. omega arith)))));
          taken = λ ne. let t = h.bus.taken (λ z. ne (w0 ∙ z)) in (w0 ∙ t.0, t.1);
        };
        each = λ j within. dite (ℕ_discrete j i) (λ q. subst (PlaceHeld ws' hs' held cur') (sym q) here) (λ ne.
            let o = h.each j within in
            let word : get_or ws' (j + 2) 0 ≡ get_or ws (j + 2) 0 = words (j + 2) (λ q. ne (omega arith)) in record {
              under = subst (λ (n : ℕ). n < 3) (sym word) o.under;
              home = λ z. homes (j + 1) (λ q. ne (omega arith)) ∙ (o.home (sym word ∙ z) ∙ ap (λ (y : Slot T P). some (some y)) (sym (same (j + 1) (λ q. ne (omega arith)))));
              two = λ z. o.two (sym word ∙ z);
              held_two = λ l. word ∙ o.held_two l;
            });
        owned = λ j u p e. each_set (λ j u. u.own ≡ Some p → OwnHeld m ws' cur' u p) vs id w (mine p)
            (λ j u ne e q. let o = h.owned j u p e q in let far : u.number ≢ i = others j u p ne e q in record {
              low = o.low;
              word = words (u.number + 2) (λ l. far (omega arith)) ∙ o.word;
              value = same (u.number + 1) (λ l. far (omega arith)) ∙ o.value;
              stock = o.stock;
            }) j u e;
        owner = λ j within z. dite (ℕ_discrete j i)
            (λ q. let t = own_there (ap (λ (n : ℕ). get_or ws' (n + 2) 0) (sym q) ∙ z) in
            (w, t.0, subst (λ (n : ℕ). get_elem? (set vs id w) n ≡ some w) (sym (ap stands q ∙ at_id)) (set_here vs id w low), t.1, number' ∙ sym q))
            (λ ne. let word : get_or ws' (j + 2) 0 ≡ get_or ws (j + 2) 0 = words (j + 2) (λ q. ne (omega arith)) in let t = h.owner j within (sym word ∙ z) in
            (t.0, t.1, unless vs id v w t.0 (stands j) at t.2 (λ l. ne (sym t.4 ∙ (ap (λ (u : View T P N). u.number) l ∙ number))), t.3, t.4));
      }

  -- the seat id is the one that holds the bus, or takes it
  pub bus_holds : (m : ℕ) (ws ws' : List ℕ) (hs hs' : Homes T P) (vs : List (View T P N)) (stands : ℕ → ℕ) (holder : ℕ) (held : List (Slot T P)) (cur cur' : ℕ → Slot T P) (id : ℕ) (v w : View T P N)
      → Holds m ws hs vs stands holder held cur → get_elem? vs id ≡ some v → v.own ≡ None → w.own ≡ None
      → ((j : ℕ) (u : View T P N) → j ≢ id → get_elem? vs j ≡ some u → 0 < length u.stock → ⊥)
      → length ws' ≡ m + 2 → length hs' ≡ m + 1 → length w.stock < m + 2
      → ((k : ℕ) (y : Slot T P) → held_at w.stock k ≡ Some y → cur' k ≡ y)
      → BusHeld ws' hs' w.stock cur'
      → ((i : ℕ) → i < m → PlaceHeld ws' hs' w.stock cur' i)
      → ((i : ℕ) → i < m → get_or ws (i + 2) 0 ≡ 1 → (get_or ws' (i + 2) 0 ≡ 1) × (cur' (i + 1) ≡ cur (i + 1)))
      → ((i : ℕ) → i < m → get_or ws' (i + 2) 0 ≡ 1 → get_or ws (i + 2) 0 ≡ 1)
      → Holds m ws' hs' (set vs id w) stands id w.stock cur'
  bus_holds m ws ws' hs hs' vs stands holder held cur cur' id v w h at unowned unowned' others wide deep room values bus each back forth =
      let low : id < length vs = there_length vs id v at in record {
        wide = wide;
        deep = deep;
        room = room;
        stocked = each_set (λ j u. 0 < length u.stock → (j ≡ id) × (u.stock ≡ w.stock)) vs id w (λ _. (refl, refl)) (λ j u ne e l. absurd (others j u ne e l));
        keeper = λ _. (w, set_here vs id w low, refl);
        values = values;
        bus = bus;
        each = each;
        owned = λ j u p e. each_set (λ j u. u.own ≡ Some p → OwnHeld m ws' cur' u p) vs id w (λ q. absurd (none_some (sym unowned' ∙ q)))
            (λ j u ne e q. let o = h.owned j u p e q in let t = back u.number o.low o.word in record { low = o.low; word = t.0; value = t.1 ∙ o.value; stock = o.stock }) j u e;
        owner = λ i within z. let t = h.owner i within (forth i within z) in (t.0, t.1, unless vs id v w t.0 (stands i) at t.2 (λ q. none_some (sym unowned ∙ (ap (λ (u : View T P N). u.own) (sym q) ∙ t.3))), t.3, t.4);
      }

  -- who holds, holds as before, and nobody else
  pub same_holds : (m : ℕ) (ws : List ℕ) (hs : Homes T P) (vs vs' : List (View T P N)) (stands stands_after : ℕ → ℕ) (holder : ℕ) (held : List (Slot T P)) (cur : ℕ → Slot T P)
      → Holds m ws hs vs stands holder held cur
      → ((j : ℕ) (u : View T P N) → get_elem? vs' j ≡ some u → 0 < length u.stock → get_elem? vs j ≡ some u)
      → ((j : ℕ) (u : View T P N) → get_elem? vs j ≡ some u → 0 < length u.stock → get_elem? vs' j ≡ some u)
      → ((j : ℕ) (u : View T P N) (p : P) → get_elem? vs' j ≡ some u → u.own ≡ Some p → get_elem? vs j ≡ some u)
      → ((i : ℕ) (u : View T P N) (p : P) → get_elem? vs (stands i) ≡ some u → u.own ≡ Some p → u.number ≡ i → get_elem? vs' (stands_after i) ≡ some u)
      → Holds m ws hs vs' stands_after holder held cur
  same_holds m ws hs vs vs' stands stands_after holder held cur h back forth own_back own_forth = record {
    wide = h.wide;
    deep = h.deep;
    room = h.room;
    stocked = λ j u e l. h.stocked j u (back j u e l) l;
    keeper = λ l. let t = h.keeper l in (t.0, forth holder t.0 t.1 (subst (λ (y : List (Slot T P)). 0 < length y) (sym t.2) l), t.2);
    values = h.values;
    bus = h.bus;
    each = h.each;
    owned = λ j u p e q. h.owned j u p (own_back j u p e q) q;
    owner = λ i within z. let t = h.owner i within z in (t.0, t.1, own_forth i t.0 t.1 t.2 t.3 t.4, t.3, t.4);
  }
