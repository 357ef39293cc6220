-- From what a step tells to what a function ensures.
use Rattle.std.proofs.Common.{◌≡◌, ℕ, suc, ◌+◌, ◌-◌, ◌%◌, ◌<◌, ◌≤◌, true, List, [], ◌∷◌, ◌++◌, length, sym, refl, ap, ◌∙◌, subst, arith, Option, Some, None, append_assoc, vec_capacity}
use Rattle.std.specs.declared.alloc.Global.{Global}
use Rattle.std.specs.declared.vec.Vec.{Vec}
use Rattle.atomic_table.specs.Table.{Step, Allows, rest}
use Rattle.spur_turns.specs.declared.table.View.{View}
use Rattle.spur_turns.specs.declared.table.Item.TheVariants.{Bus, Place}
use Rattle.spur_turns.specs.declared.table.Stowed.{Stowed}
use Rattle.spur_turns.specs.Views.{Slot, held_at, numbered, under_top, stock_of, first_view}
use Rattle.spur_turns.specs.Rule.{IsKept}
use Rattle.spur_turns.specs.Room.{IsGoodWithRoom, name_with_room}
use Rattle.spur_turns.specs.Kinds.{Seated, TriedBus, TriedPlace, Committed, GaveBack, Opened, name_in, values_in}
use Rattle.spur_turns.specs.Hands.{CanCommit, HasTaken, HoldsFirst, IsFilling, IsFree, IsReady, SameButStock, TookBus, TookPlace, emptied}
use Rattle.spur_turns.proofs.StockFacts.{held_bus, stacked_snoc, stock_long, values_numbered}
use Rattle.spur_turns.proofs.CommitFacts.{commits}
use Rattle.spur_turns.proofs.BackFacts.{gives_bus, gives_place}

module _ {A : Type 0} where
  abbrev value_or : A → List (ℕ × A) → A
  value_or d [] = d
  value_or d (x ∷ xs) = x.1

  -- the value in hand is one
  pub same_hand : (cs : List (ℕ × A)) (i j : ℕ) (x y : A) (ds es : List (ℕ × A)) → cs ≡ (i, x) ∷ ds → cs ≡ (j, y) ∷ es → x ≡ y
  same_hand cs i j x y ds es p q = ap (value_or x) (sym p ∙ q)

  pub parted : (l : List A) → 0 < length l → (y : A) × (ys : List A) × (l ≡ y ∷ ys)
  parted [] h = absurd (omega arith)
  parted (y ∷ ys) h = (y, ys, refl)

  pub emptied_next : (n k : ℕ) → n ≡ k + 1 → ◌≡◌ {A = List (ℕ × Option A)} (emptied n) ((k, None) ∷ emptied k)
  emptied_next n k q = let up : n ≡ suc k = omega arith in ap emptied up

  -- the value that was put in front goes behind
  pub turns_next : (hand filled : List (ℕ × Option A)) (n k : ℕ) (v : Option A) → hand ≡ emptied n ++ filled → n ≡ k + 1 → rest hand ++ (k, v) ∷ [] ≡ emptied k ++ (filled ++ (k, v) ∷ [])
  turns_next hand filled n k v is q = ap (λ (l : List (ℕ × Option A)). rest l ++ (k, v) ∷ []) (is ∙ ap (λ (l : List (ℕ × Option A)). l ++ filled) (emptied_next n k q)) ∙ append_assoc (emptied k) filled ((k, v) ∷ [])

module _ {T P N : Type 0} where
  abbrev pub same_trans : (u v w : View T P N) → SameButStock u v → SameButStock v w → SameButStock u w
  same_trans u v w p q = q ∙ ap (λ (z : View T P N). record z { stock = w.stock }) p

  pub same_from : (v w : View T P N) (ys : List (Slot T P)) → w ≡ record v { stock = ys } → SameButStock v w
  same_from v w ys e = e ∙ ap (λ (z : List (Slot T P)). record v { stock = z }) (sym (ap (λ (u : View T P N). u.stock) e))

  pub took_empty_bus : (good : T → List P → Type 0) (st : Step (Slot T P)) (found : ℕ) (me me' : Seated T P N) → me ≡ (first_view, []) → TriedBus good st me found me' → HoldsFirst 1 me' × SameButStock first_view me'.0
  took_empty_bus good st found me me' is took =
      let unnamed : me.0.name ≡ None = ap (λ (m : Seated T P N). m.0.name) is in
      let hit = took.hit (took.alone unnamed) in
      let y = hit.0 in let empty = hit.2 unnamed in
      let view : me'.0 ≡ record first_view { stock = y ∷ [] } = hit.1.view ∙ ap (λ (m : Seated T P N). record m.0 { stock = y ∷ m.0.stock }) is in (
        record {
          live = ap (λ (v : View T P N). v.live) view;
          tall = ap (λ (v : View T P N). length v.stock) view;
          own = ap (λ (v : View T P N). v.own) view;
          hand = hit.1.hand ∙ (ap (λ (m : Seated T P N). (length m.0.stock, y) ∷ m.1) is ∙ (ap (λ (z : Slot T P). (0, z) ∷ []) empty ∙ sym (emptied_next 1 0 refl)));
        },
        same_from first_view me'.0 (y ∷ []) view,
      )

  pub ready_next : (st : Step (Slot T P)) (found j : ℕ) (me me' : Seated T P N) → IsReady (j + 1) me → GaveBack st me found me' → IsReady j me' × SameButStock me.0 me'.0
  ready_next st found j me me' is did =
      let tall = is.tall in
      let t = parted me.0.stock (omega (arith, tall)) in
      let long : length me.0.stock ≡ suc (length t.1) = ap (λ (l : List (Slot T P)). length l) t.2 in
      let view = did.view in
      let left : me'.0.stock ≡ t.1 = ap (λ (v : View T P N). v.stock) view ∙ ap under_top t.2 in (
        record {
          live = ap (λ (v : View T P N). v.live) view ∙ is.live;
          tall = ap (λ (l : List (Slot T P)). length l) left ∙ omega (arith, tall, long);
          own = ap (λ (v : View T P N). v.own) view ∙ is.own;
          hand = did.hand ∙ (ap rest is.hand ∙ (ap (λ (l : List (Slot T P)). rest (numbered l)) t.2 ∙ ap numbered (sym left)));
        },
        same_from me.0 me'.0 (under_top me.0.stock) view,
      )

  -- who has in hand what it is known to hold gives back the place taken last
  pub gives_ready : (good : T → List P → Type 0) (name : T → N) (k id left : ℕ) (me : Seated T P N) (st : Step (Slot T P)) → 0 < left → IsReady (left + 1) me → Allows (IsKept good name) k id me (left + 1) (λ _. 0) (λ _. GaveBack st me 0)
  gives_ready good name k id left me st some_left is =
      let tall = is.tall in
      let j : ℕ = left - 1 in
      let up : j + 2 ≡ left + 1 = omega arith in
      let t = parted me.0.stock (omega (arith, tall)) in
      let long : length me.0.stock ≡ suc (length t.1) = ap (λ (l : List (Slot T P)). length l) t.2 in
      let ys_tall : length t.1 ≡ j + 1 = omega (arith, tall, long, some_left) in
      let hand : me.1 ≡ (j + 1, t.0) ∷ numbered t.1 = is.hand ∙ (ap numbered t.2 ∙ ap (λ (n : ℕ). (n, t.0) ∷ numbered t.1) ys_tall) in
      subst (λ (n : ℕ). Allows (IsKept good name) k id me n (λ _. 0) (λ _. GaveBack st me 0)) up (gives_place good name k id j me t.0 t.1 (numbered t.1) st is.live is.own t.2 ys_tall hand)

  pub gives_last : (good : T → List P → Type 0) (name : T → N) (k id : ℕ) (me : Seated T P N) (st : Step (Slot T P)) → IsReady 1 me → Allows (IsKept good name) k id me 0 (λ _. 0) (λ _. GaveBack st me 0)
  gives_last good name k id me st is =
      let tall = is.tall in
      let t = parted me.0.stock (omega (arith, tall)) in
      let long : length me.0.stock ≡ suc (length t.1) = ap (λ (l : List (Slot T P)). length l) t.2 in
      let ys_tall : length t.1 ≡ 0 = omega (arith, tall, long) in
      gives_bus good name k id me t.0 t.1 (numbered t.1) st is.live is.own t.2 ys_tall (is.hand ∙ (ap numbered t.2 ∙ ap (λ (n : ℕ). (n, t.0) ∷ numbered t.1) ys_tall))

  pub stock_gone : (v w : View T P N) → SameButStock v w → length w.stock ≡ 0 → w ≡ record v { stock = [] }
  stock_gone v w e none = e ∙ ap (λ (z : List (Slot T P)). record v { stock = z }) (empty w.stock none)
    where
      empty : (l : List (Slot T P)) → length l ≡ 0 → l ≡ []
      empty [] q = refl
      empty (x ∷ xs) q = absurd (omega arith)

  pub nothing_left : (me : Seated T P N) → IsReady 0 me → me.1 ≡ []
  nothing_left me is = is.hand ∙ none me.0.stock is.tall
    where
      none : (l : List (Slot T P)) → length l ≡ 0 → numbered l ≡ []
      none [] q = refl
      none (x ∷ xs) q = absurd (omega arith)

module _ {T P N : Type 0} where
  -- all that was held went back
  pub all_given : (st : Step (Slot T P)) (found : ℕ) (v : View T P N) (me me' : Seated T P N) → SameButStock v me.0 → IsReady 1 me → GaveBack st me found me' → me' ≡ (record v { stock = [] }, [])
  all_given st found v me me' same is did =
      let next = ready_next st found 0 me me' is did in
      let gone = stock_gone v me'.0 (same_trans v me.0 me'.0 same next.1) next.0.tall in
      let none = nothing_left me' next.0 in
      λ i. (gone i, none i)

module _ {T P : Type 0} where
  pub fills_first : (ps : List P) (hand : List (ℕ × Slot T P)) → hand ≡ emptied (length ps + 1) → IsFilling {T = T} ps hand ps
  fills_first ps hand is = record { filled = []; hand_is = is ∙ sym (nil (emptied (length ps + 1))); whole = λ t. refl }
    where
      nil : (l : List (ℕ × Slot T P)) → l ++ [] ≡ l
      nil [] = refl
      nil (x ∷ xs) = λ i. x ∷ nil xs i

  -- the last of the values that wait comes in
  pub fills_next : (ps qs : List P) (p : P) (hand hand' : List (ℕ × Slot T P)) → IsFilling {T = T} ps hand (qs ++ p ∷ []) → hand' ≡ rest hand ++ (length qs + 1, Some (Place p)) ∷ [] → IsFilling {T = T} ps hand' qs
  fills_next ps qs p hand hand' f is =
      let k : ℕ = length qs + 1 in
      let long : length (qs ++ p ∷ []) ≡ length qs + 1 = snoc_long qs in record {
        filled = f.filled ++ (k, Some (Place p)) ∷ [];
        hand_is = is ∙ turns_next hand f.filled (length (qs ++ p ∷ []) + 1) k (Some (Place p)) f.hand_is (omega (arith, long));
        whole = λ t. f.whole t ∙ (ap (λ (l : List (Slot T P)). f.filled ++ numbered l) (stacked_snoc qs p (Some (Bus t) ∷ []))
            ∙ (ap (λ (n : ℕ). f.filled ++ ((n, Some (Place p)) ∷ numbered (stock_of t qs))) (stock_long t qs) ∙ sym (append_assoc f.filled ((k, Some (Place p)) ∷ []) (numbered (stock_of t qs)))));
      }
    where
      snoc_long : (l : List P) → length (l ++ p ∷ []) ≡ length l + 1
      snoc_long [] = refl
      snoc_long (x ∷ xs) = let e : length (xs ++ p ∷ []) ≡ length xs + 1 = snoc_long xs in omega arith

  -- the bus comes in last
  pub fills_last : (ps qs : List P) (t : T) (hand hand' : List (ℕ × Slot T P)) → IsFilling {T = T} ps hand qs → qs ≡ [] → hand' ≡ rest hand ++ (0, Some (Bus t)) ∷ [] → hand' ≡ numbered (stock_of t ps)
  fills_last ps qs t hand hand' f none is =
      let zero_long : length qs ≡ 0 = ap (λ (l : List P). length l) none in
      is ∙ (turns_next hand f.filled (length qs + 1) 0 (Some (Bus t)) f.hand_is (omega (arith, zero_long)) ∙ sym (f.whole t ∙ ap (λ (l : List P). f.filled ++ numbered (stock_of t l)) none))

module _ {T P : Type 0} where
  pub numbered_values : (ys : List (Slot T P)) (l : List (ℕ × Slot T P)) → l ≡ numbered ys → values_in l ≡ ys
  numbered_values ys l e = ap values_in e ∙ values_numbered ys

module _ {T P N : Type 0} where
  pub ready_committed : (st : Step (Slot T P)) (found k : ℕ) (t : T) (ps : List P) (me me' : Seated T P N) → Committed st me found me' → me.0.live ≡ true → me.0.own ≡ None → me.1 ≡ numbered (stock_of t ps) → length ps ≡ k → IsReady (k + 1) me'
  ready_committed st found k t ps me me' did live own hand long =
      let view = did.view in
      let stock : me'.0.stock ≡ stock_of t ps = ap (λ (v : View T P N). v.stock) view ∙ numbered_values (stock_of t ps) me.1 hand in record {
        live = ap (λ (v : View T P N). v.live) view ∙ live;
        tall = ap (λ (l : List (Slot T P)). length l) stock ∙ (stock_long t ps ∙ ap (λ (n : ℕ). n + 1) long);
        own = ap (λ (v : View T P N). v.own) view ∙ own;
        hand = did.hand ∙ (hand ∙ ap numbered (sym stock));
      }

  pub ready_opened : (name : T → N) (st : Step (Slot T P)) (found k : ℕ) (t : T) (ps : List P) (me me' : Seated T P N) → Opened name st me found me' → me.0.live ≡ true → me.0.own ≡ None → me.1 ≡ numbered (stock_of t ps) → length ps ≡ k → IsReady (k + 1) me'
  ready_opened name st found k t ps me me' did live own hand long =
      let view = did.view in
      let stock : me'.0.stock ≡ stock_of t ps = ap (λ (v : View T P N). v.stock) view ∙ numbered_values (stock_of t ps) me.1 hand in record {
        live = ap (λ (v : View T P N). v.live) view ∙ live;
        tall = ap (λ (l : List (Slot T P)). length l) stock ∙ (stock_long t ps ∙ ap (λ (n : ℕ). n + 1) long);
        own = ap (λ (v : View T P N). v.own) view ∙ own;
        hand = did.hand ∙ (hand ∙ ap numbered (sym stock));
      }

  -- the first seat, when all is home
  pub opened_view : (name : T → N) (st : Step (Slot T P)) (found : ℕ) (t : T) (ps : List P) (me me' : Seated T P N) → Opened name st me found me' → SameButStock first_view me.0 → me.1 ≡ numbered (stock_of t ps)
      → ◌≡◌ {A = View T P N} (record me'.0 { stock = [] }) (record first_view { opened = true; name = Some (name t) })
  opened_view name st found t ps me me' did same hand =
      let named : name_in name (held_at (values_in me.1) 0) ≡ Some (name t) = ap (λ (l : List (Slot T P)). name_in name (held_at l 0)) (numbered_values (stock_of t ps) me.1 hand) ∙ ap (name_in name) (held_bus t ps) in
      ap (λ (v : View T P N). record v { stock = [] }) did.view ∙ (ap (λ (v : View T P N). record v { opened = true; name = name_in name (held_at (values_in me.1) 0); stock = [] }) same
      ∙ ap (λ (x : Option N). record first_view { opened = true; name = x }) named)

module _ {T P N : Type 0} where
  pub opened_me : (name : T → N) (st : Step (Slot T P)) (found : ℕ) (t : T) (ps : List P) (me me' : Seated T P N) → Opened name st me found me' → SameButStock first_view me.0 → me.1 ≡ numbered (stock_of t ps)
      → ◌≡◌ {A = Seated T P N} (record me'.0 { stock = [] }, []) (record first_view { opened = true; name = Some (name t) }, [])
  opened_me name st found t ps me me' did same hand = let e = opened_view name st found t ps me me' did same hand in λ i. (e i, [])

module _ {B P N : Type 0} (good : B → List P → Type 0) (name : B → N) where
  pub took_from : (slots next : ℕ) (st : Step (Slot (Stowed B P) P)) (found : ℕ) (me me1 me2 : Seated (Stowed B P) P N) (res : Slot (Stowed B P) P) (p : P)
      → TriedPlace (IsGoodWithRoom good) (name_with_room name) st me found me1 → found ≡ 0 → st.slots ≡ slots → length me.0.stock ≡ next + 1
      → me1.1 ≡ (next + 1, res) ∷ rest me1.1 → me2 ≡ (me1.0, (next + 1, None) ∷ rest me1.1) → res ≡ Some (Place p) → TookPlace good name slots next p me me2
  took_from slots next st found me me1 me2 res p took free counted tall in_hand after is =
      let hit = took.hit free in
      let y = hit.0 in
      let view = hit.1.view in
      let hand_is = hit.1.hand in
      let same : y ≡ Some (Place p) = same_hand me1.1 (length me.0.stock) (next + 1) y res me.1 (rest me1.1) hand_is in_hand ∙ is in record {
        view = ap (λ (m : Seated (Stowed B P) P N). m.0) after ∙ (view ∙ ap (λ (z : Slot (Stowed B P) P). record me.0 { stock = z ∷ me.0.stock }) same);
        hand = ap (λ (m : Seated (Stowed B P) P N). m.1) after ∙ ap (λ (l : List (ℕ × Slot (Stowed B P) P)). (next + 1, None) ∷ rest l) hand_is;
        whole = λ all x named t ps e.
            let w = took.whole free x named (omega (arith, all, counted, tall)) t ps (sym (ap (λ (m : Seated (Stowed B P) P N). m.0.stock) after) ∙ e) in (w.0.is_good, w.1);
      }

  pub got_bus : (slots count : ℕ) (t : Stowed B P) (me me' : Seated (Stowed B P) P N) → TookBus slots t me me' → count + 1 ≡ slots → 0 < count → HasTaken good name slots 0 t.bus t.room me me'
  got_bus slots count t me me' took counted some_places =
      let roomy = took.room count counted in
      let wide = roomy.wide in record {
        room = t.room;
        view = took.view ∙ ap (λ (ps : List P). record me.0 { stock = stock_of t ps }) (sym roomy.empty);
        hand = took.hand;
        many = ap (λ (ps : List P). length ps) roomy.empty;
        wide = omega (arith, wide, counted);
        whole = λ all. absurd (omega (arith, all, counted, some_places));
      }

  pub got_has : (slots i : ℕ) (bus : B) (places : Vec P Global) (me me' : Seated (Stowed B P) P N) → IsFree me → HasTaken good name slots i bus places me me' → HoldsFirst (i + 1) me'
  got_has slots i bus places me me' free got = record {
    live = ap (λ (v : View (Stowed B P) P N). v.live) got.view ∙ free.live;
    tall = ap (λ (v : View (Stowed B P) P N). length v.stock) got.view ∙ (stock_long (record { bus = bus; room = got.room }) places.items ∙ ap (λ (n : ℕ). n + 1) got.many);
    own = ap (λ (v : View (Stowed B P) P N). v.own) got.view ∙ free.own;
    hand = got.hand;
  }

  pub got_next : (slots i : ℕ) (bus : B) (places places' : Vec P Global) (p : P) (me me1 me2 : Seated (Stowed B P) P N) → HasTaken good name slots i bus places me me1 → TookPlace good name slots i p me1 me2
      → places'.items ≡ places.items ++ p ∷ [] → vec_capacity places ≤ vec_capacity places' → HasTaken good name slots (i + 1) bus places' me me2
  got_next slots i bus places places' p me me1 me2 got took items grows =
      let t : Stowed B P = record { bus = bus; room = got.room } in
      let view : me2.0 ≡ record me.0 { stock = stock_of t places'.items } = took.view ∙ (ap (λ (v : View (Stowed B P) P N). record v { stock = Some (Place p) ∷ v.stock }) got.view
      ∙ ap (λ (l : List (Slot (Stowed B P) P)). record me.0 { stock = l }) (sym (stacked_snoc places.items p (Some (Bus t) ∷ [])) ∙ ap (stock_of t) (sym items))) in
      let wide = got.wide in let many = got.many in record {
        room = got.room;
        view = view;
        hand = took.hand ∙ (ap (λ (l : List (ℕ × Slot (Stowed B P) P)). (i + 1, None) ∷ l) got.hand ∙ sym (emptied_next (i + 1 + 1) (i + 1) refl));
        many = ap (λ (l : List P). length l) items ∙ (snoc_long places.items ∙ ap (λ (n : ℕ). n + 1) many);
        wide = omega (arith, wide, grows);
        whole = λ all x named. let w = took.whole all x (ap (λ (v : View (Stowed B P) P N). v.name) got.view ∙ named) t places'.items (ap (λ (v : View (Stowed B P) P N). v.stock) view) in (w.0, w.1);
      }
    where
      snoc_long : (l : List P) → length (l ++ p ∷ []) ≡ length l + 1
      snoc_long [] = refl
      snoc_long (x ∷ xs) = let e : length (xs ++ p ∷ []) ≡ length xs + 1 = snoc_long xs in omega arith

  pub has_taken_all : (slots i count : ℕ) (bus : B) (places : Vec P Global) (me me' : Seated (Stowed B P) P N) → i ≡ count → count + 1 ≡ slots → HasTaken good name slots i bus places me me'
      → HasTaken good name (count + 1) count bus places me me'
  has_taken_all slots i count bus places me me' done all got = subst (λ (z : ℕ × ℕ). HasTaken good name z.0 z.1 bus places me me') (λ j. (sym all j, done j)) got

  pub commits_ready : (slots id : ℕ) (me : Seated (Stowed B P) P N) (st : Step (Slot (Stowed B P) P)) → CanCommit good name slots me
      → Allows (IsKept (IsGoodWithRoom good) (name_with_room name)) slots id me 1 (λ n. (n + 1) % 18446744073709551616) (Committed st me)
  commits_ready slots id me st c = commits (IsGoodWithRoom good) (name_with_room name) slots id me (record { bus = c.bus; room = c.filled.room }) c.places (name c.bus) st c.live c.own c.tall
      (numbered_values (stock_of (record { bus = c.bus; room = c.filled.room }) c.places) me.1 c.filled.hand_is) c.many (record { is_good = c.is_good; room = c.filled.roomy }) refl c.named

  pub committed_ready : (slots found : ℕ) (me me' : Seated (Stowed B P) P N) (st : Step (Slot (Stowed B P) P)) → CanCommit good name slots me → Committed st me found me' → IsReady slots me'
  committed_ready slots found me me' st c did =
      let t : Stowed B P = record { bus = c.bus; room = c.filled.room } in
      subst (λ (n : ℕ). IsReady n me') c.many (ready_committed st found (length c.places) t c.places me me' did c.live c.own c.filled.hand_is refl)
