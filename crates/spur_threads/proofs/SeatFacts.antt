-- Seats of boards, from one turn to the next.
use Rattle.std.proofs.Common.{◌≡◌, ◌∙◌, ℕ, ◌<◌, List, [], ◌∷◌, ◌++◌, length, get_or, ap, refl, sym, subst, Some, arith}
use Rattle.std.specs.Prelude.{slice_get}
use Rattle.std.specs.List.{All}
use Rattle.std.proofs.lemmas.Option.{slice_get-get_or, get_or_from_slice_get, slice_get_within}
use lib.ListN.{drop, take}
use Rattle.spur_turns.specs.Shown.{SeatView, TurnsView}
use Rattle.spur_turns.specs.Seats.{AreAllIdle, AreNamed, IsIdle}
use Rattle.spur_threads.specs.Seats.{IsAgain, MayTurn}

module _ {P N : Type 0} where
  pub again_then : (s t u : SeatView P N) → IsAgain s t → IsAgain t u → IsAgain s u
  again_then s t u a b = record { table = b.table ∙ a.table; number = b.number ∙ a.number; name = b.name ∙ a.name; holds = b.holds ∙ a.holds }

  pub may_again : (turns : TurnsView) (s t : SeatView P N) → MayTurn turns s → IsAgain s t → MayTurn turns t
  may_again turns s t may a = record { table = a.table ∙ may.table; nothing = a.holds ∙ may.nothing; low = subst (λ (n : ℕ). n < turns.places) (sym a.number) may.low }

  again_idle : (turns : TurnsView) (i : ℕ) (s t : SeatView P N) → IsIdle turns.table i s → IsAgain s t → IsIdle turns.table i t
  again_idle turns i s t is a = record { table_is = a.table ∙ is.table_is; number_is = a.number ∙ is.number_is; nothing = a.holds ∙ is.nothing }

  pub all_may_turn : (turns : TurnsView) (olds : List (SeatView P N)) → AreAllIdle turns olds → All (MayTurn turns) olds
  all_may_turn turns olds is k d low =
      let i = is.each k (get_or olds k d) (slice_get-get_or olds k d low) in
      record { table = i.table_is; nothing = i.nothing; low = subst (λ (n : ℕ). n < turns.places) (sym i.number_is) (subst (λ (n : ℕ). k < n) is.many low) }

  -- each seat is as before, but for how often it met the bus
  abbrev pub AreAgain : List (SeatView P N) → List (SeatView P N) → Type 0
  AreAgain olds news = (i : ℕ) (d : SeatView P N) → i < length olds → IsAgain (get_or olds i d) (get_or news i d)

  seat_again : (olds news : List (SeatView P N)) (i : ℕ) (s : SeatView P N) → length news ≡ length olds → AreAgain olds news → slice_get news i ≡ Some s
      → (slice_get olds i ≡ Some (get_or olds i s)) × IsAgain (get_or olds i s) s
  seat_again olds news i s same again e =
      let within = slice_get_within news i s e in
      let low : i < length olds = omega (arith, within, same) in
      (slice_get-get_or olds i s low, subst (λ (z : SeatView P N). IsAgain (get_or olds i s) z) (get_or_from_slice_get news i s s e) (again i s low))

  pub all_idle_again : (turns : TurnsView) (olds news : List (SeatView P N)) → length news ≡ length olds → AreAllIdle turns olds → AreAgain olds news → AreAllIdle turns news
  all_idle_again turns olds news same is again = record {
    many = same ∙ is.many;
    each = λ i s e. let r = seat_again olds news i s same again e in again_idle turns i (get_or olds i s) s (is.each i (get_or olds i s) r.0) r.1;
  }

  pub all_named_again : (x : N) (olds news : List (SeatView P N)) → length news ≡ length olds → AreNamed x olds → AreAgain olds news → AreNamed x news
  all_named_again x olds news same named again = record {
    each = λ i s e. let r = seat_again olds news i s same again e in r.1.name ∙ named.each i (get_or olds i s) r.0;
  }

  -- seats of one name and of another, of which there is one at least, have the same
  pub one_name : (x y : N) (seats : List (SeatView P N)) → 0 < length seats → AreNamed x seats → AreNamed y seats → x ≡ y
  one_name x y [] some a b = absurd (omega arith)
  one_name x y (s ∷ rest) some a b = inner (sym (a.each 0 s refl) ∙ b.each 0 s refl)
    where
      inner : Some x ≡ Some y → x ≡ y
      inner e = cc

  -- ---- what a list lent is when it is back

  front : (xs ys : List (SeatView P N)) → take (length xs) (xs ++ ys) ≡ xs
  front [] ys = refl
  front (x ∷ xs) ys = ap (λ (l : List (SeatView P N)). x ∷ l) (front xs ys)

  written_back : (n : ℕ) (items news : List (SeatView P N)) → length news ≡ n → take n (news ++ drop (length news) items) ≡ news
  written_back n items news e = subst (λ (k : ℕ). take k (news ++ drop (length news) items) ≡ news) e (front news (drop (length news) items))

  pub lent_may_turn : (turns : TurnsView) (items olds : List (SeatView P N)) → olds ≡ items → AreAllIdle turns items → All (MayTurn turns) olds
  lent_may_turn turns items olds is idle = all_may_turn turns olds (subst (λ (l : List (SeatView P N)). AreAllIdle turns l) (sym is) idle)

  pub idle_back : (turns : TurnsView) (n : ℕ) (items olds news : List (SeatView P N)) → olds ≡ items → length olds ≡ n → length news ≡ length olds → AreAllIdle turns items → AreAgain olds news
      → AreAllIdle turns (take n (news ++ drop (length news) items))
  idle_back turns n items olds news is long same idle again =
      subst (λ (l : List (SeatView P N)). AreAllIdle turns l) (sym (written_back n items news (same ∙ long)))
      (all_idle_again turns olds news same (subst (λ (l : List (SeatView P N)). AreAllIdle turns l) (sym is) idle) again)

  pub named_back : (x : N) (n : ℕ) (items olds news : List (SeatView P N)) → olds ≡ items → length olds ≡ n → length news ≡ length olds → AreNamed x items → AreAgain olds news
      → AreNamed x (take n (news ++ drop (length news) items))
  named_back x n items olds news is long same named again =
      subst (λ (l : List (SeatView P N)). AreNamed x l) (sym (written_back n items news (same ∙ long)))
      (all_named_again x olds news same (subst (λ (l : List (SeatView P N)). AreNamed x l) (sym is) named) again)
