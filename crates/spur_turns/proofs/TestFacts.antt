-- Seats of the tests, from one call to the next.
use Rattle.std.proofs.Common.{◌≡◌, ℕ, zero, suc, ◌+◌, ◌<◌, ◌++◌, ◌∷◌, [], List, length, get_or, sym, refl, ap, ◌∙◌, subst, Some, None, arith}
use Rattle.std.specs.Prelude.{slice_get}
use Rattle.std.specs.List.{All}
use Rattle.std.proofs.lemmas.Option.{slice_get-get_or, get_or_from_slice_get, slice_get_within}
use Rattle.spur_turns.specs.Shown.{SeatView, TurnsView}
use Rattle.spur_turns.specs.Seats.{AreAllIdle, IsIdle}
use Rattle.spur_turns.specs.Turned.{CanTurn, HasTurned}
use Rattle.spur_turns.proofs.ListFacts.{inner_some}

module _ {P N : Type 0} where
  pub turned_idle : (turns : TurnsView) (i : ℕ) (s t : SeatView P N) → IsIdle turns.table i s → HasTurned s t → IsIdle turns.table i t
  turned_idle turns i s t is turned = record { table_is = turned.table ∙ is.table_is; number_is = turned.number ∙ is.number_is; nothing = turned.holds ∙ is.nothing }

  pub turned_twice : (s t u : SeatView P N) → HasTurned s t → HasTurned t u → HasTurned s u
  turned_twice s t u a b = record { table = b.table ∙ a.table; number = b.number ∙ a.number; name = b.name ∙ a.name; holds = b.holds ∙ a.holds }

  pub all_can_turn : (turns : TurnsView) (olds : List (SeatView P N)) → AreAllIdle turns olds → All (CanTurn turns.table) olds
  all_can_turn turns olds is k d low = let i = is.each k (get_or olds k d) (slice_get-get_or olds k d low) in (i.table_is, i.nothing)

  pub all_have_turned : (turns : TurnsView) (olds news : List (SeatView P N)) → length news ≡ length olds → AreAllIdle turns olds
      → ((i : ℕ) (d : SeatView P N) → i < length olds → HasTurned (get_or olds i d) (get_or news i d)) → AreAllIdle turns news
  all_have_turned turns olds news same is turned = record {
    many = same ∙ is.many;
    each = λ i s e.
        let low : i < length olds = let l = slice_get_within news i s e in omega (arith, l, same) in
        let old = is.each i (get_or olds i s) (slice_get-get_or olds i s low) in
        turned_idle turns i (get_or olds i s) s old (subst (λ (z : SeatView P N). HasTurned (get_or olds i s) z) (get_or_from_slice_get news i s s e) (turned i s low));
  }

  -- two seats are taken out of a list, the second first
  pub two_seats : (turns : TurnsView) (all some rest : List (SeatView P N)) (a b : SeatView P N) → AreAllIdle turns all → all ≡ some ++ b ∷ [] → some ≡ rest ++ a ∷ [] → turns.places ≡ 2
      → IsIdle turns.table 0 a × IsIdle turns.table 1 b × (rest ≡ [])
  two_seats turns all some rest a b is last first two = parts rest (subst (λ (l : List (SeatView P N)). AreAllIdle turns l) (last ∙ ap (λ (l : List (SeatView P N)). l ++ b ∷ []) first) is)
    where
      long : (l : List (SeatView P N)) → length ((l ++ a ∷ []) ++ b ∷ []) ≡ length l + 2
      long [] = refl
      long (y ∷ ys) = let e : length ((ys ++ a ∷ []) ++ b ∷ []) ≡ length ys + 2 = long ys in omega arith

      parts : (l : List (SeatView P N)) → AreAllIdle turns ((l ++ a ∷ []) ++ b ∷ []) → IsIdle turns.table 0 a × IsIdle turns.table 1 b × (l ≡ [])
      parts [] each = (each.each 0 a refl, each.each 1 b refl, refl)
      parts (y ∷ ys) each = let many : length (((y ∷ ys) ++ a ∷ []) ++ b ∷ []) ≡ turns.places = each.many in let e = long (y ∷ ys) in absurd (omega (arith, many, e, two))

  -- and put back
  pub two_back : (turns : TurnsView) (all some rest : List (SeatView P N)) (a b : SeatView P N) → rest ≡ [] → turns.places ≡ 2 → IsIdle turns.table 0 a → IsIdle turns.table 1 b
      → some ≡ rest ++ a ∷ [] → all ≡ some ++ b ∷ [] → AreAllIdle turns all
  two_back turns all some rest a b none two p q first last =
      subst (λ (l : List (SeatView P N)). AreAllIdle turns l) (sym (last ∙ ap (λ (l : List (SeatView P N)). l ++ b ∷ []) (first ∙ ap (λ (l : List (SeatView P N)). l ++ a ∷ []) none))) record { many = sym two; each = each }
    where
      each : (i : ℕ) (s : SeatView P N) → slice_get (a ∷ b ∷ []) i ≡ Some s → IsIdle turns.table i s
      each zero s e = subst (λ (z : SeatView P N). IsIdle turns.table 0 z) (inner_some e) p
      each (suc zero) s e = subst (λ (z : SeatView P N). IsIdle turns.table 1 z) (inner_some e) q
      each (suc (suc i)) s e = absurd (none_there e)
        where
          none_there : None ≡ Some s → ⊥
          none_there e' = cc
