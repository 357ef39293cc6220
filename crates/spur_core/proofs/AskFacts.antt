-- A good world's board asks for its access.
use Rattle.std.proofs.Common.{◌≡◌, ◌∙◌, ℕ, zero, suc, ◌<◌, true, false, ap, sym, refl, subst, List, [], ◌∷◌, length, Option, Some, None, arith, inl, inr}
use Rattle.std.specs.Prelude.{is_some, slice_get}
use Rattle.std.proofs.lemmas.Option.{slice_get_within}
use Rattle.spur_addr.specs.Address.{global_of, table_start}
use Rattle.spur_flat.specs.declared.access.AccessKind.{AccessKind}
use Rattle.spur_flat.specs.History.{own_entries}
use Rattle.spur_cpu.specs.declared.cpu.Want.{Want}
use Rattle.spur_cpu.specs.declared.cpu.Want.TheVariants.{Access, Ended, Local}
use Rattle.spur_cpu.specs.Meaning.{Meaning, WantsAccess}
use Rattle.spur_cpu.proofs.Going.{going-on}
use Rattle.spur_pager.specs.declared.store.Store.{Store}
use Rattle.spur_swap.specs.Meaning.{Swap}
use Rattle.spur_board.specs.declared.board.Board.{Board}
use Rattle.spur_board.specs.declared.ending.Ending.{Ending}
use Rattle.spur_board.specs.Boards.{IsGoing, course_now, course_ending}
use Rattle.spur_core.specs.Boards.{whole}
use Rattle.spur_core.specs.Good.{IsGood}
use Rattle.spur_core.specs.Start.{Start}
use Rattle.spur_core.specs.Takes.{IsAsking}
use Rattle.spur_core.specs.Turn.{IsIdleAt}

pub record SomeAt {X : Type 0} (xs : List X) (i : ℕ) : Type 0 where
  pub x : X
  pub there : slice_get xs i ≡ Some x

pub some_at : {X : Type 0} (xs : List X) (i : ℕ) → i < length xs → SomeAt xs i
some_at [] i h = absurd (omega arith)
some_at (x ∷ xs) zero h = record { x = x; there = refl }
some_at (x ∷ xs) (suc i) h = let r = some_at xs i (omega arith) in record { x = r.x; there = r.there }

pub none_if : (o : Option Ending) → is_some o ≡ false → o ≡ None
none_if None h = refl
none_if (Some e) h = absurd cc

pub same_at : {X : Type 0} (xs : List X) (i : ℕ) (x y : X) → slice_get xs i ≡ Some x → slice_get xs i ≡ Some y → x ≡ y
same_at xs i x y a b = cc

module _ {C S : Type 0} (m : Meaning S) (state : C → S) (spare : C → ℕ) where
  pub asking_good : {B : Type 0} (meaning : B → Swap) (start : Start S) (store : Store B) (boards : List (Board C)) (b at value va : ℕ) (kind : AccessKind) (x y z : Board C) → IsGood m state spare meaning start store boards
      → slice_get boards b ≡ Some x → slice_get boards b ≡ Some y → slice_get boards b ≡ Some z → is_some x.ended ≡ false → m.wants (state y.cpu) ≡ Access kind va value → at ≡ global_of z.segs va → IsAsking m state spare boards b kind at value
  asking_good meaning start store boards b at value va kind x y z good at_x at_y at_z ended wants at_is = record {
    asks = λ u at_u.
        let is_x = same_at boards b x u at_x at_u in
        let is_y = same_at boards b y u at_y at_u in
        let is_z = same_at boards b z u at_z at_u in
        let it = good.programs.each b u at_u in
        let none : u.ended ≡ None = none_if u.ended (ap (λ (q : Board C). is_some q.ended) (sym is_x) ∙ ended) in
        let within : b < length boards = slice_get_within boards b u at_u in
        let count = good.begins.firsts in
        let first = some_at start.firsts b (omega arith) in
        let some_budget : 0 < u.budget = subst (λ (n : ℕ). 0 < n) (sym it.budget) good.begins.budget in
        let way = going-on m good.begins.lawful u.segs u.budget first.x (course_now m state u) (own_entries (whole store boards) b) u.retired some_budget (good.begins.wants b first.x first.there) (it.led first.x first.there) in
        let no_stop : course_ending u.ended ≡ None = ap course_ending none in
        record {
          number = it.number;
          going = record { not_ended = none; running = way.wants no_stop; left = way.left no_stop; room = it.room };
          va = va;
          wants = ap (λ (q : Board C). m.wants (state q.cpu)) (sym is_y) ∙ wants;
          at_is = at_is ∙ ap (λ (q : Board C). global_of q.segs va) is_z;
        };
  }

  pub going_good : {B : Type 0} (meaning : B → Swap) (start : Start S) (store : Store B) (boards : List (Board C)) (b : ℕ) (u : Board C) → IsGood m state spare meaning start store boards → slice_get boards b ≡ Some u → u.ended ≡ None → IsGoing m state spare u
  going_good meaning start store boards b u good at_u none =
      let it = good.programs.each b u at_u in
      let within : b < length boards = slice_get_within boards b u at_u in
      let count = good.begins.firsts in
      let first = some_at start.firsts b (omega arith) in
      let some_budget : 0 < u.budget = subst (λ (n : ℕ). 0 < n) (sym it.budget) good.begins.budget in
      let way = going-on m good.begins.lawful u.segs u.budget first.x (course_now m state u) (own_entries (whole store boards) b) u.retired some_budget (good.begins.wants b first.x first.there) (it.led first.x first.there) in
      let no_stop : course_ending u.ended ≡ None = ap course_ending none in
      record { not_ended = none; running = way.wants no_stop; left = way.left no_stop; room = it.room }

  pub user_good : {B : Type 0} (meaning : B → Swap) (start : Start S) (store : Store B) (boards : List (Board C)) (b va : ℕ) (z : Board C) → IsGood m state spare meaning start store boards → slice_get boards b ≡ Some z → global_of z.segs va < table_start
  user_good meaning start store boards b va z good at_z = good.begins.low b va z.segs (good.programs.each b z at_z).segs

  pub idle_ended : (boards : List (Board C)) (b : ℕ) (x : Board C) → slice_get boards b ≡ Some x → is_some x.ended ≡ true → IsIdleAt m state boards b
  idle_ended boards b x at_x ended = record { idle = λ y at_y. inl (ap (λ (q : Board C). is_some q.ended) (same_at boards b y x at_y at_x) ∙ ended) }

  no_access : (want : Want) → ((kind : AccessKind) (va value : ℕ) → want ≡ Access kind va value → ⊥) → WantsAccess want → ⊥
  no_access Local h a = a
  no_access (Access kind va value) h a = h kind va value refl
  no_access Ended h a = a

  pub idle_other : (boards : List (Board C)) (b : ℕ) (x : Board C) → slice_get boards b ≡ Some x → ((kind : AccessKind) (va value : ℕ) → m.wants (state x.cpu) ≡ Access kind va value → ⊥) → IsIdleAt m state boards b
  idle_other boards b x at_x none = record {
    idle = λ y at_y. inr (λ wants. no_access (m.wants (state x.cpu)) none (subst (λ (q : Board C). WantsAccess (m.wants (state q.cpu))) (same_at boards b y x at_y at_x) wants));
  }
