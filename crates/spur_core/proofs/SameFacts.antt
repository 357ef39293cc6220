-- What is said of a view is said of each that shows the same.
use Rattle.std.proofs.Common.{◌≡◌, ◌∙◌, ℕ, zero, suc, ap, sym, refl, subst, List, [], ◌∷◌, length, map, Option, Some}
use Rattle.std.specs.Prelude.{slice_get}
use Rattle.spur_cache.specs.declared.line.Line.{Line}
use Rattle.spur_flat.specs.declared.flat.Flat.{Flat}
use Rattle.spur_flat.specs.declared.entry.Entry.{Entry}
use Rattle.spur_flat.specs.State.{IsCarried, State, nothing_beside}
use Rattle.spur_flat.specs.Untold.{LeadsUntold}
use Rattle.spur_bus.specs.Stand.{state_of}
use Rattle.spur_pager.specs.Again.{ShowsSame}
use Rattle.spur_pager.specs.Stand.{Stands, standing_state, with_told}
use Rattle.spur_pager.specs.View.{View}
use Rattle.spur_pager.proofs.AgainFacts.{same-stands-again}
use Rattle.spur_core.specs.Good.{HasLed}

pub stands_same : (rest : Flat) (w v : View) → ShowsSame w v → Stands rest w → Stands rest v
stands_same rest w v same st = (same-stands-again rest w v st same).stands

pub state_same : (rest : Flat) (w v : View) → ShowsSame w v → standing_state rest v ≡ standing_state rest w
state_same rest w v same =
    ap (λ (p : Option (List ℕ)). state_of (with_told rest p) v.caches v.memory (nothing_beside (length v.caches))) same.shares.pages
    ∙ ap (λ (cs : List (List (Option Line))). state_of (with_told rest w.pages) cs v.memory (nothing_beside (length cs))) same.caches
    ∙ ap (λ (ws : List ℕ). state_of (with_told rest w.pages) w.caches ws (nothing_beside (length w.caches))) same.memory

pub led_same : (from : State) (w v : View) (h k : List Entry) → ShowsSame w v → k ≡ h → HasLed from w h → HasLed from v k
led_same from w v h k same is led =
    let state : standing_state from.flat v ≡ standing_state from.flat w = state_same from.flat w v same in
    record {
      told = λ (words : List ℕ) (told : v.pages ≡ Some words).
          subst (λ (es : List Entry). IsCarried from (standing_state from.flat v) es) (sym is)
          (subst (λ (S : State). IsCarried from S h) (sym state) (led.told words (sym same.shares.pages ∙ told)));
      untold = subst (λ (es : List Entry). LeadsUntold from.flat from (standing_state from.flat v) es) (sym is)
          (subst (λ (S : State). LeadsUntold from.flat from S h) (sym state) led.untold);
    }

-- an element of a changed list
pub record GotMap {X Y : Type 0} (f : X → Y) (xs : List X) (i : ℕ) (y : Y) : Type 0 where
  pub old : X
  pub there : slice_get xs i ≡ Some old
  pub is : f old ≡ y

pub got_map : {X Y : Type 0} (f : X → Y) (xs : List X) (i : ℕ) (y : Y) → slice_get (map f xs) i ≡ Some y → GotMap f xs i y
got_map f [] i y e = cc
got_map f (x ∷ xs) zero y e = record { old = x; there = refl; is = cc }
got_map f (x ∷ xs) (suc i) y e = let r = got_map f xs i y e in record { old = r.old; there = r.there; is = r.is }
