-- How many steps are left at most.
use Rattle.std.proofs.Common.{◌≡◌, ℕ, ◌+◌, ◌≤◌, Bool, true, false, if◌then◌else◌, sym, subst, List, Option, Some, None, arith}
use Rattle.spur_addr.specs.Address.{entry_address_of}
use Rattle.spur_cache.specs.declared.line.Line.{Line}
use Rattle.spur_cache.specs.Lines.{found, victim_of}
use Rattle.spur_snoop.specs.Protocol.{is_owned, is_exclusive}
use Rattle.spur_walk.specs.declared.looked.Looked.{Looked}
use Rattle.spur_walk.specs.declared.looked.Looked.TheVariants.{Hit, Denied, NeedsDirty, NeedsClaim, Miss}
use Rattle.spur_walk.specs.Look.{look_of}
use Rattle.spur_walk.specs.Bounds.{backs, climb_fills, climb_steps, fill_steps, fills_by, page_steps_by, steps_by}
use Rattle.spur_walk.specs.Laws.{PageStepsAreFew, StepsAreFew}

-- how large the numbers are
backs_if : (own : Bool) → (if own then 1 else 0) ≤ 1
backs_if true = omega arith
backs_if false = omega arith

pub backs_few : (o : Option Line) → backs o ≤ 1
backs_few None = omega arith
backs_few (Some line) = backs_if (is_owned line.state)

pub fill_few : (own : List (Option Line)) (g : ℕ) → fill_steps own g ≤ 2
fill_few own g = let b : backs (victim_of own g) ≤ 1 = backs_few (victim_of own g) in omega arith

pub climb_few : (own : List (Option Line)) (at more : ℕ) (r : Option Line) → climb_steps own at more r ≤ more + 4
climb_few own at more None = let b : fill_steps own (entry_address_of (entry_address_of at)) ≤ 2 = fill_few own (entry_address_of (entry_address_of at)) in omega arith
climb_few own at more (Some root) = let b : fill_steps own (entry_address_of at) ≤ 2 = fill_few own (entry_address_of at) in omega arith

-- where the block of the entry is there
pub found_few : (own : List (Option Line)) (at : ℕ) (e : Line) (r : Option Line) (looked : Looked) → steps_by own at (Some e) r looked ≤ 2
found_few own at e r Hit = omega arith
found_few own at e r Denied = omega arith
found_few own at e r NeedsClaim = omega arith
found_few own at e r NeedsDirty = omega arith
found_few own at e r Miss = fill_few own at

pub found_fills : (e : Line) (r : Option Line) (looked : Looked) → fills_by (Some e) r looked ≤ 1
found_fills e r Hit = omega arith
found_fills e r Denied = omega arith
found_fills e r NeedsClaim = omega arith
found_fills e r NeedsDirty = omega arith
found_fills e r Miss = omega arith

-- where it is not, no more than the climb and what follows
climb_some : (own : List (Option Line)) (at : ℕ) (r : Option Line) → 3 ≤ climb_steps own at 2 r
climb_some own at None = omega arith
climb_some own at (Some root) = omega arith

pub away_few : (own : List (Option Line)) (at : ℕ) (r : Option Line) (looked : Looked) → steps_by own at None r looked ≤ climb_steps own at 2 r
away_few own at r Hit = let s : 3 ≤ climb_steps own at 2 r = climb_some own at r in omega arith
away_few own at r Denied = let s : 3 ≤ climb_steps own at 2 r = climb_some own at r in omega arith
away_few own at r NeedsClaim = let s : 3 ≤ climb_steps own at 2 r = climb_some own at r in omega arith
away_few own at r NeedsDirty = omega arith
away_few own at r Miss = omega arith

climb_fills_some : (r : Option Line) → 2 ≤ climb_fills r
climb_fills_some None = omega arith
climb_fills_some (Some root) = omega arith

pub away_fills : (r : Option Line) (looked : Looked) → fills_by None r looked ≤ climb_fills r
away_fills r Hit = let s : 2 ≤ climb_fills r = climb_fills_some r in omega arith
away_fills r Denied = let s : 2 ≤ climb_fills r = climb_fills_some r in omega arith
away_fills r NeedsClaim = let s : 2 ≤ climb_fills r = climb_fills_some r in omega arith
away_fills r NeedsDirty = omega arith
away_fills r Miss = omega arith

climb_fills_few : (r : Option Line) → climb_fills r ≤ 3
climb_fills_few None = omega arith
climb_fills_few (Some root) = omega arith

steps_few : (own : List (Option Line)) (at : ℕ) (e r : Option Line) (looked : Looked) → steps_by own at e r looked ≤ 6
steps_few own at None r looked =
    let a : steps_by own at None r looked ≤ climb_steps own at 2 r = away_few own at r looked in
    let b : climb_steps own at 2 r ≤ 2 + 4 = climb_few own at 2 r in
    omega arith
steps_few own at (Some line) r looked = let a : steps_by own at (Some line) r looked ≤ 2 = found_few own at line r looked in omega arith

fills_few : (e r : Option Line) (looked : Looked) → fills_by e r looked ≤ 3
fills_few None r looked =
    let a : fills_by None r looked ≤ climb_fills r = away_fills r looked in
    let b : climb_fills r ≤ 3 = climb_fills_few r in
    omega arith
fills_few (Some line) r looked = let a : fills_by (Some line) r looked ≤ 1 = found_fills line r looked in omega arith

pub steps-few : StepsAreFew
steps-few own at need = record {
  steps = steps_few own at (found own (entry_address_of at)) (found own (entry_address_of (entry_address_of at))) (look_of (found own at) need);
  fills = fills_few (found own (entry_address_of at)) (found own (entry_address_of (entry_address_of at))) (look_of (found own at) need);
  found_fills = λ (line : Line) (is : found own (entry_address_of at) ≡ Some line).
      subst (λ (e : Option Line). fills_by e (found own (entry_address_of (entry_address_of at))) (look_of (found own at) need) ≤ 1) (sym is)
      (found_fills line (found own (entry_address_of (entry_address_of at))) (look_of (found own at) need));
}

alone_few : (x : Bool) → (if x then 0 else 1) ≤ 1
alone_few true = omega arith
alone_few false = omega arith

page_few : (own : List (Option Line)) (page : ℕ) (e r : Option Line) → page_steps_by own page e r ≤ 4
page_few own page None r = climb_few own page 0 r
page_few own page (Some line) r = let a : page_steps_by own page (Some line) r ≤ 1 = alone_few (is_exclusive line.state) in omega arith

pub page-few : PageStepsAreFew
page-few own page = record {
  steps = page_few own page (found own (entry_address_of page)) (found own (entry_address_of (entry_address_of page)));
  found_steps = λ (line : Line) (is : found own (entry_address_of page) ≡ Some line).
      subst (λ (e : Option Line). page_steps_by own page e (found own (entry_address_of (entry_address_of page))) ≤ 1) (sym is) (alone_few (is_exclusive line.state));
}
