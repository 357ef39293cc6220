-- A vector of which an element is written back is as it was, and so is one whose elements are.
use Rattle.std.proofs.Common.{◌≡◌, ◌∙◌, ℕ, ◌≤◌, ◌++◌, ap, sym, subst, List, drop, length, take, Some}
use Rattle.std.specs.Prelude.{slice_get}
use Rattle.std.specs.Prelude.{Vec}
use Rattle.std.specs.Vec.{with_item, with_items}
use Rattle.std.proofs.Math.ListN.{set}
use Rattle.std.proofs.Math.Nat.{ℕ_set}
use Rattle.std.proofs.Math.Bridge.{le_prop}
use Rattle.spur_pager.specs.declared.store.Store.{Store}
use Rattle.spur_board.specs.declared.board.Board.{Board}
use Rattle.spur_core.specs.declared.world.World.{World}
use Rattle.spur_core.proofs.MergeFacts.{written_back}
use Rattle.spur_core.proofs.OwnLogFacts.{set_back}

-- what a vector says of its length has one proof at most
fits_once : (len cap n : ℕ) (p q : (len ≡ n) × (len ≤ cap)) → p ≡ q
fits_once len cap n p q = λ k. (ℕ_set len n p.0 q.0 k, le_prop p.1 q.1 k)

same_vector : {X Z : Type 0} (v : Vec X Z) (items : List X) → v.items ≡ items → (ok : (v.len ≡ length items) × (v.len ≤ v.cap)) → record v { items = items; ok = ok } ≡ v
same_vector {X} {Z} v items same =
    subst (λ (xs : List X). (ok : (v.len ≡ length xs) × (v.len ≤ v.cap)) → record v { items = xs; ok = ok } ≡ v) same
    (λ ok. ap (λ (o : (v.len ≡ length v.items) × (v.len ≤ v.cap)). record v { ok = o }) (fits_once v.len v.cap (length v.items) ok v.ok))

pub vector_back : {X Z : Type 0} (v : Vec X Z) (i : ℕ) (x : X) → slice_get v.items i ≡ Some x → with_item v i x ≡ v
vector_back v i x there = same_vector v (set v.items i x) (sym (set_back v.items i x there)) (with_item v i x).ok

pub vector_same : {X Z : Type 0} (v : Vec X Z) (items : List X) → items ≡ v.items → with_items v items ≡ v
vector_same {X} {Z} v items same =
    let long : v.len ≡ length items = v.ok.0 ∙ ap (λ (xs : List X). length xs) (sym same) in
    same_vector v (take v.len (items ++ drop (length items) v.items)) (sym (written_back items v.items v.len long ∙ same)) (with_items v items).ok

-- a world whose store and boards are the same
pub world_same : {C B : Type 0} (w : World C B) (store : Store B) (boards : List (Board C)) → store ≡ w.store → boards ≡ w.boards.items → record w { store = store; boards = with_items w.boards boards } ≡ w
world_same {C} {B} w store boards stays same =
    ap (λ (t : Store B). record w { store = t; boards = with_items w.boards boards }) stays ∙ ap (λ xs. record w { boards = xs }) (vector_same w.boards boards same)
