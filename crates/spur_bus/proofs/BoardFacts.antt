-- Boards and their caches: what a call does to the boards, by their caches and their lens.
use Rattle.std.proofs.Common.{◌≡◌, ◌≢◌, ◌∙◌, ℕ, ◌+◌, ◌<◌, ◌==◌, Bool, true, false, if◌then◌else◌, ap, sym, refl, subst, get_or, List, [], length, map, slice_set, Option, Some, None, zero-add}
use Rattle.std.specs.Prelude.{IsSome}
use Rattle.std.proofs.Math.ListN.{set}
use Rattle.std.proofs.lemmas.Bool.{eq-eqb, ne_eqb}
use Rattle.std.proofs.lemmas.List as L
use Rattle.spur_addr.specs.Address.{block_of}
use Rattle.spur_cache.specs.declared.line.Line.{Line}
use Rattle.spur_cache.specs.Lines.{found, line_at, index_of, with_state, set_found, with_line}
use Rattle.spur_snoop.specs.declared.BlockState.{BlockState}
use Rattle.spur_snoop.specs.declared.BlockState.TheVariants.{Invalid}
use Rattle.spur_snoop.specs.declared.BusKind.{BusKind}
use Rattle.spur_flat.specs.TagLines.{each_from}
use Rattle.spur_bus.specs.Boards.{line_of_block, snooped_lines, snooped_unless, turned_lines, turned, restated, restated_line, dropped_lines, dropped}
use Rattle.spur_cache.specs.Lens.{IsLens, Lens, OnlyLines, caches}
use Rattle.spur_bus.proofs.EachFacts.{each_of_set, set_each}
use Rattle.spur_bus.proofs.LensFacts.{caches-set, only_lines-set, only_lines-then}
use Rattle.spur_bus.proofs.LineFacts.{in_live, tagged_is}

-- the lines of a board
pub lines_here : {X : Type 0} (lines_of : X → List (Option Line)) (boards : List X) (b : ℕ) (d : X) → b < length boards → get_or (map lines_of boards) b [] ≡ lines_of (get_or boards b d)
lines_here lines_of boards b d within = L.get_or-map lines_of boards b d [] within

pub some_here : {X : Type 0} (lines_of : X → List (Option Line)) (boards : List X) (b at : ℕ) (d : X) → b < length boards → IsSome (line_of_block (map lines_of boards) b at) → IsSome (found (lines_of (get_or boards b d)) at)
some_here lines_of boards b at d within h = subst (λ (ls : List (Option Line)). IsSome (found ls at)) (lines_here lines_of boards b d within) h

-- a line is put into the own cache, and then the others see the transaction
pub told-set : (lists : List (List (Option Line))) (own at : ℕ) (kind : BusKind) (fresh : Line) → own < length lists
    → each_from (snooped_unless own at kind) 0 (set lists own (with_line (get_or lists own []) fresh)) ≡ turned lists own at kind fresh
told-set lists own at kind fresh within =
    let here : (own == own) ≡ true = eq-eqb own own refl in
    let mine : List (Option Line) = get_or lists own [] in
    let told_one : ℕ → List (Option Line) → List (Option Line) = snooped_unless own at kind in
    let turn_one : ℕ → List (Option Line) → List (Option Line) = turned_lines own at kind fresh in
    let told_mine : (ls : List (Option Line)) → told_one own ls ≡ ls = λ (ls : List (Option Line)). ap (λ (b : Bool). if b then ls else snooped_lines ls at kind) here in
    let turn_mine : (ls : List (Option Line)) → turn_one own ls ≡ with_line ls fresh =
    λ (ls : List (Option Line)). ap (λ (b : Bool). if b then with_line ls fresh else snooped_lines ls at kind) here in
    let both : told_one (0 + own) (with_line mine fresh) ≡ turn_one (0 + own) mine =
    ap (λ (n : ℕ). told_one n (with_line mine fresh)) (zero-add own) ∙ told_mine (with_line mine fresh) ∙ sym (turn_mine mine)
    ∙ ap (λ (n : ℕ). turn_one n mine) (sym (zero-add own)) in
    let others : (j : ℕ) (ls : List (Option Line)) → j ≢ 0 + own → told_one j ls ≡ turn_one j ls =
    λ (j : ℕ) (ls : List (Option Line)) (apart : j ≢ 0 + own).
    let not_own : (j == own) ≡ false = ne_eqb j own (λ (e : j ≡ own). apart (e ∙ sym (zero-add own))) in
    ap (λ (b : Bool). if b then ls else snooped_lines ls at kind) not_own ∙ sym (ap (λ (b : Bool). if b then with_line ls fresh else snooped_lines ls at kind) not_own) in
    each_of_set told_one turn_one 0 lists own [] (with_line mine fresh) within both others

-- the own line of a block is put in another state, and then the others see the transaction
told-restated : (lists : List (List (Option Line))) (own at : ℕ) (kind : BusKind) (state : BlockState) (o : Option Line) → own < length lists → state ≢ Invalid
    → line_of_block lists own at ≡ o → IsSome o
    → each_from (snooped_unless own at kind) 0 (set lists own (with_state (get_or lists own []) at state)) ≡ restated_line lists own at kind state o
told-restated lists own at kind state None within alive is some = cc
told-restated lists own at kind state (Some line) within alive is some =
    let fresh : Line = record line { state = state } in
    let lines : List (Option Line) = get_or lists own [] in
    let slot : ℕ = index_of lines (block_of at) in
    let tag : line.tag ≡ block_of at = (tagged_is (block_of at) (line_at lines slot) line is).1 in
    let set_is : with_state lines at state ≡ with_line lines fresh =
    ap (λ (o : Option Line). set_found lines slot state o) is
    ∙ ap (λ (o : Option Line). slice_set lines slot o) (in_live state line alive)
    ∙ ap (λ (n : ℕ). slice_set lines (index_of lines n) (Some fresh)) (sym tag) in
    ap (λ (ls : List (Option Line)). each_from (snooped_unless own at kind) 0 (set lists own ls)) set_is ∙ told-set lists own at kind fresh within

-- a block is dropped from one cache
set-dropped : (lists : List (List (Option Line))) (holder at : ℕ) → holder < length lists → set lists holder (with_state (get_or lists holder []) at Invalid) ≡ dropped lists holder at
set-dropped lists holder at within =
    let lines : List (Option Line) = get_or lists holder [] in
    let one : ℕ → List (Option Line) → List (Option Line) = dropped_lines holder at in
    let mine : one holder lines ≡ with_state lines at Invalid = ap (λ (b : Bool). if b then with_state lines at Invalid else lines) (eq-eqb holder holder refl) in
    set_each one 0 lists holder [] (with_state lines at Invalid) within (sym mine ∙ ap (λ (n : ℕ). one n lines) (sym (zero-add holder)))
    (λ (j : ℕ) (ls : List (Option Line)) (apart : j ≢ 0 + holder).
    ap (λ (b : Bool). if b then with_state ls at Invalid else ls) (ne_eqb j holder (λ (e : j ≡ holder). apart (e ∙ sym (zero-add holder)))))

-- what the boards are after the own one was changed and the others saw the transaction: `y` is the own board with these lines
pub record Tells {X : Type 0} (lens : Lens X) (own at : ℕ) (kind : BusKind) (boards after : List X) (lines : List (Option Line)) : Type 0 where
  pub caches_are : caches lens after ≡ each_from (snooped_unless own at kind) 0 (set (caches lens boards) own lines)
  pub only : OnlyLines lens boards after

pub tells : {X : Type 0} (lens : Lens X) → IsLens lens → (own at : ℕ) (kind : BusKind) (boards after : List X) (d y : X) (lines : List (Option Line)) → own < length boards
    → y ≡ lens.with_lines (get_or boards own d) lines → caches lens after ≡ each_from (snooped_unless own at kind) 0 (caches lens (set boards own y))
    → OnlyLines lens (set boards own y) after → Tells lens own at kind boards after lines
tells {X} lens lawful own at kind boards after d y lines within y_is snooped_lines only = record {
  caches_are = snooped_lines ∙ ap (λ (lists : List (List (Option Line))). each_from (snooped_unless own at kind) 0 lists) (caches-set lens lawful boards own d y lines y_is);
  only = only_lines-then lens lawful boards (set boards own y) after (only_lines-set lens lawful boards own d y lines within y_is) only;
}

-- the number of caches
within_caches : {X : Type 0} (lens : Lens X) (boards : List X) (b : ℕ) → b < length boards → b < length (caches lens boards)
within_caches lens boards b within = subst (λ (n : ℕ). b < n) (sym (L.length-map boards lens.lines_of)) within

-- so it is after a block was filled, after a line was restated, and after a block was dropped
pub filled_caches : {X : Type 0} (lens : Lens X) → IsLens lens → (own at : ℕ) (kind : BusKind) (fresh : Line) (boards after : List X) (d : X) → own < length boards
    → Tells lens own at kind boards after (with_line (lens.lines_of (get_or boards own d)) fresh) → caches lens after ≡ turned (caches lens boards) own at kind fresh
filled_caches lens lawful own at kind fresh boards after d within t =
    t.caches_are ∙ ap (λ (ls : List (Option Line)). each_from (snooped_unless own at kind) 0 (set (caches lens boards) own (with_line ls fresh))) (sym (lines_here lens.lines_of boards own d within))
    ∙ told-set (caches lens boards) own at kind fresh (within_caches lens boards own within)

pub restated_caches : {X : Type 0} (lens : Lens X) → IsLens lens → (own at : ℕ) (kind : BusKind) (state : BlockState) (boards after : List X) (d : X) → own < length boards → state ≢ Invalid
    → IsSome (line_of_block (caches lens boards) own at) → Tells lens own at kind boards after (with_state (lens.lines_of (get_or boards own d)) at state)
    → caches lens after ≡ restated (caches lens boards) own at kind state
restated_caches lens lawful own at kind state boards after d within alive some t =
    t.caches_are ∙ ap (λ (ls : List (Option Line)). each_from (snooped_unless own at kind) 0 (set (caches lens boards) own (with_state ls at state))) (sym (lines_here lens.lines_of boards own d within))
    ∙ told-restated (caches lens boards) own at kind state (line_of_block (caches lens boards) own at) (within_caches lens boards own within) alive refl some

pub dropped_caches : {X : Type 0} (lens : Lens X) → IsLens lens → (holder at : ℕ) (boards : List X) (d y : X) → holder < length boards
    → y ≡ lens.with_lines (get_or boards holder d) (with_state (lens.lines_of (get_or boards holder d)) at Invalid) → caches lens (set boards holder y) ≡ dropped (caches lens boards) holder at
dropped_caches lens lawful holder at boards d y within is =
    caches-set lens lawful boards holder d y (with_state (lens.lines_of (get_or boards holder d)) at Invalid) is
    ∙ ap (λ (ls : List (Option Line)). set (caches lens boards) holder (with_state ls at Invalid)) (sym (lines_here lens.lines_of boards holder d within))
    ∙ set-dropped (caches lens boards) holder at (within_caches lens boards holder within)

-- where a cache has this line of the block, it is the one that is restated
pub restated_is : (caches now : List (List (Option Line))) (own at : ℕ) (kind : BusKind) (state : BlockState) (line : Line) → now ≡ restated caches own at kind state
    → line_of_block caches own at ≡ Some line → now ≡ turned caches own at kind (record line { state = state })
restated_is caches now own at kind state line is there = is ∙ ap (λ (o : Option Line). restated_line caches own at kind state o) there
