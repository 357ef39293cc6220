-- With each step fewer steps are left.
use Rattle.std.proofs.Common.{◌≡◌, ◌≢◌, ◌∙◌, ℕ, zero, suc, ◌+◌, ◌%◌, ◌<◌, ◌≤◌, ⊎_elim, Bool, true, false, not, if◌then◌else◌, ap, sym, refl, subst, List, [], ◌∷◌, get_or, length, slice_set, Option, Some, None, arith}
use Rattle.std.specs.Prelude.{⊤}
use Rattle.std.proofs.lemmas.Bool.{cases_eq, ne_eqb}
use Rattle.std.proofs.lemmas.List.{length-set}
use Rattle.spur_addr.specs.Address.{block_of, entry_address_of}
use Rattle.spur_addr.specs.PageEntry.{is_valid, is_dirty, is_leaving}
use Rattle.spur_cache.specs.declared.line.Line.{Line}
use Rattle.spur_cache.specs.Lines.{IsCache, changed, changed_found, dirtied, found, line_at, not_tagged, index_of, occupant, tagged, victim_of, with_dirty, with_line}
use Rattle.spur_cache.proofs.CacheFacts.{found_tag, tagged_there}
use Rattle.spur_snoop.specs.declared.BlockState.{BlockState}
use Rattle.spur_snoop.specs.declared.BlockState.TheVariants.{UnOwned, OwnedExclusive}
use Rattle.spur_snoop.specs.declared.BusKind.{BusKind}
use Rattle.spur_snoop.specs.declared.BusKind.TheVariants as bus
use Rattle.spur_snoop.specs.declared.Need.{Need}
use Rattle.spur_snoop.specs.declared.Need.TheVariants.{Read, Write}
use Rattle.spur_snoop.specs.Protocol.{is_owned, is_exclusive}
use Rattle.spur_flat.specs.declared.flat.Flat.{Flat}
use Rattle.spur_flat.specs.declared.access.FaultKind.{FaultKind}
use Rattle.spur_flat.specs.declared.access.FaultKind.TheVariants as fault
use Rattle.spur_flat.specs.declared.entry.Entry.{Entry}
use Rattle.spur_flat.specs.declared.entry.Layer.{Layer}
use Rattle.spur_flat.specs.declared.entry.Layer.TheVariants.{RootBlock, PteBlock, UserBlock}
use Rattle.spur_flat.specs.Pager.{word_of}
use Rattle.spur_flat.specs.TagLines.{filled_state, kind_of}
use Rattle.spur_bus.specs.declared.place.Place.{Place}
use Rattle.spur_bus.specs.Boards.{line_of_block, restated_line}
use Rattle.spur_bus.specs.Logical.{logical_block}
use Rattle.spur_bus.specs.Calls.{read_line}
use Rattle.spur_bus.proofs.LineFacts.{set_away, set_there}
use Rattle.spur_walk.specs.declared.looked.Looked.{Looked}
use Rattle.spur_walk.specs.declared.looked.Looked.TheVariants.{Hit, Denied, NeedsDirty, NeedsClaim, Miss}
use Rattle.spur_walk.specs.declared.plan.Plan.{Plan}
use Rattle.spur_walk.specs.declared.plan.Plan.TheVariants as plan
use Rattle.spur_walk.specs.declared.step.Walked.TheVariants as walked
use Rattle.spur_walk.specs.Look.{look_of}
use Rattle.spur_walk.specs.Tables.{block_address, logical_flat, root_at}
use Rattle.spur_walk.specs.Plan.{access_plan, climb, fault_of, fault_or, fill_over, filling, page_by, page_climb, page_plan, plan_by, root_place, table_place, user_place, where_found}
use Rattle.spur_walk.specs.Steps.{answer_of, stepped}
use Rattle.spur_walk.specs.Bounds.{backs, climb_fills, climb_steps, fill_steps, fills_by, fills_left, page_steps_by, page_steps_left, steps_by, steps_left}
use Rattle.spur_walk.specs.Laws.{PageStepsFall, StepsFall, is_fetch}
use Rattle.spur_walk.proofs.BoundFacts.{away_few, away_fills, fill_few, found_few, found_fills}
use Rattle.spur_walk.proofs.FillFacts.{lets}
use Rattle.spur_walk.proofs.PlanFacts.{Answers, Cleans, Shares, answers_as, fills, not_missed, own_cache, victim_found, victim_is}
use Rattle.spur_walk.proofs.ServeFacts.{found_same, hits, or_false, own-turned}

-- a line put in its place, and the blocks of others
away_in : (own : List (Option Line)) (fresh : Line) (h : ℕ) → index_of own (block_of h) ≢ index_of own fresh.tag → found (with_line own fresh) h ≡ found own h
away_in own fresh h apart =
    let size : length (with_line own fresh) ≡ length own = length-set own (index_of own fresh.tag) (Some fresh) in
    ap (λ (n : ℕ). tagged (block_of h) (line_at (with_line own fresh) (block_of h % n))) size
    ∙ ap (tagged (block_of h)) (set_away own (index_of own fresh.tag) (index_of own (block_of h)) (Some fresh) apart)

not_tag : (block : ℕ) (line : Line) → line.tag ≢ block → tagged block (Some line) ≡ None
not_tag block line apart = ap (λ (b : Bool). if b then Some line else None) (ne_eqb line.tag block apart)

-- an owned victim goes back to memory: what is found is found, and what is not is not
pub record Backs (own : List (Option Line)) (g : ℕ) (line : Line) : Type 0 where
  pub cache : IsCache own
  pub stands : occupant own g ≡ Some line
  pub other : line.tag ≢ block_of g

abbrev backed : List (Option Line) → Line → List (Option Line)
backed own line = with_line own (record line { state = UnOwned })

stands_own : (own : List (Option Line)) (g : ℕ) (line : Line) → Backs own g line → line_at own (index_of own line.tag) ≡ Some line
stands_own own g line b = ap (line_at own) (b.cache.placed (index_of own (block_of g)) line b.stands) ∙ b.stands

backed_there : (own : List (Option Line)) (g h : ℕ) (line : Line) → Backs own g line → index_of own (block_of h) ≡ index_of own line.tag → line_at (backed own line) (index_of (backed own line) (block_of h)) ≡ Some (record line { state = UnOwned })
backed_there own g h line b same =
    let fresh : Line = record line { state = UnOwned } in
    let size : length (backed own line) ≡ length own = length-set own (index_of own line.tag) (Some fresh) in
    ap (λ (n : ℕ). line_at (backed own line) (block_of h % n)) size ∙ ap (line_at (backed own line)) same
    ∙ set_there own (index_of own line.tag) (Some fresh) (within own (index_of own line.tag) line (stands_own own g line b))
  where
    within : (lines : List (Option Line)) (slot : ℕ) (l : Line) → line_at lines slot ≡ Some l → slot < length lines
    within [] slot l h = cc
    within (z ∷ zs) zero l h = omega arith
    within (z ∷ zs) (suc slot) l h = let rest : slot < length zs = within zs slot l h in omega arith

backed_other : (own : List (Option Line)) (g h : ℕ) (line : Line) → Backs own g line → line.tag ≢ block_of h → found (backed own line) h ≡ found own h
backed_other own g h line b apart =
    ⊎_elim
    (λ (same : index_of own (block_of h) ≡ index_of own line.tag).
    ap (tagged (block_of h)) (backed_there own g h line b same) ∙ not_tag (block_of h) (record line { state = UnOwned }) apart
    ∙ sym (ap (tagged (block_of h)) (ap (line_at own) same ∙ stands_own own g line b) ∙ not_tag (block_of h) line apart))
    (λ (away : index_of own (block_of h) ≢ index_of own line.tag). away_in own (record line { state = UnOwned }) h away)
    (cases_eq (index_of own (block_of h)) (index_of own line.tag))

found_here : (own : List (Option Line)) (g h : ℕ) (line : Line) → Backs own g line → line.tag ≡ block_of h → found own h ≡ Some line
found_here own g h line b same =
    ap (tagged (block_of h)) (ap (line_at own) (ap (index_of own) (sym same)) ∙ stands_own own g line b) ∙ tagged_there (block_of h) line same

pub backed_none : (own : List (Option Line)) (g h : ℕ) (line : Line) → Backs own g line → found own h ≡ None → found (backed own line) h ≡ None
backed_none own g h line b none =
    ⊎_elim
    (λ (same : line.tag ≡ block_of h). let clash : None ≡ Some line = sym none ∙ found_here own g h line b same in absurd (none_some line clash))
    (λ (apart : line.tag ≢ block_of h). backed_other own g h line b apart ∙ none)
    (cases_eq line.tag (block_of h))
  where
    none_some : (l : Line) → None ≡ Some l → ⊥
    none_some l h = cc

pub record IsThere (own : List (Option Line)) (h : ℕ) : Type 0 where
  pub line : Line
  pub there : found own h ≡ Some line

pub backed_some : (own : List (Option Line)) (g h : ℕ) (line x : Line) → Backs own g line → found own h ≡ Some x → IsThere (backed own line) h
backed_some own g h line x b is =
    ⊎_elim
    (λ (same : line.tag ≡ block_of h). record { line = record line { state = UnOwned }; there = found_same own (record line { state = UnOwned }) h b.cache same })
    (λ (apart : line.tag ≢ block_of h). record { line = x; there = backed_other own g h line b apart ∙ is })
    (cases_eq line.tag (block_of h))

-- and no owned line stands on the place any more
pub backed_backs : (own : List (Option Line)) (g : ℕ) (line : Line) → Backs own g line → backs (victim_of (backed own line) g) ≡ 0
backed_backs own g line b =
    let fresh : Line = record line { state = UnOwned } in
    let slot : index_of own (block_of g) ≡ index_of own line.tag = sym (b.cache.placed (index_of own (block_of g)) line b.stands) in
    ap (λ (o : Option Line). backs (not_tagged (block_of g) o)) (backed_there own g g line b slot)
    ∙ ap (λ (x : Bool). backs (if x then None else Some fresh)) (ne_eqb line.tag (block_of g) b.other)

-- the own lines after a step
abbrev restate_own : List (Option Line) → BlockState → Option Line → List (Option Line)
restate_own own state None = own
restate_own own state (Some line) = with_line own (record line { state = state })

abbrev after_own : (ℕ → Place → List ℕ) → List (Option Line) → ℕ → Plan → List (Option Line)
after_own words own g plan.Ready = own
after_own words own g (plan.Fault kind) = own
after_own words own g plan.Refresh = with_dirty own g
after_own words own g plan.Claim = restate_own own OwnedExclusive (found own g)
after_own words own g (plan.WriteBack at) = restate_own own UnOwned (found own at)
after_own words own g (plan.Fill l n at place) = with_line own (read_line at (filled_state n) place (words at place))

get_set : (caches : List (List (Option Line))) (b : ℕ) (lines : List (Option Line)) → b < length caches → get_or (slice_set caches b lines) b [] ≡ lines
get_set [] b lines within = absurd (omega arith)
get_set (c ∷ cs) zero lines within = refl
get_set (c ∷ cs) (suc b) lines within = get_set cs b lines (omega arith)

own_restated : (caches : List (List (Option Line))) (b g : ℕ) (kind : BusKind) (state : BlockState) (o : Option Line) → b < length caches → get_or (restated_line caches b g kind state o) b [] ≡ restate_own (get_or caches b []) state o
own_restated caches b g kind state None within = refl
own_restated caches b g kind state (Some line) within = own-turned caches b g kind (record line { state = state }) within

pub own_after : (caches : List (List (Option Line))) (memory : List ℕ) (b g : ℕ) (p : Plan) → b < length caches
    → get_or (stepped caches memory b g p) b [] ≡ after_own (λ (at : ℕ) (place : Place). logical_block caches memory place.frame at) (get_or caches b []) g p
own_after caches memory b g plan.Ready within = refl
own_after caches memory b g (plan.Fault kind) within = refl
own_after caches memory b g plan.Refresh within = get_set caches b (with_dirty (get_or caches b []) g) within
own_after caches memory b g plan.Claim within = own_restated caches b g bus.Claim OwnedExclusive (line_of_block caches b g) within
own_after caches memory b g (plan.WriteBack at) within = own_restated caches b at bus.WriteBack UnOwned (line_of_block caches b at) within
own_after caches memory b g (plan.Fill l n at place) within = own-turned caches b at (kind_of n) (read_line at (filled_state n) place (logical_block caches memory place.frame at)) within

-- fewer steps, and fewer fills
pub record Less (steps fills : ℕ) (after : List (Option Line)) (at : ℕ) (need : Need) (fetch : Bool) : Type 0 where
  pub fewer : steps_left after at need < steps
  pub not_more : fills_left after at need ≤ fills
  pub fetched : fetch ≡ true → fills_left after at need < fills

abbrev Falls : (ℕ → Place → List ℕ) → List (Option Line) → ℕ → Need → ℕ → ℕ → Plan → Type 0
Falls words own at need s f plan.Ready = ⊤
Falls words own at need s f (plan.Fault kind) = ⊤
Falls words own at need s f plan.Refresh = Less s f (with_dirty own at) at need false
Falls words own at need s f plan.Claim = Less s f (restate_own own OwnedExclusive (found own at)) at need true
Falls words own at need s f (plan.WriteBack g) = Less s f (restate_own own UnOwned (found own g)) at need false
Falls words own at need s f (plan.Fill l n g place) = Less s f (with_line own (read_line g (filled_state n) place (words g place))) at need true

-- where the access hits, none are left
hit_less : (s f : ℕ) (after : List (Option Line)) (at : ℕ) (need : Need) (fetch : Bool) → look_of (found after at) need ≡ Hit → 0 < s → 0 < f → Less s f after at need fetch
hit_less s f after at need fetch seen some_steps some_fills =
    let steps : steps_left after at need ≡ 0 = ap (λ (k : Looked). steps_by after at (found after (entry_address_of at)) (found after (entry_address_of (entry_address_of at))) k) seen in
    let none : fills_left after at need ≡ 0 = ap (λ (k : Looked). fills_by (found after (entry_address_of at)) (found after (entry_address_of (entry_address_of at))) k) seen in
    record { fewer = subst (λ (n : ℕ). n < s) (sym steps) some_steps; not_more = subst (λ (n : ℕ). n ≤ f) (sym none) (omega arith); fetched = λ (is : fetch ≡ true). subst (λ (n : ℕ). n < f) (sym none) some_fills }

-- where the block of the entry is there, at most two steps and one fill are left
found_less : (s f : ℕ) (after : List (Option Line)) (at : ℕ) (need : Need) (fetch : Bool) → IsThere after (entry_address_of at) → 2 < s → 1 < f → Less s f after at need fetch
found_less s f after at need fetch e some_steps some_fills =
    let r : Option Line = found after (entry_address_of (entry_address_of at)) in
    let k : Looked = look_of (found after at) need in
    let steps : steps_left after at need ≤ 2 = subst (λ (o : Option Line). steps_by after at o r k ≤ 2) (sym e.there) (found_few after at e.line r k) in
    let few : fills_left after at need ≤ 1 = subst (λ (o : Option Line). fills_by o r k ≤ 1) (sym e.there) (found_fills e.line r k) in
    record { fewer = below (steps_left after at need) 2 s steps some_steps; not_more = at_most (fills_left after at need) 1 f few some_fills; fetched = λ (is : fetch ≡ true). below (fills_left after at need) 1 f few some_fills }
  where
    below : (a m n : ℕ) → a ≤ m → m < n → a < n
    below a m n h k = omega arith

    at_most : (a m n : ℕ) → a ≤ m → m < n → a ≤ n
    at_most a m n h k = omega arith

-- where the root block is there, at most four steps and two fills
root_steps : (after : List (Option Line)) (at : ℕ) (e : Option Line) (r : Line) (k : Looked) → steps_by after at e (Some r) k ≤ 4
root_steps after at None r k =
    let a : steps_by after at None (Some r) k ≤ climb_steps after at 2 (Some r) = away_few after at (Some r) k in
    let b : fill_steps after (entry_address_of at) ≤ 2 = fill_few after (entry_address_of at) in
    omega arith
root_steps after at (Some e) r k = let a : steps_by after at (Some e) (Some r) k ≤ 2 = found_few after at e (Some r) k in omega arith

root_fills : (e : Option Line) (r : Line) (k : Looked) → fills_by e (Some r) k ≤ 2
root_fills None r k = away_fills (Some r) k
root_fills (Some e) r k = let a : fills_by (Some e) (Some r) k ≤ 1 = found_fills e (Some r) k in omega arith

root_less : (s f : ℕ) (after : List (Option Line)) (at : ℕ) (need : Need) (fetch : Bool) → IsThere after (entry_address_of (entry_address_of at)) → 4 < s → 2 < f → Less s f after at need fetch
root_less s f after at need fetch r some_steps some_fills =
    let e : Option Line = found after (entry_address_of at) in
    let k : Looked = look_of (found after at) need in
    let steps : steps_left after at need ≤ 4 = subst (λ (o : Option Line). steps_by after at e o k ≤ 4) (sym r.there) (root_steps after at e r.line k) in
    let few : fills_left after at need ≤ 2 = subst (λ (o : Option Line). fills_by e o k ≤ 2) (sym r.there) (root_fills e r.line k) in
    record { fewer = below (steps_left after at need) 4 s steps some_steps; not_more = at_most (fills_left after at need) 2 f few some_fills; fetched = λ (is : fetch ≡ true). below (fills_left after at need) 2 f few some_fills }
  where
    below : (a m n : ℕ) → a ≤ m → m < n → a < n
    below a m n h k = omega arith

    at_most : (a m n : ℕ) → a ≤ m → m < n → a ≤ n
    at_most a m n h k = omega arith

-- where the block of the entry is away, no more than the climb
away_less : (s f : ℕ) (after : List (Option Line)) (at : ℕ) (need : Need) (r : Option Line) → found after (entry_address_of at) ≡ None → found after (entry_address_of (entry_address_of at)) ≡ r
    → climb_steps after at 2 r < s → climb_fills r ≤ f → Less s f after at need false
away_less s f after at need r none is some_steps some_fills =
    let k : Looked = look_of (found after at) need in
    let steps : steps_left after at need ≤ climb_steps after at 2 r =
    subst (λ (o : Option Line). steps_by after at o (found after (entry_address_of (entry_address_of at))) k ≤ climb_steps after at 2 r) (sym none)
    (subst (λ (o : Option Line). steps_by after at None o k ≤ climb_steps after at 2 r) (sym is) (away_few after at r k)) in
    let few : fills_left after at need ≤ climb_fills r =
    subst (λ (o : Option Line). fills_by o (found after (entry_address_of (entry_address_of at))) k ≤ climb_fills r) (sym none)
    (subst (λ (o : Option Line). fills_by None o k ≤ climb_fills r) (sym is) (away_fills r k)) in
    record { fewer = below (steps_left after at need) (climb_steps after at 2 r) s steps some_steps; not_more = at_most (fills_left after at need) (climb_fills r) f few some_fills; fetched = λ (no_fetch : false ≡ true). cc }
  where
    below : (a m n : ℕ) → a ≤ m → m < n → a < n
    below a m n h k = omega arith

    at_most : (a m n : ℕ) → a ≤ m → m ≤ n → a ≤ n
    at_most a m n h k = omega arith

-- a block is filled, or its victim goes back
over_falls : (words : ℕ → Place → List ℕ) (own : List (Option Line)) (at g : ℕ) (need : Need) (l : Layer) (n : Need) (place : Place) (s f : ℕ) (o : Option Line) → IsCache own → victim_of own g ≡ o
    → ((line : Line) → Backs own g line → Less (suc s) f (backed own line) at need false)
    → ((more : ℕ) → Less (s + more) f (with_line own (read_line g (filled_state n) place (words g place))) at need true)
    → Falls words own at need (s + backs o) f (fill_over o (plan.Fill l n g place))
over_falls words own at g need l n place s f None cache is back fill = fill 0
over_falls words own at g need l n place s f (Some line) cache is back fill =
    let v = victim_is own g line is in
    choose (is_owned line.state) refl (record { cache = cache; stands = v.stands; other = v.other }) v.stands
  where
    choose : (x : Bool) → is_owned line.state ≡ x → Backs own g line → occupant own g ≡ Some line → Falls words own at need (s + (if x then 1 else 0)) f (if x then plan.WriteBack (block_address line.tag) else plan.Fill l n g place)
    choose true owned b stands =
        subst (λ (o : Option Line). Less (s + 1) f (restate_own own UnOwned o) at need false) (sym (victim_found own g line cache stands))
        (subst (λ (m : ℕ). Less m f (backed own line) at need false) (sym (plus_one s)) (back line b))
      where
        plus_one : (m : ℕ) → m + 1 ≡ suc m
        plus_one m = omega arith
    choose false owned b stands = fill 0

-- step 2
user_hits : (at e : ℕ) (need : Need) (words : List ℕ) → fault_of e need ≡ None → look_of (Some (read_line at (filled_state need) (user_place e) words)) need ≡ Hit
user_hits at e Read words none =
    let ok = lets e Read (fills e Read none) in
    ap (λ (t : Bool). if not t then Denied else Hit) ok.allowed
user_hits at e Write words none =
    let ok = lets e Write (fills e Write none) in
    hits (read_line at OwnedExclusive (user_place e) words) Write ok.allowed (or_false (is_dirty e) ok.dirty) refl

user_falls : (words : ℕ → Place → List ℕ) (own : List (Option Line)) (at : ℕ) (need : Need) (e : Line) (w : ℕ) (o : Option FaultKind) → IsCache own → found own at ≡ None → found own (entry_address_of at) ≡ Some e → fault_of w need ≡ o
    → Falls words own at need (fill_steps own at) 1 (fault_or o (filling own UserBlock need at (user_place w)))
user_falls words own at need e w (Some kind) cache none is why = tt
user_falls words own at need e w None cache none is why =
    over_falls words own at at need UserBlock need (user_place w) 1 1 (victim_of own at) cache refl
    (λ (line : Line) (b : Backs own at line).
    let after : List (Option Line) = backed own line in
    let there = backed_some own at (entry_address_of at) line e b is in
    let missing : look_of (found after at) need ≡ Miss = ap (λ (o : Option Line). look_of o need) (backed_none own at at line b none) in
    let r : Option Line = found after (entry_address_of (entry_address_of at)) in
    let steps : steps_left after at need ≡ fill_steps after at =
    ap (λ (o : Option Line). steps_by after at o r (look_of (found after at) need)) there.there ∙ ap (λ (k : Looked). steps_by after at (Some there.line) r k) missing in
    let one : fill_steps after at ≡ 1 = ap (λ (m : ℕ). 1 + m) (backed_backs own at line b) in
    let few : fills_left after at need ≡ 1 =
    ap (λ (o : Option Line). fills_by o r (look_of (found after at) need)) there.there ∙ ap (λ (k : Looked). fills_by (Some there.line) r k) missing in
    record {
      fewer = subst (λ (m : ℕ). m < 2) (sym (steps ∙ one)) (omega arith);
      not_more = subst (λ (m : ℕ). m ≤ 1) (sym few) (omega arith);
      fetched = λ (no_fetch : false ≡ true). cc;
    })
    (λ (more : ℕ).
    let fresh : Line = read_line at (filled_state need) (user_place w) (words at (user_place w)) in
    hit_less (1 + more) 1 (with_line own fresh) at need true
    (ap (λ (o : Option Line). look_of o need) (found_same own fresh at cache refl) ∙ user_hits at w need (words at (user_place w)) why) (omega arith) (omega arith))

-- step 3
table_falls : (words : ℕ → Place → List ℕ) (own : List (Option Line)) (at : ℕ) (need : Need) (r : Line) (root : ℕ) (v : Bool) → IsCache own → found own (entry_address_of at) ≡ None → found own (entry_address_of (entry_address_of at)) ≡ Some r
    → Falls words own at need (climb_steps own at 2 (Some r)) 2 (if v then filling own PteBlock Read (entry_address_of at) (table_place root) else plan.Fault fault.Unmapped)
table_falls words own at need r root false cache none is = tt
table_falls words own at need r root true cache none is =
    subst (λ (m : ℕ). Falls words own at need m 2 (filling own PteBlock Read (entry_address_of at) (table_place root))) (three (backs (victim_of own (entry_address_of at))))
    (over_falls words own at (entry_address_of at) need PteBlock Read (table_place root) 3 2 (victim_of own (entry_address_of at)) cache refl
    (λ (line : Line) (b : Backs own (entry_address_of at) line).
    let after : List (Option Line) = backed own line in
    let there = backed_some own (entry_address_of at) (entry_address_of (entry_address_of at)) line r b is in
    let one : backs (victim_of after (entry_address_of at)) ≡ 0 = backed_backs own (entry_address_of at) line b in
    away_less 4 2 after at need (Some there.line) (backed_none own (entry_address_of at) (entry_address_of at) line b none) there.there (omega arith) (omega arith))
    (λ (more : ℕ).
    let fresh : Line = read_line (entry_address_of at) UnOwned (table_place root) (words (entry_address_of at) (table_place root)) in
    found_less (3 + more) 2 (with_line own fresh) at need true (record { line = fresh; there = found_same own fresh (entry_address_of at) cache refl }) (omega arith) (omega arith)))
  where
    three : (m : ℕ) → 3 + m ≡ 2 + (1 + m)
    three m = omega arith

-- step 4
root_falls : (words : ℕ → Place → List ℕ) (own : List (Option Line)) (at : ℕ) (need : Need) (place : Place) → IsCache own → found own (entry_address_of at) ≡ None → found own (entry_address_of (entry_address_of at)) ≡ None
    → Falls words own at need (climb_steps own at 2 None) 3 (filling own RootBlock Read (entry_address_of (entry_address_of at)) place)
root_falls words own at need place cache none none_root =
    let root : ℕ = entry_address_of (entry_address_of at) in
    subst (λ (m : ℕ). Falls words own at need m 3 (filling own RootBlock Read root place)) (five (backs (victim_of own root)))
    (over_falls words own at root need RootBlock Read place 5 3 (victim_of own root) cache refl
    (λ (line : Line) (b : Backs own root line).
    let after : List (Option Line) = backed own line in
    let one : backs (victim_of after root) ≡ 0 = backed_backs own root line b in
    away_less 6 3 after at need None (backed_none own root (entry_address_of at) line b none) (backed_none own root root line b none_root) (omega arith) (omega arith))
    (λ (more : ℕ).
    let fresh : Line = read_line root UnOwned place (words root place) in
    root_less (5 + more) 3 (with_line own fresh) at need true (record { line = fresh; there = found_same own fresh root cache refl }) (omega arith) (omega arith)))
  where
    five : (m : ℕ) → 5 + m ≡ 2 + 2 + (1 + m)
    five m = omega arith

climb_falls : (words : ℕ → Place → List ℕ) (own : List (Option Line)) (at : ℕ) (need : Need) (v : ℕ) (r : Option Line) → IsCache own → found own (entry_address_of at) ≡ None → found own (entry_address_of (entry_address_of at)) ≡ r
    → Falls words own at need (climb_steps own at 2 r) (climb_fills r) (climb own at (where_found r v))
climb_falls words own at need v None cache none is = root_falls words own at need (root_place (entry_address_of (entry_address_of at))) cache none is
climb_falls words own at need v (Some r) cache none is = table_falls words own at need r v (is_valid v) cache none is

-- step 1
claim_as : (own : List (Option Line)) (at : ℕ) (need : Need) (line : Line) → IsCache own → found own at ≡ Some line → Answers line need NeedsClaim → Less 1 1 (with_line own (record line { state = OwnedExclusive })) at need true
claim_as own at Write line cache is (Shares granted dirty exclusive) =
    let fresh : Line = record line { state = OwnedExclusive } in
    hit_less 1 1 (with_line own fresh) at Write true (ap (λ (o : Option Line). look_of o Write) (found_same own fresh at cache (found_tag own at line is)) ∙ hits fresh Write granted dirty refl) (omega arith) (omega arith)
claim_as own at Read line cache is answer = elim answer [ ]

claim_falls : (own : List (Option Line)) (at : ℕ) (need : Need) (o : Option Line) → IsCache own → found own at ≡ o → look_of o need ≡ NeedsClaim → Less 1 1 (restate_own own OwnedExclusive o) at need true
claim_falls own at need None cache is seen = cc
claim_falls own at need (Some line) cache is seen = claim_as own at need line cache is (answers_as line need NeedsClaim seen)

-- a dirty copy that was set: at most a claim is left
soon : (after : List (Option Line)) (at : ℕ) (e r : Option Line) (x : Bool) → steps_by after at e r (if not x then NeedsClaim else Hit) < 2
soon after at e r true = omega arith
soon after at e r false = omega arith

soon_fills : (e r : Option Line) (x : Bool) → fills_by e r (if not x then NeedsClaim else Hit) ≤ 1
soon_fills e r true = omega arith
soon_fills e r false = omega arith

-- a line put where it stands, with a change that keeps its tag
changed_there : (lines : List (Option Line)) (g : ℕ) (change : Line → Line) (line : Line) → found lines g ≡ Some line → (change line).tag ≡ block_of g
    → with_line lines (change line) ≡ changed lines g change
changed_there lines g change line is tag =
    ap (λ (n : ℕ). slice_set lines (index_of lines n) (Some (change line))) tag
    ∙ ap (changed_found lines (index_of lines (block_of g)) change) (sym is)

refresh_as : (own : List (Option Line)) (at : ℕ) (need : Need) (line : Line) → IsCache own → found own at ≡ Some line → Answers line need NeedsDirty → Less 2 1 (with_dirty own at) at need false
refresh_as own at Read line cache is answer = elim answer [ ]
refresh_as own at Write line cache is (Cleans granted clear) =
    let fresh : Line = dirtied line in
    let after : List (Option Line) = with_dirty own at in
    let same : with_line own fresh ≡ after = changed_there own at dirtied line is (found_tag own at line is) in
    let there : found after at ≡ Some fresh = ap (λ (ls : List (Option Line)). found ls at) (sym same) ∙ found_same own fresh at cache (found_tag own at line is) in
    let seen : look_of (found after at) Write ≡ (if not (is_exclusive line.state) then NeedsClaim else Hit) =
    ap (λ (o : Option Line). look_of o Write) there ∙ ap (λ (t : Bool). if not t then Denied else if not (is_exclusive line.state) then NeedsClaim else Hit) granted in
    let e : Option Line = found after (entry_address_of at) in
    let r : Option Line = found after (entry_address_of (entry_address_of at)) in
    record {
      fewer = subst (λ (k : Looked). steps_by after at e r k < 2) (sym seen) (soon after at e r (is_exclusive line.state));
      not_more = subst (λ (k : Looked). fills_by e r k ≤ 1) (sym seen) (soon_fills e r (is_exclusive line.state));
      fetched = λ (no_fetch : false ≡ true). cc;
    }

refresh_falls : (own : List (Option Line)) (at : ℕ) (need : Need) (o : Option Line) → IsCache own → found own at ≡ o → look_of o need ≡ NeedsDirty → Less 2 1 (with_dirty own at) at need false
refresh_falls own at need None cache is seen = cc
refresh_falls own at need (Some line) cache is seen = refresh_as own at need line cache is (answers_as line need NeedsDirty seen)

dirty_falls : (words : ℕ → Place → List ℕ) (own : List (Option Line)) (at : ℕ) (need : Need) (l d : Bool) → Less 2 1 (with_dirty own at) at need false → Falls words own at need 2 1 (if l then plan.Fault fault.Leaving else if d then plan.Refresh else plan.Fault fault.Dirty)
dirty_falls words own at need true d less = tt
dirty_falls words own at need false true less = less
dirty_falls words own at need false false less = tt

falls_by : (words : ℕ → Place → List ℕ) (own : List (Option Line)) (at : ℕ) (need : Need) (w v : ℕ) (e r : Option Line) (k : Looked) → IsCache own → found own (entry_address_of at) ≡ e → found own (entry_address_of (entry_address_of at)) ≡ r → look_of (found own at) need ≡ k
    → Falls words own at need (steps_by own at e r k) (fills_by e r k) (plan_by own at need (where_found e w) (where_found r v) k)
falls_by words own at need w v e r Hit cache he hr seen = tt
falls_by words own at need w v e r Denied cache he hr seen = tt
falls_by words own at need w v e r NeedsClaim cache he hr seen = claim_falls own at need (found own at) cache refl seen
falls_by words own at need w v None r NeedsDirty cache he hr seen = climb_falls words own at need v r cache he hr
falls_by words own at need w v (Some e) r NeedsDirty cache he hr seen = dirty_falls words own at need (is_leaving w) (is_dirty w) (refresh_falls own at need (found own at) cache refl seen)
falls_by words own at need w v None r Miss cache he hr seen = climb_falls words own at need v r cache he hr
falls_by words own at need w v (Some e) r Miss cache he hr seen = user_falls words own at need e w (fault_of w need) cache (not_missed (found own at) need seen) he refl

-- by the entry that was made
less_fetch : (s f : ℕ) (after : List (Option Line)) (at : ℕ) (need : Need) (a e : Entry) → walked.Moved a ≡ walked.Moved e → Less s f after at need (is_fetch a) → Less s f after at need (is_fetch e)
less_fetch s f after at need a e h less = subst (λ (x : Entry). Less s f after at need (is_fetch x)) (some_entry a e h) less
  where
    some_entry : (a e : Entry) → walked.Moved a ≡ walked.Moved e → a ≡ e
    some_entry a e h = cc

less_of : (words : ℕ → Place → List ℕ) (own : List (Option Line)) (b at : ℕ) (need : Need) (s f : ℕ) (p : Plan) (e : Entry) → Falls words own at need s f p → answer_of b at p ≡ walked.Moved e → Less s f (after_own words own at p) at need (is_fetch e)
less_of words own b at need s f plan.Ready e falls h = cc
less_of words own b at need s f (plan.Fault kind) e falls h = cc
less_of words own b at need s f plan.Refresh e falls h = less_fetch s f (with_dirty own at) at need _ e h falls
less_of words own b at need s f plan.Claim e falls h = less_fetch s f (restate_own own OwnedExclusive (found own at)) at need _ e h falls
less_of words own b at need s f (plan.WriteBack g) e falls h = less_fetch s f (restate_own own UnOwned (found own g)) at need _ e h falls
less_of words own b at need s f (plan.Fill l n g place) e falls h = less_fetch s f (with_line own (read_line g (filled_state n) place (words g place))) at need _ e h falls

pub steps-fall : StepsFall
steps-fall caches memory b at need e may within user h =
    let own : List (Option Line) = get_or caches b [] in
    let F : Flat = logical_flat caches memory in
    let words : ℕ → Place → List ℕ = λ (g : ℕ) (place : Place). logical_block caches memory place.frame g in
    let p : Plan = access_plan caches memory b at need in
    let falls = falls_by words own at need (word_of F at) (root_at F at) (found own (entry_address_of at)) (found own (entry_address_of (entry_address_of at))) (look_of (found own at) need) (own_cache caches b may.agree within) refl refl refl in
    let less : Less (steps_left own at need) (fills_left own at need) (get_or (stepped caches memory b at p) b []) at need (is_fetch e) =
    subst (λ (ls : List (Option Line)). Less (steps_left own at need) (fills_left own at need) ls at need (is_fetch e)) (sym (own_after caches memory b at p within))
    (less_of words own b at need (steps_left own at need) (fills_left own at need) p e falls h) in
    record { steps = less.fewer; fills = less.not_more; fetches = less.fetched }

-- towards a page's entry
abbrev PageFalls : (ℕ → Place → List ℕ) → List (Option Line) → ℕ → ℕ → Plan → Type 0
PageFalls words own page s plan.Ready = ⊤
PageFalls words own page s (plan.Fault kind) = ⊤
PageFalls words own page s plan.Refresh = ⊤
PageFalls words own page s plan.Claim = page_steps_left (restate_own own OwnedExclusive (found own (entry_address_of page))) page < s
PageFalls words own page s (plan.WriteBack g) = page_steps_left (restate_own own UnOwned (found own g)) page < s
PageFalls words own page s (plan.Fill l n g place) = page_steps_left (with_line own (read_line g (filled_state n) place (words g place))) page < s

page_over : (words : ℕ → Place → List ℕ) (own : List (Option Line)) (page g : ℕ) (l : Layer) (n : Need) (place : Place) (s : ℕ) (o : Option Line) → IsCache own → victim_of own g ≡ o
    → ((line : Line) → Backs own g line → page_steps_left (backed own line) page < suc s)
    → ((more : ℕ) → page_steps_left (with_line own (read_line g (filled_state n) place (words g place))) page < s + more)
    → PageFalls words own page (s + backs o) (fill_over o (plan.Fill l n g place))
page_over words own page g l n place s None cache is back fill = fill 0
page_over words own page g l n place s (Some line) cache is back fill =
    let v = victim_is own g line is in
    choose (is_owned line.state) (record { cache = cache; stands = v.stands; other = v.other }) v.stands
  where
    choose : (x : Bool) → Backs own g line → occupant own g ≡ Some line → PageFalls words own page (s + (if x then 1 else 0)) (if x then plan.WriteBack (block_address line.tag) else plan.Fill l n g place)
    choose true b stands =
        subst (λ (o : Option Line). page_steps_left (restate_own own UnOwned o) page < s + 1) (sym (victim_found own g line cache stands))
        (subst (λ (m : ℕ). page_steps_left (backed own line) page < m) (sym (plus_one s)) (back line b))
      where
        plus_one : (m : ℕ) → m + 1 ≡ suc m
        plus_one m = omega arith
    choose false b stands = fill 0

page_away : (after : List (Option Line)) (page s : ℕ) (r : Option Line) → found after (entry_address_of page) ≡ None → found after (entry_address_of (entry_address_of page)) ≡ r → climb_steps after page 0 r < s → page_steps_left after page < s
page_away after page s r none is less =
    subst (λ (o : Option Line). page_steps_by after page o (found after (entry_address_of (entry_address_of page))) < s) (sym none)
    (subst (λ (o : Option Line). page_steps_by after page None o < s) (sym is) less)

page_done : (after : List (Option Line)) (page s : ℕ) (line : Line) → found after (entry_address_of page) ≡ Some line → is_exclusive line.state ≡ true → 0 < s → page_steps_left after page < s
page_done after page s line is exclusive some =
    subst (λ (o : Option Line). page_steps_by after page o (found after (entry_address_of (entry_address_of page))) < s) (sym is)
    (subst (λ (x : Bool). (if x then 0 else 1) < s) (sym exclusive) some)

alone_few : (x : Bool) (s : ℕ) → 2 < s → (if x then 0 else 1) < s
alone_few true s less = omega arith
alone_few false s less = omega arith

page_root : (after : List (Option Line)) (page s : ℕ) (e : Option Line) (r : Line) → 2 < s → page_steps_by after page e (Some r) < s
page_root after page s None r less = let b : fill_steps after (entry_address_of page) ≤ 2 = fill_few after (entry_address_of page) in omega arith
page_root after page s (Some e) r less = alone_few (is_exclusive e.state) s less

page_climbs : (words : ℕ → Place → List ℕ) (own : List (Option Line)) (page v : ℕ) (r : Option Line) → IsCache own → found own (entry_address_of page) ≡ None → found own (entry_address_of (entry_address_of page)) ≡ r
    → PageFalls words own page (climb_steps own page 0 r) (page_climb own page (where_found r v))
page_climbs words own page v None cache none is =
    let root : ℕ = entry_address_of (entry_address_of page) in
    let place : Place = root_place root in
    subst (λ (m : ℕ). PageFalls words own page m (filling own RootBlock Read root place)) (three (backs (victim_of own root)))
    (page_over words own page root RootBlock Read place 3 (victim_of own root) cache refl
    (λ (line : Line) (b : Backs own root line).
    let after : List (Option Line) = backed own line in
    let one : backs (victim_of after root) ≡ 0 = backed_backs own root line b in
    page_away after page 4 None (backed_none own root (entry_address_of page) line b none) (backed_none own root root line b is) (omega arith))
    (λ (more : ℕ).
    let fresh : Line = read_line root UnOwned place (words root place) in
    let after : List (Option Line) = with_line own fresh in
    subst (λ (o : Option Line). page_steps_by after page (found after (entry_address_of page)) o < 3 + more) (sym (found_same own fresh root cache refl))
    (page_root after page (3 + more) (found after (entry_address_of page)) fresh (omega arith))))
  where
    three : (m : ℕ) → 3 + m ≡ 0 + 2 + (1 + m)
    three m = omega arith
page_climbs words own page v (Some r) cache none is =
    let at : ℕ = entry_address_of page in
    let place : Place = table_place v in
    subst (λ (m : ℕ). PageFalls words own page m (filling own PteBlock Write at place)) (one_more (backs (victim_of own at)))
    (page_over words own page at PteBlock Write place 1 (victim_of own at) cache refl
    (λ (line : Line) (b : Backs own at line).
    let after : List (Option Line) = backed own line in
    let there = backed_some own at (entry_address_of at) line r b is in
    let one : backs (victim_of after at) ≡ 0 = backed_backs own at line b in
    page_away after page 2 (Some there.line) (backed_none own at at line b none) there.there (omega arith))
    (λ (more : ℕ).
    let fresh : Line = read_line at OwnedExclusive place (words at place) in
    page_done (with_line own fresh) page (1 + more) fresh (found_same own fresh at cache refl) refl (omega arith)))
  where
    one_more : (m : ℕ) → 1 + m ≡ 0 + (1 + m)
    one_more m = omega arith

page_claims : (words : ℕ → Place → List ℕ) (own : List (Option Line)) (page : ℕ) (line : Line) (x : Bool) → IsCache own → found own (entry_address_of page) ≡ Some line → PageFalls words own page (if x then 0 else 1) (if x then plan.Ready else plan.Claim)
page_claims words own page line true cache is = tt
page_claims words own page line false cache is =
    let fresh : Line = record line { state = OwnedExclusive } in
    subst (λ (o : Option Line). page_steps_left (restate_own own OwnedExclusive o) page < 1) (sym is)
    (page_done (with_line own fresh) page 1 fresh (found_same own fresh (entry_address_of page) cache (found_tag own (entry_address_of page) line is)) refl (omega arith))

page_falls : (words : ℕ → Place → List ℕ) (own : List (Option Line)) (page v : ℕ) (e r : Option Line) → IsCache own → found own (entry_address_of page) ≡ e → found own (entry_address_of (entry_address_of page)) ≡ r
    → PageFalls words own page (page_steps_by own page e r) (page_by own page (where_found r v) e)
page_falls words own page v None r cache he hr = page_climbs words own page v r cache he hr
page_falls words own page v (Some line) r cache he hr = page_claims words own page line (is_exclusive line.state) cache he

-- no plan towards a page's entry is a refresh
page_of_plan : (words : ℕ → Place → List ℕ) (own : List (Option Line)) (b page s : ℕ) (p : Plan) (e : Entry) → (p ≡ plan.Refresh → ⊥) → PageFalls words own page s p → answer_of b (entry_address_of page) p ≡ walked.Moved e
    → page_steps_left (after_own words own (entry_address_of page) p) page < s
page_of_plan words own b page s plan.Ready e none falls h = cc
page_of_plan words own b page s (plan.Fault kind) e none falls h = cc
page_of_plan words own b page s plan.Refresh e none falls h = absurd (none refl)
page_of_plan words own b page s plan.Claim e none falls h = falls
page_of_plan words own b page s (plan.WriteBack g) e none falls h = falls
page_of_plan words own b page s (plan.Fill l n g place) e none falls h = falls

no_refresh_over : (o : Option Line) (l : Layer) (n : Need) (g : ℕ) (place : Place) → fill_over o (plan.Fill l n g place) ≡ plan.Refresh → ⊥
no_refresh_over None l n g place h = cc
no_refresh_over (Some line) l n g place h = choose (is_owned line.state) h
  where
    choose : (x : Bool) → (if x then plan.WriteBack (block_address line.tag) else plan.Fill l n g place) ≡ plan.Refresh → ⊥
    choose true h = cc
    choose false h = cc

no_refresh : (own : List (Option Line)) (page : ℕ) (r : Option ℕ) (e : Option Line) → page_by own page r e ≡ plan.Refresh → ⊥
no_refresh own page None None h = no_refresh_over (victim_of own (entry_address_of (entry_address_of page))) RootBlock Read (entry_address_of (entry_address_of page)) (root_place (entry_address_of (entry_address_of page))) h
no_refresh own page (Some root) None h = no_refresh_over (victim_of own (entry_address_of page)) PteBlock Write (entry_address_of page) (table_place root) h
no_refresh own page r (Some line) h = choose (is_exclusive line.state) h
  where
    choose : (x : Bool) → (if x then plan.Ready else plan.Claim) ≡ plan.Refresh → ⊥
    choose true h = cc
    choose false h = cc

pub page-fall : PageStepsFall
page-fall caches memory b page e may within user h =
    let own : List (Option Line) = get_or caches b [] in
    let F : Flat = logical_flat caches memory in
    let words : ℕ → Place → List ℕ = λ (g : ℕ) (place : Place). logical_block caches memory place.frame g in
    let p : Plan = page_plan caches memory b page in
    let r : Option Line = found own (entry_address_of (entry_address_of page)) in
    let falls = page_falls words own page (root_at F page) (found own (entry_address_of page)) r (own_cache caches b may.agree within) refl refl in
    subst (λ (ls : List (Option Line)). page_steps_left ls page < page_steps_left own page) (sym (own_after caches memory b (entry_address_of page) p within))
    (page_of_plan words own b page (page_steps_left own page) p e (no_refresh own page (where_found r (root_at F page)) (found own (entry_address_of page))) falls h)
