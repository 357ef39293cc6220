-- Steps towards the entry of a page, one after another.
use Rattle.std.proofs.Common.{◌≡◌, ◌∙◌, ℕ, ◌+◌, ◌<◌, ◌≤◌, true, ap, sym, refl, subst, List, [], ◌∷◌, ◌++◌, get_or, length, Option, Some, None, arith, add-zero}
use Rattle.std.specs.List.{AllByRecursion}
use Rattle.std.proofs.lemmas.List.{append-nil, append_assoc}
use Rattle.spur_addr.specs.Address.{block_start_of, entry_address_of, table_start}
use Rattle.spur_addr.specs.PageEntry.{is_valid}
use Rattle.spur_cache.specs.declared.line.Line.{Line}
use Rattle.spur_flat.specs.declared.flat.Flat.{Flat}
use Rattle.spur_flat.specs.declared.tag.Tag.{Tag}
use Rattle.spur_flat.specs.declared.access.FaultKind.{FaultKind}
use Rattle.spur_flat.specs.declared.entry.Entry.{Entry}
use Rattle.spur_flat.specs.declared.entry.Entry.TheVariants as entry
use Rattle.spur_flat.specs.Blocks.{entry_block, pager_blocks}
use Rattle.spur_flat.specs.History.{flat_after}
use Rattle.spur_flat.specs.State.{tags_after}
use Rattle.spur_flat.specs.TagLines.{tags_on}
use Rattle.spur_flat.specs.TagRules.{tags_refusal}
use Rattle.spur_flat.proofs.PieceFacts.{tagged-append, tags_after-append}
use Rattle.spur_bus.specs.Boards.{line_in}
use Rattle.spur_bus.specs.Logical.{logical_words}
use Rattle.spur_bus.specs.Calls.{line_count, tags_of}
use Rattle.spur_bus.proofs.StandFacts.{on_same}
use Rattle.spur_walk.specs.declared.plan.Plan.{Plan}
use Rattle.spur_walk.specs.declared.plan.Plan.TheVariants as plan
use Rattle.spur_walk.specs.declared.step.Walked.{Walked}
use Rattle.spur_walk.specs.declared.step.Walked.TheVariants as walked
use Rattle.spur_walk.specs.Bounds.{page_steps_left}
use Rattle.spur_walk.specs.Laws.{IsServing}
use Rattle.spur_walk.specs.Plan.{page_plan}
use Rattle.spur_walk.specs.Present.{ArePresent, MayWalk}
use Rattle.spur_walk.specs.Steps.{Steps, answer_of, stepped, stepped_memory, tags_walked, walked_refusal}
use Rattle.spur_walk.specs.Tables.{HasTablesOf, block_address, logical_flat, root_at}
use Rattle.spur_walk.proofs.FallFacts.{page-fall}
use Rattle.spur_walk.proofs.ServeFacts.{page-served}
use Rattle.spur_flat.specs.Past.{Past}
use Rattle.spur_pager.specs.Acts.{Hold, IsWay, Stays, Goes}
use Rattle.spur_flat.specs.Formed.{IsMade}
use Rattle.spur_pager.specs.Fetch.{Fetches, Leads, Went}
use Rattle.spur_walk.proofs.MadeFacts.{page-made}
use Rattle.spur_pager.proofs.UserFacts.{user_was}
use Rattle.spur_walk.proofs.OpenedFacts.{all-push, small_length}

-- entries of the bus leave each flat state
pub flat_same : (F : Flat) (b lines : ℕ) (blocks : List ℕ) (owned : Option ℕ) (es : List Entry) → AllByRecursion (IsServing b lines blocks owned) es → flat_after F es ≡ F
flat_same F b lines blocks owned [] all = refl
flat_same F b lines blocks owned (e ∷ es) all = ap (λ (G : Flat). flat_after G es) (on_same F e all.0.bus) ∙ flat_same F b lines blocks owned es all.1

-- no step yet
pub leads_none : (b g : ℕ) (h : Hold) → MayWalk h.caches h.memory → Leads b g h [] h
leads_none b g h walk = record {
  walk = walk;
  logical = refl;
  present = λ (p : ArePresent (logical_flat h.caches h.memory) h.caches). p;
  user = λ (i s : ℕ) (line : Line) (there : line_in h.caches i s ≡ Some line) (low : block_address line.tag < table_start). record { slot = s; line = line; there = there; tag_is = refl };
  boards = refl;
  lines = refl;
  size = refl;
  serving = tt;
  made = tt;
  few = omega arith;
  tagged = λ (F : Flat) (has : HasTablesOf F (logical_words h.caches h.memory)). tt;
  tags = λ (F : Flat) (has : HasTablesOf F (logical_words h.caches h.memory)). refl;
}

pub went_none : (b g : ℕ) (h : Hold) (past : Past) → MayWalk h.caches h.memory → Went b g h past h past
went_none b g h past walk = record {
  fetched = [];
  way = Stays;
  leads = leads_none b g h walk;
  entries = sym (append-nil past.entries);
  room = add-zero past.room;
}

-- one step more
leads_more : (b g : ℕ) (from mid to : Hold) (fetched : List Entry) (e : Entry) → Leads b g from fetched mid → b < length mid.caches → g < table_start
    → is_valid (root_at (logical_flat mid.caches mid.memory) g) ≡ true
    → Steps mid.caches mid.memory b (entry_address_of g) (page_plan mid.caches mid.memory b g) to.caches to.memory
    → answer_of b (entry_address_of g) (page_plan mid.caches mid.memory b g) ≡ walked.Moved e → Leads b g from (fetched ++ e ∷ []) to
leads_more b g from mid to fetched e leads within user root steps moved =
    let p : Plan = page_plan mid.caches mid.memory b g in
    let serves = page-served mid.caches mid.memory b g e leads.walk within user root moved in
    let falls = page-fall mid.caches mid.memory b g e leads.walk within user moved in
    let own : get_or (stepped mid.caches mid.memory b (entry_address_of g) p) b [] ≡ get_or to.caches b [] = ap (λ (cs : List (List (Option Line))). get_or cs b []) (sym steps.caches) in
    let less : page_steps_left (get_or to.caches b []) g < page_steps_left (get_or mid.caches b []) g =
    subst (λ (ls : List (Option Line)). page_steps_left ls g < page_steps_left (get_or mid.caches b []) g) own falls in
    let few : length fetched + page_steps_left (get_or mid.caches b []) g ≤ page_steps_left (get_or from.caches b []) g = leads.few in
    let long : length (fetched ++ e ∷ []) ≡ length fetched + 1 = small_length fetched e in
    let has_mid : (F : Flat) → HasTablesOf F (logical_words from.caches from.memory) → HasTablesOf F (logical_words mid.caches mid.memory) =
    λ (F : Flat) (has : HasTablesOf F (logical_words from.caches from.memory)). subst (λ (ws : List ℕ). HasTablesOf F ws) (sym leads.logical) has in
    record {
      walk = steps.walk;
      logical = steps.logical ∙ leads.logical;
      present = λ (p : ArePresent (logical_flat from.caches from.memory) from.caches). steps.present (leads.present p);
      user = λ (i s : ℕ) (line : Line) (there : line_in to.caches i s ≡ Some line) (low : block_address line.tag < table_start).
          let one = user_was mid.caches to.caches mid.memory b g i s line leads.walk.agree within steps.caches low there in
          let was = leads.user i one.slot one.line one.there (subst (λ (n : ℕ). block_address n < table_start) (sym one.tag_is) low) in
          record { slot = was.slot; line = was.line; there = was.there; tag_is = was.tag_is ∙ one.tag_is };
      boards = steps.count ∙ leads.boards;
      lines = steps.lines ∙ leads.lines;
      size = steps.size ∙ leads.size;
      serving = all-push (IsServing b (line_count from.caches) (pager_blocks g) (Some (entry_block g))) fetched e leads.serving
          (subst (λ (n : ℕ). IsServing b n (pager_blocks g) (Some (entry_block g)) e) leads.lines serves);
      made = all-push (IsMade b (length from.caches)) fetched e leads.made
          (subst (λ (n : ℕ). IsMade b n e) leads.boards (page-made mid.caches mid.memory b g e leads.walk.agree within user moved));
      few = omega arith;
      tagged = λ (F : Flat) (has : HasTablesOf F (logical_words from.caches from.memory)).
          let still : flat_after F fetched ≡ F = flat_same F b (line_count from.caches) (pager_blocks g) (Some (entry_block g)) fetched leads.serving in
          let one : tags_refusal F (tags_of mid.caches) e ≡ None = ap (λ (w : Walked). walked_refusal F (tags_of mid.caches) w) (sym moved) ∙ steps.tagged F (has_mid F has) in
          let here : tags_refusal (flat_after F fetched) (tags_after F (tags_of from.caches) fetched) e ≡ None =
          ap (λ (G : Flat). tags_refusal G (tags_after F (tags_of from.caches) fetched) e) still ∙ ap (λ (t : List (List (Option Tag))). tags_refusal F t e) (leads.tags F has) ∙ one in
          (tagged-append F (tags_of from.caches) fetched (e ∷ [])).1 (leads.tagged F has, (here, tt));
      tags = λ (F : Flat) (has : HasTablesOf F (logical_words from.caches from.memory)).
          let still : flat_after F fetched ≡ F = flat_same F b (line_count from.caches) (pager_blocks g) (Some (entry_block g)) fetched leads.serving in
          tags_after-append F (tags_of from.caches) fetched (e ∷ [])
          ∙ ap (λ (G : Flat). tags_on G (tags_after F (tags_of from.caches) fetched) e) still
          ∙ ap (λ (t : List (List (Option Tag))). tags_on F t e) (leads.tags F has)
          ∙ ap (λ (w : Walked). tags_walked F (tags_of mid.caches) w) (sym moved)
          ∙ sym (steps.tags F (has_mid F has));
    }

pub hold_same : (h k : Hold) → h.caches ≡ k.caches → h.memory ≡ k.memory → h ≡ k
hold_same h k caches memory = ap (λ (cs : List (List (Option Line))). record { caches = cs; memory = h.memory }) caches ∙ ap (λ (ws : List ℕ). record { caches = k.caches; memory = ws }) memory

pub went_more : (b g : ℕ) (from mid to : Hold) (before past after : Past) (e : Entry) → Went b g from before mid past → b < length mid.caches → g < table_start
    → is_valid (root_at (logical_flat mid.caches mid.memory) g) ≡ true
    → Steps mid.caches mid.memory b (entry_address_of g) (page_plan mid.caches mid.memory b g) to.caches to.memory
    → to.memory ≡ stepped_memory mid.caches mid.memory b (page_plan mid.caches mid.memory b g)
    → answer_of b (entry_address_of g) (page_plan mid.caches mid.memory b g) ≡ walked.Moved e → after.entries ≡ past.entries ++ e ∷ [] → after.room + 1 ≡ past.room → Went b g from before to after
went_more b g from mid to before past after e went within user root steps memory moved entries room =
    let long : length (went.fetched ++ e ∷ []) ≡ length went.fetched + 1 = small_length went.fetched e in
    let left : past.room + length went.fetched ≡ before.room = went.room in
    record {
      fetched = went.fetched ++ e ∷ [];
      way = subst (λ (h : Hold). IsWay b g from (went.fetched ++ e ∷ []) h)
          (sym (hold_same to (record { caches = stepped mid.caches mid.memory b (entry_address_of g) (page_plan mid.caches mid.memory b g); memory = stepped_memory mid.caches mid.memory b (page_plan mid.caches mid.memory b g) }) steps.caches memory))
          (Goes went.fetched mid e went.way moved);
      leads = leads_more b g from mid to went.fetched e went.leads within user root steps moved;
      entries = entries ∙ ap (λ (es : List Entry). es ++ e ∷ []) went.entries ∙ append_assoc before.entries went.fetched (e ∷ []);
      room = omega arith;
    }

-- with each step fewer are left
pub smaller : (caches after : List (List (Option Line))) (memory : List ℕ) (b g : ℕ) (e : Entry) → MayWalk caches memory → b < length caches → g < table_start
    → answer_of b (entry_address_of g) (page_plan caches memory b g) ≡ walked.Moved e → after ≡ stepped caches memory b (entry_address_of g) (page_plan caches memory b g)
    → page_steps_left (get_or after b []) g < page_steps_left (get_or caches b []) g
smaller caches after memory b g e walk within user moved is =
    subst (λ (cs : List (List (Option Line))). page_steps_left (get_or cs b []) g < page_steps_left (get_or caches b []) g) (sym is) (page-fall caches memory b g e walk within user moved)

-- a plan that is neither a step nor a fault
pub ready_left : (b g : ℕ) (p : Plan) → ((kind : FaultKind) → answer_of b g p ≡ walked.Fault kind → ⊥) → ((e : Entry) → answer_of b g p ≡ walked.Moved e → ⊥) → p ≡ plan.Ready
ready_left b g plan.Ready no_fault no_step = refl
ready_left b g (plan.Fault kind) no_fault no_step = absurd (no_fault kind refl)
ready_left b g plan.Refresh no_fault no_step = absurd (no_step (entry.Refresh b (block_start_of g)) refl)
ready_left b g plan.Claim no_fault no_step = absurd (no_step (entry.Claim b (block_start_of g)) refl)
ready_left b g (plan.WriteBack at) no_fault no_step = absurd (no_step (entry.WriteBack b (block_start_of at)) refl)
ready_left b g (plan.Fill layer need at place) no_fault no_step = absurd (no_step (entry.Fill b layer need (block_start_of at)) refl)

pub fetched_all : (b g : ℕ) (from mid to : Hold) (before past : Past) → Went b g from before mid past → page_plan mid.caches mid.memory b g ≡ plan.Ready → to.caches ≡ mid.caches → to.memory ≡ mid.memory → Fetches b g from before to past
fetched_all b g from mid to before past went ready caches memory =
    subst (λ (h : Hold). Fetches b g from before h past) (sym (hold_same to (record { caches = mid.caches; memory = mid.memory }) caches memory))
    (record { fetched = went.fetched; fetch = record { way = went.way; ready = ready }; leads = went.leads; entries = went.entries; room = went.room })
