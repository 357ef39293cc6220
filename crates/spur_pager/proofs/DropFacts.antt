-- A block of a leaving page was dropped from a cache.
use Rattle.std.proofs.Common.{◌≡◌, ◌∙◌, ℕ, ◌+◌, ◌<◌, ◌&&◌, ap, sym, refl, subst, List, [], ◌∷◌, ◌++◌, length, Option, Some, None}
use Rattle.spur_addr.specs.Address.{block_start_of}
use Rattle.spur_addr.specs.PageEntry.{is_leaving, is_valid}
use Rattle.spur_cache.specs.declared.line.Line.{Line}
use Rattle.spur_flat.specs.declared.flat.Flat.{Flat}
use Rattle.spur_flat.specs.declared.entry.Entry.{Entry}
use Rattle.spur_flat.specs.declared.entry.Entry.TheVariants.{BlockFlush}
use Rattle.spur_flat.specs.Pager.{word_of}
use Rattle.spur_flat.specs.State.{IsCarried, State, beside_on, nothing_beside}
use Rattle.spur_snoop.specs.Protocol.{is_alive}
use Rattle.spur_flat.specs.TagRules.{tags_refusal}
use Rattle.spur_flat.specs.Untold.{IsCarriedUntold}
use Rattle.spur_flat.specs.Validity.{IsValidFlat}
use Rattle.spur_bus.specs.Boards.{dropped, dropped_lines, line_in, line_of_block}
use Rattle.spur_bus.specs.Logical.{logical_words}
use Rattle.spur_bus.specs.Agrees.{Agrees, AgreesWithMemory}
use Rattle.spur_bus.specs.Calls.{HasLine, MovesTags, flushed, line_count, tags_of}
use Rattle.spur_bus.specs.Stand.{Moves, state_of}
use Rattle.spur_bus.proofs.AllowFacts.{flush-tagged}
use Rattle.spur_bus.proofs.DropFacts.{stood}
use Rattle.spur_bus.proofs.EachFacts.{length-each}
use Rattle.spur_bus.proofs.StandFacts.{bus-carried, bus-untold}
use Rattle.spur_frames.specs.Frames.{Frames}
use Rattle.spur_walk.specs.Present.{ArePresent, MayWalk}
use Rattle.spur_walk.specs.Tables.{HasTables, StandsIn, logical_flat}
use Rattle.spur_walk.proofs.StepFacts.{present_all, same_flat, suits_all}
use Rattle.spur_pager.specs.View.{View}
use Rattle.spur_pager.specs.Stand.{AreFramed, Stands, flat_in, standing_flat, standing_state, with_told}
use Rattle.spur_flat.specs.Clean.{AreClean}
use Rattle.spur_flat.specs.Formed.{IsMade}
use Rattle.spur_pager.specs.Served.{Keeps}
use Rattle.spur_pager.specs.Served as served
use Rattle.spur_pager.specs.Drops.{DropsBlock, IsLeavingBlock}
use Rattle.spur_walk.proofs.OpenedFacts.{none_open}
use Rattle.spur_pager.proofs.MadeFacts.{flush_made}
use Rattle.spur_pager.proofs.OpenFacts.{none_same}

-- what the call of the bus gave
pub record IsDropped (holder g : ℕ) (w v : View) (e : Entry) : Type 0 where
  pub caches : v.caches ≡ dropped w.caches holder g
  pub memory : v.memory ≡ flushed w.memory g (line_of_block w.caches holder g)
  pub agree : Agrees v.caches
  pub serves : AgreesWithMemory v.caches v.memory
  pub logical : logical_words v.caches v.memory ≡ logical_words w.caches w.memory
  pub lines : line_count v.caches ≡ line_count w.caches
  pub size : length v.memory ≡ length w.memory
  pub tags : MovesTags w.caches v.caches e
  pub frames : v.frames ≡ w.frames
  pub pages : v.pages ≡ w.pages
  pub slots : v.slots ≡ w.slots
  pub ahead : v.ahead ≡ w.ahead

module _ (b holder g : ℕ) (w v : View) (own : b < length w.caches) (within : holder < length w.caches) (there : HasLine w.caches holder g is_alive) (leaving : IsLeavingBlock w g) (d : IsDropped holder g w v (BlockFlush b holder (block_start_of g))) where
  made : IsMade b (length w.caches) (BlockFlush b holder (block_start_of g))
  made = flush_made b holder (length w.caches) g own within leaving.user

  boards : length v.caches ≡ length w.caches
  boards = ap (λ (cs : List (List (Option Line))). length cs) d.caches ∙ length-each (dropped_lines holder g) 0 w.caches

  keeps : Keeps w v
  keeps = record { boards = boards; lines = d.lines; memory = d.size; slots = d.slots; tells = ap served.tells d.pages; ahead = d.ahead }

  flat_same : (rest : Flat) → standing_flat rest v ≡ standing_flat rest w
  flat_same rest =
      ap (λ (p : Option (List ℕ)). record (with_told rest p) { words = logical_words v.caches v.memory }) d.pages
      ∙ ap (λ (ws : List ℕ). record (with_told rest w.pages) { words = ws }) d.logical

  from_before : (i s : ℕ) (l : Line) → line_in v.caches i s ≡ Some l → line_in w.caches i s ≡ Some l
  from_before i s l h = stood w.caches holder g i s l (ap (λ (cs : List (List (Option Line))). line_in cs i s) (sym d.caches) ∙ h)

  same : logical_flat v.caches v.memory ≡ logical_flat w.caches w.memory
  same = same_flat w.caches v.caches w.memory v.memory d.logical

  walk_again : MayWalk w.caches w.memory → MayWalk v.caches v.memory
  walk_again walk = record {
    agree = d.agree;
    serves = d.serves;
    tables = subst HasTables (sym same) walk.tables;
    mapped = λ (i s : ℕ) (l : Line) (h : line_in v.caches i s ≡ Some l). subst (λ (G : Flat). StandsIn G l.tag l.frame) (sym same) (walk.mapped i s l (from_before i s l h));
  }

  stands : (rest : Flat) → Stands rest w → Stands rest v
  stands rest st = record {
    walk = walk_again st.walk;
    valid = subst IsValidFlat (sym (flat_same rest)) st.valid;
    present = subst (λ (G : Flat). ArePresent G v.caches) (sym same)
        (present_all (flat_in w) v.caches (λ (i s : ℕ) (l : Line) (h : line_in v.caches i s ≡ Some l). suits_all (flat_in w) w.caches i s l st.present (from_before i s l h)));
    framed = subst (λ (fs : Frames). AreFramed (standing_flat rest v) fs) (sym d.frames) (subst (λ (G : Flat). AreFramed G w.frames) (sym (flat_same rest)) st.framed);
    slots = d.slots ∙ st.slots;
    clean = λ (words : List ℕ) (is : v.pages ≡ Some words). subst AreClean (sym (flat_same rest)) (st.clean words (sym d.pages ∙ is));
  }

  state_is : (rest : Flat) → state_of (with_told rest w.pages) v.caches v.memory (beside_on (nothing_beside (length w.caches)) (BlockFlush b holder (block_start_of g))) ≡ standing_state rest v
  state_is rest =
      ap (λ (os : List (List Entry)). state_of (with_told rest w.pages) v.caches v.memory (record { opened = os })) (none_same (length w.caches) b ∙ ap none_open (sym boards))
      ∙ ap (λ (p : Option (List ℕ)). state_of (with_told rest p) v.caches v.memory (nothing_beside (length v.caches))) (sym d.pages)

  moves : (F : Flat) → Moves F w.caches v.caches w.memory v.memory (BlockFlush b holder (block_start_of g))
  moves F = record { logical = d.logical; lines = d.lines; tags = d.tags F }

  tagged : (F : Flat) → word_of F (block_start_of g) ≡ word_of (flat_in w) (block_start_of g) → tags_refusal F (tags_of w.caches) (BlockFlush b holder (block_start_of g)) ≡ None
  tagged F is = flush-tagged F w.caches b holder g within there (ap (λ (e : ℕ). is_valid e && is_leaving e) is ∙ leaving.leaving)

  pub drops : (history : v.history ≡ w.history ++ BlockFlush b holder (block_start_of g) ∷ []) → v.room + 1 ≡ w.room → DropsBlock b holder g w v
  drops history room = record {
    history = history;
    room = room;
    made = made;
    caches = d.caches;
    memory = d.memory;
    logical = d.logical;
    keeps = keeps;
    carries = λ (rest : Flat) (st : Stands rest w). record {
      carried = record {
        told = λ (words : List ℕ) (is : w.pages ≡ Some words). subst (λ (S : State). IsCarried (standing_state rest w) S (BlockFlush b holder (block_start_of g) ∷ [])) (state_is rest)
            (bus-carried (with_told rest w.pages) w.caches v.caches w.memory v.memory (nothing_beside (length w.caches)) (BlockFlush b holder (block_start_of g)) tt (moves (standing_flat rest w)) (tagged (standing_flat rest w) refl) refl);
        untold = subst (λ (S : State). IsCarriedUntold (standing_state rest w) S (BlockFlush b holder (block_start_of g) ∷ [])) (state_is rest)
            (bus-untold (with_told rest w.pages) w.caches v.caches w.memory v.memory (nothing_beside (length w.caches)) (BlockFlush b holder (block_start_of g)) tt
            made.small st.valid (moves (standing_flat rest w)) (tagged (standing_flat rest w) refl) refl);
      };
      stands = stands rest st;
    };
  }
