-- The state stands again after steps of the walk.
use Rattle.std.proofs.Common.{◌≡◌, ◌∙◌, ℕ, ◌<◌, ◌≤◌, ◌&&◌, not, false, ap, sym, subst, List, length, Option, Some, arith}
use Rattle.spur_addr.specs.Address.{page_address, user_pages}
use Rattle.spur_addr.specs.PageEntry.{is_leaving, is_valid}
use Rattle.spur_cache.specs.declared.line.Line.{Line}
use Rattle.spur_flat.specs.declared.flat.Flat.{Flat}
use Rattle.spur_flat.specs.Pager.{word_of}
use Rattle.spur_flat.specs.Validity.{IsValidFlat}
use Rattle.spur_bus.specs.Logical.{logical_words}
use Rattle.spur_frames.specs.Frames.{Frames}
use Rattle.spur_walk.specs.Plan.{access_plan}
use Rattle.spur_walk.specs.Present.{ArePresent, MayWalk}
use Rattle.spur_walk.specs.Steps.{stepped}
use Rattle.spur_walk.specs.Tables.{logical_flat}
use Rattle.spur_walk.proofs.BroughtFacts.{step-brings}
use Rattle.spur_walk.proofs.StepFacts.{same_flat}
use Rattle.spur_pager.specs.View.{View}
use Rattle.spur_pager.specs.Stand.{AreFramed, Stands, entry_in, flat_in, standing_flat, with_told}
use Rattle.spur_flat.specs.Clean.{AreClean}
use Rattle.spur_pager.specs.Room.{page_line_count}
use Rattle.spur_pager.specs.Again.{SharesSame, StandsSame, SameHasStepped, SameStandsAgain, StepHasStepped, StepStandsAgain, StepsAddUp, StepsStandAgain}
use Rattle.spur_pager.proofs.FewFacts.{leaving-lines-stay-few}

pub step-has-stepped : StepHasStepped
step-has-stepped w v b at need may within user s shares = record {
  walk = s.walk;
  logical = s.logical;
  present = s.present;
  boards = s.count;
  shares = shares;
  leaving = λ (page : ℕ) (small : page < user_pages) (gone : (is_valid (entry_in w page) && not (is_leaving (entry_in w page))) ≡ false).
      let after : List (List (Option Line)) = stepped w.caches w.memory b at (access_plan w.caches w.memory b at need) in
      subst (λ (cs : List (List (Option Line))). page_line_count cs page ≤ page_line_count w.caches page) (sym s.caches)
      (leaving-lines-stay-few w.caches after w.memory page small (step-brings w.caches w.memory b at need may within user) gone);
}

same_most : (n : ℕ) → n ≤ n
same_most n = omega arith

pub same-has-stepped : SameHasStepped
same-has-stepped w v may same = record {
  walk = subst (λ (cs : List (List (Option Line))). MayWalk cs v.memory) (sym same.caches) (subst (λ (ws : List ℕ). MayWalk w.caches ws) (sym same.memory) may);
  logical = ap (λ (cs : List (List (Option Line))). logical_words cs v.memory) same.caches ∙ ap (logical_words w.caches) same.memory;
  present = λ (p : ArePresent (flat_in w) w.caches). subst (λ (cs : List (List (Option Line))). ArePresent (logical_flat cs v.memory) cs) (sym same.caches)
      (subst (λ (ws : List ℕ). ArePresent (logical_flat w.caches ws) w.caches) (sym same.memory) p);
  boards = ap (λ (cs : List (List (Option Line))). length cs) same.caches;
  shares = same.shares;
  leaving = λ (page : ℕ) (small : page < user_pages) (gone : (is_valid (entry_in w page) && not (is_leaving (entry_in w page))) ≡ false).
      subst (λ (cs : List (List (Option Line))). page_line_count cs page ≤ page_line_count w.caches page) (sym same.caches) (same_most (page_line_count w.caches page));
}

pub steps-add-up : StepsAddUp
steps-add-up u w v one two = record {
  walk = two.walk;
  logical = two.logical ∙ one.logical;
  present = λ (p : ArePresent (flat_in u) u.caches). two.present (one.present p);
  boards = two.boards ∙ one.boards;
  shares = record {
    frames = two.shares.frames ∙ one.shares.frames;
    pages = two.shares.pages ∙ one.shares.pages;
    slots = two.shares.slots ∙ one.shares.slots;
  };
  leaving = λ (page : ℕ) (small : page < user_pages) (gone : (is_valid (entry_in u page) && not (is_leaving (entry_in u page))) ≡ false).
      let same : entry_in w page ≡ entry_in u page = ap (λ (F : Flat). word_of F (page_address page)) (same_flat u.caches w.caches u.memory w.memory one.logical) in
      let still : (is_valid (entry_in w page) && not (is_leaving (entry_in w page))) ≡ false = ap (λ (e : ℕ). is_valid e && not (is_leaving e)) same ∙ gone in
      let first : page_line_count w.caches page ≤ page_line_count u.caches page = one.leaving page small gone in
      let second : page_line_count v.caches page ≤ page_line_count w.caches page = two.leaving page small still in
      omega arith;
}

-- the flat state that stands, by told pages and logical words
pub standing_as : (rest : Flat) (w v : View) (words : List ℕ) → v.pages ≡ w.pages → logical_words v.caches v.memory ≡ words → standing_flat rest v ≡ record (with_told rest w.pages) { words = words }
standing_as rest w v words pages logical =
    ap (λ (ws : List ℕ). record (with_told rest v.pages) { words = ws }) logical ∙ ap (λ (p : Option (List ℕ)). record (with_told rest p) { words = words }) pages

-- what steps leave, and what is shared, are all that is asked
stands_by : (rest : Flat) (w v : View) → Stands rest w → MayWalk v.caches v.memory → logical_words v.caches v.memory ≡ logical_words w.caches w.memory
    → (ArePresent (flat_in w) w.caches → ArePresent (flat_in v) v.caches) → SharesSame w v → StandsSame rest w v
stands_by rest w v st walk logical present shares =
    let flat : standing_flat rest v ≡ standing_flat rest w = standing_as rest w v (logical_words w.caches w.memory) shares.pages logical in
    record {
      stands = record {
        walk = walk;
        valid = subst IsValidFlat (sym flat) st.valid;
        present = present st.present;
        framed = subst (λ (F : Flat). AreFramed F v.frames) (sym flat) (subst (λ (f : Frames). AreFramed (standing_flat rest w) f) (sym shares.frames) st.framed);
        slots = shares.slots ∙ st.slots;
        clean = λ (words : List ℕ) (told : v.pages ≡ Some words). subst AreClean (sym flat) (st.clean words (sym shares.pages ∙ told));
      };
      flat = flat;
    }

pub steps-stand-again : StepsStandAgain
steps-stand-again rest w v st s = stands_by rest w v st s.walk s.logical s.present s.shares

pub step-stands-again : StepStandsAgain
step-stands-again rest w v b g plan st s shares = stands_by rest w v st s.walk s.logical s.present shares

pub same-stands-again : SameStandsAgain
same-stands-again rest w v st same = steps-stand-again rest w v st (same-has-stepped w v st.walk same)
