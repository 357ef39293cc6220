-- A world begins good.
use Rattle.std.proofs.Common.{◌≡◌, ◌≢◌, ◌∙◌, ℕ, suc, ◌+◌, ◌*◌, ◌/◌, ◌%◌, ◌^◌, ◌<◌, ◌≤◌, Bool, if◌then◌else◌, ap, sym, refl, subst, List, [], ◌∷◌, ◌++◌, get_or, length, map, replicate, Option, Some, None, arith, append-nil, ⊎_elim}
use Rattle.std.specs.Prelude.{filter, option_map, slice_get, slice_index}
use Rattle.std.specs.List.{AllByRecursion}
use Rattle.std.proofs.lemmas.Bool.{cases_lt}
use Rattle.std.proofs.lemmas.List.{get_or_past, length-map, length-replicate}
use Rattle.std.proofs.lemmas.List.Elements.{All-get_or}
use Rattle.std.proofs.lemmas.Option.{slice_get-get_or, slice_get-map, slice_get_within}
use Rattle.spur_addr.specs.Address.{global_of, table_start}
use Rattle.spur_frames.specs.Frames.{AreFrames, new_frames}
use Rattle.spur_flat.specs.declared.flat.Flat.{Flat}
use Rattle.spur_flat.specs.declared.entry.Entry.{Entry}
use Rattle.spur_flat.specs.Formed.{IsFormed}
use Rattle.spur_flat.specs.State.{State, opening_state}
use Rattle.spur_flat.specs.Untold.{LeadsUntold}
use Rattle.spur_cpu.specs.declared.cpu.Want.TheVariants.{Ended}
use Rattle.spur_cpu.specs.After.{Course, after, begun}
use Rattle.spur_cpu.specs.Meaning.{IsLawful, Meaning}
use Rattle.spur_loader.specs.declared.opening.Opening.{Opening}
use Rattle.spur_loader.specs.Readings.{AreRegisters}
use Rattle.spur_loader.proofs.ListFacts.{all_get}
use Rattle.spur_swap.specs.Meaning.{SameButFaults, Swap}
use Rattle.spur_pager.specs.declared.store.Store.{Store}
use Rattle.spur_pager.specs.Opening.{IsNewMachine, OpensAs}
use Rattle.spur_pager.specs.View.{View}
use Rattle.spur_pager.proofs.OpeningFacts.{opening-stands}
use Rattle.spur_board.specs.declared.board.Board.{Board}
use Rattle.spur_board.specs.declared.ending.Ending.{Ending}
use Rattle.spur_board.specs.declared.ending.Ending.TheVariants as ending
use Rattle.spur_board.specs.Boards.{IsNew, course_ending, course_now}
use Rattle.spur_core.specs.declared.world.Beginning.{Beginning}
use Rattle.spur_core.specs.Begin.{AreNewBoards, IsBeginning, IsNewStore, KeepsBeginning}
use Rattle.spur_core.specs.Boards.{IsLogged, LogsAreEmpty, is_swapped, swap_count, view_in, whole}
use Rattle.spur_core.specs.Filled.{filled_with, told_as}
use Rattle.spur_core.specs.Good.{HasLed, IsGood}
use Rattle.spur_core.specs.Programs.{FollowPrograms}
use Rattle.spur_core.specs.Start.{Start}
use Rattle.spur_core.specs.World.{start_of}
use Rattle.spur_core.proofs.GoodFacts.{empty_joined}

-- a segment register below the page table's leads to no table
low_register : (reg va : ℕ) → reg < 255 → reg * 2 ^ 30 + va % 2 ^ 30 < table_start
low_register reg va low = omega arith

-- and so do all of a board's
low_registers : (segs : List ℕ) (va : ℕ) → AreRegisters segs → global_of segs va < table_start
low_registers segs va are = low_register (slice_index segs (va / 2 ^ 30)) va (⊎_elim
    (λ (within : va / 2 ^ 30 < length segs). All-get_or (λ seg. seg < 255) segs (va / 2 ^ 30) 0 within are.below)
    (λ (past : length segs ≤ va / 2 ^ 30). subst (λ (n : ℕ). n < 255) (sym (get_or_past segs (va / 2 ^ 30) 0 past)) (omega arith))
    (cases_lt (va / 2 ^ 30) (length segs)))

-- the pages that are told are the opening's
told_is : (before : Option (List ℕ)) (swap words : List ℕ) → told_as before swap ≡ Some words → words ≡ swap
told_is None swap words e = absurd cc
told_is (Some had) swap words e = cc

caches_new : {C : Type 0} (boards : List (Board C)) (lines : ℕ) → ((i : ℕ) (b : Board C) → slice_get boards i ≡ Some b → b.cache ≡ replicate lines None) → map (λ b. b.cache) boards ≡ replicate (length boards) (replicate lines None)
caches_new [] lines h = refl
caches_new (b ∷ bs) lines h = let one = h 0 b refl in let rest = caches_new bs lines (λ i c e. h (suc i) c e) in λ k. one k ∷ rest k

new_are_frames : (first count : ℕ) → 1 ≤ count → first + count ≤ 4096 → AreFrames (new_frames first count)
new_are_frames first count some few = let long : length (replicate {A = Option (ℕ × ℕ)} count None) ≡ count = length-replicate count None in record { some = omega arith; few = omega arith; hand = omega arith; leaving = tt }

none_swapped : {C : Type 0} (bs : List (Board C)) → ((i : ℕ) (b : Board C) → slice_get bs i ≡ Some b → b.ended ≡ None) → swap_count bs ≡ 0
none_swapped [] h = refl
none_swapped {C} (b ∷ bs) h =
    ap (λ (t : Bool). length (if t then b ∷ filter (λ (c : Board C). is_swapped c.ended) bs else filter (λ (c : Board C). is_swapped c.ended) bs)) (ap is_swapped (h 0 b refl))
    ∙ none_swapped bs (λ i c e. h (suc i) c e)

-- nothing has led to an opening
nothing_led : (F : Flat) (boards lines : ℕ) (w : View) → OpensAs boards lines F w → length F.swap ≡ 1024 * length F.pages → HasLed (opening_state boards lines F) w []
nothing_led F boards lines w o swap = record {
  told = λ words is. record { follows = tt; leads = sym o.state };
  untold = subst (λ (S : State). LeadsUntold F (opening_state boards lines F) S []) (sym o.state)
      (record { legal = tt; tagged = tt; needed = tt; like = record { pages = refl; tables = refl; frames = refl; words = refl; table = refl; swap = swap }; tags = refl; opened = refl; lines = refl });
}

-- a board that is new, with its first processor and its registers
record IsNewAt {C : Type 0} (opening : Opening) (cpus : List C) (i : ℕ) (b : Board C) : Type 0 where
  cpu : slice_get cpus i ≡ Some b.cpu
  segs : slice_get opening.segs i ≡ Some b.segs
  new : IsNew i b.cpu b.segs opening.options.lines opening.options.budget b

new_at : {C : Type 0} (opening : Opening) (cpus : List C) (boards : List (Board C)) → length cpus ≡ length opening.segs → AreNewBoards opening.segs opening.options.lines opening.options.budget cpus boards
    → (i : ℕ) (b : Board C) → slice_get boards i ≡ Some b → IsNewAt opening cpus i b
new_at {C} opening cpus boards same new i b there =
    let within = slice_get_within boards i b there in
    let count = new.count in
    let cpu : slice_get cpus i ≡ Some (get_or cpus i b.cpu) = slice_get-get_or cpus i b.cpu (omega arith) in
    let segs : slice_get opening.segs i ≡ Some (get_or opening.segs i []) = slice_get-get_or opening.segs i [] (omega arith) in
    let n = new.each i (get_or opening.segs i []) (get_or cpus i b.cpu) b segs cpu there in
    record {
      cpu = cpu ∙ ap (λ (x : C). Some x) (sym n.cpu);
      segs = segs ∙ ap (λ (x : List ℕ). Some x) (sym n.segs);
      new = subst (λ (z : C × List ℕ). IsNew i z.0 z.1 opening.options.lines opening.options.budget b) (λ k. (sym n.cpu k, sym n.segs k)) n;
    }

module _ {C S : Type 0} (m : Meaning S) (state : C → S) (spare : C → ℕ) where
  -- what a beginning says
  firsts_of : {B : Type 0} (meaning : B → Swap) (opening : Opening) (cpus : List C) (backing : B) → Start S
  firsts_of meaning opening cpus backing = record { flat = opening.flat; segs = opening.segs; options = opening.options; firsts = map state cpus; faults = (meaning backing).faults }

  pub logs_empty : (opening : Opening) (cpus : List C) (boards : List (Board C)) → length cpus ≡ length opening.segs → AreNewBoards opening.segs opening.options.lines opening.options.budget cpus boards → LogsAreEmpty boards
  logs_empty opening cpus boards same new = record { each = λ i b e. (new_at opening cpus boards same new i b e).new.log }

  some_same : {x y : S} → ◌≡◌ {A = Option S} (Some x) (Some y) → x ≡ y
  some_same h = cc

  going : ◌≡◌ {A = Option Ending} None (Some ending.SwapFault) → ⊥
  going h = absurd cc

  new_good : {B : Type 0} (meaning : B → Swap) (opening : Opening) (cpus : List C) (store : Store B) (boards : List (Board C)) (before : Swap) → IsLawful m → IsBeginning m state spare opening cpus
      → IsNewStore opening store → AreNewBoards opening.segs opening.options.lines opening.options.budget cpus boards → SameButFaults (filled_with before (length opening.flat.pages) opening.flat.swap) (meaning store.backing)
      → IsGood m state spare meaning (firsts_of meaning opening cpus store.backing) store boards
  unfolding firsts_of
  new_good {B} meaning opening cpus store boards before lawful asked is new filled =
      let F : Flat = opening.flat in
      let lines : ℕ = opening.options.lines in
      let begins = asked.begins in
      let same : length cpus ≡ length opening.segs = asked.count in
      let count : length boards ≡ length cpus = new.count in
      let at : (i : ℕ) (b : Board C) → slice_get boards i ≡ Some b → IsNewAt opening cpus i b = new_at opening cpus boards same new in
      let w : View = view_in meaning store boards in
      let some = begins.boards.some_boards in
      let few = begins.boards.few_boards in
      let some_frames = begins.options.some_frames in
      let frames = begins.frames in
      let sized : length boards ≡ length opening.segs = count ∙ same in
      let machine : IsNewMachine (length opening.segs) lines F w = record {
        empty = record {
          some = some;
          few = few;
          count = begins.options.lines;
          valid = begins.valid;
          caches = caches_new boards lines (λ i b e. (at i b e).new.cache) ∙ ap (λ (n : ℕ). replicate n (replicate lines None)) sized;
          memory = is.memory;
          slots = ap (λ (s : Swap). s.slots) filled;
          told = λ words e. told_is before.pages F.swap words (sym (ap (λ (s : Swap). s.pages) filled) ∙ e);
        };
        absent = begins.absent;
        frames = is.frames;
      } in
      let opens : OpensAs (length opening.segs) lines F w = opening-stands (length opening.segs) lines F w machine in
      let empty : LogsAreEmpty boards = logs_empty opening cpus boards same new in
      let none : whole store boards ≡ [] = ap (λ (es : List Entry). store.history.entries ++ es) (empty_joined boards empty) ∙ append-nil store.history.entries ∙ is.history in
      let unswapped : swap_count boards ≡ 0 = none_swapped boards (λ i b e. (at i b e).new.ended) in
      record {
        history = subst (HasLed (opening_state (length opening.segs) lines F) w) (sym none) (nothing_led F (length opening.segs) lines w opens begins.valid.swap);
        formed = subst (AllByRecursion (IsFormed (length boards))) (sym none) tt;
        stands = opens.stands;
        table = subst AreFrames (sym is.frames) (new_are_frames (64 + F.tables) F.frames (omega arith) begins.valid.few_frames);
        logs = record {
          each = λ i b e. let n = (at i b e).new in
              let long : length b.log.entries ≡ 0 = ap (λ (es : List Entry). length es) n.log in
              let room = n.log_room in
              record { few = omega arith; room = omega arith; entries = subst (AllByRecursion (IsLogged i)) (sym n.log) tt };
        };
        programs = subst (λ (h : List Entry). FollowPrograms m state spare (firsts_of meaning opening cpus store.backing) h boards) (sym none) (record {
          each = λ i b e.
              let a = at i b e in
              let n = a.new in
              let retired = n.retired in
              let budget = n.budget in
              let room = all_get (λ (cpu : C). opening.options.budget ≤ spare cpu) cpus i b.cpu asked.room a.cpu in
              record {
                number = n.number;
                segs = a.segs;
                budget = n.budget;
                room = omega arith;
                led = λ first there.
                    let cpu : state b.cpu ≡ first = some_same (sym (slice_get-map state cpus i ∙ ap (option_map state) a.cpu) ∙ there) in
                    let course : begun first ≡ course_now m state b = λ k. record { cpu = sym cpu k; retired = sym n.retired k; ending = sym (ap course_ending n.ended) k } in
                    ap (after m b.segs b.budget (begun first) []) n.retired ∙ ap (λ (d : Course S). Some d) course;
                swapped = λ h. absurd (going (sym n.ended ∙ h));
              };
        });
        swaps = omega arith;
        begins = record {
          valid = begins.valid;
          firsts = length-map cpus state ∙ sym count;
          segs = sym sized;
          low = λ i va segs there. low_registers segs va (all_get AreRegisters opening.segs i segs begins.registers there);
          budget = begins.options.some_budget;
          wants = λ i first there. first_wants i first there (slice_get cpus i) refl;
          lawful = lawful;
        };
        settings = record { ahead = is.ahead };
      }
    where
      first_wants : (i : ℕ) (first : S) → slice_get (map state cpus) i ≡ Some first → (o : Option C) → slice_get cpus i ≡ o → m.wants first ≢ Ended
      first_wants i first there None is_none = absurd (let no : ◌≡◌ {A = Option S} None (Some first) = sym (slice_get-map state cpus i ∙ ap (option_map state) is_none) ∙ there in cc)
      first_wants i first there (Some cpu) is_some =
          let same_first : state cpu ≡ first = some_same (sym (slice_get-map state cpus i ∙ ap (option_map state) is_some) ∙ there) in
          subst (λ (s : S). m.wants s ≢ Ended) same_first (all_get (λ (c : C). m.wants (state c) ≢ Ended) cpus i cpu asked.running is_some)

  -- the world that is made is good
  pub begun_good : {B : Type 0} (meaning : B → Swap) (beginning : Beginning C B) (opening : Opening) (cpus : List C) (store : Store B) (boards : List (Board C)) (before : Swap) → IsLawful m → IsBeginning m state spare opening cpus
      → KeepsBeginning opening cpus store.backing beginning → IsNewStore opening store → AreNewBoards opening.segs opening.options.lines opening.options.budget cpus boards
      → SameButFaults (filled_with before (length opening.flat.pages) opening.flat.swap) (meaning store.backing) → IsGood m state spare meaning (start_of state meaning beginning) store boards
  unfolding firsts_of
  begun_good {B} meaning beginning opening cpus store boards before lawful asked keeps is new filled =
      let same : start_of state meaning beginning ≡ firsts_of meaning opening cpus store.backing =
      λ k. record { flat = (keeps.opening k).flat; segs = (keeps.opening k).segs; options = (keeps.opening k).options; firsts = map state (keeps.cpus k); faults = (meaning (keeps.backing k)).faults } in
      subst (λ (s : Start S). IsGood m state spare meaning s store boards) (sym same) (new_good meaning opening cpus store boards before lawful asked is new filled)
