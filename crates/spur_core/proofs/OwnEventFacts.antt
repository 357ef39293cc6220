-- An event of one board keeps a good world, and so does an own step.
use Rattle.std.proofs.Common.{◌≡◌, ◌∙◌, ℕ, zero, suc, ◌+◌, ◌<◌, ◌^◌, ◌==◌, Bool, true, false, if◌then◌else◌, ap, sym, refl, subst, List, [], ◌∷◌, ◌++◌, get_or, length, Option, Some, None, arith, inl, inr, ◌⊎◌, append-nil, eq-eqb}
use Rattle.std.specs.Prelude.{slice_get}
use Rattle.std.proofs.Math.ListN.{set}
use Rattle.std.proofs.lemmas.List.{length-map, set-set}
use Rattle.std.proofs.lemmas.Option.{slice_get_within}
use Rattle.spur_addr.specs.Address.{entry_address_of, is_aligned, table_start}
use Rattle.spur_cache.specs.declared.line.Line.{Line}
use Rattle.spur_cache.specs.Lens.{caches}
use Rattle.spur_cache.specs.Lines.{found, word_in}
use Rattle.spur_flat.specs.declared.access.AccessKind.{AccessKind}
use Rattle.spur_flat.specs.declared.access.AccessKind.TheVariants as access
use Rattle.spur_flat.specs.declared.access.FaultKind.{FaultKind}
use Rattle.spur_flat.specs.declared.access.FaultKind.TheVariants as fault
use Rattle.spur_flat.specs.declared.entry.Entry.{Entry}
use Rattle.spur_flat.specs.declared.entry.Entry.TheVariants as entry
use Rattle.spur_flat.specs.declared.flat.Flat.{Flat}
use Rattle.spur_flat.specs.Needed.{open_at}
use Rattle.spur_flat.specs.Pager.{word_of}
use Rattle.spur_flat.specs.Table.{data_word}
use Rattle.spur_cpu.specs.declared.cpu.Want.{Want}
use Rattle.spur_cpu.specs.declared.cpu.Want.TheVariants.{Access, Ended, Local}
use Rattle.spur_cpu.specs.After.{is_done}
use Rattle.spur_cpu.specs.Meaning.{Meaning}
use Rattle.spur_swap.specs.Meaning.{Swap}
use Rattle.spur_walk.specs.declared.looked.Looked.{Looked}
use Rattle.spur_walk.specs.declared.looked.Looked.TheVariants.{Denied, Hit}
use Rattle.spur_walk.specs.declared.step.Walked.TheVariants as walked
use Rattle.spur_walk.specs.Answered.{LeavesBy}
use Rattle.spur_walk.specs.Laws.{IsStanding, done_entry, is_fetch, need_of}
use Rattle.spur_walk.specs.Look.{look_of}
use Rattle.spur_walk.specs.Plan.{plan_by, where_found}
use Rattle.spur_walk.specs.Steps.{answer_of}
use Rattle.spur_walk.specs.Tables.{logical_flat, root_at}
use Rattle.spur_walk.proofs.AnswerFacts.{fault-stands, ready-hit}
use Rattle.spur_walk.proofs.OpenedFacts.{none_open}
use Rattle.spur_pager.specs.declared.store.Store.{Store}
use Rattle.spur_pager.specs.Again.{ShowsSame}
use Rattle.spur_pager.specs.Stand.{Stands}
use Rattle.spur_pager.specs.View.{View}
use Rattle.spur_board.specs.declared.board.Board.{Board}
use Rattle.spur_board.specs.declared.ending.Ending.TheVariants as ending
use Rattle.spur_board.specs.Boards.{Asks, IsSound, done_lines, done_value, ended_at}
use Rattle.spur_board.specs.Own.{ByFault, ByHit, ByItself, FaultEvent, HitEvent, IsOwnFault, LedByEvents, LocalEvent, OwnEvent}
use Rattle.spur_board.proofs.CarryFacts.{event-is-an-instruction}
use Rattle.spur_board.proofs.EventFacts.{event_going, event_kept, event_sound}
use Rattle.spur_core.specs.Approach.{IsOpenFor, answer_in}
use Rattle.spur_core.specs.Boards.{IsLogged, board_lens, is_swapped, view_in}
use Rattle.spur_core.specs.Comes.{BecomesReady, Comes}
use Rattle.spur_core.specs.Good.{IsGood}
use Rattle.spur_core.specs.Own.{EventKeepsGood, OwnStepKeepsGood}
use Rattle.spur_core.specs.Start.{Start}
use Rattle.spur_core.specs.Tally.{IsFrugal}
use Rattle.spur_core.proofs.AskFacts.{user_good}
use Rattle.spur_core.proofs.ComesFacts.{comes_none}
use Rattle.spur_core.proofs.DoneFacts.{align_comes, done_comes, one_comes}
use Rattle.spur_core.proofs.OpenForFacts.{fault_needed, nothing-open}
use Rattle.spur_core.proofs.OutcomeFacts.{ready_word}
use Rattle.spur_core.proofs.OwnLogFacts.{set_back, set_there}
use Rattle.spur_core.proofs.PutFacts.{Instructs, kept_good, put_good, seen_with}
use Rattle.spur_core.proofs.RoundFacts.{nothing_at, one_frugal}
use Rattle.spur_core.proofs.SameFacts.{stands_same}
use Rattle.spur_core.proofs.SoundFacts.{good-boards-are-sound}
use Rattle.spur_core.proofs.TakesFacts.{cache_at, caches_done, caches_stay, completed_unswapped, done_unswapped}
use Rattle.spur_core.proofs.WayFacts.{way_none}

-- an access that is done is no fetch
done_no_fetch : (e : Entry) → is_done e ≡ true → is_fetch e ≡ false
done_no_fetch (entry.Load board at value) h = refl
done_no_fetch (entry.Store board at value) h = refl
done_no_fetch (entry.Tas board at old) h = refl
done_no_fetch e h = absurd cc

-- the one entry, behind none
frugal_behind : (es : List Entry) (e : Entry) → [] ≡ es → is_done e ≡ true → IsFrugal (es ++ e ∷ [])
frugal_behind es e none done = subst (λ (l : List Entry). IsFrugal (l ++ e ∷ [])) none (one_frugal e (done_no_fetch e done))

-- the entry of an access that hits is one of a log, and so is that of a fault of the board's own cache
pub done_logged : (kind : AccessKind) (b at word value : ℕ) → IsLogged b (done_entry kind b at word value)
done_logged access.Load b at word value = record { board = refl; local = tt }
done_logged access.Store b at word value = record { board = refl; local = tt }
done_logged access.Tas b at word value = record { board = refl; local = tt }

pub own_fault_kind : (lines : List (Option Line)) (kind : AccessKind) (at : ℕ) (why : FaultKind) → IsOwnFault lines kind at why → (why ≡ fault.Align) ⊎ (why ≡ fault.Protection)
own_fault_kind lines kind at fault.Align cause = inl refl
own_fault_kind lines kind at fault.Protection cause = inr refl
own_fault_kind lines kind at why cause = absurd cause

-- where the cache denies an access, the answer is the fault of its protection
denied_answers : (own : List (Option Line)) (b at : ℕ) (kind : AccessKind) (e r : Option ℕ) (looked : Looked) → looked ≡ Denied → answer_of b at (plan_by own at (need_of kind) e r looked) ≡ walked.Fault fault.Protection
denied_answers own b at kind e r looked is = ap (λ (l : Looked). answer_of b at (plan_by own at (need_of kind) e r l)) is

module _ {C S : Type 0} (m : Meaning S) (state : C → S) (spare : C → ℕ) where
  -- the swap has ended no board that an event was of
  pub event_unswapped : (x y : Board C) → OwnEvent m state spare x y → is_swapped y.ended ≡ false
  event_unswapped x y (ByItself r) = ap is_swapped r.ran.ended ∙ completed_unswapped (m.wants (m.local (state x.cpu))) x.budget (x.retired + 1)
  event_unswapped x y (ByHit h) = done_unswapped m state spare (record x { cache = done_lines h.kind x.cache h.at h.value; log = y.log }) y (done_value h.kind (word_in (found x.cache h.at) h.at) h.value) h.does.done
  event_unswapped x y (ByFault f) = ap is_swapped f.falls.faulted.ended

  pub event_instructs : (x y : Board C) (logged : List Entry) → IsSound m state spare x → OwnEvent m state spare x y → y.log.entries ≡ x.log.entries ++ logged → Instructs m state spare x y logged
  event_instructs x y logged sound event log = record {
    kept = event_kept m state spare x y event;
    is = event-is-an-instruction m state spare x y event;
    log = log;
    room = (event_sound m state spare x y sound event).room;
    was_on = ap is_swapped (event_going m state spare x y event);
    is_on = event_unswapped x y event;
  }

  -- the board's own number, as the world has it
  asks_as : (x : Board C) (b at value : ℕ) (kind : AccessKind) → x.number ≡ b → Asks m state spare x.number kind at value x → Asks m state spare b kind at value x
  asks_as x b at value kind number asks = record { number = number; going = asks.going; va = asks.va; wants = asks.wants; at_is = asks.at_is }

  module _ {B : Type 0} (meaning : B → Swap) (start : Start S) (store : Store B) where
    -- board x of a good world asks, alone
    record StandsAlone (boards : List (Board C)) (b at : ℕ) (x : Board C) : Type 0 where
      pub stands : Stands start.flat (seen_with m state spare meaning start store boards [] 1)
      pub within : b < length (caches board_lens boards)
      pub user : at < table_start

    stands_alone : (boards : List (Board C)) (b at value : ℕ) (kind : AccessKind) (x : Board C) → IsGood m state spare meaning start store boards → slice_get boards b ≡ Some x → Asks m state spare b kind at value x → StandsAlone boards b at x
    stands_alone boards b at value kind x good there asks = record {
      stands = stands_same start.flat (view_in meaning store boards) (seen_with m state spare meaning start store boards [] 1) (record { caches = refl; memory = refl; shares = record { frames = refl; pages = refl; slots = refl } }) good.stands;
      within = subst (λ (n : ℕ). b < n) (sym (length-map boards (λ (q : Board C). q.cache))) (slice_get_within boards b x there);
      user = subst (λ (n : ℕ). n < table_start) (sym asks.at_is) (user_good m state spare meaning start store boards b asks.va x good there);
    }

    hit_comes : (boards : List (Board C)) (b at value : ℕ) (kind : AccessKind) (x y : Board C) → slice_get boards b ≡ Some x → StandsAlone boards b at x → is_aligned at ≡ true → look_of (found x.cache at) (need_of kind) ≡ Hit
        → y.cache ≡ done_lines kind x.cache at value → (e : Entry) → e ≡ done_entry kind b at (word_in (found x.cache at) at) value
        → Comes b at kind (seen_with m state spare meaning start store boards [] 1) (seen_with m state spare meaning start store (set boards b y) (e ∷ []) 0) (e ∷ []) [] (e ∷ [])
    hit_comes boards b at value kind x y there alone aligned hit cache e e_is =
        let w : View = seen_with m state spare meaning start store boards [] 1 in
        let v : View = seen_with m state spare meaning start store (set boards b y) (e ∷ []) 0 in
        let word : ℕ = word_in (found x.cache at) at in
        let none = way_none b at (need_of kind) w alone.stands.walk in
        let no_steps : [] ≡ none.entries = none.history in
        let hits : look_of (found (get_or w.caches b []) at) (need_of kind) ≡ Hit = ap (λ (ls : List (Option Line)). look_of (found ls at) (need_of kind)) (cache_at boards b x there) ∙ hit in
        let ready : BecomesReady b at kind w w = record {
          entries = [];
          faults = [];
          mid = w;
          comes = comes_none b at kind w;
          way = none;
          ready = (ready-hit (get_or w.caches b []) (logical_flat w.caches w.memory) b at (need_of kind)).1 hits;
          room = omega arith;
          frugal = λ e done. frugal_behind none.entries e no_steps done;
        } in
        let word_is : word ≡ data_word (logical_flat w.caches w.memory) at = ap (λ (ls : List (Option Line)). word_in (found ls at) at) (sym (cache_at boards b x there)) ∙ ready_word b at kind w w alone.within alone.user ready in
        let comes = done_comes b at word value kind w w v (record { rest = start.flat; stands = alone.stands }) alone.within alone.user aligned ready word_is (ap (λ (o : Entry). o ∷ []) e_is) refl
        (caches_done kind boards b at value x y there cache) refl (record { frames = refl; pages = refl; slots = refl }) refl refl in
        subst (λ (z : List Entry × Entry). Comes b at kind w v (z.0 ++ z.1 ∷ []) [] (z.1 ∷ [])) (λ k. (sym no_steps k, sym e_is k)) comes

    pub hit_good : (boards : List (Board C)) (b : ℕ) (x y : Board C) → IsGood m state spare meaning start store boards → slice_get boards b ≡ Some x → HitEvent m state spare x y → IsGood m state spare meaning start store (set boards b y)
    hit_good boards b x y good there h =
        let number : x.number ≡ b = (good.programs.each b x there).number in
        let asks : Asks m state spare b h.kind h.at h.value x = asks_as x b h.at h.value h.kind number h.asks in
        let word : ℕ = word_in (found x.cache h.at) h.at in
        let e : Entry = done_entry h.kind b h.at word h.value in
        let alone = stands_alone boards b h.at h.value h.kind x good there asks in
        let cache : y.cache ≡ done_lines h.kind x.cache h.at h.value = ap (λ (q : Board C). q.cache) h.does.done.stays.is in
        let log : y.log.entries ≡ x.log.entries ++ e ∷ [] = h.does.logged.entries ∙ ap (λ (n : ℕ). x.log.entries ++ done_entry h.kind n h.at word h.value ∷ []) number in
        let sound : IsSound m state spare x = good-boards-are-sound m state spare meaning start store boards b x good there in
        let after : IsSound m state spare y = event_sound m state spare x y sound (ByHit h) in
        put_good m state spare meaning start store boards b h.at h.kind x y e good there (event_instructs x y (e ∷ []) sound (ByHit h) log)
        (hit_comes boards b h.at h.value h.kind x y there alone h.aligned h.hit cache e refl) (done_logged h.kind b h.at word h.value) after.few after.log_room

    -- the fault of a board's own cache
    fault_comes : (boards : List (Board C)) (b at : ℕ) (kind : AccessKind) (why : FaultKind) (x y : Board C) → slice_get boards b ≡ Some x → StandsAlone boards b at x → IsOwnFault x.cache kind at why → y.cache ≡ x.cache
        → Comes b at kind (seen_with m state spare meaning start store boards [] 1) (seen_with m state spare meaning start store (set boards b y) (entry.Fault b why kind at ∷ []) 0)
        (entry.Fault b why kind at ∷ []) [] (entry.Fault b why kind at ∷ [])
    fault_comes boards b at kind fault.Align x y there alone cause cache =
        align_comes b at kind (seen_with m state spare meaning start store boards [] 1) (seen_with m state spare meaning start store (set boards b y) (entry.Fault b fault.Align kind at ∷ []) 0) alone.within alone.user cause refl refl
        (record { caches = caches_stay boards b x y there cache; memory = refl; shares = record { frames = refl; pages = refl; slots = refl } }) refl refl
    fault_comes boards b at kind fault.Protection x y there alone cause cache =
        let w : View = seen_with m state spare meaning start store boards [] 1 in
        let e : Entry = entry.Fault b fault.Protection kind at in
        let v : View = seen_with m state spare meaning start store (set boards b y) (e ∷ []) 0 in
        let n : ℕ = length w.caches in
        let F : Flat = logical_flat w.caches w.memory in
        let own : List (Option Line) = get_or w.caches b [] in
        let small : at < 2 ^ 38 = let user = alone.user in omega arith in
        let denied : look_of (found own at) (need_of kind) ≡ Denied = ap (λ (ls : List (Option Line)). look_of (found ls at) (need_of kind)) (cache_at boards b x there) ∙ cause.1 in
        let answered : answer_in w b at (need_of kind) ≡ walked.Fault fault.Protection =
        denied_answers own b at kind (where_found (found own (entry_address_of at)) (word_of F at)) (where_found (found own (entry_address_of (entry_address_of at))) (root_at F at)) (look_of (found own at) (need_of kind)) denied in
        let standing : IsStanding w.caches w.memory b at = record { walk = alone.stands.walk; present = alone.stands.present; own = alone.within; user = alone.user } in
        let opens : IsOpenFor w.caches b at (need_of kind) (open_at (none_open n) b) = subst (λ (os : List Entry). IsOpenFor w.caches b at (need_of kind) os) (sym (nothing_at n b)) (nothing-open w.caches b at (need_of kind)) in
        let shows : ShowsSame w v = record { caches = caches_stay boards b x y there cache; memory = refl; shares = record { frames = refl; pages = refl; slots = refl } } in
        one_comes b at kind w v e tt refl (eq-eqb b b refl) (record { there = alone.within; small = small; starts = tt }) (fault-stands w.caches w.memory b at kind fault.Protection standing cause.0 answered)
        (fault_needed w.caches w.memory b at kind fault.Protection (none_open n) opens answered)
        (subst (λ (cs : List (List (Option Line))). LeavesBy w.caches cs w.memory e) (sym shows.caches) (record { logical = refl; tags = refl; lines = refl })) refl shows.shares
        (ap (λ (cs : List (List (Option Line))). length cs) shows.caches) refl refl (λ (rest : Flat) (st : Stands rest w). stands_same rest w v shows st) refl refl
    fault_comes boards b at kind why x y there alone cause cache = absurd cause

    pub fault_good : (boards : List (Board C)) (b : ℕ) (x y : Board C) → IsGood m state spare meaning start store boards → slice_get boards b ≡ Some x → FaultEvent m state spare x y → IsGood m state spare meaning start store (set boards b y)
    fault_good boards b x y good there f =
        let number : x.number ≡ b = (good.programs.each b x there).number in
        let asks : Asks m state spare b f.kind f.at f.value x = asks_as x b f.at f.value f.kind number f.asks in
        let e : Entry = entry.Fault b f.why f.kind f.at in
        let alone = stands_alone boards b f.at f.value f.kind x good there asks in
        let cache : y.cache ≡ x.cache = ap (λ (q : Board C). q.cache) f.falls.faulted.stays.is in
        let log : y.log.entries ≡ x.log.entries ++ e ∷ [] = f.falls.logged.entries ∙ ap (λ (n : ℕ). x.log.entries ++ entry.Fault n f.why f.kind f.at ∷ []) number in
        let sound : IsSound m state spare x = good-boards-are-sound m state spare meaning start store boards b x good there in
        let after : IsSound m state spare y = event_sound m state spare x y sound (ByFault f) in
        put_good m state spare meaning start store boards b f.at f.kind x y e good there (event_instructs x y (e ∷ []) sound (ByFault f) log)
        (fault_comes boards b f.at f.kind f.why x y there alone f.cause cache) (record { board = refl; local = own_fault_kind x.cache f.kind f.at f.why f.cause }) after.few after.log_room

    pub local_good : (boards : List (Board C)) (b : ℕ) (x y : Board C) → IsGood m state spare meaning start store boards → slice_get boards b ≡ Some x → LocalEvent m state spare x y → IsGood m state spare meaning start store (set boards b y)
    local_good boards b x y good there r =
        let is = r.ran.stays.is in
        let log : y.log ≡ x.log = ap (λ (q : Board C). q.log) is in
        let sound : IsSound m state spare x = good-boards-are-sound m state spare meaning start store boards b x good there in
        kept_good m state spare meaning start store boards b x y good there (event_instructs x y [] sound (ByItself r) (ap (λ l. l.entries) log ∙ sym (append-nil x.log.entries))) log (ap (λ (q : Board C). q.cache) is)

    pub event_good : (boards : List (Board C)) (b : ℕ) (x y : Board C) → IsGood m state spare meaning start store boards → slice_get boards b ≡ Some x → OwnEvent m state spare x y → IsGood m state spare meaning start store (set boards b y)
    event_good boards b x y good there (ByItself r) = local_good boards b x y good there r
    event_good boards b x y good there (ByHit h) = hit_good boards b x y good there h
    event_good boards b x y good there (ByFault f) = fault_good boards b x y good there f

    pub events_good : (n : ℕ) (boards : List (Board C)) (b : ℕ) (x y : Board C) → IsGood m state spare meaning start store boards → slice_get boards b ≡ Some x → LedByEvents m state spare n x y → IsGood m state spare meaning start store (set boards b y)
    events_good zero boards b x y good there is = subst (IsGood m state spare meaning start store) (sym (ap (set boards b) is ∙ set_back boards b x there)) good
    events_good (suc n) boards b x y good there r =
        let z : Board C = r.0 in
        let mid = events_good n boards b x z good there r.1.before in
        subst (IsGood m state spare meaning start store) (set-set boards b z y) (event_good (set boards b z) b z y mid (set_there boards b x z there) r.1.event)

  pub event-keeps-good : {B : Type 0} (meaning : B → Swap) → EventKeepsGood m state spare meaning
  event-keeps-good meaning start store boards i x y good there event = event_good meaning start store boards i x y good there event

  pub own-step-keeps-good : {B : Type 0} (meaning : B → Swap) → OwnStepKeepsGood m state spare meaning
  own-step-keeps-good meaning start store boards i x y good there step = events_good meaning start store step.count boards i x y good there step.follows
