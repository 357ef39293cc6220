-- One event of a board: what it leaves of the board, and what it completes.
use Rattle.std.proofs.Common.{◌≡◌, ◌∙◌, ℕ, ◌+◌, ◌<◌, ◌≤◌, ap, sym, subst, List, [], ◌∷◌, length, Some, None, arith, append-nil}
use Rattle.std.proofs.lemmas.List.{length-append}
use Rattle.spur_cache.specs.Lines.{IsCache}
use Rattle.spur_flat.specs.declared.access.FaultKind.{FaultKind}
use Rattle.spur_flat.specs.declared.entry.Entry.{Entry}
use Rattle.spur_bus.specs.Calls.{cache_tags}
use Rattle.spur_cpu.specs.Meaning.{Meaning}
use Rattle.spur_board.specs.declared.board.Board.{Board}
use Rattle.spur_board.specs.declared.ending.Ending.TheVariants as ending
use Rattle.spur_board.specs.Boards.{HasLogged, IsSound, Stays, done_lines, ended_at}
use Rattle.spur_board.specs.Own.{ByFault, ByHit, ByItself, OwnEvent}
use Rattle.spur_board.specs.OwnLaws.{IsKept}
use Rattle.spur_board.proofs.DoneLines.{done_cache, tags_done}
use Rattle.spur_board.proofs.EndingFacts.{goes_left, goes_on, never_faulted, some_none}

module _ {C S : Type 0} (m : Meaning S) (state : C → S) (spare : C → ℕ) where
  -- after a completed instruction
  completed_sound : (mid new : Board C) (s : S) → Stays m state spare mid new → state new.cpu ≡ s → new.retired ≡ mid.retired + 1 → new.ended ≡ ended_at (m.wants s) mid.budget (mid.retired + 1) → mid.retired < mid.budget
      → IsCache mid.cache → length mid.log.entries ≤ 1024 → 1024 ≤ length mid.log.entries + mid.log.room → IsSound m state spare new
  completed_sound mid new s stays cpu retired ended left cache few room =
      let is = stays.is in
      let log : new.log ≡ mid.log = ap (λ (b : Board C). b.log) is in
      let budget : new.budget ≡ mid.budget = ap (λ (b : Board C). b.budget) is in
      record {
        few = subst (λ l. length l.entries ≤ 1024) (sym log) few;
        log_room = subst (λ l. 1024 ≤ length l.entries + l.room) (sym log) room;
        room = stays.room;
        lines = subst IsCache (sym (ap (λ (b : Board C). b.cache) is)) cache;
        most = omega arith;
        left = λ none. (let n = goes_left (m.wants s) mid.budget (mid.retired + 1) (sym ended ∙ none) in omega arith);
        running = λ none q. goes_on (m.wants s) mid.budget (mid.retired + 1) (sym ended ∙ none) (sym (ap m.wants cpu) ∙ q);
      }

  -- after one more entry
  logged_few : (old new : Board C) (e : Entry) → length old.log.entries < 1024 → HasLogged old e new → length new.log.entries ≤ 1024
  logged_few old new e left logged =
      let long : length new.log.entries ≡ length old.log.entries + 1 = ap (λ (es : List Entry). length es) logged.entries ∙ length-append old.log.entries (e ∷ []) in
      omega arith

  logged_room : (old new : Board C) (e : Entry) → 1024 ≤ length old.log.entries + old.log.room → HasLogged old e new → 1024 ≤ length new.log.entries + new.log.room
  logged_room old new e room logged =
      let long : length new.log.entries ≡ length old.log.entries + 1 = ap (λ (es : List Entry). length es) logged.entries ∙ length-append old.log.entries (e ∷ []) in
      let less = logged.room in
      omega arith

  pub event_sound : (old new : Board C) → IsSound m state spare old → OwnEvent m state spare old new → IsSound m state spare new
  event_sound old new sound (ByItself r) =
      completed_sound old new (m.local (state old.cpu)) r.ran.stays r.ran.cpu r.ran.retired r.ran.ended r.going.left sound.lines sound.few sound.log_room
  event_sound old new sound (ByHit h) =
      let mid : Board C = record old { cache = done_lines h.kind old.cache h.at h.value; log = new.log } in
      completed_sound mid new (m.answer (state old.cpu) _) h.does.done.stays h.does.done.cpu h.does.done.retired h.does.done.ended h.asks.going.left (done_cache h.kind old.cache h.at h.value sound.lines)
      (logged_few old new _ h.left h.does.logged) (logged_room old new _ sound.log_room h.does.logged)
  event_sound old new sound (ByFault f) =
      let is = f.falls.faulted.stays.is in
      let budget : new.budget ≡ old.budget = ap (λ (b : Board C). b.budget) is in
      let retired : new.retired ≡ old.retired = f.falls.faulted.retired in
      let most = sound.most in
      record {
        few = logged_few old new _ f.left f.falls.logged;
        log_room = logged_room old new _ sound.log_room f.falls.logged;
        room = f.falls.faulted.stays.room;
        lines = subst IsCache (sym (ap (λ (b : Board C). b.cache) is)) sound.lines;
        most = omega arith;
        left = λ none. absurd (some_none (sym f.falls.faulted.ended ∙ none));
        running = λ none q. absurd (some_none (sym f.falls.faulted.ended ∙ none));
      }

  -- how many instructions an event completes
  pub event_retired : (old new : Board C) → OwnEvent m state spare old new → new.ended ≡ None → new.retired ≡ old.retired + 1
  event_retired old new (ByItself r) none = r.ran.retired
  event_retired old new (ByHit h) none = h.does.done.retired
  event_retired old new (ByFault f) none = absurd (some_none (sym f.falls.faulted.ended ∙ none))

  pub event_most : (old new : Board C) → OwnEvent m state spare old new → new.retired ≤ old.retired + 1
  event_most old new (ByItself r) = let e : new.retired ≡ old.retired + 1 = r.ran.retired in omega arith
  event_most old new (ByHit h) = let e : new.retired ≡ old.retired + 1 = h.does.done.retired in omega arith
  event_most old new (ByFault f) = let e : new.retired ≡ old.retired = f.falls.faulted.retired in omega arith

  pub event_going : (old new : Board C) → OwnEvent m state spare old new → old.ended ≡ None
  event_going old new (ByItself r) = r.going.not_ended
  event_going old new (ByHit h) = h.asks.going.not_ended
  event_going old new (ByFault f) = f.asks.going.not_ended

  pub event_kept : (old new : Board C) → OwnEvent m state spare old new → IsKept m state spare old new
  event_kept old new (ByItself r) =
      let is = r.ran.stays.is in
      record {
        number = ap (λ (b : Board C). b.number) is;
        segs = ap (λ (b : Board C). b.segs) is;
        budget = ap (λ (b : Board C). b.budget) is;
        tags = ap (λ (b : Board C). cache_tags b.cache) is;
        more = [];
        log = ap (λ (b : Board C). b.log.entries) is ∙ sym (append-nil old.log.entries);
      }
  event_kept old new (ByHit h) =
      let is = h.does.done.stays.is in
      record {
        number = ap (λ (b : Board C). b.number) is;
        segs = ap (λ (b : Board C). b.segs) is;
        budget = ap (λ (b : Board C). b.budget) is;
        tags = ap (λ (b : Board C). cache_tags b.cache) is ∙ tags_done h.kind old.cache h.at h.value;
        more = _;
        log = h.does.logged.entries;
      }
  event_kept old new (ByFault f) =
      let is = f.falls.faulted.stays.is in
      record {
        number = ap (λ (b : Board C). b.number) is;
        segs = ap (λ (b : Board C). b.segs) is;
        budget = ap (λ (b : Board C). b.budget) is;
        tags = ap (λ (b : Board C). cache_tags b.cache) is;
        more = _;
        log = f.falls.logged.entries;
      }

  pub event_falls : (old new : Board C) (kind : FaultKind) (at : ℕ) → OwnEvent m state spare old new → new.ended ≡ Some (ending.Faulted kind at) → new.retired ≡ old.retired
  event_falls old new kind at (ByItself r) is = absurd (never_faulted (m.wants (m.local (state old.cpu))) old.budget (old.retired + 1) kind at (sym r.ran.ended ∙ is))
  event_falls old new kind at (ByHit h) is = absurd (never_faulted (m.wants (m.answer (state old.cpu) _)) old.budget (old.retired + 1) kind at (sym h.does.done.ended ∙ is))
  event_falls old new kind at (ByFault f) is = f.falls.faulted.retired
