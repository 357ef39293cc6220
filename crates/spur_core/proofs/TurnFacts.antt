-- A turn on the bus: a merge, and an access where a board wants one.
use Rattle.std.proofs.Common.{◌≡◌, ◌∙◌, ℕ, ◌+◌, ◌<◌, ◌≤◌, inl, inr, false, ap, sym, refl, subst, List, [], ◌∷◌, ◌++◌, drop, length, map, Option, Some, None, arith, append-nil}
use Rattle.std.specs.Prelude.{IsSome, slice_get}
use Rattle.std.specs.List.{AllByRecursion}
use Rattle.std.proofs.Math.ListN.{set}
use Rattle.std.proofs.lemmas.List.{append_assoc, length-map}
use Rattle.std.proofs.lemmas.Option.{slice_get-map}
use Rattle.spur_flat.specs.declared.access.FaultKind.{FaultKind}
use Rattle.spur_flat.specs.declared.entry.Entry.{Entry}
use Rattle.spur_flat.specs.Blocks.{board_of}
use Rattle.spur_flat.specs.Formed.{IsMade}
use Rattle.spur_flat.specs.History.{own_entries}
use Rattle.spur_flat.proofs.HistoryFacts.{own_entries-append}
use Rattle.spur_commute.proofs.LogFacts.{all_append}
use Rattle.spur_pager.specs.Served.{appended}
use Rattle.spur_pager.specs.Stand.{IsServable}
use Rattle.spur_cpu.specs.Meaning.{Meaning, WantsAccess}
use Rattle.spur_swap.specs.Meaning.{Swap}
use Rattle.spur_pager.specs.declared.store.Store.{Store}
use Rattle.spur_pager.specs.View.{View}
use Rattle.spur_board.specs.declared.board.Board.{Board}
use Rattle.spur_board.specs.declared.ending.Ending.{Ending}
use Rattle.spur_board.specs.declared.ending.Ending.TheVariants as ending
use Rattle.spur_core.specs.declared.world.World.{World}
use Rattle.spur_core.specs.Boards.{emptied, view_in, whole}
use Rattle.spur_core.specs.Comes.{IsOfTurn}
use Rattle.spur_core.specs.Programs.{EndsInSwap}
use Rattle.spur_core.specs.Step.{EndsWithAnswer, HasNone, OwnIsLast, IsStepped, Runner, TakesInstruction, runner_of, runners_of}
use Rattle.spur_core.specs.Quiet.{IsQuiet}
use Rattle.spur_core.specs.Takes.{OnlyItsLines}
use Rattle.spur_core.specs.Tally.{IsFrugal, access_fetches, fault_count}
use Rattle.spur_core.specs.Turn.{GoesOnOrEnds, GrowsByTurn, HasActed, Idles, IsIdle, IsIdleAt, IsWanting, IsWantingAt, MergesAhead, OthersStay, StepsAhead, SwapEndsByFailing, TakesIt, TurnsAhead, behind_logs}
use Rattle.spur_core.specs.World.{IsMerged}
use Rattle.spur_core.proofs.AskFacts.{some_at}
use Rattle.spur_core.proofs.ComesFacts.{all_of_turn, made_board, made_own}
use Rattle.spur_core.proofs.QuietFacts.{ahead_entries}
use Rattle.spur_core.proofs.ReadyFacts.{ahead_same, frugal_ahead, ready_of}
use Rattle.spur_core.proofs.SameFacts.{got_map}
use Rattle.spur_core.proofs.StepFacts.{stepped_of}
use Rattle.spur_core.proofs.TakesFacts.{one_at}

drop_front : {X : Type 0} (xs ys : List X) → drop (length xs) (xs ++ ys) ≡ ys
drop_front [] ys = refl
drop_front (x ∷ xs) ys = drop_front xs ys

-- a board of an emptied list
there_emptied : {C : Type 0} (bs : List (Board C)) (b : ℕ) (x : Board C) → slice_get bs b ≡ Some x → slice_get (map emptied bs) b ≡ Some (emptied x)
there_emptied {C} bs b x there = slice_get-map emptied bs b ∙ ap (map_option) there
  where
    map_option : Option (Board C) → Option (Board C)
    map_option None = None
    map_option (Some x) = Some (emptied x)

none_last : (fs : List Entry) (e : Entry) → [] ≡ fs ++ e ∷ [] → ⊥
none_last [] e is = cc
none_last (f ∷ fs) e is = cc

-- the entries of a turn by which a page leaves, before its first fault
turns_ahead : {C B : Type 0} (meaning : B → Swap) (b : ℕ) (old first mid new : World C B) (more : List Entry) (n : ℕ) → IsMerged old first → (s : StepsAhead meaning b first mid)
    → AllByRecursion (IsMade b n) (appended (view_in meaning first.store first.boards.items) (view_in meaning mid.store mid.boards.items)) → IsQuiet more → (meaning mid.store.backing).faults ≤ (meaning new.store.backing).faults
    → TurnsAhead meaning b old new (appended (view_in meaning first.store first.boards.items) (view_in meaning mid.store mid.boards.items) ++ more)
turns_ahead {C} {B} meaning b old first mid new more n merged s made quiet later =
    let w : View = view_in meaning first.store first.boards.items in
    let same : (meaning first.store.backing).faults ≡ (meaning old.store.backing).faults = ap (λ (t : Store B). (meaning t.backing).faults) merged.store in
    let after : (meaning mid.store.backing).faults ≤ (meaning new.store.backing).faults = later in
    record {
      written = s.does.written;
      rose = λ (h : s.does.written ≡ false). let r : (meaning first.store.backing).faults < (meaning mid.store.backing).faults = s.does.rose h in (let q : (meaning old.store.backing).faults < (meaning new.store.backing).faults = omega arith in q);
      is = ahead_entries b n w (view_in meaning mid.store mid.boards.items) more s.does made quiet ∙ ahead_same meaning b old first s.does.written merged;
    }

module _ {C S : Type 0} (m : Meaning S) (state : C → S) (spare : C → ℕ) where
  -- what a turn leaves
  pub record IsTurned {B : Type 0} (meaning : B → Swap) (b : ℕ) (old new : World C B) : Type 0 where
    pub entries : List Entry
    pub history : new.store.history.entries ≡ whole old.store old.boards.items ++ entries
    pub turns : AllByRecursion (IsOfTurn b (length old.boards.items)) entries
    pub others : OthersStay b old.boards.items new.boards.items
    pub idle : IsIdleAt m state old.boards.items b → MergesAhead meaning b old new
    pub moved : GoesOnOrEnds m state b old.boards.items new.boards.items
    pub stepped : IsWantingAt m state old.boards.items b → IsStepped m state b (whole old.store old.boards.items) new.store.history.entries old.boards.items new.boards.items
    pub frugal : IsFrugal entries
    pub rose : (x y : Board C) → slice_get old.boards.items b ≡ Some x → slice_get new.boards.items b ≡ Some y → x.ended ≡ None → y.ended ≡ Some ending.SwapFault
        → (meaning old.store.backing).faults < (meaning new.store.backing).faults
    pub last : (x y : Board C) → slice_get old.boards.items b ≡ Some x → slice_get new.boards.items b ≡ Some y → x.ended ≡ None → y.ended ≡ Some ending.SwapFault → EndsInSwap m state spare y (own_entries entries b)
    pub ahead : TurnsAhead meaning b old new entries

  -- no board is idle that wants something
  clash : (o : Option Ending) → o ≡ None → IsSome o → ⊥
  clash None h k = cc
  clash (Some e) h k = cc

  wanting_idle : (x : Board C) → IsWanting m state x → IsIdle m state x → ⊥
  wanting_idle x w (inl ended) = clash x.ended w.going ended
  wanting_idle x w (inr none) = none w.wants

  -- what was done before the access changes no course
  stepped_ready : (b : ℕ) (h k before piece : List Entry) (boards mids news : List (Board C)) → ((i : ℕ) (x : Board C) → slice_get mids i ≡ Some x → OnlyItsLines (map emptied boards) i x) → runners_of m state mids ≡ runners_of m state boards
      → h ≡ before ++ piece → AllByRecursion (λ e. board_of e ≡ b) piece → own_entries piece b ≡ [] → (s : IsStepped m state b h k mids news) → (EndsWithAnswer b s.entries → EndsWithAnswer b (piece ++ s.entries)) → IsStepped m state b before k boards news
  stepped_ready b h k before piece boards mids news only runners same turns none s reaches =
      let o = only b s.old s.there in
      let r = got_map emptied boards b o.old o.there in
      let is : runner_of m state s.old ≡ runner_of m state r.old = ap (runner_of m state) (o.is ∙ ap (λ (x : Board C). record x { cache = s.old.cache }) (sym r.is)) in
      let own : own_entries (piece ++ s.entries) b ≡ own_entries s.entries b = own_entries-append piece s.entries b ∙ ap (λ (es : List Entry). es ++ own_entries s.entries b) none in
      record {
        entries = piece ++ s.entries;
        history = s.history ∙ ap (λ (es : List Entry). es ++ s.entries) same ∙ append_assoc before piece s.entries;
        turns = all_append (λ e. board_of e ≡ b) piece s.entries turns s.turns;
        old = r.old;
        there = r.there;
        new = s.new;
        takes = subst (λ (es : List Entry). TakesInstruction m (runner_of m state r.old) es (runner_of m state s.new)) (sym own)
            (subst (λ (q : Runner S). TakesInstruction m q (own_entries s.entries b) (runner_of m state s.new)) is s.takes);
        reaches = λ unswapped. reaches (s.reaches unswapped);
        boards = s.boards ∙ ap (λ (rs : List (Runner S)). set rs b (runner_of m state s.new)) runners;
      }

  same_least : (n : ℕ) → n ≤ n
  same_least n = omega arith

  -- entries that end with a board's answer end with it behind others, where there are any
  ends_behind : (b : ℕ) (piece entries : List Entry) → (entries ≡ [] → ⊥) → EndsWithAnswer b entries → EndsWithAnswer b (piece ++ entries)
  ends_behind b piece entries some (HasNone is) = absurd (some is)
  ends_behind b piece entries some (OwnIsLast front e is own) = OwnIsLast (piece ++ front) e (ap (λ (es : List Entry). piece ++ es) is ∙ sym (append_assoc piece front (e ∷ []))) own

  nothing_frugal : IsFrugal []
  nothing_frugal = record { once = λ kind. (let r : 0 ≤ 1 = omega arith in r); fetches = (let r : 0 ≤ 3 = omega arith in r) }

  pub turned : {B : Type 0} (meaning : B → Swap) (b : ℕ) (old first mid new : World C B) → b < length old.boards.items → IsServable (view_in meaning first.store first.boards.items) → IsMerged old first → StepsAhead meaning b first mid
      → HasActed m state spare meaning b mid new → IsTurned meaning b old new
  turned {B} meaning b old first mid new within servable merged steps (Idles idle same) =
      let olds : List (Board C) = old.boards.items in
      let mids : List (Board C) = mid.boards.items in
      let w : View = view_in meaning first.store first.boards.items in
      let u : View = view_in meaning mid.store mids in
      let piece : List Entry = appended w u in
      let ready = ready_of m state spare meaning b old first mid within servable merged steps in
      let within_mid : b < length mids = subst (λ (n : ℕ). b < n) (sym ready.count) within in
      let here = some_at mids b within_mid in
      let was : (x y : Board C) → slice_get olds b ≡ Some x → slice_get mids b ≡ Some y → y ≡ record (emptied x) { cache = y.cache } =
      λ (x y : Board C) (at_x : slice_get olds b ≡ Some x) (at_y : slice_get mids b ≡ Some y).
      let o = ready.only b y at_y in
      o.is ∙ ap (λ (z : Board C). record z { cache = y.cache }) (one_at (map emptied olds) b o.old (emptied x) o.there (there_emptied olds b x at_x)) in
      let rests : (x : Board C) → slice_get olds b ≡ Some x → IsIdle m state x =
      λ (x : Board C) (at_x : slice_get olds b ≡ Some x). subst (IsIdle m state) (was x here.x at_x here.there) (idle.idle here.x here.there) in
      let never : (x y : Board C) → slice_get olds b ≡ Some x → slice_get new.boards.items b ≡ Some y → x.ended ≡ None → y.ended ≡ Some ending.SwapFault → ⊥ =
      λ (x y : Board C) (at_x : slice_get olds b ≡ Some x) (at_y : slice_get new.boards.items b ≡ Some y) (none : x.ended ≡ None) (swapped : y.ended ≡ Some ending.SwapFault).
      let e : y.ended ≡ x.ended = ap (λ (z : Board C). z.ended) (was x y at_x (ap (λ (t : World C B). slice_get t.boards.items b) (sym same) ∙ at_y)) in cc in
      record {
        entries = piece ++ [];
        history = ap (λ (t : World C B). t.store.history.entries) same ∙ ready.history ∙ ap (λ (es : List Entry). whole old.store olds ++ es) (sym (append-nil piece));
        turns = subst (λ (es : List Entry). AllByRecursion (IsOfTurn b (length olds)) es) (sym (append-nil piece)) (all_of_turn b (length olds) (length olds) piece refl ready.made);
        others = record { each = λ i x n e. ready.only i x (ap (λ (t : World C B). slice_get t.boards.items i) (sym same) ∙ e) };
        idle = λ h. record { mid = first; merged = merged; ahead = subst (λ (t : World C B). StepsAhead meaning b first t) (sym same) steps };
        moved = record { moved = λ x y at_x at_y wanting none. absurd (wanting_idle x wanting (rests x at_x)) };
        stepped = λ wants. absurd (wanting_idle wants.board wants.wanting (rests wants.board wants.there));
        frugal = frugal_ahead b (length olds) piece [] ready.made ready.settled nothing_frugal;
        rose = λ x y at_x at_y none swapped. absurd (never x y at_x at_y none swapped);
        last = λ x y at_x at_y none swapped. absurd (never x y at_x at_y none swapped);
        ahead = turns_ahead meaning b old first mid new [] (length olds) merged steps ready.made refl
            (subst (λ (t : World C B). (meaning mid.store.backing).faults ≤ (meaning t.store.backing).faults) (sym same) (same_least (meaning mid.store.backing).faults));
      }
  turned {B} meaning b old first mid new within servable merged steps (TakesIt at value kind asking takes) =
      let olds : List (Board C) = old.boards.items in
      let mids : List (Board C) = mid.boards.items in
      let news : List (Board C) = new.boards.items in
      let f : View = view_in meaning first.store first.boards.items in
      let w : View = view_in meaning mid.store mids in
      let v : View = view_in meaning new.store news in
      let piece : List Entry = appended f w in
      let ready = ready_of m state spare meaning b old first mid within servable merged steps in
      let acts = takes.acts in
      let comes = acts.comes in
      let counts : length news ≡ length mids = sym (length-map news (λ (x : Board C). x.cache)) ∙ comes.keeps.boards ∙ length-map mids (λ (x : Board C). x.cache) in
      let within_mid : b < length mids = subst (λ (n : ℕ). b < n) (sym ready.count) within in
      let here = some_at mids b within_mid in
      let was : (x y : Board C) → slice_get olds b ≡ Some x → slice_get mids b ≡ Some y → y ≡ record (emptied x) { cache = y.cache } =
      λ (x y : Board C) (at_x : slice_get olds b ≡ Some x) (at_y : slice_get mids b ≡ Some y).
      let o = ready.only b y at_y in
      o.is ∙ ap (λ (z : Board C). record z { cache = y.cache }) (one_at (map emptied olds) b o.old (emptied x) o.there (there_emptied olds b x at_x)) in
      let wanting : (x : Board C) → slice_get olds b ≡ Some x → IsWanting m state x =
      λ (x : Board C) (at_x : slice_get olds b ≡ Some x). let a = asking.asks here.x here.there in
      let q = subst (IsWanting m state) (was x here.x at_x here.there) (record { going = a.going.not_ended; wants = subst WantsAccess (sym a.wants) (tt {0}) }) in
      record { going = q.going; wants = q.wants } in
      let before : (meaning old.store.backing).faults ≤ w.faults = ready.later in
      let board : AllByRecursion (λ e. board_of e ≡ b) piece = made_board b (length olds) piece ready.made in
      let none : own_entries piece b ≡ [] = made_own b (length olds) b piece ready.made in
      let own : own_entries (piece ++ acts.entries) b ≡ own_entries acts.entries b = own_entries-append piece acts.entries b ∙ ap (λ (es : List Entry). es ++ own_entries acts.entries b) none in
      let some : acts.entries ≡ [] → ⊥ = λ h. none_last acts.faults acts.last (sym (ap (λ (es : List Entry). own_entries es b) h) ∙ comes.own) in
      record {
        entries = piece ++ acts.entries;
        history = comes.history ∙ ap (λ (h : List Entry). h ++ acts.entries) ready.history ∙ append_assoc (whole old.store olds) piece acts.entries;
        turns = all_append (IsOfTurn b (length olds)) piece acts.entries (all_of_turn b (length olds) (length olds) piece refl ready.made)
            (subst (λ (n : ℕ). AllByRecursion (IsOfTurn b n) acts.entries) (length-map mids (λ (x : Board C). x.cache) ∙ ready.count) comes.turns);
        others = record {
          each = λ i x n e.
              let o = acts.others i x n e in
              let p = ready.only i o.old o.there in
              record { old = p.old; there = p.there; is = o.is ∙ ap (λ (z : Board C). record z { cache = x.cache }) p.is };
        };
        idle = λ h. let x = some_at olds b within in absurd (wanting_idle x.x (wanting x.x x.there) (h.idle x.x x.there));
        moved = record {
          moved = λ x y at_x at_y wants none.
              let t = acts.mine y at_y in
              t.moved none ∙ ap (λ (z : Board C). z.retired + 1) (was x t.old at_x t.there);
        };
        stepped = λ wants.
            let s : IsStepped m state b w.history v.history mids news = stepped_of m state spare b at value kind w v mids news counts within_mid asking acts in
            let same : s.entries ≡ acts.entries =
            sym (drop_front w.history s.entries) ∙ ap (λ (es : List Entry). drop (length w.history) es) (sym s.history ∙ comes.history) ∙ drop_front w.history acts.entries in
            stepped_ready b w.history v.history (whole old.store olds) piece olds mids news ready.only ready.runners ready.history board none s
            (λ (e : EndsWithAnswer b s.entries). ends_behind b piece s.entries (λ (h : s.entries ≡ []). some (sym same ∙ h)) e);
        frugal = frugal_ahead b (length olds) piece acts.entries ready.made ready.settled takes.frugal;
        rose = λ x y at_x at_y none swapped. let r : w.faults < v.faults = takes.rose y at_y swapped in omega arith;
        last = λ x y at_x at_y none swapped.
            let t = acts.mine y at_y in
            let s = t.swapped swapped in
            record {
              before = acts.faults ++ s.before;
              kind = s.kind;
              access = s.access;
              va = s.va;
              value = s.value;
              last = own ∙ comes.own ∙ ap (λ (es : List Entry). acts.faults ++ es) s.last ∙ sym (append_assoc acts.faults s.before _);
              asked = s.asked;
              wants = s.wants;
            };
        ahead = turns_ahead meaning b old first mid new acts.entries (length olds) merged steps ready.made comes.quiet comes.later;
      }

  -- the entries behind the logs are those of the turn
  behind_is : {B : Type 0} (meaning : B → Swap) (b : ℕ) (old new : World C B) → (t : IsTurned meaning b old new) → t.entries ≡ behind_logs old new
  behind_is meaning b old new t = sym (ap (drop (length (whole old.store old.boards.items))) t.history ∙ drop_front (whole old.store old.boards.items) t.entries)

  pub turn_grows : {B : Type 0} (meaning : B → Swap) (b : ℕ) (old new : World C B) → IsTurned meaning b old new → GrowsByTurn b old new
  turn_grows meaning b old new t = record {
    history = t.history ∙ ap (λ (es : List Entry). whole old.store old.boards.items ++ es) (behind_is meaning b old new t);
    turns = subst (λ (es : List Entry). AllByRecursion (IsOfTurn b (length old.boards.items)) es) (behind_is meaning b old new t) t.turns;
  }

  pub turn_once : {B : Type 0} (meaning : B → Swap) (b : ℕ) (old new : World C B) → IsTurned meaning b old new → (kind : FaultKind) → fault_count kind (behind_logs old new) ≤ 1
  turn_once meaning b old new t kind = subst (λ (es : List Entry). fault_count kind es ≤ 1) (behind_is meaning b old new t) (t.frugal.once kind)

  pub turn_fetches : {B : Type 0} (meaning : B → Swap) (b : ℕ) (old new : World C B) → IsTurned meaning b old new → access_fetches (behind_logs old new) ≤ 3
  turn_fetches meaning b old new t = subst (λ (es : List Entry). access_fetches es ≤ 3) (behind_is meaning b old new t) t.frugal.fetches

  pub turn_swapped : {B : Type 0} (meaning : B → Swap) (b : ℕ) (old new : World C B) → IsTurned meaning b old new → SwapEndsByFailing m state spare meaning b old new
  turn_swapped meaning b old new t = record {
    cause = λ x y at_x at_y none swapped. record {
      rose = t.rose x y at_x at_y none swapped;
      last = subst (λ (es : List Entry). EndsInSwap m state spare y (own_entries es b)) (behind_is meaning b old new t) (t.last x y at_x at_y none swapped);
    };
  }

  pub turn_ahead : {B : Type 0} (meaning : B → Swap) (b : ℕ) (old new : World C B) → IsTurned meaning b old new → TurnsAhead meaning b old new (behind_logs old new)
  turn_ahead meaning b old new t = subst (λ (es : List Entry). TurnsAhead meaning b old new es) (behind_is meaning b old new t) t.ahead
