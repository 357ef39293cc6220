-- One step of a schedule: an instruction, alone or on the bus, and the merge.
use Rattle.std.proofs.Common.{◌≡◌, ◌∙◌, ℕ, ap, refl, sym, subst, List, [], ◌∷◌, ◌++◌, map, append-nil, Option, None, Some}
use Rattle.std.specs.Prelude.{Err, IfOk, Ok, OnErr, OnOk, Result, slice_get}
use Rattle.std.proofs.lemmas.List.{append_assoc}
use Rattle.spur_flat.specs.declared.entry.Entry.{Entry}
use Rattle.spur_flat.specs.History.{own_entries}
use Rattle.spur_commute.specs.Logs.{joined_logs}
use Rattle.spur_cpu.specs.Meaning.{Meaning, WantsAccess}
use Rattle.spur_pager.specs.declared.store.Store.{Store}
use Rattle.spur_bus.proofs.LineFacts.{slice_get-set_same}
use Rattle.spur_board.specs.declared.board.Board.{Board}
use Rattle.spur_board.specs.declared.turn.BusReason.{BusReason}
use Rattle.spur_board.specs.declared.turn.BusReason.TheVariants as reason
use Rattle.spur_board.specs.declared.turn.Turn.TheVariants as turn
use Rattle.spur_board.specs.Own.{Needs}
use Rattle.spur_core.specs.declared.world.World.{World}
use Rattle.spur_core.specs.Boards.{LogsAreEmpty, emptied, logs_of, whole}
use Rattle.spur_core.specs.Step.{HasTakenInstruction, IsStepped, Runner, runner_of, runners_of}
use Rattle.spur_core.specs.Turn.{IsWanting, IsWantingAt}
use Rattle.spur_core.specs.World.{IsMerged, IsPrefix}
use Rattle.spur_core.proofs.GoodFacts.{empty_joined}
use Rattle.spur_core.specs.Own.{HasTurnedAt}
use Rattle.spur_core.proofs.MergedFacts.{empty_emptied}
use Rattle.spur_core.proofs.AskFacts.{same_at}
use Rattle.spur_probe.specs.declared.show.StopAt.{StopAt}
use Rattle.spur_probe.specs.Shown.{Told, first_stop}
use Rattle.spur_sched.specs.Shown.{added}
use Rattle.spur_sched.specs.Steps.{MergesAll, MergesAllOrNone, MergesNone, NeedsNoBus}
use Rattle.spur_sched.proofs.ShowingFacts.{nothing_stops}

-- ---- histories that go on

pub prefix_same : (a b : List Entry) → b ≡ a → IsPrefix a b
prefix_same a b same = record { more = []; is = same ∙ sym (append-nil a) }

pub prefix_then : (a b c : List Entry) → IsPrefix a b → IsPrefix b c → IsPrefix a c
prefix_then a b c first second = record { more = first.more ++ second.more; is = second.is ∙ ap (λ (es : List Entry). es ++ second.more) first.is ∙ append_assoc a first.more second.more }

-- ---- facts of a result that is handed on

pub on_ok_then : {A E P Q : Type 0} (r : Result A E) → (P → Q) → OnOk r P → OnOk r Q
on_ok_then (Ok x) f p = f p
on_ok_then (Err e) f p = p

pub on_ok_both : {A E P Q R : Type 0} (r : Result A E) → (P → Q → R) → OnOk r P → OnOk r Q → OnOk r R
on_ok_both (Ok x) f p q = f p q
on_ok_both (Err e) f p q = p

pub if_ok_both : {A E P : Type 0} {Q R : A → Type 0} (r : Result A E) → ((x : A) → P → Q x → R x) → OnOk r P → IfOk r Q → IfOk r R
if_ok_both (Ok x) f p q = f x p q
if_ok_both (Err e) f p q = p

pub if_ok_all : {A E P Q : Type 0} {R T : A → Type 0} (r : Result A E) → ((x : A) → P → Q → R x → T x) → OnOk r P → OnOk r Q → IfOk r R → IfOk r T
if_ok_all (Ok x) f p q h = f x p q h
if_ok_all (Err e) f p q h = p

pub on_err_both : {A E P Q R : Type 0} (r : Result A E) → (P → Q → R) → OnErr r P → OnErr r Q → OnErr r R
on_err_both (Ok x) f p q = p
on_err_both (Err e) f p q = f p q

pub on_err : {A E P : Type 0} (r : Result A E) → P → OnErr r P
on_err (Ok x) p = tt
on_err (Err e) p = p

pub on_either : {A E P Q R : Type 0} (r : Result A E) → (P → R) → (Q → R) → OnOk r P → OnErr r Q → R
on_either (Ok x) f g p q = f p
on_either (Err e) f g p q = g q

-- a stop is at an entry that the history has more, and then all logs are joined
pub emptied_by_stop : {C B : Type 0} (old new : World C B) (es : List Entry) (ps : List Told) (stop : StopAt) → MergesAllOrNone old new → es ≡ added old.store.history.entries new.store.history.entries → first_stop 0 es ps ≡ Some stop → LogsAreEmpty new.boards.items
emptied_by_stop old new es ps stop (MergesAll empty) is wish = empty
emptied_by_stop old new es ps stop (MergesNone same) is wish = let none = nothing_stops old.store.history.entries new.store.history.entries es ps same is in absurd (never stop (sym none ∙ wish))
  where
    never : (s : StopAt) → ◌≡◌ {A = Option StopAt} None (Some s) → ⊥
    never s h = absurd cc

module _ {C S : Type 0} (m : Meaning S) (state : C → S) (spare : C → ℕ) where
  runners_emptied : (bs : List (Board C)) → runners_of m state (map emptied bs) ≡ runners_of m state bs
  runners_emptied [] = refl
  runners_emptied (b ∷ bs) = ap (λ (rs : List (Runner S)). runner_of m state b ∷ rs) (runners_emptied bs)

  -- the whole history where all logs are empty
  pub whole_empty : {B : Type 0} (store : Store B) (bs : List (Board C)) → LogsAreEmpty bs → whole store bs ≡ store.history.entries
  whole_empty store bs empty = ap (λ (es : List Entry). store.history.entries ++ es) (empty_joined bs empty) ∙ append-nil store.history.entries

  -- a merge leaves the whole history as it is, and the boards where they are
  pub record StandsAsMerged {B : Type 0} (old new : World C B) : Type 0 where
    pub empty : LogsAreEmpty new.boards.items
    pub whole_is : whole new.store new.boards.items ≡ whole old.store old.boards.items
    pub runners : runners_of m state new.boards.items ≡ runners_of m state old.boards.items

  pub merged_stands : {B : Type 0} (old new : World C B) → IsMerged old new → StandsAsMerged old new
  merged_stands old new merged =
      let none : LogsAreEmpty new.boards.items = subst LogsAreEmpty (sym merged.boards) (empty_emptied old.boards.items) in
      record {
        empty = none;
        whole_is = whole_empty new.store new.boards.items none ∙ merged.history;
        runners = ap (runners_of m state) merged.boards ∙ runners_emptied old.boards.items;
      }

  -- a board that needs the bus wants an access
  wanting_by : (why : BusReason) (y : Board C) → Needs m state spare why y → IsWanting m state y
  wanting_by reason.FullLog y full = record { going = full.going.not_ended; wants = full.wants }
  wanting_by reason.Access y away = record { going = away.asks.going.not_ended; wants = subst WantsAccess (sym away.asks.wants) tt }

  pub wanting_at : (b : ℕ) (olds news : List (Board C)) (why : BusReason) → HasTurnedAt m state spare b 1 olds (turn.NeedsBus why) news → IsWantingAt m state news b
  wanting_at b olds news why own = record {
    board = own.new;
    there = ap (λ (bs : List (Board C)). slice_get bs b) own.is ∙ slice_get-set_same olds b own.old own.new own.there;
    wanting = wanting_by why own.new own.turned.cause.0;
  }

  -- one that needs no bus does not ask for it
  pub asks_no_bus : (b : ℕ) (olds news : List (Board C)) (why : BusReason) → HasTurnedAt m state spare b 1 olds (turn.NeedsBus why) news → news ≡ olds → NeedsNoBus m state spare olds b → ⊥
  asks_no_bus b olds news why own same alone =
      let there : slice_get olds b ≡ Some own.new =
      ap (λ (bs : List (Board C)). slice_get bs b) (sym same ∙ own.is) ∙ slice_get-set_same olds b own.old own.new own.there in
      alone.none why (subst (Needs m state spare why) (same_at olds b own.new alone.board there alone.there) own.turned.cause.0)

  -- a step of boards whose merge, or whose emptied logs, tell the same
  pub stepped_as : (b : ℕ) (g k j : List Entry) (olds news bs : List (Board C)) → k ≡ j → runners_of m state bs ≡ runners_of m state news → IsStepped m state b g j olds news → IsStepped m state b g k olds bs
  stepped_as b g k j olds news bs last runners s = record {
    entries = s.entries;
    history = last ∙ s.history;
    turns = s.turns;
    old = s.old;
    there = s.there;
    new = s.new;
    takes = s.takes;
    reaches = s.reaches;
    boards = runners ∙ s.boards;
  }

  pub instruction_as : (b : ℕ) (g k j : List Entry) (olds news bs : List (Board C)) → k ≡ j → runners_of m state bs ≡ runners_of m state news → HasTakenInstruction m state b g j olds news → HasTakenInstruction m state b g k olds bs
  instruction_as b g k j olds news bs last runners s = record {
    own = s.own;
    mine = ap (λ (es : List Entry). own_entries es b) last ∙ s.mine;
    others = λ i apart. ap (λ (es : List Entry). own_entries es i) last ∙ s.others i apart;
    old = s.old;
    there = s.there;
    new = s.new;
    takes = s.takes;
    boards = runners ∙ s.boards;
  }

  -- a turn on the bus takes the board's instruction, from the world before the turn that asked for it
  pub bus_stepped : {B : Type 0} (b : ℕ) (old mid new : World C B) → mid ≡ old → IsStepped m state b (whole mid.store mid.boards.items) new.store.history.entries mid.boards.items new.boards.items → LogsAreEmpty new.boards.items
      → IsStepped m state b (whole old.store old.boards.items) (whole new.store new.boards.items) old.boards.items new.boards.items
  bus_stepped {B} b old mid new same stepped left =
      let was : IsStepped m state b (whole old.store old.boards.items) new.store.history.entries old.boards.items new.boards.items =
      subst (λ (w : World C B). IsStepped m state b (whole w.store w.boards.items) new.store.history.entries w.boards.items new.boards.items) same stepped in
      stepped_as b (whole old.store old.boards.items) (whole new.store new.boards.items) new.store.history.entries old.boards.items new.boards.items new.boards.items
      (whole_empty new.store new.boards.items left) refl was

  pub bus_prefix : {B : Type 0} (b : ℕ) (old mid new : World C B) → mid ≡ old → IsStepped m state b (whole mid.store mid.boards.items) new.store.history.entries mid.boards.items new.boards.items → IsPrefix old.store.history.entries new.store.history.entries
  bus_prefix {B} b old mid new same stepped = record {
    more = joined_logs (logs_of old.boards.items) ++ stepped.entries;
    is = stepped.history ∙ ap (λ (es : List Entry). es ++ stepped.entries) (ap (λ (w : World C B). whole w.store w.boards.items) same)
        ∙ append_assoc old.store.history.entries (joined_logs (logs_of old.boards.items)) stepped.entries;
  }

  pub merged_prefix : {B : Type 0} (a : List Entry) (old new : World C B) → IsPrefix a old.store.history.entries → IsMerged old new → IsPrefix a new.store.history.entries
  merged_prefix a old new before merged = prefix_then a old.store.history.entries new.store.history.entries before (record { more = joined_logs (logs_of old.boards.items); is = merged.history })
