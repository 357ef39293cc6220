-- An access of a board keeps a good world.
use Rattle.std.proofs.Common.{◌≡◌, ◌≢◌, ◌∙◌, ℕ, zero, suc, ◌+◌, ◌<◌, ◌≤◌, Bool, false, if◌then◌else◌, ap, sym, refl, subst, List, [], ◌∷◌, ◌++◌, length, Some, arith, append-nil, ◌⊎◌, inl, inr, ⊎_elim, ne_eqb}
use Rattle.std.specs.Prelude.{slice_get}
use Rattle.std.specs.List.{AllByRecursion}
use Rattle.std.proofs.lemmas.List.{append_assoc, length-map}
use Rattle.spur_flat.specs.declared.access.AccessKind.{AccessKind}
use Rattle.spur_flat.specs.declared.flat.Flat.{Flat}
use Rattle.spur_flat.specs.declared.entry.Entry.{Entry}
use Rattle.spur_flat.specs.declared.entry.Entry.TheVariants as entry
use Rattle.spur_flat.specs.Blocks.{board_of}
use Rattle.spur_flat.specs.Formed.{IsFormed}
use Rattle.spur_flat.specs.History.{flat_after, is_own, own_entries}
use Rattle.spur_flat.proofs.HistoryFacts.{own_entries-append}
use Rattle.spur_flat.proofs.PieceFacts.{carried-append, leads-untold-append}
use Rattle.spur_cpu.specs.Meaning.{Meaning}
use Rattle.spur_cpu.specs.After.{IsLed, begun}
use Rattle.spur_cpu.proofs.Led.{led_entry}
use Rattle.spur_frames.specs.Frames.{AreFrames}
use Rattle.spur_swap.specs.Meaning.{Swap}
use Rattle.spur_pager.specs.declared.store.Store.{Store}
use Rattle.spur_pager.specs.Served.{Keeps}
use Rattle.spur_pager.specs.Stand.{AreCarried, standing_state}
use Rattle.spur_pager.specs.View.{View}
use Rattle.spur_pager.proofs.JoinFacts.{told_again}
use Rattle.spur_board.specs.declared.board.Board.{Board}
use Rattle.spur_board.specs.Boards.{course_now}
use Rattle.spur_commute.specs.Logs.{joined_logs}
use Rattle.spur_core.specs.Boards.{AreBoardLogs, IsBoardLog, IsLogged, LogsAreEmpty, logs_of, swap_count, view_in, whole}
use Rattle.spur_core.specs.Comes.{IsOfTurn, IsServedFault}
use Rattle.spur_core.specs.Good.{HasLed, IsGood}
use Rattle.spur_core.specs.Programs.{FollowPrograms, FollowsProgram}
use Rattle.spur_core.specs.Start.{IsStart, Start, opened_state}
use Rattle.spur_core.specs.Takes.{Acts, HasTaken, IsAsking, OnlyItsLines, TakesAccess}
use Rattle.spur_commute.proofs.LogFacts.{all_append}
use Rattle.spur_core.proofs.CourseFacts.{faults_stay}
use Rattle.spur_core.proofs.SameFacts.{led_same, stands_same}

-- a history that led to the state that stands, and entries that are carried from there
pub led_then : {S : Type 0} (start : Start S) (w v : View) (h entries : List Entry) → HasLed (opened_state start) w h → AreCarried start.flat w v entries → Keeps w v → HasLed (opened_state start) v (h ++ entries)
led_then start w v h entries led carried keeps =
    let F : Flat = start.flat in
    record {
      told = λ (words : List ℕ) (is : v.pages ≡ Some words).
          let before = told_again v.pages w.pages words (sym keeps.tells) is in
          carried-append (opened_state start) (standing_state F w) (standing_state F v) h entries (led.told before.words before.is) (carried.told before.words before.is);
      untold = leads-untold-append F (opened_state start) (standing_state F w) (standing_state F v) h entries led.untold (carried.untold (flat_after F h) led.untold.like);
    }

pub empty_joined : {C : Type 0} (bs : List (Board C)) → LogsAreEmpty bs → joined_logs (logs_of bs) ≡ []
empty_joined [] q = refl
empty_joined (b ∷ bs) q = ap (λ (es : List Entry). es ++ joined_logs (logs_of bs)) (q.each 0 b refl) ∙ empty_joined bs (record { each = λ i c e. q.each (suc i) c e })

same_or : (i j : ℕ) → (i ≡ j) ⊎ (i ≢ j)
same_or zero zero = inl refl
same_or zero (suc j) = inr (λ h. omega arith)
same_or (suc i) zero = inr (λ h. omega arith)
same_or (suc i) (suc j) = ⊎_elim (λ e. inl (ap suc e)) (λ n. inr (λ h. n (omega arith))) (same_or i j)

pub own_other : (e : Entry) (b i : ℕ) → board_of e ≡ b → i ≢ b → is_own i e ≡ false
own_other (entry.Load board at value) b i is n = ne_eqb board i (λ h. n (sym h ∙ is))
own_other (entry.Store board at value) b i is n = ne_eqb board i (λ h. n (sym h ∙ is))
own_other (entry.Tas board at old) b i is n = ne_eqb board i (λ h. n (sym h ∙ is))
own_other (entry.Fault board kind access at) b i is n = ne_eqb board i (λ h. n (sym h ∙ is))
own_other e b i is n = refl

others_own : (b n i : ℕ) (es : List Entry) → AllByRecursion (IsOfTurn b n) es → i ≢ b → own_entries es i ≡ []
others_own b n i [] all apart = refl
others_own b n i (e ∷ es) all apart = ap (λ (t : Bool). if t then e ∷ own_entries es i else own_entries es i) (own_other e b i all.0.board apart) ∙ others_own b n i es all.1 apart

pub formed_turn : (b n : ℕ) (es : List Entry) → AllByRecursion (IsOfTurn b n) es → AllByRecursion (IsFormed n) es
formed_turn b n [] all = tt
formed_turn b n (e ∷ es) all = (all.0.formed, formed_turn b n es all.1)

module _ {C S : Type 0} (m : Meaning S) (state : C → S) (spare : C → ℕ) where
  -- a board of which only lines changed
  pub board_seen : (start : Start S) (h k : List Entry) (i : ℕ) (olds : List (Board C)) (x : Board C) → FollowPrograms m state spare start h olds → OnlyItsLines olds i x → own_entries k i ≡ own_entries h i → FollowsProgram m state spare start k i x
  board_seen start h k i olds x all only same =
      let was = all.each i only.old only.there in
      let own : own_entries h i ≡ own_entries k i = sym same in
      subst (FollowsProgram m state spare start k i) (sym only.is) (record {
        number = was.number;
        segs = was.segs;
        budget = was.budget;
        room = was.room;
        led = λ first at. subst (λ (es : List Entry). IsLed m only.old.segs only.old.budget (begun first) es (course_now m state only.old)) own (was.led first at);
        swapped = λ e. let s = was.swapped e in record { before = s.before; kind = s.kind; access = s.access; va = s.va; value = s.value; last = same ∙ s.last; asked = s.asked; wants = s.wants };
      })

  -- the board that took its access
  board_taken : (start : Start S) (h piece faults : List Entry) (b at value : ℕ) (kind : AccessKind) (olds : List (Board C)) (e : Entry) (x : Board C) → FollowPrograms m state spare start h olds → IsAsking m state spare olds b kind at value
      → HasTaken m state spare olds b e x → own_entries piece b ≡ faults ++ e ∷ [] → AllByRecursion (IsServedFault b at kind) faults → FollowsProgram m state spare start (h ++ piece) b x
  board_taken start h piece faults b at value kind olds e x all asking taken own served =
      let old : Board C = taken.old in
      let was = all.each b old taken.there in
      let asks = asking.asks old taken.there in
      let own_h : List Entry = own_entries h b in
      let whole_own : own_entries (h ++ piece) b ≡ own_h ++ (faults ++ e ∷ []) = own_entries-append h piece b ∙ ap (λ (es : List Entry). own_h ++ es) own in
      let regroup : (own_h ++ faults) ++ e ∷ [] ≡ own_entries (h ++ piece) b = append_assoc own_h faults (e ∷ []) ∙ sym whole_own in
      record {
        number = taken.number ∙ was.number;
        segs = was.segs ∙ ap (λ (s : List ℕ). Some s) (sym taken.segs);
        budget = taken.budget ∙ was.budget;
        room = taken.room;
        led = λ first at_first.
            let one = faults_stay m state spare b at value kind old (begun first) own_h faults asks served (was.led first at_first) in
            let two = led_entry m old.segs old.budget (begun first) (course_now m state old) (course_now m state x) (own_h ++ faults) e one taken.carried in
            subst (λ (z : List ℕ × ℕ × List Entry). IsLed m z.0 z.1 (begun first) z.2 (course_now m state x)) (λ k. (sym taken.segs k, sym taken.budget k, regroup k)) two;
        swapped = λ is.
            let s = taken.swapped is in
            record {
              before = (own_h ++ faults) ++ s.before;
              kind = s.kind;
              access = s.access;
              va = s.va;
              value = s.value;
              last = sym regroup ∙ ap (λ (es : List Entry). (own_h ++ faults) ++ es) s.last ∙ sym (append_assoc (own_h ++ faults) s.before _);
              asked = s.asked;
              wants = s.wants;
            };
      }

  -- an act of board b that is appended to the whole history, wherever its entries stand
  pub acts_good : {B : Type 0} (meaning : B → Swap) (start : Start S) (store after : Store B) (olds news : List (Board C)) (h k : List Entry) (r s : ℕ) (b at value : ℕ) (kind : AccessKind) → IsGood m state spare meaning start store olds → b < length olds
      → IsAsking m state spare olds b kind at value → (acts : Acts m state spare b at kind (record (view_in meaning store olds) { history = h; room = r }) (record (view_in meaning after news) { history = k; room = s }) olds news)
      → whole after news ≡ whole store olds ++ acts.entries → AreBoardLogs news → AreFrames after.frames → IsGood m state spare meaning start after news
  acts_good {B} meaning start store after olds news h k r s b at value kind good within asking acts all logs table =
      let w0 : View = view_in meaning store olds in
      let v0 : View = view_in meaning after news in
      let w : View = record w0 { history = h; room = r } in
      let v : View = record v0 { history = k; room = s } in
      let comes = acts.comes in
      let piece : List Entry = acts.entries in
      let carried = comes.carries start.flat (stands_same start.flat w0 w (record { caches = refl; memory = refl; shares = record { frames = refl; pages = refl; slots = refl } }) good.stands) in
      let led : HasLed (opened_state start) w (whole store olds) = led_same (opened_state start) w0 w (whole store olds) (whole store olds) (record { caches = refl; memory = refl; shares = record { frames = refl; pages = refl; slots = refl } }) refl good.history in
      let count : length news ≡ length olds = sym (length-map news (λ (x : Board C). x.cache)) ∙ comes.keeps.boards ∙ length-map olds (λ (x : Board C). x.cache) in
      let turns : AllByRecursion (IsOfTurn b (length olds)) piece = subst (λ (n : ℕ). AllByRecursion (IsOfTurn b n) piece) (length-map olds (λ (x : Board C). x.cache)) comes.turns in
      let swaps : swap_count news + w.faults ≤ swap_count olds + v.faults = acts.swaps in
      let had : swap_count olds + start.faults ≤ w.faults = good.swaps in
      record {
        history = led_same (opened_state start) v v0 (whole store olds ++ piece) (whole after news) (record { caches = refl; memory = refl; shares = record { frames = refl; pages = refl; slots = refl } }) all (led_then start w v (whole store olds) piece led carried.carried comes.keeps);
        formed = subst (λ (z : ℕ × List Entry). AllByRecursion (IsFormed z.0) z.1) (λ k. (sym count k, sym all k)) (all_append (IsFormed (length olds)) (whole store olds) piece good.formed (formed_turn b (length olds) piece turns));
        stands = stands_same start.flat v v0 (record { caches = refl; memory = refl; shares = record { frames = refl; pages = refl; slots = refl } }) carried.stands;
        table = table;
        logs = logs;
        programs = subst (λ (es : List Entry). FollowPrograms m state spare start es news) (sym all) (record {
          each = λ i x e. ⊎_elim
              (λ (is : i ≡ b). subst (λ (j : ℕ). FollowsProgram m state spare start (whole store olds ++ piece) j x) (sym is)
              (board_taken start (whole store olds) piece acts.faults b at value kind olds acts.last x good.programs asking (acts.mine x (ap (slice_get news) (sym is) ∙ e)) comes.own comes.served))
              (λ (n : i ≢ b). board_seen start (whole store olds) (whole store olds ++ piece) i olds x good.programs (acts.others i x n e)
              (own_entries-append (whole store olds) piece i ∙ ap (λ (es : List Entry). own_entries (whole store olds) i ++ es) (others_own b (length olds) i piece turns n) ∙ append-nil (own_entries (whole store olds) i))) (same_or i b);
        });
        swaps = omega arith;
        begins = subst (IsStart m start) (sym count) good.begins;
        settings = record { ahead = comes.keeps.ahead ∙ good.settings.ahead };
      }

  -- on the bus all logs stay empty
  pub takes_empty : (olds news : List (Board C)) (b at : ℕ) (kind : AccessKind) (w v : View) → LogsAreEmpty olds → TakesAccess m state spare b at kind w v olds news → LogsAreEmpty news
  takes_empty olds news b at kind w v empty takes = record {
    each = λ i x e. ⊎_elim
        (λ (is : i ≡ b). let f : slice_get news b ≡ Some x = ap (slice_get news) (sym is) ∙ e in let y = takes.acts.mine x f in ap (λ l. l.entries) (takes.log y.old x y.there f) ∙ empty.each b y.old y.there)
        (λ (n : i ≢ b). let o = takes.acts.others i x n e in ap (λ (z : Board C). z.log.entries) o.is ∙ empty.each i o.old o.there) (same_or i b);
  }

  -- on the bus, where all logs are empty
  pub taken_good : {B : Type 0} (meaning : B → Swap) (start : Start S) (store after : Store B) (olds news : List (Board C)) (b at value : ℕ) (kind : AccessKind) → IsGood m state spare meaning start store olds → LogsAreEmpty olds → b < length olds
      → IsAsking m state spare olds b kind at value → TakesAccess m state spare b at kind (view_in meaning store olds) (view_in meaning after news) olds news → AreFrames after.frames
      → IsGood m state spare meaning start after news
  taken_good {B} meaning start store after olds news b at value kind good empty within asking takes table =
      let comes = takes.acts.comes in
      let news_empty : LogsAreEmpty news = takes_empty olds news b at kind _ _ empty takes in
      let before : whole store olds ≡ store.history.entries = ap (λ (es : List Entry). store.history.entries ++ es) (empty_joined olds empty) ∙ append-nil store.history.entries in
      let now : whole after news ≡ after.history.entries = ap (λ (es : List Entry). after.history.entries ++ es) (empty_joined news news_empty) ∙ append-nil after.history.entries in
      let all : whole after news ≡ whole store olds ++ takes.acts.entries = now ∙ comes.history ∙ ap (λ (es : List Entry). es ++ takes.acts.entries) (sym before) in
      let logs : AreBoardLogs news = record {
        each = λ i x e. ⊎_elim
            (λ (is : i ≡ b).
            let f : slice_get news b ≡ Some x = ap (slice_get news) (sym is) ∙ e in
            let y = takes.acts.mine x f in
            let log : x.log ≡ y.old.log = takes.log y.old x y.there f in
            let was = good.logs.each b y.old y.there in
            subst (λ (j : ℕ). IsBoardLog j x) (sym is) (record { few = subst (λ l. length l.entries ≤ 1024) (sym log) was.few; room = subst (λ l. 1024 ≤ length l.entries + l.room) (sym log) was.room; entries = subst (λ l. AllByRecursion (IsLogged b) l.entries) (sym log) was.entries }))
            (λ (n : i ≢ b).
            let o = takes.acts.others i x n e in
            let was = good.logs.each i o.old o.there in
            subst (IsBoardLog i) (sym o.is) (record { few = was.few; room = was.room; entries = was.entries })) (same_or i b);
      } in
      acts_good meaning start store after olds news store.history.entries after.history.entries store.history.room after.history.room b at value kind good within asking takes.acts all logs table
