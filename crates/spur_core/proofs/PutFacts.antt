-- Another board in the place of one keeps a good world: with one more entry in its log, or with the same log, whatever the
-- other logs hold.
use Rattle.std.proofs.Common.{◌≡◌, ◌≢◌, ◌∙◌, ℕ, ◌+◌, ◌<◌, ◌≤◌, Bool, true, false, if◌then◌else◌, ap, sym, refl, subst, List, [], ◌∷◌, ◌++◌, length, Option, Some, arith, append-nil, ⊎_elim}
use Rattle.std.specs.Prelude.{slice_get}
use Rattle.std.specs.List.{AllByRecursion}
use Rattle.std.proofs.Math.ListN.{set}
use Rattle.std.proofs.lemmas.List.{append_cancel_left, length-map, length-set}
use Rattle.std.proofs.lemmas.Option.{slice_get_within}
use Rattle.spur_flat.specs.declared.access.AccessKind.{AccessKind}
use Rattle.spur_flat.specs.declared.flat.Flat.{Flat}
use Rattle.spur_flat.specs.declared.entry.Entry.{Entry}
use Rattle.spur_flat.specs.Formed.{IsFormed}
use Rattle.spur_flat.specs.History.{is_own, own_entries}
use Rattle.spur_flat.specs.State.{IsCarried}
use Rattle.spur_flat.specs.Untold.{LeadsUntold}
use Rattle.spur_flat.proofs.HistoryFacts.{own_entries-append}
use Rattle.spur_commute.specs.Logs.{LogsStay, MayLog, joined_logs, with_logged}
use Rattle.spur_commute.proofs.LogFacts.{all_append, own-step-is-carried, own-step-is-last, own-step-keeps-logs, own-step-leads-untold}
use Rattle.spur_cpu.specs.Meaning.{Meaning}
use Rattle.spur_cpu.specs.After.{IsLed, begun}
use Rattle.spur_cpu.proofs.Instructions.{instruction-leads-on}
use Rattle.spur_swap.specs.Meaning.{Swap}
use Rattle.spur_pager.specs.declared.store.Store.{Store}
use Rattle.spur_pager.specs.Again.{ShowsSame}
use Rattle.spur_pager.specs.Stand.{CarriesOn, Stands, standing_state}
use Rattle.spur_pager.specs.View.{View}
use Rattle.spur_pager.proofs.JoinFacts.{told_again}
use Rattle.spur_board.specs.declared.board.Board.{Board}
use Rattle.spur_board.specs.declared.ending.Ending.{Ending}
use Rattle.spur_board.specs.declared.ending.Ending.TheVariants as ending
use Rattle.spur_board.specs.Boards.{course_now}
use Rattle.spur_board.specs.OwnLaws.{IsInstruction, IsKept}
use Rattle.spur_core.specs.Boards.{IsBoardLog, IsLogged, is_swapped, logs_of, swap_count, view_in, whole}
use Rattle.spur_core.specs.Comes.{Comes}
use Rattle.spur_core.specs.Good.{HasLed, IsGood}
use Rattle.spur_core.specs.Programs.{FollowsProgram}
use Rattle.spur_core.specs.Start.{IsStart, Start, opened_state}
use Rattle.spur_core.proofs.ComesFacts.{own_one}
use Rattle.spur_core.proofs.GoodFacts.{own_other}
use Rattle.spur_core.proofs.OwnLogFacts.{are_logs, local_own, logs_stay, logs_with}
use Rattle.spur_core.proofs.SameFacts.{led_same, stands_same}
use Rattle.spur_core.proofs.TakesFacts.{caches_stay, got_set, swaps_set}

not_swapped : (o : Option Ending) → is_swapped o ≡ false → o ≡ Some ending.SwapFault → ⊥
not_swapped o on is = absurd (let r : true ≡ false = sym (ap is_swapped is) ∙ on in cc)

module _ {C S : Type 0} (m : Meaning S) (state : C → S) (spare : C → ℕ) where
  -- one instruction of a board, by these entries: the program is carried on, all that the program knows of the board stays,
  -- and it has room for what it may still show; the swap has not ended it
  pub record Instructs (x y : Board C) (logged : List Entry) : Type 0 where
    pub kept : IsKept m state spare x y
    pub is : IsInstruction m state spare x y
    pub log : y.log.entries ≡ x.log.entries ++ logged
    pub room : y.budget ≤ y.retired + spare y.cpu
    pub was_on : is_swapped x.ended ≡ false
    pub is_on : is_swapped y.ended ≡ false

  -- the board is where its own entries have led it
  follows_on : (start : Start S) (h k : List Entry) (i : ℕ) (x y : Board C) (logged : List Entry) → FollowsProgram m state spare start h i x → Instructs x y logged → own_entries k i ≡ own_entries h i ++ logged → FollowsProgram m state spare start k i y
  follows_on start h k i x y logged was one own =
      let same : one.is.logged ≡ logged = append_cancel_left x.log.entries one.is.logged logged (sym one.is.log ∙ one.log) in
      record {
        number = one.kept.number ∙ was.number;
        segs = was.segs ∙ ap (λ (s : List ℕ). Some s) (sym one.kept.segs);
        budget = one.kept.budget ∙ was.budget;
        room = one.room;
        led = λ first at.
            let led = instruction-leads-on m x.segs x.budget (begun first) (course_now m state x) (course_now m state y) (own_entries h i) one.is.logged (was.led first at) one.is.carried in
            subst (λ (z : List ℕ × ℕ × List Entry). IsLed m z.0 z.1 (begun first) z.2 (course_now m state y))
            (λ k. (sym one.kept.segs k, sym one.kept.budget k, (ap (λ (es : List Entry). own_entries h i ++ es) same ∙ sym own) k)) led;
        swapped = λ e. absurd (not_swapped y.ended one.is_on e);
      }

  -- and so is each other board
  follows_same : (start : Start S) (h k : List Entry) (i : ℕ) (x : Board C) → FollowsProgram m state spare start h i x → own_entries k i ≡ own_entries h i → FollowsProgram m state spare start k i x
  follows_same start h k i x was same = record {
    number = was.number;
    segs = was.segs;
    budget = was.budget;
    room = was.room;
    led = λ first at. subst (λ (es : List Entry). IsLed m x.segs x.budget (begun first) es (course_now m state x)) (sym same) (was.led first at);
    swapped = λ e. let s = was.swapped e in record { before = s.before; kind = s.kind; access = s.access; va = s.va; value = s.value; last = same ∙ s.last; asked = s.asked; wants = s.wants };
  }

  module _ {B : Type 0} (meaning : B → Swap) (start : Start S) (store : Store B) where
    -- what is asked of another board in the place of board b
    record MayReplace (boards : List (Board C)) (b : ℕ) (x y : Board C) (logged : List Entry) : Type 0 where
      pub there : slice_get boards b ≡ Some x
      pub one : Instructs x y logged
      pub log : IsBoardLog b y
      pub led : HasLed (opened_state start) (view_in meaning store (set boards b y)) (whole store (set boards b y))
      pub formed : AllByRecursion (IsFormed (length boards)) (whole store (set boards b y))
      pub stands : Stands start.flat (view_in meaning store (set boards b y))
      pub mine : own_entries (whole store (set boards b y)) b ≡ own_entries (whole store boards) b ++ logged
      pub others : (i : ℕ) → i ≢ b → own_entries (whole store (set boards b y)) i ≡ own_entries (whole store boards) i

    replaced_good : (boards : List (Board C)) (b : ℕ) (x y : Board C) (logged : List Entry) → IsGood m state spare meaning start store boards → MayReplace boards b x y logged → IsGood m state spare meaning start store (set boards b y)
    replaced_good boards b x y logged good r =
        let news : List (Board C) = set boards b y in
        let before : List Entry = whole store boards in
        let now : List Entry = whole store news in
        let count : length news ≡ length boards = length-set boards b y in
        let swaps : swap_count news ≡ 0 + swap_count boards = swaps_set boards b x y false r.there r.one.was_on r.one.is_on in
        let had = good.swaps in
        let mine : FollowsProgram m state spare start now b y = follows_on start before now b x y logged (good.programs.each b x r.there) r.one r.mine in
        record {
          history = r.led;
          formed = subst (λ (n : ℕ). AllByRecursion (IsFormed n) now) (sym count) r.formed;
          stands = r.stands;
          table = good.table;
          logs = record {
            each = λ i z at. ⊎_elim
                (λ (p : (i ≡ b) × (y ≡ z)). subst (λ (j : ℕ). IsBoardLog j z) (sym p.0) (subst (IsBoardLog b) p.1 r.log))
                (λ (p : (i ≢ b) × (slice_get boards i ≡ Some z)). good.logs.each i z p.1) (got_set boards b i y z at);
          };
          programs = record {
            each = λ i z at. ⊎_elim
                (λ (p : (i ≡ b) × (y ≡ z)). subst (λ (j : ℕ). FollowsProgram m state spare start now j z) (sym p.0) (subst (FollowsProgram m state spare start now b) p.1 mine))
                (λ (p : (i ≢ b) × (slice_get boards i ≡ Some z)). follows_same start before now i z (good.programs.each i z p.1) (r.others i p.0)) (got_set boards b i y z at);
          };
          swaps = omega arith;
          begins = subst (IsStart m start) (sym count) good.begins;
          settings = good.settings;
        }

    -- with the same log and the same lines
    pub kept_good : (boards : List (Board C)) (b : ℕ) (x y : Board C) → IsGood m state spare meaning start store boards → slice_get boards b ≡ Some x → Instructs x y [] → y.log ≡ x.log → y.cache ≡ x.cache
        → IsGood m state spare meaning start store (set boards b y)
    kept_good boards b x y good there one log cache =
        let news : List (Board C) = set boards b y in
        let all : whole store news ≡ whole store boards = ap (λ (ls : List (List Entry)). store.history.entries ++ joined_logs ls) (logs_stay boards b x y there log) in
        let shows : ShowsSame (view_in meaning store boards) (view_in meaning store news) = record { caches = caches_stay boards b x y there cache; memory = refl; shares = record { frames = refl; pages = refl; slots = refl } } in
        let was = good.logs.each b x there in
        replaced_good boards b x y [] good (record {
          there = there;
          one = one;
          log = record {
            few = subst (λ l. length l.entries ≤ 1024) (sym log) was.few;
            room = subst (λ l. 1024 ≤ length l.entries + l.room) (sym log) was.room;
            entries = subst (λ l. AllByRecursion (IsLogged b) l.entries) (sym log) was.entries;
          };
          led = led_same (opened_state start) (view_in meaning store boards) (view_in meaning store news) (whole store boards) (whole store news) shows all good.history;
          formed = subst (λ (es : List Entry). AllByRecursion (IsFormed (length boards)) es) (sym all) good.formed;
          stands = stands_same start.flat (view_in meaning store boards) (view_in meaning store news) shows good.stands;
          mine = ap (λ (es : List Entry). own_entries es b) all ∙ sym (append-nil (own_entries (whole store boards) b));
          others = λ i apart. ap (λ (es : List Entry). own_entries es i) all;
        })

    -- what is seen of boards, with this history and this room in place of the store's
    abbrev pub seen_with : List (Board C) → List Entry → ℕ → View
    seen_with boards entries room = record (view_in meaning store boards) { history = entries; room = room }

    -- with one entry more in its log
    pub put_good : (boards : List (Board C)) (b at : ℕ) (kind : AccessKind) (x y : Board C) (e : Entry) → IsGood m state spare meaning start store boards → slice_get boards b ≡ Some x → Instructs x y (e ∷ [])
        → Comes b at kind (seen_with boards [] 1) (seen_with (set boards b y) (e ∷ []) 0) (e ∷ []) [] (e ∷ [])
        → IsLogged b e → length y.log.entries ≤ 1024 → 1024 ≤ length y.log.entries + y.log.room → IsGood m state spare meaning start store (set boards b y)
    put_good boards b at kind x y e good there one comes local few room =
        let news : List (Board C) = set boards b y in
        let w : View = view_in meaning store boards in
        let v : View = view_in meaning store news in
        let shows_w : ShowsSame w (seen_with boards [] 1) = record { caches = refl; memory = refl; shares = record { frames = refl; pages = refl; slots = refl } } in
        let shows_v : ShowsSame (seen_with news (e ∷ []) 0) v = record { caches = refl; memory = refl; shares = record { frames = refl; pages = refl; slots = refl } } in
        let F : Flat = start.flat in
        let h : List Entry = store.history.entries in
        let logs : List (List Entry) = logs_of boards in
        let n : ℕ = length start.segs in
        let lines : ℕ = start.options.lines in
        let size : n ≡ length boards = good.begins.segs in
        let carried : CarriesOn F (seen_with boards [] 1) (seen_with news (e ∷ []) 0) (e ∷ []) = comes.carries F (stands_same F w (seen_with boards [] 1) shows_w good.stands) in
        let count : length w.caches ≡ n = length-map boards (λ (q : Board C). q.cache) ∙ sym size in
        let formed_e : IsFormed n e = subst (λ (k : ℕ). IsFormed k e) count comes.turns.0.formed in
        let own : is_own b e ≡ true = local_own b e local.local local.board in
        let within : b < length boards = slice_get_within boards b x there in
        let may : MayLog n h logs b e = record {
          formed = subst (λ (k : ℕ). AllByRecursion (IsFormed k) (whole store boards)) (sym size) good.formed;
          are_logs = are_logs boards good.logs;
          there = subst (λ (k : ℕ). b < k) (sym (length-map boards (λ (q : Board C). q.log.entries))) within;
          own = own;
          entry_formed = formed_e;
        } in
        let all : whole store news ≡ h ++ joined_logs (with_logged logs b e) = ap (λ (ls : List (List Entry)). h ++ joined_logs ls) (logs_with boards b x y e there one.log) in
        let stay : LogsStay n h (with_logged logs b e) = own-step-keeps-logs n h logs b e may in
        let own_is : (i : ℕ) → own_entries (whole store news) i ≡ own_entries (whole store boards) i ++ own_entries (e ∷ []) i = λ (i : ℕ).
        ap (λ (es : List Entry). own_entries es i) all ∙ own-step-is-last n h logs b e i may ∙ own_entries-append (whole store boards) (e ∷ []) i in
        let was = good.logs.each b x there in
        replaced_good boards b x y (e ∷ []) good (record {
          there = there;
          one = one;
          log = record {
            few = few;
            room = room;
            entries = subst (λ (es : List Entry). AllByRecursion (IsLogged b) es) (sym one.log) (all_append (IsLogged b) x.log.entries (e ∷ []) was.entries (local, tt));
          };
          led = record {
            told = λ (words : List ℕ) (is : v.pages ≡ Some words).
                let before = told_again v.pages w.pages words (sym comes.keeps.tells) is in
                subst (λ (es : List Entry). IsCarried (opened_state start) (standing_state F v) es) (sym all)
                (own-step-is-carried n lines F (standing_state F w) (standing_state F v) h logs b e good.begins.valid may (good.history.told before.words before.is) (carried.carried.told before.words before.is));
            untold = subst (λ (es : List Entry). LeadsUntold F (opened_state start) (standing_state F v) es) (sym all)
                (own-step-leads-untold n lines F (standing_state F w) (standing_state F v) h logs b e good.begins.valid may good.history.untold carried.carried.untold);
          };
          formed = subst (λ (z : ℕ × List Entry). AllByRecursion (IsFormed z.0) z.1) (λ k. (size k, sym all k)) stay.formed;
          stands = stands_same F (seen_with news (e ∷ []) 0) v shows_v carried.stands;
          mine = own_is b ∙ ap (λ (es : List Entry). own_entries (whole store boards) b ++ es) (own_one b e own);
          others = λ i apart. own_is i ∙ ap (λ (t : Bool). own_entries (whole store boards) i ++ (if t then e ∷ [] else [])) (own_other e b i local.board apart) ∙ append-nil (own_entries (whole store boards) i);
        })
