-- A good world has its ten parts.
use Rattle.std.proofs.Common.{◌≡◌, ◌≢◌, ◌∙◌, ℕ, zero, suc, ◌+◌, ◌<◌, ◌&&◌, ◌==◌, Bool, true, false, if◌then◌else◌, inl, inr, ap, sym, refl, subst, List, [], ◌∷◌, ◌++◌, length, Option, Some, None, arith, append-nil, eq-eqb, eq-eqb, get_or}
use Rattle.std.specs.Prelude.{slice_get}
use Rattle.std.specs.List.{AllByRecursion}
use Rattle.std.proofs.lemmas.List.{append_assoc, get_or-map, length-map}
use Rattle.std.proofs.lemmas.Option.{slice_get_within}
use Rattle.spur_addr.specs.Address.{block_of}
use Rattle.spur_cache.specs.declared.line.Line.{Line}
use Rattle.spur_snoop.specs.declared.BlockState.{BlockState}
use Rattle.spur_snoop.specs.declared.BlockState.TheVariants.{Invalid}
use Rattle.spur_snoop.specs.Protocol.{is_alive, is_exclusive}
use Rattle.spur_flat.specs.declared.flat.Flat.{Flat}
use Rattle.spur_flat.specs.declared.illegal.Illegal.{Illegal}
use Rattle.spur_flat.specs.declared.tag.Tag.{Tag}
use Rattle.spur_flat.specs.declared.access.FaultKind.{FaultKind}
use Rattle.spur_flat.specs.declared.entry.Entry.{Entry}
use Rattle.spur_flat.specs.declared.entry.Entry.TheVariants as entry
use Rattle.spur_flat.specs.Blocks.{board_of}
use Rattle.spur_flat.specs.History.{flat_after, is_own, own_entries}
use Rattle.spur_flat.specs.State.{IsCarried, State}
use Rattle.spur_flat.specs.TagLines.{block_state, tag_at, tag_in}
use Rattle.spur_flat.specs.TagRules.{tag_condition, tags_refusal}
use Rattle.spur_flat.proofs.HistoryFacts.{own_entries-append}
use Rattle.spur_flat.proofs.StateFacts.{follow-where-each, lead-to-each}
use Rattle.spur_commute.specs.Logs.{AreLogs, IsLogOf, joined_logs}
use Rattle.spur_commute.proofs.LogFacts.{all_first, all_second, logs-are-allowed, own_is}
use Rattle.spur_bus.specs.Boards.{line_of_block}
use Rattle.spur_bus.specs.Calls.{HasLine, cache_tags, line_tag, tags_of}
use Rattle.spur_bus.proofs.CallFacts.{tags_in}
use Rattle.spur_bus.proofs.TagsFacts.{tag_in-tags}
use Rattle.spur_cpu.specs.declared.cpu.Want.{Want}
use Rattle.spur_cpu.specs.declared.cpu.Want.TheVariants.{Access, Ended, Local}
use Rattle.spur_cpu.specs.Meaning.{Meaning, is_ending}
use Rattle.spur_cpu.specs.After.{Course, HasBudgetLeft, Stop, after, begun, carry_want, is_done, same_access, stop}
use Rattle.spur_cpu.specs.Onward.{EntriesFit, is_ending_fault}
use Rattle.spur_cpu.proofs.Going.{ended-uses-nothing}
use Rattle.spur_cpu.proofs.ToAccess.{access_left, entry_left, fit-by-the-next}
use Rattle.spur_swap.specs.Meaning.{Swap}
use Rattle.spur_pager.specs.declared.store.Store.{Store}
use Rattle.spur_pager.specs.Stand.{standing_flat, standing_state}
use Rattle.spur_pager.specs.View.{View}
use Rattle.spur_board.specs.declared.board.Board.{Board}
use Rattle.spur_board.specs.Boards.{course_now}
use Rattle.spur_core.specs.Boards.{AreBoardLogs, IsLogged, IsLocalEntry, logs_of, view_in, whole}
use Rattle.spur_core.specs.Good.{IsGood}
use Rattle.spur_core.specs.Parts.{GoodHasItsParts, IsHitNow, IsRightHistory}
use Rattle.spur_core.specs.Start.{Start, opened_state}
use Rattle.spur_core.proofs.AskFacts.{some_at}
use Rattle.spur_core.proofs.GoodFacts.{own_other}
use Rattle.spur_core.proofs.OwnLogFacts.{are_logs, logged_own, own_all}
use Rattle.spur_core.proofs.SameFacts.{got_map}

-- the history, where the swap tells its pages
right_history : (from : State) (w : View) (words : List ℕ) (history : List Entry) → w.pages ≡ Some words → IsCarried from (standing_state from.flat w) history → IsRightHistory from w words history
right_history from w words history told carried =
    let flat : flat_after from.flat history ≡ standing_flat from.flat w = sym (lead-to-each from history).flat ∙ ap (λ (S : State). S.flat) carried.leads in
    record {
      each = (follow-where-each from history).0 carried.follows;
      memory = ap (λ (F : Flat). F.words) flat;
      swap = ap (λ (F : Flat). F.swap) flat ∙ swap_told w.pages told;
    }
  where
    swap_told : (p : Option (List ℕ)) → p ≡ Some words → (standing_flat from.flat (record w { pages = p })).swap ≡ words
    swap_told None is = cc
    swap_told (Some ws) is = cc

none_own : (i k : ℕ) (es : List Entry) → i ≢ k → IsLogOf k es → own_entries es i ≡ []
none_own i k [] apart all = refl
none_own i k (e ∷ es) apart all =
    ap (λ (t : Bool). if t then e ∷ own_entries es i else own_entries es i) (own_other e k i (own_is k e all.0).board apart) ∙ none_own i k es apart all.1

-- the logs of boards k, k + 1 and so on: of the entries in them, a board's own are those of its log
abbrev AreFrom : {C : Type 0} → ℕ → List (Board C) → Type 0
AreFrom {C} k bs = (i : ℕ) (b : Board C) → slice_get bs i ≡ Some b → IsLogOf (k + i) b.log.entries

first_from : {C : Type 0} (k : ℕ) (x : Board C) (xs : List (Board C)) → AreFrom k (x ∷ xs) → IsLogOf k x.log.entries
first_from k x xs are = let none : k + 0 ≡ k = omega arith in subst (λ (j : ℕ). IsLogOf j x.log.entries) none (are 0 x refl)

rest_from : {C : Type 0} (k : ℕ) (x : Board C) (xs : List (Board C)) → AreFrom k (x ∷ xs) → AreFrom (k + 1) xs
rest_from k x xs are i b there = let more : k + suc i ≡ (k + 1) + i = omega arith in subst (λ (j : ℕ). IsLogOf j b.log.entries) more (are (suc i) b there)

behind_own : {C : Type 0} (k i : ℕ) (bs : List (Board C)) → i < k → AreFrom k bs → own_entries (joined_logs (logs_of bs)) i ≡ []
behind_own k i [] below are = refl
behind_own k i (x ∷ xs) below are =
    own_entries-append x.log.entries (joined_logs (logs_of xs)) i
    ∙ ap (λ (es : List Entry). es ++ own_entries (joined_logs (logs_of xs)) i) (none_own i k x.log.entries (λ (same : i ≡ k). omega arith) (first_from k x xs are))
    ∙ behind_own (k + 1) i xs (omega arith) (rest_from k x xs are)

joined_own : {C : Type 0} (k i : ℕ) (bs : List (Board C)) (b : Board C) → AreFrom k bs → slice_get bs i ≡ Some b → own_entries (joined_logs (logs_of bs)) (k + i) ≡ b.log.entries
joined_own k i [] b are there = cc
joined_own {C} k zero (x ∷ xs) b are there =
    let same : x ≡ b = cc in
    let none : k + 0 ≡ k = omega arith in
    own_entries-append x.log.entries (joined_logs (logs_of xs)) (k + 0)
    ∙ ap (λ (es : List Entry). own_entries x.log.entries (k + 0) ++ es) (behind_own (k + 1) (k + 0) xs (omega arith) (rest_from k x xs are))
    ∙ append-nil (own_entries x.log.entries (k + 0)) ∙ ap (own_entries x.log.entries) none ∙ own_all k x.log.entries (first_from k x xs are) ∙ ap (λ (z : Board C). z.log.entries) same
joined_own {C} k (suc i) (x ∷ xs) b are there =
    let more : k + suc i ≡ (k + 1) + i = omega arith in
    own_entries-append x.log.entries (joined_logs (logs_of xs)) (k + suc i)
    ∙ ap (λ (es : List Entry). es ++ own_entries (joined_logs (logs_of xs)) (k + suc i)) (none_own (k + suc i) k x.log.entries (λ (same : k + suc i ≡ k). omega arith) (first_from k x xs are))
    ∙ ap (own_entries (joined_logs (logs_of xs))) more ∙ joined_own (k + 1) i xs b (rest_from k x xs are) there

from_logs : {C : Type 0} (bs : List (Board C)) → AreBoardLogs bs → AreFrom 0 bs
from_logs bs logs i b there = let none : i ≡ 0 + i = omega arith in subst (λ (j : ℕ). IsLogOf j b.log.entries) none (logged_own i b.log.entries (logs.each i b there).entries)

own_log : {C : Type 0} (bs : List (Board C)) (i : ℕ) (b : Board C) → AreBoardLogs bs → slice_get bs i ≡ Some b → own_entries (joined_logs (logs_of bs)) i ≡ b.log.entries
own_log bs i b logs there =
    let none : i ≡ 0 + i = omega arith in
    ap (own_entries (joined_logs (logs_of bs))) none ∙ joined_own 0 i bs b (from_logs bs logs) there

-- what is true of all entries of the logs is true of one log's
all_log : {C : Type 0} (P : Entry → Type 0) (bs : List (Board C)) (i : ℕ) (b : Board C) → slice_get bs i ≡ Some b → AllByRecursion P (joined_logs (logs_of bs)) → AllByRecursion P b.log.entries
all_log P [] i b there all = cc
all_log {C} P (x ∷ xs) zero b there all =
    let same : x ≡ b = cc in
    subst (λ (z : Board C). AllByRecursion P z.log.entries) same (all_first P x.log.entries (joined_logs (logs_of xs)) all)
all_log P (x ∷ xs) (suc i) b there all = all_log P xs i b there (all_second P x.log.entries (joined_logs (logs_of xs)) all)

-- what the tags allow of an access, its cache has
passes : (test : Bool) (number found : ℕ) (rest : Option Illegal) → tag_condition test number found rest ≡ None → test ≡ true
passes true number found rest h = refl
passes false number found rest h = cc

line_there : (lists : List (List (Option Line))) (b at : ℕ) (test : BlockState → Bool) (o : Option Line) → b < length lists → line_of_block lists b at ≡ o → test Invalid ≡ false
    → test (block_state (tag_at (tags_of lists) b (block_of at))) ≡ true → HasLine lists b at test
line_there lists b at test None within is dead h =
    let none : tag_at (tags_of lists) b (block_of at) ≡ None =
    ap (λ (ls : List (Option Tag)). tag_in ls (block_of at)) (get_or-map cache_tags lists b [] [] within) ∙ tag_in-tags (get_or lists b []) at ∙ ap line_tag is in
    let clash : true ≡ false = sym h ∙ ap (λ (t : Option Tag). test (block_state t)) none ∙ dead in
    cc
line_there lists b at test (Some line) within is dead h = record {
  line = line;
  there = is;
  passes = sym (ap (λ (t : Option Tag). test (block_state t)) (tags_in lists b at line within is)) ∙ h;
}

hit_now : (lists : List (List (Option Line))) (F : Flat) (e : Entry) → board_of e < length lists → tags_refusal F (tags_of lists) e ≡ None → IsHitNow lists e
hit_now lists F (entry.Load board at value) within h = line_there lists board at is_alive (line_of_block lists board at) within refl refl (passes _ _ _ _ h)
hit_now lists F (entry.Store board at value) within h = line_there lists board at is_exclusive (line_of_block lists board at) within refl refl (passes _ _ _ _ h)
hit_now lists F (entry.Tas board at old) within h = line_there lists board at is_exclusive (line_of_block lists board at) within refl refl (passes _ _ _ _ h)
hit_now lists F e within h = tt

hits_now : (lists : List (List (Option Line))) (F : Flat) (i : ℕ) (es : List Entry) → i < length lists → AllByRecursion (IsLogged i) es → AllByRecursion (λ (e : Entry). tags_refusal F (tags_of lists) e ≡ None) es
    → AllByRecursion (IsHitNow lists) es
hits_now lists F i [] within logged all = tt
hits_now lists F i (e ∷ es) within logged all = (hit_now lists F e (subst (λ (n : ℕ). n < length lists) (sym logged.0.board) within) all.0, hits_now lists F i es within logged.1 all.1)

-- a fault that ends a board is the last of its entries
record IsOver {S : Type 0} (d : Course S) : Type 0 where
  pub why : Stop
  pub is : d.ending ≡ Some why

module _ {S : Type 0} (m : Meaning S) (segs : List ℕ) (budget : ℕ) where
  over_by : (c d : Course S) (t : Bool) (k : FaultKind) (at : ℕ) → is_ending k ≡ true → ◌≡◌ {A = Option (Course S)} (if t then (if is_ending k then Some (stop m segs budget c k at) else Some c) else None) (Some d) → IsOver d
  over_by c d false k at ends h = cc
  over_by c d true k at ends h =
      let is : ◌≡◌ {A = Option (Course S)} (Some (stop m segs budget c k at)) (Some d) = sym (ap (λ (u : Bool). if u then Some (stop m segs budget c k at) else Some c) ends) ∙ h in
      let same : stop m segs budget c k at ≡ d = cc in
      record { why = _; is = sym (ap (λ (x : Course S). x.ending) same) }

  over_want : (c d : Course S) (want : Want) (ended : Option Stop) (e : Entry) → is_ending_fault e ≡ true → carry_want m segs budget c want ended e ≡ Some d → IsOver d
  over_want c d (Access kind va value) None (entry.Fault board k w a) ends h = over_by c d (same_access kind w && a == _) k a ends h
  over_want c d (Access kind va value) None e ends h = cc
  over_want c d (Access kind va value) (Some why) e ends h = cc
  over_want c d Local ended e ends h = cc
  over_want c d Ended ended e ends h = cc

  ends_last : (c : Course S) (before : List Entry) (e : Entry) (behind : List Entry) → HasBudgetLeft budget c → is_ending_fault e ≡ true → EntriesFit m segs budget c (before ++ e ∷ behind) → behind ≡ []
  ends_last c [] e behind left ends fits =
      let next = (fit-by-the-next m segs budget c e behind left).0 fits in
      let over = over_want _ next.course _ _ e ends next.carried in
      (ended-uses-nothing m segs budget next.course next.fits.course behind next.fits.completed over.why over.is next.fits.leads).entries
  ends_last c (x ∷ xs) e behind left ends fits =
      let next = (fit-by-the-next m segs budget c x (xs ++ e ∷ behind) left).0 fits in
      ends_last next.course xs e behind (entry_left m segs budget _ next.course x (access_left m segs budget c left) next.carried) ends next.fits

logged_fault : (i : ℕ) (e : Entry) → IsLogged i e → is_done e ≡ false → is_ending_fault e ≡ true
logged_fault i e logged undone = local_fault e logged.local undone
  where
    local_fault : (e : Entry) → IsLocalEntry e → is_done e ≡ false → is_ending_fault e ≡ true
    local_fault (entry.Load board at value) local h = cc
    local_fault (entry.Store board at value) local h = cc
    local_fault (entry.Tas board at old) local h = cc
    local_fault (entry.Fault board kind access at) (inl is) h = ap is_ending is
    local_fault (entry.Fault board kind access at) (inr is) h = ap is_ending is
    local_fault e local h = absurd local

module _ {C S : Type 0} (m : Meaning S) (state : C → S) (spare : C → ℕ) where
  fault_last : {B : Type 0} (meaning : B → Swap) (start : Start S) (store : Store B) (boards : List (Board C)) (i : ℕ) (b : Board C) → IsGood m state spare meaning start store boards → slice_get boards i ≡ Some b
      → (before : List Entry) (e : Entry) (behind : List Entry) → b.log.entries ≡ before ++ e ∷ behind → is_done e ≡ false → behind ≡ []
  fault_last meaning start store boards i b good there before e behind log undone =
      let it = good.programs.each i b there in
      let within : i < length boards = slice_get_within boards i b there in
      let count = good.begins.firsts in
      let first = some_at start.firsts i (omega arith) in
      let logged : AllByRecursion (IsLogged i) (before ++ e ∷ behind) = subst (λ (es : List Entry). AllByRecursion (IsLogged i) es) log (good.logs.each i b there).entries in
      let this = all_second (IsLogged i) before (e ∷ behind) logged in
      let h : List Entry = own_entries store.history.entries i in
      let own : own_entries (whole store boards) i ≡ (h ++ before) ++ e ∷ behind =
      own_entries-append store.history.entries (joined_logs (logs_of boards)) i ∙ ap (λ (es : List Entry). h ++ es) (own_log boards i b good.logs there ∙ log) ∙ sym (append_assoc h before (e ∷ behind)) in
      let some : 0 < b.budget = subst (λ (n : ℕ). 0 < n) (sym it.budget) good.begins.budget in
      let fits : EntriesFit m b.segs b.budget (begun first.x) ((h ++ before) ++ e ∷ behind) = record {
        completed = b.retired;
        course = course_now m state b;
        leads = ap (λ (es : List Entry). after m b.segs b.budget (begun first.x) es b.retired) (sym own) ∙ it.led first.x first.there;
      } in
      ends_last m b.segs b.budget (begun first.x) (h ++ before) e behind (λ none. some) (logged_fault i e this.0 undone) fits

  pub good-has-its-parts : {B : Type 0} (meaning : B → Swap) → GoodHasItsParts m state spare meaning
  good-has-its-parts {B} meaning start store boards good =
      let from : State = opened_state start in
      let w : View = view_in meaning store boards in
      let h : List Entry = whole store boards in
      let led = good.history.untold in
      let allowed = logs-are-allowed from.flat from.flat from.tags (tags_of w.caches) store.history.entries (logs_of boards) (are_logs boards good.logs) led.tagged led.tags in
      record {
        history_is_right = record {
          told = λ (words : List ℕ) (told : w.pages ≡ Some words). right_history from w words h told (good.history.told words told);
          untold = record { legal = led.legal; tagged = led.tagged; needed = led.needed; like = led.like };
        };
        tags_agree = led.tags;
        words_and_owners_agree = record { owners = good.stands.walk.agree; words = good.stands.walk.serves };
        lines_are_present = record { mapped = good.stands.walk.mapped; present = good.stands.present };
        frames_agree = record { table = good.table; framed = good.stands.framed; slots = good.stands.slots };
        clean_pages_match = good.stands.clean;
        logs_are_local = record {
          each = λ i b there.
              let log = good.logs.each i b there in
              let within : i < length boards = slice_get_within boards i b there in
              let long : i < length w.caches = subst (λ (n : ℕ). i < n) (sym (length-map boards (λ (x : Board C). x.cache))) within in
              record {
                log = log;
                hits = hits_now w.caches from.flat i b.log.entries long log.entries (all_log (λ (e : Entry). tags_refusal from.flat (tags_of w.caches) e ≡ None) boards i b there allowed);
                last = fault_last meaning start store boards i b good there;
              };
        };
        programs_are_followed = good.programs;
        nothing_is_open = led.opened;
        swap_faults_are_counted = good.swaps;
      }
