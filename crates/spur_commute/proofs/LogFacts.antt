-- An own step puts its entry at the end of its board's log, before the logs of the boards behind it.
use Rattle.std.proofs.Common.{◌≡◌, ◌≢◌, ℕ, zero, suc, ◌+◌, ◌<◌, true, Option, Some, None, refl, sym, ap, ◌∙◌, subst, arith, append_assoc, append-nil, List, [], ◌∷◌, ◌++◌, length, map, slice_get}
use Rattle.std.specs.List.{AllByRecursion}
use Rattle.std.proofs.lemmas.Bool.{eqb-true}
use Rattle.spur_flat.specs.declared.flat.Flat.{Flat}
use Rattle.spur_flat.specs.declared.tag.Tag.{Tag}
use Rattle.spur_flat.specs.declared.entry.Entry.{Entry}
use Rattle.spur_flat.specs.declared.entry.Entry.TheVariants.{Load, Store, Tas, Fault}
use Rattle.spur_flat.specs.Blocks.{board_of}
use Rattle.spur_flat.specs.Formed.{IsFormed}
use Rattle.spur_flat.specs.History.{flat_after, is_own, own_entries}
use Rattle.spur_flat.specs.State.{State, IsCarried, opening_state, tags_after}
use Rattle.spur_flat.specs.StateLaws.{IsAccess, LeadsEach}
use Rattle.spur_flat.specs.TagLines.{no_tags}
use Rattle.spur_flat.specs.TagRules.{tags_refusal}
use Rattle.spur_flat.specs.Untold.{LeadsUntold}
use Rattle.spur_flat.proofs.OwnerFacts.{each-has-one-owner}
use Rattle.spur_flat.proofs.PieceFacts.{tagged-append, tags_after-append}
use Rattle.spur_flat.proofs.StateFacts.{lead-to-each}
use Rattle.spur_commute.specs.Apart.{IsAddressed}
use Rattle.spur_commute.specs.Exclusive.{EachHasAnOwner, IsOther}
use Rattle.spur_commute.specs.Logs.{AreLogs, IsLogOf, LogsAreAllowed, MayLog, MergeIsSame, OwnStepIsCarried, OwnStepIsLast, OwnStepKeepsLogs, OwnStepLeadsUntold, joined_logs, with_logged}
use Rattle.spur_commute.proofs.BehindFacts.{IsSmall, own-is-carried, own-is-last, own-leads-untold}
use Rattle.spur_commute.proofs.ExclusiveFacts.{tags-allow-each, tags_kept}

-- an entry that is a board's own
pub record IsOwnOf (i : ℕ) (entry : Entry) : Type 0 where
  pub access : IsAccess entry
  pub board : board_of entry ≡ i

pub own_is : (i : ℕ) (entry : Entry) → is_own i entry ≡ true → IsOwnOf i entry
own_is i (Load board at value) own = record { access = tt; board = eqb-true board i own }
own_is i (Store board at value) own = record { access = tt; board = eqb-true board i own }
own_is i (Tas board at old) own = record { access = tt; board = eqb-true board i own }
own_is i (Fault board kind access at) own = record { access = tt; board = eqb-true board i own }
own_is i entry own = absurd cc

-- facts of each entry of two lists
pub all_append : (P : Entry → Type 0) (first second : List Entry) → AllByRecursion P first → AllByRecursion P second → AllByRecursion P (first ++ second)
all_append P [] second a b = b
all_append P (entry ∷ rest) second a b = (a.0, all_append P rest second a.1 b)

pub all_first : (P : Entry → Type 0) (first second : List Entry) → AllByRecursion P (first ++ second) → AllByRecursion P first
all_first P [] second all = tt
all_first P (entry ∷ rest) second all = (all.0, all_first P rest second all.1)

pub all_second : (P : Entry → Type 0) (first second : List Entry) → AllByRecursion P (first ++ second) → AllByRecursion P second
all_second P [] second all = all
all_second P (entry ∷ rest) second all = all_second P rest second all.1

each_of : (P Q : Entry → Type 0) (list : List Entry) → ((entry : Entry) → P entry → Q entry) → AllByRecursion P list → AllByRecursion Q list
each_of P Q [] gives all = tt
each_of P Q (entry ∷ rest) gives all = (gives entry all.0, each_of P Q rest gives all.1)

all_small : (boards : ℕ) (list : List Entry) → AllByRecursion (IsFormed boards) list → AllByRecursion IsSmall list
all_small boards list all = each_of (IsFormed boards) IsSmall list (λ e formed. formed.small) all

-- a log of another board
others_in : (boards k : ℕ) (entry : Entry) (log : List Entry) → board_of entry ≢ k → IsLogOf k log → AllByRecursion (IsFormed boards) log → AllByRecursion (IsOther entry) log
others_in boards k entry [] other own formed = tt
others_in boards k entry (e ∷ rest) other own formed =
    let is : IsOwnOf k e = own_is k e own.0 in (
      record { addressed = record { access = is.access; small = formed.0.small }; boards = λ same. other (same ∙ is.board) },
      others_in boards k entry rest other own.1 formed.1,
    )

-- the logs of boards k, k + 1 and so on
abbrev AreLogsFrom : ℕ → List (List Entry) → Type 0
AreLogsFrom k logs = (i : ℕ) (log : List Entry) → slice_get logs i ≡ Some log → IsLogOf (k + i) log

first_log : (k : ℕ) (log : List Entry) (rest : List (List Entry)) → AreLogsFrom k (log ∷ rest) → IsLogOf k log
first_log k log rest are = let none : k + 0 ≡ k = omega arith in subst (λ (j : ℕ). IsLogOf j log) none (are 0 log refl)

rest_logs : (k : ℕ) (log : List Entry) (rest : List (List Entry)) → AreLogsFrom k (log ∷ rest) → AreLogsFrom (k + 1) rest
rest_logs k log rest are i l there = let more : k + suc i ≡ (k + 1) + i = omega arith in subst (λ (j : ℕ). IsLogOf j l) more (are (suc i) l there)

logs_from : (logs : List (List Entry)) → AreLogs logs → AreLogsFrom 0 logs
logs_from logs are i log there = let none : i ≡ 0 + i = omega arith in subst (λ (j : ℕ). IsLogOf j log) none (are.each i log there)

logs_again : (logs : List (List Entry)) → AreLogsFrom 0 logs → AreLogs logs
logs_again logs are = record { each = λ i log there. (let none : 0 + i ≡ i = omega arith in subst (λ (j : ℕ). IsLogOf j log) none (are i log there)) }

-- logs of later boards
later : (boards k : ℕ) (entry : Entry) (logs : List (List Entry)) → board_of entry < k → AreLogsFrom k logs → AllByRecursion (IsFormed boards) (joined_logs logs)
    → AllByRecursion (IsOther entry) (joined_logs logs)
later boards k entry [] below are formed = tt
later boards k entry (log ∷ rest) below are formed =
    all_append (IsOther entry) log (joined_logs rest)
    (others_in boards k entry log (λ same. omega arith) (first_log k log rest are) (all_first (IsFormed boards) log (joined_logs rest) formed))
    (later boards (k + 1) entry rest (omega arith) (rest_logs k log rest are) (all_second (IsFormed boards) log (joined_logs rest) formed))

-- a list in two parts, behind one more
pub more_before : (first whole before behind : List Entry) → whole ≡ before ++ behind → first ++ whole ≡ (first ++ before) ++ behind
more_before first whole before behind is = ap (λ (es : List Entry). first ++ es) is ∙ sym (append_assoc first before behind)

-- what stands before and behind the end of log i
pub record Parts (logs : List (List Entry)) (i : ℕ) (entry : Entry) : Type 0 where
  pub before : List Entry
  pub behind : List Entry
  pub old : joined_logs logs ≡ before ++ behind
  pub new : joined_logs (with_logged logs i entry) ≡ before ++ entry ∷ behind
  pub others : AllByRecursion (IsOther entry) behind

parts : (boards k i : ℕ) (logs : List (List Entry)) (entry : Entry) → AreLogsFrom k logs → AllByRecursion (IsFormed boards) (joined_logs logs) → i < length logs
    → board_of entry ≡ k + i → Parts logs i entry
parts boards k i [] entry are formed within board = absurd (omega arith)
parts boards k zero (log ∷ rest) entry are formed within board = record {
  before = log;
  behind = joined_logs rest;
  old = refl;
  new = append_assoc log (entry ∷ []) (joined_logs rest);
  others = later boards (k + 1) entry rest (omega arith) (rest_logs k log rest are) (all_second (IsFormed boards) log (joined_logs rest) formed);
}
parts boards k (suc i) (log ∷ rest) entry are formed within board =
    let p : Parts rest i entry = parts boards (k + 1) i rest entry (rest_logs k log rest are) (all_second (IsFormed boards) log (joined_logs rest) formed) (omega arith) (omega arith) in
    record {
      before = log ++ p.before;
      behind = p.behind;
      old = more_before log (joined_logs rest) p.before p.behind p.old;
      new = more_before log (joined_logs (with_logged rest i entry)) p.before (entry ∷ p.behind) p.new;
      others = p.others;
    }

-- where a board may log an entry
parts_of : (boards : ℕ) (history : List Entry) (logs : List (List Entry)) (i : ℕ) (entry : Entry) → MayLog boards history logs i entry → Parts logs i entry
parts_of boards history logs i entry may =
    let its : board_of entry ≡ i = (own_is i entry may.own).board in
    parts boards 0 i logs entry (logs_from logs may.are_logs) (all_second (IsFormed boards) history (joined_logs logs) may.formed) may.there (omega arith)

addressed : (boards i : ℕ) (entry : Entry) → is_own i entry ≡ true → IsFormed boards entry → IsAddressed entry
addressed boards i entry own formed = record { access = (own_is i entry own).access; small = formed.small }

-- with the history before them
whole_old : (history : List Entry) (logs : List (List Entry)) (i : ℕ) (entry : Entry) (p : Parts logs i entry) → history ++ joined_logs logs ≡ (history ++ p.before) ++ p.behind
whole_old history logs i entry p = more_before history (joined_logs logs) p.before p.behind p.old

whole_new : (history : List Entry) (logs : List (List Entry)) (i : ℕ) (entry : Entry) (p : Parts logs i entry)
    → history ++ joined_logs (with_logged logs i entry) ≡ (history ++ p.before) ++ entry ∷ p.behind
whole_new history logs i entry p = more_before history (joined_logs (with_logged logs i entry)) p.before (entry ∷ p.behind) p.new

formed_old : (boards : ℕ) (history : List Entry) (logs : List (List Entry)) (i : ℕ) (entry : Entry) (p : Parts logs i entry) → MayLog boards history logs i entry
    → AllByRecursion (IsFormed boards) ((history ++ p.before) ++ p.behind)
formed_old boards history logs i entry p may = subst (λ (es : List Entry). AllByRecursion (IsFormed boards) es) (whole_old history logs i entry p) may.formed

small_before : (boards : ℕ) (history : List Entry) (logs : List (List Entry)) (i : ℕ) (entry : Entry) (p : Parts logs i entry) → MayLog boards history logs i entry
    → AllByRecursion IsSmall (history ++ p.before)
small_before boards history logs i entry p may =
    all_small boards (history ++ p.before) (all_first (IsFormed boards) (history ++ p.before) p.behind (formed_old boards history logs i entry p may))

-- after any history from the opening each block has one owner
owners : (boards lines : ℕ) (F : Flat) (whole : List Entry) (T : List (List (Option Tag))) → tags_after F (no_tags boards lines) whole ≡ T → EachHasAnOwner T
owners boards lines F whole T is = subst (λ (U : List (List (Option Tag))). EachHasAnOwner U) is (λ block. each-has-one-owner F boards lines whole block)

pub own-step-is-carried : OwnStepIsCarried
own-step-is-carried boards lines F now to history logs i entry ok may carried more =
    let from : State = opening_state boards lines F in
    let whole : List Entry = history ++ joined_logs logs in
    let p : Parts logs i entry = parts_of boards history logs i entry may in
    let each : LeadsEach from whole = lead-to-each from whole in
    let tags : tags_after F (no_tags boards lines) whole ≡ now.tags = sym each.tags ∙ ap (λ (s : State). s.tags) carried.leads in
    subst (λ (es : List Entry). IsCarried from to es) (sym (whole_new history logs i entry p))
    (own-is-carried from now to (history ++ p.before) p.behind entry ok (small_before boards history logs i entry p may) (owners boards lines F whole now.tags tags)
    (addressed boards i entry may.own may.entry_formed) p.others
    (subst (λ (es : List Entry). IsCarried from now es) (whole_old history logs i entry p) carried) more)

pub own-step-leads-untold : OwnStepLeadsUntold
own-step-leads-untold boards lines F now to history logs i entry ok may lead more =
    let from : State = opening_state boards lines F in
    let whole : List Entry = history ++ joined_logs logs in
    let p : Parts logs i entry = parts_of boards history logs i entry may in
    subst (λ (es : List Entry). LeadsUntold F from to es) (sym (whole_new history logs i entry p))
    (own-leads-untold F from now to (history ++ p.before) p.behind entry ok (small_before boards history logs i entry p may) (owners boards lines F whole now.tags lead.tags)
    (addressed boards i entry may.own may.entry_formed) p.others
    (subst (λ (es : List Entry). LeadsUntold F from now es) (whole_old history logs i entry p) lead) more)

pub own-step-is-last : OwnStepIsLast
own-step-is-last boards history logs i entry board may =
    let p : Parts logs i entry = parts_of boards history logs i entry may in
    ap (λ (es : List Entry). own_entries es board) (whole_new history logs i entry p)
    ∙ own-is-last (history ++ p.before) p.behind entry board (addressed boards i entry may.own may.entry_formed) p.others
    ∙ sym (ap (λ (es : List Entry). own_entries (es ++ entry ∷ []) board) (whole_old history logs i entry p))

some_same : (a b : List Entry) → ◌≡◌ {A = Option (List Entry)} (Some a) (Some b) → a ≡ b
some_same a b e = cc

-- log i has one more entry of its board
kept_logs : (k i : ℕ) (logs : List (List Entry)) (entry : Entry) → AreLogsFrom k logs → is_own (k + i) entry ≡ true → AreLogsFrom k (with_logged logs i entry)
kept_logs k i [] entry are own j l there = are j l there
kept_logs k zero (log ∷ rest) entry are own zero l there =
    subst (λ (es : List Entry). IsLogOf (k + 0) es) (some_same (log ++ entry ∷ []) l there)
    (all_append (λ e. is_own (k + 0) e ≡ true) log (entry ∷ []) (are 0 log refl) (own, tt))
kept_logs k zero (log ∷ rest) entry are own (suc j) l there = are (suc j) l there
kept_logs k (suc i) (log ∷ rest) entry are own zero l there = are 0 l there
kept_logs k (suc i) (log ∷ rest) entry are own (suc j) l there =
    let at : k + suc i ≡ (k + 1) + i = omega arith in
    let back : (k + 1) + j ≡ k + suc j = omega arith in
    subst (λ (n : ℕ). IsLogOf n l) back (kept_logs (k + 1) i rest entry (rest_logs k log rest are) (subst (λ (n : ℕ). is_own n entry ≡ true) at own) j l there)

pub own-step-keeps-logs : OwnStepKeepsLogs
own-step-keeps-logs boards history logs i entry may =
    let p : Parts logs i entry = parts_of boards history logs i entry may in
    let F : Entry → Type 0 = IsFormed boards in
    let old : AllByRecursion F ((history ++ p.before) ++ p.behind) = formed_old boards history logs i entry p may in
    let at : i ≡ 0 + i = omega arith in
    record {
      formed = subst (λ (es : List Entry). AllByRecursion F es) (sym (whole_new history logs i entry p))
          (all_append F (history ++ p.before) (entry ∷ p.behind) (all_first F (history ++ p.before) p.behind old) (may.entry_formed, all_second F (history ++ p.before) p.behind old));
      are_logs = logs_again (with_logged logs i entry) (kept_logs 0 i logs entry (logs_from logs may.are_logs) (subst (λ (n : ℕ). is_own n entry ≡ true) at may.own));
    }

-- the entries of logs are accesses and faults
logs_access : (k : ℕ) (logs : List (List Entry)) → AreLogsFrom k logs → AllByRecursion IsAccess (joined_logs logs)
logs_access k [] are = tt
logs_access k (log ∷ rest) are =
    all_append IsAccess log (joined_logs rest)
    (each_of (λ e. is_own k e ≡ true) IsAccess log (λ e own. (own_is k e own).access) (first_log k log rest are))
    (logs_access (k + 1) rest (rest_logs k log rest are))

pub logs-are-allowed : LogsAreAllowed
logs-are-allowed F G T now history logs are tagged is =
    let access : AllByRecursion IsAccess (joined_logs logs) = logs_access 0 logs (logs_from logs are) in
    let H : Flat = flat_after F history in
    let before : List (List (Option Tag)) = tags_after F T history in
    let tags : before ≡ now = sym (tags_kept H before (joined_logs logs) access) ∙ sym (tags_after-append F T history (joined_logs logs)) ∙ is in
    let pieces = (tagged-append F T history (joined_logs logs)).0 tagged in
    subst (λ (U : List (List (Option Tag))). AllByRecursion (λ e. tags_refusal G U e ≡ None) (joined_logs logs)) tags
    (tags-allow-each H G before (joined_logs logs) access pieces.1)

emptied : (logs : List (List Entry)) → joined_logs (map (λ (log : List Entry). []) logs) ≡ []
emptied [] = refl
emptied (log ∷ rest) = emptied rest

pub merge-is-same : MergeIsSame
merge-is-same history logs =
    ap (λ (es : List Entry). (history ++ joined_logs logs) ++ es) (emptied logs) ∙ append-nil (history ++ joined_logs logs)
