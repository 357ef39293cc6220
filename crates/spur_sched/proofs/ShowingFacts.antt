-- Entries are shown to probes, one stretch after another.
use Rattle.std.proofs.Common.{◌≡◌, ◌∙◌, ℕ, suc, ◌+◌, ◌-◌, ◌^◌, ◌<◌, ◌≤◌, ap, sym, refl, List, [], ◌∷◌, ◌++◌, drop, length, map, take, Option, Some, None, arith, append-nil}
use Rattle.std.specs.Prelude.{IfSome}
use Rattle.std.proofs.lemmas.List.{append_assoc, length-append, length-drop}
use Rattle.std.proofs.Math.Seq.{drop-append_seam, take-length}
use Rattle.spur_flat.specs.declared.entry.Entry.{Entry}
use Rattle.spur_probe.specs.declared.show.StopAt.{StopAt}
use Rattle.spur_probe.specs.Shown.{Told, after_entries, after_entry, first_stop, stop_or, stopped_at, unless_stopped}
use Rattle.spur_sched.specs.declared.run.Ran.{Ran}
use Rattle.spur_sched.specs.declared.run.Ran.TheVariants.{Done}
use Rattle.spur_core.specs.World.{IsPrefix}
use Rattle.spur_sched.specs.Shown.{IsShown, IsShownInPart, added, numbered_behind, ran_by, stopped_entry}

-- ---- entries behind those at which no probe wished a stop

unstopped_both : (n : ℕ) (o : Option ℕ) (later : Option StopAt) → stop_or n o later ≡ None → (o ≡ None) × (later ≡ None)
unstopped_both n None later h = (refl, h)
unstopped_both n (Some place) later h = absurd cc

after_then : (n : ℕ) (xs ys : List Entry) (ps : List Told) → first_stop n xs ps ≡ None → after_entries (xs ++ ys) ps ≡ after_entries ys (after_entries xs ps)
after_then n [] ys ps h = refl
after_then n (e ∷ es) ys ps h =
    let both = unstopped_both n (stopped_at e ps) (first_stop (n + 1) es (after_entry e ps)) h in
    ap (λ (o : Option ℕ). unless_stopped o (after_entry e ps) (after_entries (es ++ ys) (after_entry e ps))) both.0
    ∙ after_then (n + 1) es ys (after_entry e ps) both.1
    ∙ ap (λ (o : Option ℕ). after_entries ys (unless_stopped o (after_entry e ps) (after_entries es (after_entry e ps)))) (sym both.0)

stop_then : (n : ℕ) (xs ys : List Entry) (ps : List Told) → first_stop n xs ps ≡ None → first_stop n (xs ++ ys) ps ≡ first_stop (n + length xs) ys (after_entries xs ps)
stop_then n [] ys ps h = let same : n ≡ n + 0 = omega arith in ap (λ (k : ℕ). first_stop k ys ps) same
stop_then n (e ∷ es) ys ps h =
    let both = unstopped_both n (stopped_at e ps) (first_stop (n + 1) es (after_entry e ps)) h in
    let far : (n + 1) + length es ≡ n + suc (length es) = omega arith in
    let shown : after_entries es (after_entry e ps) ≡ after_entries (e ∷ es) ps = ap (λ (o : Option ℕ). unless_stopped o (after_entry e ps) (after_entries es (after_entry e ps))) (sym both.0) in
    ap (λ (o : Option ℕ). stop_or n o (first_stop (n + 1) (es ++ ys) (after_entry e ps))) both.0
    ∙ stop_then (n + 1) es ys (after_entry e ps) both.1
    ∙ (λ i. first_stop (far i) ys (shown i))

-- ---- a stop whose entry has a number from another on

abbrev later_by : ℕ → Option StopAt → Option StopAt
later_by k None = None
later_by k (Some stop) = Some (record { entry = k + stop.entry; probe = stop.probe })

stop_later : (k n : ℕ) (o : Option ℕ) (later : Option StopAt) → stop_or (k + n) o (later_by k later) ≡ later_by k (stop_or n o later)
stop_later k n None later = refl
stop_later k n (Some place) later = refl

stop_from : (k n : ℕ) (es : List Entry) (ps : List Told) → first_stop (k + n) es ps ≡ later_by k (first_stop n es ps)
stop_from k n [] ps = refl
stop_from k n (e ∷ es) ps =
    let next : (k + n) + 1 ≡ k + (n + 1) = omega arith in
    ap (stop_or (k + n) (stopped_at e ps)) (ap (λ (j : ℕ). first_stop j es (after_entry e ps)) next ∙ stop_from k (n + 1) es (after_entry e ps))
    ∙ stop_later k n (stopped_at e ps) (first_stop (n + 1) es (after_entry e ps))

abbrev entry_or : Option StopAt → ℕ
entry_or None = 0
entry_or (Some stop) = stop.entry

within_by : (n long : ℕ) (o : Option ℕ) (later : Option StopAt) (stop : StopAt) → (later ≡ Some stop → stop.entry < (n + 1) + long) → stop_or n o later ≡ Some stop → stop.entry < n + suc long
within_by n long None later stop rest h = let r = rest h in omega arith
within_by n long (Some place) later stop rest h = let same : n ≡ stop.entry = ap entry_or h in omega arith

-- a stop is at one of the entries
stop_within : (n : ℕ) (es : List Entry) (ps : List Told) (stop : StopAt) → first_stop n es ps ≡ Some stop → stop.entry < n + length es
stop_within n [] ps stop h = absurd cc
stop_within n (e ∷ es) ps stop h = within_by n (length es) (stopped_at e ps) (first_stop (n + 1) es (after_entry e ps)) stop (stop_within (n + 1) es (after_entry e ps) stop) h

-- the entries behind the first of a history, and a stop at one of these
tail_is : (first : ℕ) (k : List Entry) → take (length k - first) (drop first k) ≡ drop first k
tail_is first k = ap (λ (n : ℕ). take n (drop first k)) (sym (length-drop first k)) ∙ take-length (drop first k)

pub stop_below : (first : ℕ) (k : List Entry) (ps : List Told) (stop : StopAt) → first_stop 0 (take (length k - first) (drop first k)) ps ≡ Some stop → first + stop.entry < length k
stop_below first k ps stop h =
    let within = stop_within 0 (drop first k) ps stop (ap (λ (es : List Entry). first_stop 0 es ps) (sym (tail_is first k)) ∙ h) in
    let long = length-drop first k in
    omega arith

-- ---- a run that shows what it adds

-- the end of a history is what was added to its beginning
pub new_added : (h h' k k' : List Entry) → h' ≡ h → k' ≡ k → take (length k' - length h') (drop (length h') k') ≡ added h k
new_added h h' k k' seen now = tail_is (length h') k' ∙ (λ i. drop (length (seen i)) (now i))

pub added_is : (before more now : List Entry) → now ≡ before ++ more → added before now ≡ more
added_is before more now is = ap (drop (length before)) is ∙ drop-append_seam before more

-- what was added up to here was shown, and no probe wished a stop
pub record IsShowing {A : Type 0} (tell : A → Told) (before now : List Entry) (olds news : List A) : Type 0 where
  pub entries : List Entry
  pub history : now ≡ before ++ entries
  pub moved : map tell news ≡ after_entries entries (map tell olds)
  pub unstopped : first_stop 1 entries (map tell olds) ≡ None

module _ {A : Type 0} (tell : A → Told) where
  pub showing_none : (h : List Entry) (ps : List A) → IsShowing tell h h ps ps
  showing_none h ps = record { entries = []; history = sym (append-nil h); moved = refl; unstopped = refl }

  -- behind what was shown, a stretch
  further : (before h k : List Entry) (olds mids : List A) → (was : IsShowing tell before h olds mids) → (p : IsPrefix h k) → k ≡ before ++ (was.entries ++ p.more)
  further before h k olds mids was p = p.is ∙ ap (λ (es : List Entry). es ++ p.more) was.history ∙ append_assoc before was.entries p.more

  moved_on : (before h k es : List Entry) (olds mids news : List A) → (was : IsShowing tell before h olds mids) → (p : IsPrefix h k) → es ≡ added h k → map tell news ≡ after_entries es (map tell mids)
      → map tell news ≡ after_entries (was.entries ++ p.more) (map tell olds)
  moved_on before h k es olds mids news was p new moved =
      let piece : es ≡ p.more = new ∙ added_is h p.more k p.is in
      moved ∙ (λ i. after_entries (piece i) (was.moved i)) ∙ sym (after_then 1 was.entries p.more (map tell olds) was.unstopped)

  stop_on : (before h k es : List Entry) (olds mids : List A) → (was : IsShowing tell before h olds mids) → (p : IsPrefix h k) → es ≡ added h k
      → first_stop 1 (was.entries ++ p.more) (map tell olds) ≡ later_by (1 + length was.entries) (first_stop 0 es (map tell mids))
  stop_on before h k es olds mids was p new =
      let piece : es ≡ p.more = new ∙ added_is h p.more k p.is in
      let same : 1 + length was.entries ≡ (1 + length was.entries) + 0 = omega arith in
      stop_then 1 was.entries p.more (map tell olds) was.unstopped
      ∙ (λ i. first_stop (same i) (sym piece i) (sym was.moved i))
      ∙ stop_from (1 + length was.entries) 0 es (map tell mids)

  pub showing_then : (before h k es : List Entry) (olds mids news : List A) → IsShowing tell before h olds mids → IsPrefix h k → es ≡ added h k → map tell news ≡ after_entries es (map tell mids) → first_stop 0 es (map tell mids) ≡ None
      → IsShowing tell before k olds news
  showing_then before h k es olds mids news was p new moved none = record {
    entries = was.entries ++ p.more;
    history = further before h k olds mids was p;
    moved = moved_on before h k es olds mids news was p new moved;
    unstopped = stop_on before h k es olds mids was p new ∙ ap (later_by (1 + length was.entries)) none;
  }

  pub showing_done : (before now : List Entry) (olds news : List A) → IsShowing tell before now olds news → IsShown tell (added before now) olds news Done
  showing_done before now olds news was =
      let all : added before now ≡ was.entries = added_is before was.entries now was.history in
      record {
        moved = was.moved ∙ ap (λ (es : List Entry). after_entries es (map tell olds)) (sym all);
        answer = ap ran_by (sym was.unstopped ∙ ap (λ (es : List Entry). first_stop 1 es (map tell olds)) (sym all));
      }

  pub showing_stopped : (before h k es : List Entry) (olds mids news : List A) (shown : ℕ) (stop : StopAt) (ran : Ran) → IsShowing tell before h olds mids → IsPrefix h k → es ≡ added h k → map tell news ≡ after_entries es (map tell mids)
      → first_stop 0 es (map tell mids) ≡ Some stop → length h ≡ length before + shown → ran ≡ ran_by (Some (record { entry = shown + stop.entry + 1; probe = stop.probe })) → IsShown tell (added before k) olds news ran
  showing_stopped before h k es olds mids news shown stop ran was p new moved wish count is =
      let all : added before k ≡ was.entries ++ p.more = added_is before (was.entries ++ p.more) k (further before h k olds mids was p) in
      let long : length h ≡ length before + length was.entries = ap length was.history ∙ length-append before was.entries in
      let number : shown + stop.entry + 1 ≡ (1 + length was.entries) + stop.entry = omega arith in
      record {
        moved = moved_on before h k es olds mids news was p new moved ∙ ap (λ (l : List Entry). after_entries l (map tell olds)) (sym all);
        answer = is ∙ ap (λ (n : ℕ). ran_by (Some (record { entry = n; probe = stop.probe }))) number
            ∙ ap ran_by (sym (ap (λ (l : List Entry). first_stop 1 l (map tell olds)) all ∙ stop_on before h k es olds mids was p new ∙ ap (later_by (1 + length was.entries)) wish));
      }

  pub showing_part : (before h k : List Entry) (olds news : List A) → IsShowing tell before h olds news → IsPrefix h k → IsShownInPart tell (added before k) olds news
  showing_part before h k olds news was p = record {
    shown = was.entries;
    first = record { more = p.more; is = added_is before (was.entries ++ p.more) k (further before h k olds news was p) };
    moved = was.moved;
    unstopped = was.unstopped;
  }

  -- the last entries that a run shows, where a probe may wish a stop at one of these
  pub showing_over : (before h k es : List Entry) (olds mids news : List A) (shown : ℕ) (stop : Option StopAt) (ran : Ran) → IsShowing tell before h olds mids → IsPrefix h k → es ≡ added h k → map tell news ≡ after_entries es (map tell mids)
      → first_stop 0 es (map tell mids) ≡ stop → length h ≡ length before + shown → ran ≡ ran_by (numbered_behind shown stop) → IsShown tell (added before k) olds news ran
  showing_over before h k es olds mids news shown None ran was p new moved wish count is =
      let over = showing_done before k olds news (showing_then before h k es olds mids news was p new moved wish) in
      record { moved = over.moved; answer = is ∙ over.answer }
  showing_over before h k es olds mids news shown (Some stop) ran was p new moved wish count is = showing_stopped before h k es olds mids news shown stop ran was p new moved wish count is

pub showing_prefix : {A : Type 0} (tell : A → Told) (before now : List Entry) (olds news : List A) → IsShowing tell before now olds news → IsPrefix before now
showing_prefix tell before now olds news was = record { more = was.entries; is = was.history }

pub showing_long : {A : Type 0} (tell : A → Told) (before now : List Entry) (olds news : List A) → (was : IsShowing tell before now olds news) → length now ≡ length before + length was.entries
showing_long tell before now olds news was = ap length was.history ∙ length-append before was.entries

pub showing_as : {A : Type 0} (tell : A → Told) (before now : List Entry) (olds news same : List A) → same ≡ news → IsShowing tell before now olds news → IsShowing tell before now olds same
showing_as tell before now olds news same is was = record { entries = was.entries; history = was.history; moved = ap (map tell) is ∙ was.moved; unstopped = was.unstopped }

-- where a history has no more entries none wishes a stop
pub nothing_stops : (h k es : List Entry) (ps : List Told) → k ≡ h → es ≡ added h k → first_stop 0 es ps ≡ None
nothing_stops h k es ps same new = ap (λ (l : List Entry). first_stop 0 l ps) (new ∙ added_is h [] k (same ∙ sym (append-nil h)))

pub none_stopped : (shown : ℕ) (stop : Option StopAt) (ran : Ran) → stop ≡ None → ran ≡ ran_by (numbered_behind shown stop) → stopped_entry ran ≡ None
none_stopped shown stop ran none is = ap stopped_entry is ∙ ap (λ (o : Option StopAt). stopped_entry (ran_by (numbered_behind shown o))) none

-- a stop has a number of 64 bits
pub stops_below : (first shown : ℕ) (k : List Entry) (ps : List Told) (r : Option StopAt) → r ≡ first_stop 0 (take (length k - first) (drop first k)) ps → shown ≤ first → length k < 2 ^ 64 → IfSome r (λ stop. shown + stop.entry + 1 < 2 ^ 64)
stops_below first shown k ps None is low few = tt
stops_below first shown k ps (Some stop) is low few = let within = stop_below first k ps stop (sym is) in omega arith
