-- The way of a board towards the answer of its access, step by step.
use Rattle.std.proofs.Common.{◌≡◌, ◌∙◌, ℕ, ◌+◌, ◌^◌, ◌<◌, ◌≤◌, Bool, true, false, if◌then◌else◌, ap, sym, refl, subst, List, [], ◌∷◌, ◌++◌, get_or, length, replicate, slice_set, Option, Some, None, arith, add-zero}
use Rattle.std.proofs.lemmas.List.{append-nil, append_assoc, get_or-set_same, length-replicate, length-set}
use Rattle.spur_addr.specs.Address.{table_start}
use Rattle.spur_cache.specs.declared.line.Line.{Line}
use Rattle.spur_snoop.specs.declared.Need.{Need}
use Rattle.spur_flat.specs.declared.flat.Flat.{Flat}
use Rattle.spur_flat.specs.declared.access.FaultKind.{FaultKind}
use Rattle.spur_flat.specs.declared.entry.Entry.{Entry}
use Rattle.spur_flat.specs.Blocks.{board_of}
use Rattle.spur_flat.specs.Formed.{IsMade}
use Rattle.spur_flat.specs.Laws.{address_of}
use Rattle.spur_flat.specs.Needed.{lack_of, open_at, open_on}
use Rattle.spur_flat.specs.State.{Beside, State, beside_on, nothing_beside, served_beside}
use Rattle.spur_flat.specs.StateLaws.{IsAccess}
use Rattle.spur_flat.specs.Untold.{IsLike, LeadsUntold}
use Rattle.spur_flat.proofs.PieceFacts.{carried-append, untold-append}
use Rattle.spur_bus.specs.Calls.{line_count}
use Rattle.spur_walk.specs.declared.step.Walked.TheVariants as walked
use Rattle.spur_walk.specs.Answered.{LeavesBy}
use Rattle.spur_walk.specs.Bounds.{fills_left, steps_left}
use Rattle.spur_walk.specs.Laws.{MayStand, is_fetch}
use Rattle.spur_walk.specs.Plan.{access_plan}
use Rattle.spur_walk.specs.Present.{MayWalk}
use Rattle.spur_walk.specs.Steps.{Steps, answer_of, stepped}
use Rattle.spur_walk.proofs.FallFacts.{steps-fall}
use Rattle.spur_walk.proofs.MadeFacts.{access-made}
use Rattle.spur_walk.proofs.OpenedFacts.{all-push, none_set, set_again, small_length}
use Rattle.spur_walk.proofs.ServeFacts.{access-served}
use Rattle.spur_pager.specs.Again.{SharesSame}
use Rattle.spur_pager.specs.Opened.{AreCarriedIn, state_in}
use Rattle.spur_pager.specs.Served.{Keeps, tells}
use Rattle.spur_pager.specs.Stand.{CarriesOn, Stands, standing_flat}
use Rattle.spur_pager.specs.View.{View}
use Rattle.spur_pager.specs.Ahead.{is_of_leaving}
use Rattle.spur_pager.proofs.AheadStepFacts.{moved_other}
use Rattle.spur_pager.proofs.AgainFacts.{same-has-stepped, step-has-stepped, steps-add-up, steps-stand-again}
use Rattle.spur_pager.proofs.JoinFacts.{keeps_then}
use Rattle.spur_pager.proofs.OpenedFacts.{access-is-carried-in, step-is-carried-in}
use Rattle.spur_core.specs.Approach.{Approaches, IsOpenFor, OnWay, answer_in, ending_of, open_only}
use Rattle.spur_core.specs.Tally.{fetch_count, is_serving}
use Rattle.spur_core.proofs.OpenForFacts.{bus_idle, nothing-open, step-open}
use Rattle.spur_core.proofs.TallyFacts.{fetch_count-append}

pub keeps_same : (w : View) → Keeps w w
keeps_same w = record { boards = refl; lines = refl; memory = refl; slots = refl; tells = refl; ahead = refl }

-- pieces one after another
in_then : (rest : Flat) (w u v : View) (o p q : Beside) (some more : List Entry) → u.pages ≡ w.pages → AreCarriedIn rest w o u p some → AreCarriedIn rest u p v q more → AreCarriedIn rest w o v q (some ++ more)
in_then rest w u v o p q some more same first second = record {
  told = λ (words : List ℕ) (is : w.pages ≡ Some words). carried-append (state_in rest w o) (state_in rest u p) (state_in rest v q) some more (first.told words is) (second.told words (same ∙ is));
  untold = untold-append (state_in rest w o) (state_in rest u p) (state_in rest v q) some more first.untold second.untold;
}

in_none : (rest : Flat) (w : View) (o p : Beside) → o ≡ p → AreCarriedIn rest w o w p []
in_none rest w o p same =
    let states : state_in rest w o ≡ state_in rest w p = ap (state_in rest w) same in
    record {
      told = λ (words : List ℕ) (is : w.pages ≡ Some words). record { follows = tt; leads = states };
      untold = λ (F : Flat) (like : IsLike F (standing_flat rest w)).
          subst (λ (S : State). LeadsUntold F (state_in rest w o) S []) states (record { legal = tt; tagged = tt; needed = tt; like = like; tags = refl; opened = refl; lines = refl });
    }

abbrev beside_with : List (List Entry) → Beside
beside_with opened = record { opened = opened }

-- no step yet
pub way_none : (b at : ℕ) (need : Need) (w : View) → MayWalk w.caches w.memory → OnWay b at need w w
way_none b at need w walk = record {
  entries = [];
  opened = [];
  history = sym (append-nil w.history);
  room = add-zero w.room;
  made = tt;
  idle = tt;
  quiet = tt;
  opens = nothing-open w.caches b at need;
  stepped = same-has-stepped w w walk (record { caches = refl; memory = refl; shares = record { frames = refl; pages = refl; slots = refl } });
  keeps = keeps_same w;
  faults = refl;
  few = omega arith;
  fetches = omega arith;
  carries = λ (rest : Flat) (st : Stands rest w).
      record { carried = in_none rest w (nothing_beside (length w.caches)) (open_only (length w.caches) b []) (ap beside_with (sym (none_set (length w.caches) b))); stands = st };
}

-- a fill or a claim lowers what is left of these
fetched : (e : Entry) (fetch : Bool) (before after : ℕ) → is_fetch e ≡ fetch → after ≤ before → (fetch ≡ true → after < before) → fetch_count (e ∷ []) + after ≤ before
fetched e true before after is most less =
    let one : fetch_count (e ∷ []) ≡ 1 = ap (λ (t : Bool). length (if t then e ∷ [] else [])) is in
    let lower : after < before = less refl in
    omega arith
fetched e false before after is most less =
    let none : fetch_count (e ∷ []) ≡ 0 = ap (λ (t : Bool). length (if t then e ∷ [] else [])) is in
    omega arith

-- one step more
pub way_more : (b at : ℕ) (need : Need) (w u v : View) (e : Entry) → b < length w.caches → at < table_start → OnWay b at need w u
    → Steps u.caches u.memory b at (access_plan u.caches u.memory b at need) v.caches v.memory → answer_in u b at need ≡ walked.Moved e
    → v.history ≡ u.history ++ e ∷ [] → v.room + 1 ≡ u.room → SharesSame u v → v.faults ≡ u.faults → v.ahead ≡ u.ahead → OnWay b at need w v
way_more b at need w u v e within user way s h history room shares faults ahead =
    let n : ℕ = length w.caches in
    let base : List (List Entry) = replicate n [] in
    let openeds : Beside = open_only n b way.opened in
    let walk : MayWalk u.caches u.memory = way.stepped.walk in
    let here : b < length u.caches = subst (λ (k : ℕ). b < k) (sym way.keeps.boards) within in
    let long : b < length base = subst (λ (k : ℕ). b < k) (sym (length-replicate n [])) within in
    let long_set : b < length openeds.opened = subst (λ (k : ℕ). b < k) (sym (length-set base b way.opened)) long in
    let at_is : open_at openeds.opened b ≡ way.opened = get_or-set_same base b way.opened [] long in
    let o = step-open u.caches v.caches u.memory v.memory b at need openeds.opened e walk here user long_set s h (subst (λ (os : List Entry). IsOpenFor u.caches b at need os) (sym at_is) way.opens) in
    let now : List Entry = open_at (open_on openeds.opened e) b in
    let on_is : beside_on openeds e ≡ open_only n b now = ap beside_with (o.others ∙ set_again base b way.opened now) in
    let falls = steps-fall u.caches u.memory b at need e walk here user h in
    let own : get_or (stepped u.caches u.memory b at (access_plan u.caches u.memory b at need)) b [] ≡ get_or v.caches b [] = ap (λ (cs : List (List (Option Line))). get_or cs b []) (sym s.caches) in
    let less : steps_left (get_or v.caches b []) at need < steps_left (get_or u.caches b []) at need =
    subst (λ (ls : List (Option Line)). steps_left ls at need < steps_left (get_or u.caches b []) at need) own falls.steps in
    let one : fetch_count (e ∷ []) + fills_left (get_or v.caches b []) at need ≤ fills_left (get_or u.caches b []) at need =
    subst (λ (ls : List (Option Line)). fetch_count (e ∷ []) + fills_left ls at need ≤ fills_left (get_or u.caches b []) at need) own
    (fetched e (is_fetch e) (fills_left (get_or u.caches b []) at need) (fills_left (get_or (stepped u.caches u.memory b at (access_plan u.caches u.memory b at need)) b []) at need) refl falls.fills falls.fetches) in
    let was_few : length way.entries + steps_left (get_or u.caches b []) at need ≤ steps_left (get_or w.caches b []) at need = way.few in
    let was_fetches : fetch_count way.entries + fills_left (get_or u.caches b []) at need ≤ fills_left (get_or w.caches b []) at need = way.fetches in
    let counts : fetch_count (way.entries ++ e ∷ []) ≡ fetch_count way.entries + fetch_count (e ∷ []) = fetch_count-append way.entries (e ∷ []) in
    let size : length (way.entries ++ e ∷ []) ≡ length way.entries + 1 = small_length way.entries e in
    let was_room : u.room + length way.entries ≡ w.room = way.room in
    let serves = access-served u.caches u.memory b at need e walk here user h in
    let after = steps-add-up w u v way.stepped (step-has-stepped u v b at need walk here user s shares) in
    record {
      entries = way.entries ++ e ∷ [];
      opened = now;
      history = history ∙ ap (λ (es : List Entry). es ++ e ∷ []) way.history ∙ append_assoc w.history way.entries (e ∷ []);
      room = omega arith;
      made = all-push (IsMade b n) way.entries e way.made (subst (λ (k : ℕ). IsMade b k e) way.keeps.boards (access-made u.caches u.memory b at need e walk.agree here user h));
      idle = all-push (λ (x : Entry). is_serving x ≡ false) way.entries e way.idle (bus_idle e serves.bus);
      quiet = all-push (λ (x : Entry). is_of_leaving x ≡ false) way.entries e way.quiet (moved_other b at (access_plan u.caches u.memory b at need) e h);
      opens = o.opens;
      stepped = after;
      keeps = keeps_then w u v way.keeps (record { boards = s.count; lines = s.lines; memory = s.size; slots = shares.slots; tells = ap tells shares.pages; ahead = ahead });
      faults = faults ∙ way.faults;
      few = omega arith;
      fetches = omega arith;
      carries = λ (rest : Flat) (sw : Stands rest w).
          let was = way.carries rest sw in
          let step = step-is-carried-in rest u v b at need openeds e was.stands here user s shares h o.needed in
          record {
            carried = subst (λ (os : Beside). AreCarriedIn rest w (nothing_beside n) v os (way.entries ++ e ∷ [])) on_is
                (in_then rest w u v (nothing_beside n) openeds (beside_on openeds e) way.entries (e ∷ []) way.stepped.shares.pages was.carried step);
            stands = (steps-stand-again rest w v sw after).stands;
          };
    }

-- What is answered is appended: with the steps before it, it is carried to where nothing is open.
pub answered : (b at : ℕ) (need : Need) (w u v : View) (e : Entry) → b < length w.caches → (way : OnWay b at need w u) → IsAccess e → board_of e ≡ b → address_of e < 2 ^ 38 → MayStand u.caches u.memory e
    → lack_of (line_count u.caches) (open_only (length w.caches) b way.opened).opened e ≡ None → LeavesBy u.caches v.caches u.memory e → v.memory ≡ u.memory → SharesSame u v → length v.caches ≡ length u.caches
    → ((rest : Flat) → Stands rest u → Stands rest v) → (rest : Flat) → Stands rest w → CarriesOn rest w v (way.entries ++ e ∷ [])
answered b at need w u v e within way is board small may lacks leaves memory shares count stands rest sw =
    let n : ℕ = length w.caches in
    let base : List (List Entry) = replicate n [] in
    let openeds : Beside = open_only n b way.opened in
    let none : served_beside openeds (board_of e) ≡ nothing_beside n = ap beside_with (ap (λ (k : ℕ). slice_set openeds.opened k []) board ∙ set_again base b way.opened [] ∙ none_set n b) in
    let boards : nothing_beside n ≡ nothing_beside (length v.caches) = ap nothing_beside (sym (count ∙ way.keeps.boards)) in
    let was = way.carries rest sw in
    let last = access-is-carried-in rest u v openeds e was.stands is small may lacks leaves memory shares in
    let all = in_then rest w u v (nothing_beside n) openeds (served_beside openeds (board_of e)) way.entries (e ∷ []) way.stepped.shares.pages was.carried last in
    let closed : AreCarriedIn rest w (nothing_beside n) v (nothing_beside (length v.caches)) (way.entries ++ e ∷ []) =
    subst (λ (os : Beside). AreCarriedIn rest w (nothing_beside n) v os (way.entries ++ e ∷ [])) (none ∙ boards) all in
    record { carried = record { told = closed.told; untold = closed.untold }; stands = stands rest was.stands }

-- for a caller who repeats a step
pub less_left : (caches after : List (List (Option Line))) (memory : List ℕ) (b at : ℕ) (need : Need) (e : Entry) → MayWalk caches memory → b < length caches → at < table_start
    → answer_of b at (access_plan caches memory b at need) ≡ walked.Moved e → after ≡ stepped caches memory b at (access_plan caches memory b at need)
    → steps_left (get_or after b []) at need < steps_left (get_or caches b []) at need
less_left caches after memory b at need e walk within user moved is =
    subst (λ (cs : List (List (Option Line))). steps_left (get_or cs b []) at need < steps_left (get_or caches b []) at need) (sym is) (steps-fall caches memory b at need e walk within user moved).steps

pub room_left : (b at : ℕ) (need : Need) (w u : View) (after : List (List (Option Line))) → OnWay b at need w u → steps_left (get_or w.caches b []) at need ≤ w.room
    → steps_left (get_or after b []) at need < steps_left (get_or u.caches b []) at need → 1 ≤ u.room
room_left b at need w u after way enough less =
    let few : length way.entries + steps_left (get_or u.caches b []) at need ≤ steps_left (get_or w.caches b []) at need = way.few in
    let room : u.room + length way.entries ≡ w.room = way.room in
    omega arith

-- the last answer changes nothing
pub approaches : (b at : ℕ) (need : Need) (w u : View) (caches : List (List (Option Line))) (memory : List ℕ) (result : Option FaultKind) → OnWay b at need w u → caches ≡ u.caches → memory ≡ u.memory
    → answer_in u b at need ≡ ending_of result → Approaches b at need w (record u { caches = caches; memory = memory }) result
approaches b at need w u caches memory result way same_caches same_memory is =
    subst (λ (cs : List (List (Option Line))). Approaches b at need w (record u { caches = cs; memory = memory }) result) (sym same_caches)
    (subst (λ (ws : List ℕ). Approaches b at need w (record u { memory = ws }) result) (sym same_memory) (record { way = way; answered = is }))
