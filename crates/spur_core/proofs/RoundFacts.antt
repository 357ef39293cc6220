-- One round of a turn: steps, a fault, and what serving it leaves.
use Rattle.std.proofs.Common.{◌≡◌, ◌∙◌, ℕ, zero, suc, ◌+◌, ◌<◌, ◌≤◌, ◌^◌, ◌⊎◌, inl, inr, ⊎_elim, ◌&&◌, Bool, true, false, if◌then◌else◌, ap, sym, refl, subst, List, [], ◌∷◌, ◌++◌, get_or, length, Option, Some, None, Result, Ok, Err, arith, eq-eqb}
use Rattle.std.specs.Prelude.{IfErr, OnOk, is_err}
use Rattle.std.proofs.lemmas.List.{get_or-set_same, length-replicate}
use Rattle.spur_addr.specs.Address.{is_aligned, table_start}
use Rattle.spur_snoop.specs.declared.Need.{Need}
use Rattle.spur_flat.specs.declared.access.AccessKind.{AccessKind}
use Rattle.spur_flat.specs.declared.access.AccessKind.TheVariants as access
use Rattle.spur_flat.specs.declared.access.FaultKind.{FaultKind}
use Rattle.spur_flat.specs.declared.access.FaultKind.TheVariants as fault
use Rattle.std.specs.List.{AllByRecursion}
use Rattle.spur_flat.specs.declared.entry.Entry.{Entry}
use Rattle.spur_flat.specs.Formed.{IsMade}
use Rattle.spur_flat.specs.declared.entry.Entry.TheVariants as entry
use Rattle.spur_flat.specs.declared.flat.Flat.{Flat}
use Rattle.spur_flat.specs.History.{is_own}
use Rattle.spur_flat.specs.Needed.{open_at}
use Rattle.spur_flat.specs.Untold.{IsLike}
use Rattle.spur_flat.specs.Validity.{IsValidFlat}
use Rattle.spur_cpu.specs.After.{is_done}
use Rattle.spur_cpu.specs.Meaning.{is_ending}
use Rattle.spur_walk.specs.declared.step.Walked.TheVariants as walked
use Rattle.spur_walk.specs.Bounds.{fills_left, steps_left}
use Rattle.spur_walk.specs.Laws.{IsStanding, done_entry, is_fetch, is_served, need_of}
use Rattle.spur_walk.proofs.AnswerFacts.{fault-stands}
use Rattle.spur_walk.proofs.BoundFacts.{steps-few}
use Rattle.spur_walk.proofs.OpenedFacts.{none_open}
use Rattle.spur_pager.specs.declared.fault.ServeFault.{ServeFault}
use Rattle.spur_pager.specs.Again.{ShowsSame}
use Rattle.spur_pager.specs.Faults.{IsPast, faults_left}
use Rattle.spur_frames.specs.Frames.{AreFrames}
use Rattle.spur_pager.specs.Reserve.{turn_room}
use Rattle.spur_pager.specs.Room.{room_for}
use Rattle.spur_pager.specs.Served.{Does, HasFailed, HasFault, IsCarriedOn, IsServed, Keeps, MayFail, appended}
use Rattle.spur_pager.specs.Stand.{IsServable, Stands, standing_flat}
use Rattle.spur_pager.specs.View.{View}
use Rattle.spur_pager.proofs.AgainFacts.{same-stands-again, steps-stand-again}
use Rattle.spur_pager.proofs.FewFacts.{served-leaves-few}
use Rattle.spur_pager.proofs.FewerFacts.{past-is-no-fault, served-fault-falls, stepped-keeps-faults}
use Rattle.spur_pager.proofs.ReserveFacts.{fault-has-room, served-leaves-room, steps-leave-room}
use Rattle.spur_core.specs.Approach.{Approaches, IsOpenFor, OnWay, answer_in, open_only}
use Rattle.spur_core.specs.Comes.{BecomesReady, Comes, EndsByFault, EndsBySwap}
use Rattle.spur_core.specs.Step.{EndsWithAnswer}
use Rattle.spur_core.specs.Tally.{IsFrugal, access_fetches, fault_count, fetch_count, is_fault_of, is_serving, same_fault, serves_access}
use Rattle.spur_core.proofs.ComesFacts.{comes_again, comes_on, comes_served, made_board, own_is_last, servable_now}
use Rattle.spur_core.proofs.OpenForFacts.{fault_needed}
use Rattle.spur_core.proofs.TallyFacts.{IsSettled, fault_count-append, fetches_idle, fetches_made, fetches_settled, made_no_fault, same_fault_is, settled_by, settled_open, settled_then}
use Rattle.spur_core.proofs.WayFacts.{answered}

-- what is counted in a turn so far: no kind of fault twice, and those that there were can't be again; and the fills and
-- claims of the access, with those that are left, are at most three
pub record Tallies (b at : ℕ) (need : Need) (v : View) (entries : List Entry) : Type 0 where
  pub once : (kind : FaultKind) → fault_count kind entries ≤ 1
  pub past : (kind : FaultKind) → 1 ≤ fault_count kind entries → IsPast v b at kind
  pub fetches : access_fetches entries + fills_left (get_or v.caches b []) at need ≤ 3
  pub settled : IsSettled entries

pub tallies_none : (b at : ℕ) (need : Need) (w : View) → Tallies b at need w []
tallies_none b at need w =
    let few : fills_left (get_or w.caches b []) at need ≤ 3 = (steps-few (get_or w.caches b []) at need).fills in
    record {
      once = λ kind. omega arith;
      past = λ kind h. absurd (omega arith);
      fetches = omega arith;
      settled = tt;
    }

-- the entry of an access or of a fault
pub record IsAnswer (b : ℕ) (e : Entry) : Type 0 where
  pub serving : is_serving e ≡ true
  pub serves : serves_access (e ∷ []) ≡ true
  pub fetch : is_fetch e ≡ false

-- the fills and claims after steps and the entry that they serve
fetches_more : (b at : ℕ) (need : Need) (u v : View) (entries : List Entry) (e : Entry) → Tallies b at need u entries → (way : OnWay b at need u v) → IsAnswer b e
    → access_fetches (entries ++ (way.entries ++ e ∷ [])) + fills_left (get_or v.caches b []) at need ≤ 3
fetches_more b at need u v entries e tallies way is =
    let es : List Entry = way.entries in
    let one : access_fetches (entries ++ (es ++ e ∷ [])) ≡ access_fetches entries + access_fetches (es ++ e ∷ []) = fetches_settled entries (es ++ e ∷ []) tallies.settled in
    let two : access_fetches (es ++ e ∷ []) ≡ fetch_count es + access_fetches (e ∷ []) = fetches_idle es (e ∷ []) way.idle is.serves in
    let three : access_fetches (e ∷ []) ≡ 0 = last (is_fetch e) is.fetch in
    let was : access_fetches entries + fills_left (get_or u.caches b []) at need ≤ 3 = tallies.fetches in
    let left : fetch_count es + fills_left (get_or v.caches b []) at need ≤ fills_left (get_or u.caches b []) at need = way.fetches in
    omega arith
  where
    last : (t : Bool) → t ≡ false → (if t && false then 1 else 0) + 0 ≡ 0
    last true h = cc
    last false h = refl

pub count_more : (kind : FaultKind) (b at : ℕ) (need : Need) (u v : View) (entries : List Entry) (e : Entry) → (way : OnWay b at need u v)
    → fault_count kind (entries ++ (way.entries ++ e ∷ [])) ≡ fault_count kind entries + fault_count kind (e ∷ [])
count_more kind b at need u v entries e way =
    let es : List Entry = way.entries in
    let one : fault_count kind (entries ++ (es ++ e ∷ [])) ≡ fault_count kind entries + fault_count kind (es ++ e ∷ []) = fault_count-append kind entries (es ++ e ∷ []) in
    let two : fault_count kind (es ++ e ∷ []) ≡ fault_count kind es + fault_count kind (e ∷ []) = fault_count-append kind es (e ∷ []) in
    let none : fault_count kind es ≡ 0 = made_no_fault kind b (length u.caches) es way.made in
    omega arith

-- an access that is done
done_answer : (b : ℕ) (e : Entry) → is_done e ≡ true → IsAnswer b e
done_answer b (entry.Load board at value) h = record { serving = refl; serves = eq-eqb board board refl; fetch = refl }
done_answer b (entry.Store board at value) h = record { serving = refl; serves = eq-eqb board board refl; fetch = refl }
done_answer b (entry.Tas board at old) h = record { serving = refl; serves = eq-eqb board board refl; fetch = refl }
done_answer b e h = cc

done_no_fault : (kind : FaultKind) (e : Entry) → is_done e ≡ true → fault_count kind (e ∷ []) ≡ 0
done_no_fault kind (entry.Load board at value) h = refl
done_no_fault kind (entry.Store board at value) h = refl
done_no_fault kind (entry.Tas board at old) h = refl
done_no_fault kind e h = cc

done_frugal : (b at : ℕ) (need : Need) (u v : View) (entries : List Entry) (e : Entry) → Tallies b at need u entries → (way : OnWay b at need u v) → is_done e ≡ true
    → IsFrugal (entries ++ (way.entries ++ e ∷ []))
done_frugal b at need u v entries e tallies way is = record {
  once = λ kind.
      let all = count_more kind b at need u v entries e way in
      let none = done_no_fault kind e is in
      let was = tallies.once kind in
      omega arith;
  fetches = let more = fetches_more b at need u v entries e tallies way (done_answer b e is) in omega arith;
}

pub becomes_ready : (b at : ℕ) (access : AccessKind) (w u v : View) (entries faults : List Entry) → Comes b at access w u entries faults [] → Tallies b at (need_of access) u entries
    → Approaches b at (need_of access) u v None → IsServable w → AreFrames u.frames → turn_room u b at (need_of access) ≤ u.room → BecomesReady b at access w v
becomes_ready b at access w u v entries faults comes tallies a servable table enough =
    let room = steps-leave-room u v b at (need_of access) (length a.way.entries) (servable_now b at access w u entries faults [] comes servable) table a.way.stepped a.way.few in
    let left : v.room + length a.way.entries ≡ u.room = a.way.room in
    record {
      entries = entries;
      faults = faults;
      mid = u;
      comes = comes;
      way = a.way;
      ready = a.answered;
      room = omega arith;
      frugal = λ e is. done_frugal b at (need_of access) u v entries e tallies a.way is;
    }

-- a fault that answers is not past
not_past : (w : View) (b at : ℕ) (access : AccessKind) (kind : FaultKind) → IsServable w → b < length w.caches → at < table_start → answer_in w b at (need_of access) ≡ walked.Fault kind → IsPast w b at kind → ⊥
not_past w b at access fault.Align servable within user answered past = past
not_past w b at access fault.Unmapped servable within user answered past = past
not_past w b at access fault.Protection servable within user answered past = past
not_past w b at access fault.Missing servable within user answered past = past-is-no-fault w b fault.Missing at servable within user past (record { access = access; answers = answered; served = refl })
not_past w b at access fault.Leaving servable within user answered past = past-is-no-fault w b fault.Leaving at servable within user past (record { access = access; answers = answered; served = refl })
not_past w b at access fault.Reference servable within user answered past = past-is-no-fault w b fault.Reference at servable within user past (record { access = access; answers = answered; served = refl })
not_past w b at access fault.Dirty servable within user answered past = past-is-no-fault w b fault.Dirty at servable within user past (record { access = access; answers = answered; served = refl })

-- a fault was appended
pub record IsFaulted (b at : ℕ) (access : AccessKind) (kind : FaultKind) (w z : View) (entries faults : List Entry) : Type 0 where
  pub comes : Comes b at access w z entries faults (entry.Fault b kind access at ∷ [])
  pub reaches : EndsWithAnswer b entries
  pub servable : IsServable z
  pub within : b < length z.caches
  pub answered : answer_in z b at (need_of access) ≡ walked.Fault kind
  pub once : (other : FaultKind) → fault_count other entries ≤ 1
  pub past : (other : FaultKind) → 1 ≤ fault_count other entries → (other ≡ kind) ⊎ IsPast z b at other
  pub fetches : access_fetches entries + fills_left (get_or z.caches b []) at (need_of access) ≤ 3
  pub settled : IsSettled entries
  pub room : turn_room z b at (need_of access) ≤ z.room + 1

-- of the kinds of fault, this one is counted once more
one_fault : (other kind : FaultKind) (b at : ℕ) (access : AccessKind) (t : Bool) (before all : ℕ) → t ≡ same_fault other kind → all ≡ before + fault_count other (entry.Fault b kind access at ∷ []) → (other ≡ kind → before ≡ 0) → before ≤ 1 → all ≤ 1
one_fault other kind b at access true before all is count fresh few =
    let one : fault_count other (entry.Fault b kind access at ∷ []) ≡ 1 = ap (λ (x : Bool). length (if x then entry.Fault b kind access at ∷ [] else [])) (sym is) in
    let none : before ≡ 0 = fresh (same_fault_is other kind (sym is)) in
    omega arith
one_fault other kind b at access false before all is count fresh few =
    let none : fault_count other (entry.Fault b kind access at ∷ []) ≡ 0 = ap (λ (x : Bool). length (if x then entry.Fault b kind access at ∷ [] else [])) (sym is) in
    omega arith

one_past : (P : Type 0) (other kind : FaultKind) (b at : ℕ) (access : AccessKind) (t : Bool) (before all : ℕ) → t ≡ same_fault other kind → all ≡ before + fault_count other (entry.Fault b kind access at ∷ []) → (1 ≤ before → P) → 1 ≤ all → (other ≡ kind) ⊎ P
one_past P other kind b at access true before all is count was some = inl (same_fault_is other kind (sym is))
one_past P other kind b at access false before all is count was some =
    let none : fault_count other (entry.Fault b kind access at ∷ []) ≡ 0 = ap (λ (x : Bool). length (if x then entry.Fault b kind access at ∷ [] else [])) (sym is) in
    inr (was (omega arith))

zero_or : (n : ℕ) → (1 ≤ n → ⊥) → n ≡ 0
zero_or zero h = refl
zero_or (suc n) h = absurd (h (omega arith))

pub faulted : (b at : ℕ) (access : AccessKind) (kind : FaultKind) (w u v : View) (entries faults history : List Entry) (room : ℕ) → IsServable w → b < length w.caches → at < table_start → is_aligned at ≡ true
    → Comes b at access w u entries faults [] → Tallies b at (need_of access) u entries → (a : Approaches b at (need_of access) u v (Some kind)) → AreFrames u.frames → turn_room u b at (need_of access) ≤ u.room
    → history ≡ v.history ++ entry.Fault b kind access at ∷ [] → room + 1 ≡ v.room
    → IsFaulted b at access kind w (record v { history = history; room = room }) (entries ++ (a.way.entries ++ entry.Fault b kind access at ∷ [])) faults
faulted b at access kind w u v entries faults history room servable within user aligned comes tallies a table enough history_is room_is =
    let need : Need = need_of access in
    let e : Entry = entry.Fault b kind access at in
    let z : View = record v { history = history; room = room } in
    let way = a.way in
    let shows : ShowsSame v z = record { caches = refl; memory = refl; shares = record { frames = refl; pages = refl; slots = refl } } in
    let stands_z : (rest : Flat) → Stands rest v → Stands rest z = λ (rest : Flat) (st : Stands rest v). (same-stands-again rest v z st shows).stands in
    let small : at < 2 ^ 38 = omega arith in
    let servable_u : IsServable u = servable_now b at access w u entries faults [] comes servable in
    let st_u : Stands servable_u.rest u = servable_u.stands in
    let st_v : Stands servable_u.rest v = (steps-stand-again servable_u.rest u v st_u way.stepped).stands in
    let within_u : b < length u.caches = subst (λ (n : ℕ). b < n) (sym comes.keeps.boards) within in
    let within_v : b < length v.caches = subst (λ (n : ℕ). b < n) (sym way.keeps.boards) within_u in
    let servable_v : IsServable v = record { rest = servable_u.rest; stands = st_v } in
    let standing : IsStanding v.caches v.memory b at = record { walk = st_v.walk; present = st_v.present; own = within_v; user = user } in
    let base : List (List Entry) = none_open (length u.caches) in
    let open_is : open_at (open_only (length u.caches) b way.opened).opened b ≡ way.opened = get_or-set_same base b way.opened [] (subst (λ (n : ℕ). b < n) (sym (length-replicate (length u.caches) [])) within_u) in
    let needed = fault_needed v.caches v.memory b at access kind (open_only (length u.caches) b way.opened).opened (subst (λ (os : List Entry). IsOpenFor v.caches b at need os) (sym open_is) way.opens) a.answered in
    let carries = answered b at need u v z e within_u way tt refl small (fault-stands v.caches v.memory b at access kind standing aligned a.answered) needed
    (record { logical = refl; tags = refl; lines = refl }) refl (record { frames = refl; pages = refl; slots = refl }) refl stands_z in
    let comes_z : Comes b at access w z (entries ++ (way.entries ++ e ∷ [])) faults (e ∷ []) =
    comes_on b at access w u v z entries faults e comes way history_is room_is (record { board = refl; formed = record { there = within; small = small; starts = tt } }) (eq-eqb b b refl)
    (record { boards = refl; lines = refl; memory = refl; slots = refl; tells = refl; ahead = refl }) refl carries in
    let keeps_past = stepped-keeps-faults u v b at way.stepped in
    let away : IsPast v b at kind → ⊥ = not_past v b at access kind servable_v within_v user a.answered in
    let leaves = steps-leave-room u v b at need (length way.entries) servable_u table way.stepped way.few in
    let left : v.room + length way.entries ≡ u.room = way.room in
    record {
      comes = comes_z;
      reaches = own_is_last b entries way.entries e (eq-eqb b b refl);
      servable = record { rest = servable_u.rest; stands = stands_z servable_u.rest st_v };
      within = within_v;
      answered = a.answered;
      once = λ other.
          one_fault other kind b at access (same_fault other kind) (fault_count other entries) (fault_count other (entries ++ (way.entries ++ e ∷ []))) refl (count_more other b at need u v entries e way)
          (λ same. zero_or (fault_count other entries) (λ some. away (subst (IsPast v b at) same (keeps_past.still other (tallies.past other some))))) (tallies.once other);
      past = λ other some.
          one_past (IsPast z b at other) other kind b at access (same_fault other kind) (fault_count other entries) (fault_count other (entries ++ (way.entries ++ e ∷ []))) refl (count_more other b at need u v entries e way)
          (λ was. keeps_past.still other (tallies.past other was)) some;
      fetches = fetches_more b at need u v entries e tallies way (record { serving = refl; serves = eq-eqb b b refl; fetch = refl });
      settled = settled_then entries (way.entries ++ e ∷ []) tallies.settled (settled_by way.entries e refl refl);
      room = omega arith;
    }

-- the fault ends the board, or the swap failed
pub ends_by_fault : (b at : ℕ) (access : AccessKind) (kind : FaultKind) (w z : View) (entries faults : List Entry) → IsFaulted b at access kind w z entries faults → is_ending kind ≡ true → EndsByFault b at access w z kind
ends_by_fault b at access kind w z entries faults f ending = record {
  entries = entries;
  faults = faults;
  ending = ending;
  comes = f.comes;
  reaches = f.reaches;
  frugal = record { once = f.once; fetches = let most = f.fetches in omega arith };
}

pub served_of : (kind : FaultKind) → is_ending kind ≡ false → is_served kind ≡ true
served_of fault.Align h = cc
served_of fault.Unmapped h = cc
served_of fault.Missing h = refl
served_of fault.Leaving h = refl
served_of fault.Protection h = cc
served_of fault.Reference h = refl
served_of fault.Dirty h = refl

pub has_fault : (b at : ℕ) (access : AccessKind) (kind : FaultKind) (w z : View) (entries faults : List Entry) → IsFaulted b at access kind w z entries faults → is_ending kind ≡ false → HasFault z b kind at
has_fault b at access kind w z entries faults f goes = record { access = access; answers = f.answered; served = served_of kind goes }

-- it can be served
pub fault_fits : (b at : ℕ) (access : AccessKind) (kind : FaultKind) (w z : View) (entries faults : List Entry) → at < table_start → IsFaulted b at access kind w z entries faults → is_ending kind ≡ false → room_for z kind ≤ z.room
fault_fits b at access kind w z entries faults user f goes =
    let fits : 1 + room_for z kind ≤ turn_room z b at (need_of access) = fault-has-room z b kind at (need_of access) f.servable f.within user (has_fault b at access kind w z entries faults f goes) in
    let room = f.room in
    omega arith

pub nothing_at : (n i : ℕ) → open_at (none_open n) i ≡ []
nothing_at zero i = refl
nothing_at (suc n) zero = refl
nothing_at (suc n) (suc i) = nothing_at n i

like_self : (F : Flat) → IsValidFlat F → IsLike F F
like_self F valid = record { pages = refl; tables = refl; frames = refl; words = refl; table = refl; swap = valid.swap }

-- nothing is open after entries that are carried to where nothing is
pub carried_settled : (b : ℕ) (z y : View) → IsServable z → b < length z.caches → AllByRecursion (IsMade b (length z.caches)) (appended z y) → IsCarriedOn z y → IsSettled (appended z y)
carried_settled b z y servable within made carried =
    let on = carried servable.rest servable.stands in
    let leads = on.carried.untold (standing_flat servable.rest z) (like_self (standing_flat servable.rest z) servable.stands.valid) in
    let long : b < length (none_open (length z.caches)) = subst (λ (n : ℕ). b < n) (sym (length-replicate (length z.caches) [])) within in
    settled_open b (none_open (length z.caches)) (appended z y) (made_board b (length z.caches) (appended z y) made) long
    (ap (λ (os : List (List Entry)). open_at os b) leads.opened ∙ nothing_at (length y.caches) b)

-- so the turn may go on
pub record GoesOn (b at : ℕ) (access : AccessKind) (kind : FaultKind) (w z y : View) (entries faults : List Entry) : Type 0 where
  pub comes : Comes b at access w y (entries ++ appended z y) (faults ++ entry.Fault b kind access at ∷ []) []
  pub tallies : Tallies b at (need_of access) y (entries ++ appended z y)
  pub room : turn_room y b at (need_of access) ≤ y.room
  pub fewer : faults_left y b at < faults_left z b at

pub goes_on : (b at : ℕ) (access : AccessKind) (kind : FaultKind) (w z y : View) (entries faults : List Entry) → at < table_start → IsFaulted b at access kind w z entries faults → is_ending kind ≡ false
    → Does b z kind at (Ok (tt {0})) y → IsCarriedOn z y → IsServed b z kind at y → Keeps z y → z.faults ≤ y.faults → GoesOn b at access kind w z y entries faults
goes_on b at access kind w z y entries faults user f goes does carried served keeps later =
    let need : Need = need_of access in
    let has : HasFault z b kind at = record { access = access; answers = f.answered; served = served_of kind goes } in
    let more : List Entry = appended z y in
    let falls = served-fault-falls z y b kind at f.servable f.within user has served in
    let few = served-leaves-few z y b at kind has served in
    let leaves : turn_room y b at need + (1 + room_for z kind) ≤ turn_room z b at need = served-leaves-room z y b kind at need f.servable f.within user has served keeps.boards does.count in
    let used : length more ≤ room_for z kind = does.used in
    let left : y.room + length more ≡ z.room = does.room in
    let room = f.room in
    let fewer : fills_left (get_or y.caches b []) at need ≤ fills_left (get_or z.caches b []) at need = few.fills in
    let fetches : access_fetches (entries ++ more) ≡ access_fetches entries + access_fetches more = fetches_settled entries more f.settled in
    let none : access_fetches more ≡ 0 = fetches_made b (length z.caches) more does.made in
    let was : access_fetches entries + fills_left (get_or z.caches b []) at need ≤ 3 = f.fetches in
    let same : (other : FaultKind) → fault_count other (entries ++ more) ≡ fault_count other entries = λ (other : FaultKind).
    let sum : fault_count other (entries ++ more) ≡ fault_count other entries + fault_count other more = fault_count-append other entries more in
    let zero : fault_count other more ≡ 0 = made_no_fault other b (length z.caches) more does.made in
    omega arith in
    record {
      comes = comes_again b at access kind w y (entries ++ more) faults goes (comes_served b at access kind w z y entries faults (Ok (tt {0})) f.comes does carried keeps later);
      tallies = record {
        once = λ other. subst (λ (n : ℕ). n ≤ 1) (sym (same other)) (f.once other);
        past = λ other some.
            ⊎_elim (λ (is : other ≡ kind). subst (IsPast y b at) (sym is) falls.past) (λ (past : IsPast z b at other). falls.still other past)
            (f.past other (subst (λ (n : ℕ). 1 ≤ n) (same other) some));
        fetches = omega arith;
        settled = settled_then entries more f.settled (carried_settled b z y f.servable f.within does.made carried);
      };
      room = omega arith;
      fewer = falls.fewer;
    }

-- the swap failed
kinds_failed : (w : View) (kind : FaultKind) (why : ServeFault) → MayFail w kind why → (kind ≡ fault.Missing) ⊎ (kind ≡ fault.Leaving)
kinds_failed w fault.Missing why m = inl refl
kinds_failed w fault.Leaving why m = inr refl
kinds_failed w fault.Align why m = absurd m
kinds_failed w fault.Unmapped why m = absurd m
kinds_failed w fault.Protection why m = absurd m
kinds_failed w fault.Reference why m = absurd m
kinds_failed w fault.Dirty why m = absurd m

-- the answer of serving
record IsFailed (P : ServeFault → Type 0) (r : Result (Unit {0}) ServeFault) : Type 0 where
  pub why : ServeFault
  pub holds : P why

failed : (P : ServeFault → Type 0) (r : Result (Unit {0}) ServeFault) → is_err r ≡ true → IfErr r P → IsFailed P r
failed P (Ok x) e h = cc
failed P (Err why) e h = record { why = why; holds = h }

pub ends_by_swap : (b at : ℕ) (access : AccessKind) (kind : FaultKind) (w z y : View) (entries faults : List Entry) (answer : Result (Unit {0}) ServeFault) → IsFaulted b at access kind w z entries faults
    → is_err answer ≡ true → IfErr answer (λ why. HasFailed b z kind at y why) → Does b z kind at answer y → IsCarriedOn z y → Keeps z y → z.faults ≤ y.faults → EndsBySwap b at access w y
ends_by_swap b at access kind w z y entries faults answer f fails err does carried keeps later =
    let fail = failed (HasFailed b z kind at y) answer fails err in
    let more : List Entry = appended z y in
    let before : w.faults ≤ z.faults = f.comes.later in
    let rose : z.faults < y.faults = fail.holds.rose in
    record {
      entries = entries ++ more;
      faults = faults;
      kind = kind;
      asked = kinds_failed z kind fail.why fail.holds.may;
      comes = comes_served b at access kind w z y entries faults answer f.comes does carried keeps later;
      rose = omega arith;
      frugal = record {
        once = λ other.
            let sum : fault_count other (entries ++ more) ≡ fault_count other entries + fault_count other more = fault_count-append other entries more in
            let zero : fault_count other more ≡ 0 = made_no_fault other b (length z.caches) more does.made in
            let was = f.once other in
            omega arith;
        fetches =
            let sum : access_fetches (entries ++ more) ≡ access_fetches entries + access_fetches more = fetches_settled entries more f.settled in
            let none : access_fetches more ≡ 0 = fetches_made b (length z.caches) more does.made in
            let was = f.fetches in
            omega arith;
      };
    }

pub succeeded : (r : Result (Unit {0}) ServeFault) → is_err r ≡ false → r ≡ Ok (tt {0})
succeeded (Ok x) e = refl
succeeded (Err why) e = cc

pub succeeded_with : (P : Type 0) (r : Result (Unit {0}) ServeFault) → r ≡ Ok (tt {0}) → OnOk r P → P
succeeded_with P (Ok x) e h = h
succeeded_with P (Err why) e h = cc

-- for the caller's loop
pub enough_steps : (w : View) (b at : ℕ) (need : Need) → turn_room w b at need ≤ w.room → steps_left (get_or w.caches b []) at need ≤ w.room
enough_steps w b at need enough = omega arith

pub fault_room : (u v : View) (b at : ℕ) (need : Need) (result : Option FaultKind) → Approaches b at need u v result → IsServable u → AreFrames u.frames → turn_room u b at need ≤ u.room → 1 ≤ v.room
fault_room u v b at need result a servable table enough =
    let leaves = steps-leave-room u v b at need (length a.way.entries) servable table a.way.stepped a.way.few in
    let left : v.room + length a.way.entries ≡ u.room = a.way.room in
    omega arith

pub faults_stepped : (u v : View) (b at : ℕ) (need : Need) → OnWay b at need u v → faults_left v b at ≡ faults_left u b at
faults_stepped u v b at need way = (stepped-keeps-faults u v b at way.stepped).faults

pub none_of : (o : Option FaultKind) → ((kind : FaultKind) → o ≡ Some kind → ⊥) → o ≡ None
none_of None h = refl
none_of (Some kind) h = absurd (h kind refl)

pub done_is_own : (kind : AccessKind) (b at word value : ℕ) → is_own b (done_entry kind b at word value) ≡ true
done_is_own access.Load b at word value = eq-eqb b b refl
done_is_own access.Store b at word value = eq-eqb b b refl
done_is_own access.Tas b at word value = eq-eqb b b refl

pub done_is_done : (kind : AccessKind) (b at word value : ℕ) → is_done (done_entry kind b at word value) ≡ true
done_is_done access.Load b at word value = refl
done_is_done access.Store b at word value = refl
done_is_done access.Tas b at word value = refl

-- one entry that is no fetch
pub one_frugal : (e : Entry) → is_fetch e ≡ false → IsFrugal (e ∷ [])
one_frugal e none = record {
  once = λ kind. few (is_fault_of kind e);
  fetches = last (is_fetch e) none;
}
  where
    few : (t : Bool) → length (if t then e ∷ [] else []) ≤ 1
    few true = let r : 1 ≤ 1 = omega arith in r
    few false = let r : 0 ≤ 1 = omega arith in r

    last : (t : Bool) → t ≡ false → (if t && false then 1 else 0) + 0 ≤ 3
    last true h = cc
    last false h = let r : 0 + 0 ≤ 3 = omega arith in r
