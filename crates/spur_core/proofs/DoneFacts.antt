-- An access that is ready is done; and one that is not aligned ends its board.
use Rattle.std.proofs.Common.{◌≡◌, ◌∙◌, ℕ, ◌+◌, ◌<◌, ◌^◌, true, false, ap, sym, refl, subst, List, [], ◌∷◌, ◌++◌, get_or, length, slice_set, Option, None, arith, eq-eqb}
use Rattle.std.proofs.lemmas.List.{get_or-set_same, length-replicate}
use Rattle.spur_addr.specs.Address.{is_aligned, table_start}
use Rattle.spur_cache.specs.declared.line.Line.{Line}
use Rattle.spur_flat.specs.declared.access.AccessKind.{AccessKind}
use Rattle.spur_flat.specs.declared.access.AccessKind.TheVariants as access
use Rattle.spur_flat.specs.declared.access.FaultKind.TheVariants as fault
use Rattle.spur_flat.specs.declared.entry.Entry.{Entry}
use Rattle.spur_flat.specs.declared.entry.Entry.TheVariants as entry
use Rattle.spur_flat.specs.declared.flat.Flat.{Flat}
use Rattle.spur_flat.specs.Blocks.{board_of}
use Rattle.spur_flat.specs.Formed.{IsFormed}
use Rattle.spur_flat.specs.History.{is_own}
use Rattle.spur_flat.specs.Laws.{address_of}
use Rattle.spur_flat.specs.Needed.{lack_of, open_at}
use Rattle.spur_flat.specs.State.{Beside, nothing_beside, served_beside}
use Rattle.spur_flat.specs.StateLaws.{IsAccess}
use Rattle.spur_flat.specs.Table.{data_word}
use Rattle.spur_bus.specs.Boards.{line_of_block}
use Rattle.spur_bus.specs.Calls.{line_count}
use Rattle.spur_walk.specs.declared.looked.Looked.TheVariants.{Hit}
use Rattle.spur_walk.specs.Answered.{LeavesBy}
use Rattle.spur_walk.specs.Laws.{IsStanding, MayStand, done_entry, need_of}
use Rattle.spur_walk.specs.Look.{look_of}
use Rattle.spur_walk.specs.Stores.{with_word_in}
use Rattle.spur_walk.specs.Tables.{logical_flat}
use Rattle.spur_walk.proofs.AnswerFacts.{ready-hit, ready-stands}
use Rattle.spur_walk.proofs.AnsweredFacts.{align-stands, stores-leave}
use Rattle.spur_walk.proofs.OpenedFacts.{none_open, none_set}
use Rattle.spur_walk.proofs.StoreFacts.{hit-stores}
use Rattle.spur_pager.specs.Again.{SharesSame, ShowsSame}
use Rattle.spur_pager.specs.Opened.{AreCarriedIn}
use Rattle.spur_pager.specs.Served.{tells}
use Rattle.spur_pager.specs.Stand.{IsServable, Stands, flat_in}
use Rattle.spur_pager.specs.View.{View}
use Rattle.spur_pager.proofs.AgainFacts.{same-stands-again, steps-stand-again}
use Rattle.spur_pager.proofs.OpenedFacts.{access-is-carried-in}
use Rattle.spur_pager.proofs.StoredFacts.{hit-stands-again}
use Rattle.spur_core.specs.Approach.{IsOpenFor, open_only}
use Rattle.spur_core.specs.Comes.{BecomesReady, Comes}
use Rattle.spur_core.specs.Takes.{done_caches}
use Rattle.spur_core.proofs.QuietFacts.{own_quiet, quiet_all}
use Rattle.spur_core.proofs.ComesFacts.{comes_on, own_one, servable_now}
use Rattle.spur_core.proofs.OpenForFacts.{done_needed}
use Rattle.spur_core.proofs.RoundFacts.{nothing_at}
use Rattle.spur_core.proofs.WayFacts.{answered}

-- the caches after an access that is done, and its entry
record IsDone (u : View) (b at value word : ℕ) (kind : AccessKind) : Type 0 where
  pub leaves : LeavesBy u.caches (done_caches kind u.caches b at value) u.memory (done_entry kind b at word value)
  pub count : length (done_caches kind u.caches b at value) ≡ length u.caches
  pub stands : (rest : Flat) (v : View) → v.caches ≡ done_caches kind u.caches b at value → v.memory ≡ u.memory → SharesSame u v → Stands rest u → Stands rest v
  pub is : IsAccess (done_entry kind b at word value)
  pub board : board_of (done_entry kind b at word value) ≡ b
  pub own : is_own b (done_entry kind b at word value) ≡ true
  pub formed : (n : ℕ) → b < n → at < 2 ^ 38 → IsFormed n (done_entry kind b at word value)
  pub small : at < 2 ^ 38 → address_of (done_entry kind b at word value) < 2 ^ 38

done_is : (u : View) (b at value word : ℕ) (kind : AccessKind) (some : Flat) → Stands some u → b < length u.caches → at < table_start → look_of (line_of_block u.caches b at) (need_of kind) ≡ Hit → IsDone u b at value word kind
done_is u b at value word access.Load some st within user hit = record {
  leaves = record { logical = refl; tags = refl; lines = refl };
  count = refl;
  stands = λ (rest : Flat) (v : View) (caches : v.caches ≡ u.caches) (memory : v.memory ≡ u.memory) (shares : SharesSame u v) (s : Stands rest u).
      (same-stands-again rest u v s (record { caches = caches; memory = memory; shares = shares })).stands;
  is = tt;
  board = refl;
  own = eq-eqb b b refl;
  formed = λ n here small. record { there = here; small = small; starts = tt };
  small = λ h. h;
}
done_is u b at value word access.Store some st within user hit =
    let s = hit-stores u.caches u.memory b at value st.walk within user hit in
    record {
      leaves = (stores-leave u.caches u.memory b at).store value s;
      count = s.count;
      stands = λ (rest : Flat) (v : View) (caches : v.caches ≡ with_word_in u.caches b at value) (memory : v.memory ≡ u.memory) (shares : SharesSame u v) (now : Stands rest u).
          (hit-stands-again rest u v b at value now within user hit caches memory shares).stands;
      is = tt;
      board = refl;
      own = eq-eqb b b refl;
      formed = λ n here small. record { there = here; small = small; starts = tt };
      small = λ h. h;
    }
done_is u b at value word access.Tas some st within user hit =
    let s = hit-stores u.caches u.memory b at 1 st.walk within user hit in
    record {
      leaves = (stores-leave u.caches u.memory b at).tas word s;
      count = s.count;
      stands = λ (rest : Flat) (v : View) (caches : v.caches ≡ with_word_in u.caches b at 1) (memory : v.memory ≡ u.memory) (shares : SharesSame u v) (now : Stands rest u).
          (hit-stands-again rest u v b at 1 now within user hit caches memory shares).stands;
      is = tt;
      board = refl;
      own = eq-eqb b b refl;
      formed = λ n here small. record { there = here; small = small; starts = tt };
      small = λ h. h;
    }

-- the access is done, and its entry appended
pub done_comes : (b at word value : ℕ) (kind : AccessKind) (w v z : View) → IsServable w → b < length w.caches → at < table_start → is_aligned at ≡ true → (ready : BecomesReady b at kind w v) → word ≡ data_word (flat_in v) at
    → z.history ≡ v.history ++ done_entry kind b at word value ∷ [] → z.room + 1 ≡ v.room → z.caches ≡ done_caches kind v.caches b at value → z.memory ≡ v.memory → SharesSame v z → z.faults ≡ v.faults → z.ahead ≡ v.ahead
    → Comes b at kind w z (ready.entries ++ (ready.way.entries ++ done_entry kind b at word value ∷ [])) ready.faults (done_entry kind b at word value ∷ [])
done_comes b at word value kind w v z servable within user aligned ready word_is history room caches memory shares faults ahead =
    let u : View = ready.mid in
    let e : Entry = done_entry kind b at word value in
    let way = ready.way in
    let small : at < 2 ^ 38 = omega arith in
    let within_u : b < length u.caches = subst (λ (n : ℕ). b < n) (sym ready.comes.keeps.boards) within in
    let within_v : b < length v.caches = subst (λ (n : ℕ). b < n) (sym way.keeps.boards) within_u in
    let servable_u : IsServable u = servable_now b at kind w u ready.entries ready.faults [] ready.comes servable in
    let st_v : Stands servable_u.rest v = (steps-stand-again servable_u.rest u v servable_u.stands way.stepped).stands in
    let hit : look_of (line_of_block v.caches b at) (need_of kind) ≡ Hit = (ready-hit (get_or v.caches b []) (logical_flat v.caches v.memory) b at (need_of kind)).0 ready.ready in
    let done = done_is v b at value word kind servable_u.rest st_v within_v user hit in
    let standing : IsStanding v.caches v.memory b at = record { walk = st_v.walk; present = st_v.present; own = within_v; user = user } in
    let may : MayStand v.caches v.memory e = subst (λ (x : ℕ). MayStand v.caches v.memory (done_entry kind b at x value)) (sym word_is) (ready-stands v.caches v.memory b at value kind standing aligned ready.ready) in
    let base : List (List Entry) = none_open (length u.caches) in
    let open_is : open_at (open_only (length u.caches) b way.opened).opened b ≡ way.opened = get_or-set_same base b way.opened [] (subst (λ (n : ℕ). b < n) (sym (length-replicate (length u.caches) [])) within_u) in
    let needed = done_needed v.caches b at kind (open_only (length u.caches) b way.opened).opened word value (subst (λ (os : List Entry). IsOpenFor v.caches b at (need_of kind) os) (sym open_is) way.opens) in
    let leaves : LeavesBy v.caches z.caches v.memory e = subst (λ (cs : List (List (Option Line))). LeavesBy v.caches cs v.memory e) (sym caches) done.leaves in
    let count : length z.caches ≡ length v.caches = ap (λ (cs : List (List (Option Line))). length cs) caches ∙ done.count in
    let carries = answered b at (need_of kind) u v z e within_u way done.is done.board (done.small small) may needed leaves memory shares count
    (λ (rest : Flat) (st : Stands rest v). done.stands rest z caches memory shares st) in
    comes_on b at kind w u v z ready.entries ready.faults e ready.comes way history room (record { board = done.board; formed = done.formed (length w.caches) within small }) done.own
    (record { boards = count; lines = leaves.lines; memory = ap (λ (ws : List ℕ). length ws) memory; slots = shares.slots; tells = ap tells shares.pages; ahead = ahead }) faults carries

-- an entry of an access that comes alone, with nothing open before it
pub one_comes : (b at : ℕ) (kind : AccessKind) (w z : View) (e : Entry) → IsAccess e → board_of e ≡ b → is_own b e ≡ true → IsFormed (length w.caches) e → MayStand w.caches w.memory e
    → lack_of (line_count w.caches) (none_open (length w.caches)) e ≡ None → LeavesBy w.caches z.caches w.memory e → z.memory ≡ w.memory → SharesSame w z → length z.caches ≡ length w.caches → z.faults ≡ w.faults → z.ahead ≡ w.ahead
    → ((rest : Flat) → Stands rest w → Stands rest z) → z.history ≡ w.history ++ e ∷ [] → z.room + 1 ≡ w.room → Comes b at kind w z (e ∷ []) [] (e ∷ [])
one_comes b at kind w z e is board own formed may needed leaves memory shares count faults ahead stands history room =
    let n : ℕ = length w.caches in
    let none : served_beside (nothing_beside n) (board_of e) ≡ nothing_beside (length z.caches) =
    ap (λ (os : List (List Entry)). record { opened = os }) (ap (λ (k : ℕ). slice_set (none_open n) k []) board ∙ none_set n b ∙ ap none_open (sym count)) in
    record {
      history = history;
      room = room;
      turns = (record { board = board; formed = formed }, tt);
      own = own_one b e own;
      served = tt;
      keeps = record { boards = count; lines = leaves.lines; memory = ap (λ (ws : List ℕ). length ws) memory; slots = shares.slots; tells = ap tells shares.pages; ahead = ahead };
      carries = λ (rest : Flat) (st : Stands rest w).
          let c = access-is-carried-in rest w z (nothing_beside n) e st is formed.small may needed leaves memory shares in
          let closed : AreCarriedIn rest w (nothing_beside n) z (nothing_beside (length z.caches)) (e ∷ []) = subst (λ (os : Beside). AreCarriedIn rest w (nothing_beside n) z os (e ∷ [])) none c in
          record { carried = record { told = closed.told; untold = closed.untold }; stands = stands rest st };
      later = omega arith;
      quiet = quiet_all (e ∷ []) (own_quiet b e own, tt);
    }

pub align_comes : (b at : ℕ) (kind : AccessKind) (w z : View) → b < length w.caches → at < table_start → is_aligned at ≡ false → z.history ≡ w.history ++ entry.Fault b fault.Align kind at ∷ [] → z.room + 1 ≡ w.room
    → ShowsSame w z → z.faults ≡ w.faults → z.ahead ≡ w.ahead → Comes b at kind w z (entry.Fault b fault.Align kind at ∷ []) [] (entry.Fault b fault.Align kind at ∷ [])
align_comes b at kind w z within user off history room same faults ahead =
    let small : at < 2 ^ 38 = omega arith in
    let e : Entry = entry.Fault b fault.Align kind at in
    let stands = align-stands w.caches w.memory b at kind (nothing_beside (length w.caches)) off in
    let leaves : LeavesBy w.caches z.caches w.memory e = subst (λ (cs : List (List (Option Line))). LeavesBy w.caches cs w.memory e) (sym same.caches) (record { logical = refl; tags = refl; lines = refl }) in
    one_comes b at kind w z e tt refl (eq-eqb b b refl) (record { there = within; small = small; starts = tt }) stands.stands (stands.needed (nothing_at (length w.caches) b)) leaves same.memory same.shares
    (ap (λ (cs : List (List (Option Line))). length cs) same.caches) faults ahead (λ (rest : Flat) (st : Stands rest w). (same-stands-again rest w z st same).stands) history room
