-- Acts one after another.
use Rattle.std.proofs.Common.{◌≡◌, ◌∙◌, ℕ, ◌+◌, ap, sym, refl, subst, List, [], ◌∷◌, ◌++◌, length, take, Option, Some, None, arith}
use Rattle.std.proofs.lemmas.List.{append-nil, append_assoc, length-append}
use Rattle.spur_flat.specs.declared.flat.Flat.{Flat}
use Rattle.spur_flat.specs.declared.entry.Entry.{Entry}
use Rattle.spur_flat.specs.State.{State}
use Rattle.spur_flat.specs.Untold.{IsLike, LeadsUntold}
use Rattle.spur_flat.proofs.PieceFacts.{carried-append, untold-append}
use Rattle.spur_pager.specs.View.{View}
use Rattle.spur_pager.specs.Stand.{AreCarried, CarriesOn, Stands, standing_state, standing_flat}
use Rattle.spur_pager.specs.Acts.{Act, Flushed, FlushedFirst, Flushes, FlushesFirst, Hold, IsDone, Loaded, Loads, NoAct, Writes, Written, after_flushes, flushed_hold, flushes_from, loaded_hold, written_in}
use Rattle.spur_pager.specs.Runs.{Runs}
use Rattle.spur_pager.specs.Served.{Keeps, hold_of, tells}
use Rattle.spur_pager.proofs.MadeFacts.{made_then}

pub done-append : (b : ℕ) (first second : List Act) (from mid to : Hold) (some more : List Entry) → IsDone b first from some mid → IsDone b second mid more to → IsDone b (first ++ second) from (some ++ more) to
done-append b [] second from mid to some more (NoAct h) later = later
done-append b (Writes g e change ∷ acts) second from mid to some more (Written g1 e1 change1 acts1 from1 mid1 to1 fetched rest fetch done) later =
    subst (λ (es : List Entry). IsDone b (Writes g e change ∷ (acts ++ second)) from es to) (sym (append_assoc fetched (e ∷ rest) more))
    (Written g e change (acts ++ second) from mid1 to fetched (rest ++ more) fetch (done-append b acts second (written_in b g change mid1) mid to rest more done later))
done-append b (Flushes page ∷ acts) second from mid to some more (Flushed page1 acts1 from1 to1 rest done) later =
    subst (λ (es : List Entry). IsDone b (Flushes page ∷ (acts ++ second)) from es to) (sym (append_assoc (flushes_from b 0 page from.caches) rest more))
    (Flushed page (acts ++ second) from to (rest ++ more) (done-append b acts second (flushed_hold page from) mid to rest more done later))
done-append b (FlushesFirst page count ∷ acts) second from mid to some more (FlushedFirst page1 count1 acts1 from1 to1 rest done) later =
    let piece : List Entry = take count (flushes_from b 0 page from.caches) in
    subst (λ (es : List Entry). IsDone b (FlushesFirst page count ∷ (acts ++ second)) from es to) (sym (append_assoc piece rest more))
    (FlushedFirst page count (acts ++ second) from to (rest ++ more) (done-append b acts second (after_flushes piece from) mid to rest more done later))
done-append b (Loads frame ∷ acts) second from mid to some more (Loaded frame1 words acts1 from1 to1 piece long done) later =
    Loaded frame words (acts ++ second) from to (some ++ more) long (done-append b acts second (loaded_hold frame words from) mid to some more done later)

-- a swap object that tells its pages goes on telling, and told them before
pub record Told (p : Option (List ℕ)) : Type 0 where
  pub words : List ℕ
  pub is : p ≡ Some words

pub told_again : (o p : Option (List ℕ)) (words : List ℕ) → tells p ≡ tells o → o ≡ Some words → Told p
told_again None p words same is = cc
told_again (Some x) None words same is = cc
told_again (Some x) (Some y) words same is = record { words = y; is = refl }

pub carried_then : (rest : Flat) (w u v : View) (some more : List Entry) → Keeps w u → AreCarried rest w u some → AreCarried rest u v more → AreCarried rest w v (some ++ more)
carried_then rest w u v some more keeps first second = record {
  told = λ (words : List ℕ) (is : w.pages ≡ Some words).
      let again = told_again w.pages u.pages words keeps.tells is in
      carried-append (standing_state rest w) (standing_state rest u) (standing_state rest v) some more (first.told words is) (second.told again.words again.is);
  untold = untold-append (standing_state rest w) (standing_state rest u) (standing_state rest v) some more first.untold second.untold;
}

pub keeps_then : (w u v : View) → Keeps w u → Keeps u v → Keeps w v
keeps_then w u v first second = record {
  boards = second.boards ∙ first.boards;
  lines = second.lines ∙ first.lines;
  memory = second.memory ∙ first.memory;
  slots = second.slots ∙ first.slots;
  tells = second.tells ∙ first.tells;
  ahead = second.ahead ∙ first.ahead;
}

-- no entry: the same state stands
pub carried_none : (rest : Flat) (w v : View) → standing_state rest v ≡ standing_state rest w → AreCarried rest w v []
carried_none rest w v same = record {
  told = λ (words : List ℕ) (is : w.pages ≡ Some words). record { follows = tt; leads = sym same };
  untold = λ (F : Flat) (like : IsLike F (standing_flat rest w)).
      subst (λ (S : State). LeadsUntold F (standing_state rest w) S []) (sym same) (record { legal = tt; tagged = tt; needed = tt; like = like; tags = refl; opened = refl; lines = refl });
}

-- no act
pub runs_none : (b : ℕ) (w : View) → (v : View) → hold_of v ≡ hold_of w → v.history ≡ w.history → v.room ≡ w.room → Keeps w v → ((rest : Flat) → Stands rest w → CarriesOn rest w v []) → Runs b [] w v
runs_none b w v hold history room keeps carries = record {
  piece = [];
  history = history ∙ sym (append-nil w.history);
  room = let r : v.room ≡ w.room = room in omega arith;
  done = subst (λ (h : Hold). IsDone b [] (hold_of w) [] h) (sym hold) (NoAct (hold_of w));
  made = tt;
  keeps = keeps;
  carries = carries;
}

pub runs_then : (b : ℕ) (first second : List Act) (w u v : View) → Runs b first w u → Runs b second u v → Runs b (first ++ second) w v
runs_then b first second w u v r s =
    let ru : u.room + length r.piece ≡ w.room = r.room in
    let sv : v.room + length s.piece ≡ u.room = s.room in
    let long : length (r.piece ++ s.piece) ≡ length r.piece + length s.piece = length-append r.piece s.piece in
    record {
      piece = r.piece ++ s.piece;
      history = s.history ∙ ap (λ (es : List Entry). es ++ s.piece) r.history ∙ append_assoc w.history r.piece s.piece;
      room = omega arith;
      done = done-append b first second (hold_of w) (hold_of u) (hold_of v) r.piece s.piece r.done s.done;
      made = made_then b w u r.piece s.piece r.keeps r.made s.made;
      keeps = keeps_then w u v r.keeps s.keeps;
      carries = λ (rest : Flat) (st : Stands rest w).
          let one = r.carries rest st in
          let two = s.carries rest one.stands in
          record { carried = carried_then rest w u v r.piece s.piece r.keeps one.carried two.carried; stands = two.stands };
    }
