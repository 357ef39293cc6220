-- The entry of a page was changed, where before it the page was written to swap, or read into a frame: the piece is carried.
use Rattle.std.proofs.Common.{◌≡◌, ◌∙◌, ℕ, ◌*◌, ◌<◌, true, false, ap, sym, refl, subst, List, [], ◌∷◌, ◌++◌, length, take, Option, Some, None}
use Rattle.spur_cache.specs.declared.line.Line.{Line}
use Rattle.spur_flat.specs.declared.flat.Flat.{Flat}
use Rattle.spur_flat.specs.declared.entry.Entry.{Entry}
use Rattle.spur_flat.specs.History.{IsAllowed, flat_after, on}
use Rattle.spur_flat.specs.State.{IsCarried, State}
use Rattle.spur_flat.specs.Table.{table_words}
use Rattle.spur_flat.specs.Untold.{IsLike, LeadsUntold}
use Rattle.spur_flat.specs.Validity.{IsValidFlat}
use Rattle.spur_flat.proofs.HistoryFacts.{stays-valid}
use Rattle.spur_flat.proofs.LikeFacts.{like-is-valid}
use Rattle.spur_bus.specs.Logical.{logical_words}
use Rattle.spur_bus.specs.Calls.{line_count}
use Rattle.spur_walk.specs.Present.{ArePresent, MayWalk}
use Rattle.spur_walk.specs.Tables.{HasTablesOf, logical_flat}
use Rattle.spur_pager.specs.declared.change.Change.{Change}
use Rattle.spur_pager.specs.View.{View}
use Rattle.spur_pager.specs.Stand.{AreFramed, CarriesOn, Stands, standing_flat, standing_state, with_told}
use Rattle.spur_flat.specs.Clean.{AreClean}
use Rattle.spur_pager.specs.Acts.{Hold}
use Rattle.spur_pager.specs.Changes.{Changes, entry_for}
use Rattle.spur_pager.specs.Served.{Keeps, hold_of, tells}
use Rattle.spur_pager.proofs.CarryFacts.{IsPagers, closed, one_carried, one_untold}
use Rattle.spur_pager.proofs.PastFacts.{past_of}

-- Board b changed the entry of the page of g, from caches and a memory with the same tables as they were seen in w. In each
-- state that stood the entry is allowed. Where the swap object tells its pages, what stands in v is what the entry makes of
-- that state; and where it does not, v is like it.
pub record IsMoved (b g : ℕ) (change : Change) (w v : View) (from : Hold) (c : Changes b g change from (past_of w) (hold_of v) (past_of v)) : Type 0 where
  pub within : b < length w.caches
  pub caches : from.caches ≡ w.caches
  pub size : length from.memory ≡ length w.memory
  pub tables : (rest : Flat) → Stands rest w → HasTablesOf (standing_flat rest w) (logical_words from.caches from.memory)
  pub like_tables : (rest F : Flat) → Stands rest w → IsLike F (standing_flat rest w) → HasTablesOf F (logical_words from.caches from.memory)
  pub present : (rest : Flat) → Stands rest w → ArePresent (logical_flat from.caches from.memory) from.caches
  pub pager : IsPagers b g c.mid (entry_for change b g)
  pub allowed : (rest : Flat) → Stands rest w → IsAllowed (standing_flat rest w) (entry_for change b g)
  pub told : (rest : Flat) (words : List ℕ) → Stands rest w → w.pages ≡ Some words → standing_flat rest v ≡ on (standing_flat rest w) (entry_for change b g)
  pub like : (rest : Flat) → Stands rest w → IsLike (on (standing_flat rest w) (entry_for change b g)) (standing_flat rest v)
  pub framed : (rest : Flat) → Stands rest w → AreFramed (standing_flat rest v) v.frames
  pub clean : (rest : Flat) (words : List ℕ) → Stands rest w → v.pages ≡ Some words → AreClean (standing_flat rest v)
  pub slots : v.slots ≡ w.slots
  pub ahead : v.ahead ≡ w.ahead
  pub tells : tells v.pages ≡ tells w.pages

-- likeness goes on, and it is mutual where the other's swap has 1024 words a page too
like_then : (F G H : Flat) → IsLike F G → IsLike G H → IsLike F H
like_then F G H first last = record {
  pages = first.pages ∙ last.pages;
  tables = first.tables ∙ last.tables;
  frames = first.frames ∙ last.frames;
  words = first.words ∙ last.words;
  table = subst (λ (n : ℕ). take (table_words n) F.words ≡ take (table_words n) G.words) last.tables first.table ∙ last.table;
  swap = first.swap ∙ ap (λ (ps : List ℕ). 1024 * length ps) last.pages;
}

like_back : (F G : Flat) → IsLike F G → length G.swap ≡ 1024 * length F.pages → IsLike G F
like_back F G like swap = record {
  pages = sym like.pages;
  tables = sym like.tables;
  frames = sym like.frames;
  words = sym like.words;
  table = subst (λ (n : ℕ). take (table_words n) G.words ≡ take (table_words n) F.words) (sym like.tables) (sym like.table);
  swap = swap;
}

module _ (b g : ℕ) (change : Change) (w v : View) (from : Hold) (c : Changes b g change from (past_of w) (hold_of v) (past_of v)) (m : IsMoved b g change w v from c) (rest : Flat) (st : Stands rest w) where
  abbrev e : Entry
  e = entry_for change b g

  abbrev was : Flat
  was = standing_flat rest w

  abbrev now : Flat
  now = standing_flat rest v

  boards : length v.caches ≡ length w.caches
  boards = c.writes.boards ∙ c.leads.boards ∙ ap (λ (cs : List (List (Option Line))). length cs) m.caches

  -- the state before, as it was seen in w
  from_is : closed was from (length w.caches) ≡ standing_state rest w
  from_is = ap (λ (cs : List (List (Option Line))). closed was (record { caches = cs; memory = from.memory }) (length w.caches)) m.caches

  -- what the entry leads to where the swap is told
  to_is : (words : List ℕ) → w.pages ≡ Some words → closed (on was e) (hold_of v) (length w.caches) ≡ standing_state rest v
  to_is words is =
      ap (λ (G : Flat). closed G (hold_of v) (length w.caches)) (sym (m.told rest words st is)) ∙ ap (closed now (hold_of v)) (sym boards)

  told : (words : List ℕ) → w.pages ≡ Some words → IsCarried (standing_state rest w) (standing_state rest v) (c.fetched ++ e ∷ [])
  told words is =
      subst (λ (S : State). IsCarried S (standing_state rest v) (c.fetched ++ e ∷ [])) from_is
      (subst (λ (S : State). IsCarried (closed was from (length w.caches)) S (c.fetched ++ e ∷ [])) (to_is words is)
      (one_carried was (length w.caches) b g from c.mid (hold_of v) c.fetched e c.leads (m.tables rest st) m.within m.pager (m.allowed rest st) c.writes.tags c.writes.lines))

  untold : (G : Flat) → IsLike G was → LeadsUntold G (standing_state rest w) (standing_state rest v) (c.fetched ++ e ∷ [])
  untold G like =
      let piece : List Entry = c.fetched ++ e ∷ [] in
      let leads : LeadsUntold G (closed was from (length w.caches)) (closed (on was e) (hold_of v) (length w.caches)) piece =
      one_untold G was (length w.caches) b g from c.mid (hold_of v) c.fetched e c.leads (m.like_tables rest G st like) like st.valid m.within m.pager (m.allowed rest st) c.writes.tags c.writes.lines in
      let now_closed : LeadsUntold G (closed was from (length w.caches)) (standing_state rest v) piece =
      record {
        legal = leads.legal;
        tagged = leads.tagged;
        needed = leads.needed;
        like = like_then (flat_after G piece) (on was e) now leads.like (m.like rest st);
        tags = leads.tags;
        opened = leads.opened ∙ ap (λ (n : ℕ). (closed now (hold_of v) n).opened) (sym boards);
        lines = leads.lines;
      } in
      subst (λ (S : State). LeadsUntold G S (standing_state rest v) piece) from_is now_closed

  valid_on : IsValidFlat (on was e)
  valid_on = stays-valid was e st.valid m.pager.small (m.allowed rest st)

  -- an untold swap has the words of the declared pages' flat state
  rest_swap : w.pages ≡ None → length rest.swap ≡ 1024 * length rest.pages
  rest_swap is =
      ap (λ (p : Option (List ℕ)). length (with_told rest p).swap) (sym is) ∙ st.valid.swap ∙ ap (λ (p : Option (List ℕ)). 1024 * length (with_told rest p).pages) is

  valid_where : (o p : Option (List ℕ)) → w.pages ≡ o → v.pages ≡ p → IsValidFlat now
  valid_where (Some words) p is_w is_v = subst IsValidFlat (sym (m.told rest words st is_w)) valid_on
  valid_where None None is_w is_v =
      let swap : length now.swap ≡ 1024 * length (on was e).pages =
      ap (λ (p : Option (List ℕ)). length (with_told rest p).swap) is_v ∙ rest_swap is_w ∙ ap (λ (p : Option (List ℕ)). 1024 * length (with_told rest p).pages) (sym is_v)
      ∙ ap (λ (ps : List ℕ). 1024 * length ps) (sym (m.like rest st).pages) in
      like-is-valid now (on was e) (like_back (on was e) now (m.like rest st) swap) valid_on
  valid_where None (Some words) is_w is_v =
      let clash : true ≡ false = ap tells (sym is_v) ∙ m.tells ∙ ap tells is_w in
      cc

  memory_is : v.memory ≡ c.mid.memory
  memory_is = ap (λ (h : Hold). h.memory) c.to_is

  -- the entries are carried, and the state stands again
  pub moved-is-carried : CarriesOn rest w v (c.fetched ++ e ∷ [])
  moved-is-carried = record {
    carried = record { told = told; untold = untold };
    stands = record {
      walk = subst (λ (ws : List ℕ). MayWalk v.caches ws) (sym memory_is) c.writes.walk;
      valid = valid_where w.pages v.pages refl refl;
      present = subst (λ (ws : List ℕ). ArePresent (logical_flat v.caches ws) v.caches) (sym memory_is) (c.writes.present (c.leads.present (m.present rest st)));
      framed = m.framed rest st;
      slots = m.slots ∙ st.slots;
      clean = λ (words : List ℕ) (is : v.pages ≡ Some words). m.clean rest words st is;
    };
  }

pub moved-keeps : (b g : ℕ) (change : Change) (w v : View) (from : Hold) (c : Changes b g change from (past_of w) (hold_of v) (past_of v)) → IsMoved b g change w v from c → Keeps w v
moved-keeps b g change w v from c m = record {
  boards = c.writes.boards ∙ c.leads.boards ∙ ap (λ (cs : List (List (Option Line))). length cs) m.caches;
  lines = c.writes.lines ∙ c.leads.lines ∙ ap (λ (cs : List (List (Option Line))). line_count cs) m.caches;
  memory = ap (λ (h : Hold). length h.memory) c.to_is ∙ c.leads.size ∙ m.size;
  slots = m.slots;
  tells = m.tells;
  ahead = m.ahead;
}
