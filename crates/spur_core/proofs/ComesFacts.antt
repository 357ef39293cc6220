-- What a turn comes to, piece by piece.
use Rattle.std.proofs.Common.{◌≡◌, ◌∙◌, ℕ, ◌+◌, ◌≤◌, Bool, true, false, if◌then◌else◌, ap, sym, refl, subst, List, [], ◌∷◌, ◌++◌, length, Result, arith, append-nil, add-zero}
use Rattle.std.specs.List.{AllByRecursion}
use Rattle.std.proofs.lemmas.List.{append_assoc, length-append}
use Rattle.spur_flat.specs.declared.access.AccessKind.{AccessKind}
use Rattle.spur_flat.specs.declared.access.FaultKind.{FaultKind}
use Rattle.spur_flat.specs.declared.entry.Entry.{Entry}
use Rattle.spur_flat.specs.declared.entry.Entry.TheVariants as entry
use Rattle.spur_flat.specs.declared.flat.Flat.{Flat}
use Rattle.spur_flat.specs.Blocks.{board_of}
use Rattle.spur_flat.specs.Formed.{IsMade}
use Rattle.spur_flat.specs.History.{is_own, own_entries}
use Rattle.spur_flat.proofs.HistoryFacts.{own_entries-append}
use Rattle.spur_commute.proofs.LogFacts.{all_append}
use Rattle.spur_cpu.specs.Meaning.{is_ending}
use Rattle.spur_walk.specs.Laws.{need_of}
use Rattle.spur_pager.specs.declared.fault.ServeFault.{ServeFault}
use Rattle.spur_pager.specs.Ahead.{is_of_leaving, leaving_entries}
use Rattle.spur_pager.specs.Served.{Does, IsCarriedOn, Keeps, appended}
use Rattle.spur_pager.specs.Stand.{CarriesOn, IsServable, Stands}
use Rattle.spur_pager.specs.View.{View}
use Rattle.spur_pager.proofs.JoinFacts.{carried_none, carried_then, keeps_then}
use Rattle.spur_core.specs.Approach.{OnWay}
use Rattle.spur_core.specs.Comes.{Comes, IsOfTurn, IsServedFault}
use Rattle.spur_core.specs.Step.{EndsWithAnswer, OwnIsLast}
use Rattle.spur_core.proofs.QuietFacts.{fault_past, own_quiet, quiet_all, quiet_then}
use Rattle.spur_core.proofs.WayFacts.{keeps_same}

-- entries of steps and of the pager
pub all_of_turn : (b n k : ℕ) (es : List Entry) → k ≡ n → AllByRecursion (IsMade b k) es → AllByRecursion (IsOfTurn b n) es
all_of_turn b n k [] is all = tt
all_of_turn b n k (e ∷ es) is all = (
  subst (λ (j : ℕ). IsOfTurn b j e) is (record { board = all.0.board; formed = record { there = all.0.there; small = all.0.small; starts = all.0.starts } }),
  all_of_turn b n k es is all.1,
)

pub made_own : (b n i : ℕ) (es : List Entry) → AllByRecursion (IsMade b n) es → own_entries es i ≡ []
made_own b n i [] all = refl
made_own b n i (e ∷ es) all = ap (λ (t : Bool). if t then e ∷ own_entries es i else own_entries es i) (all.0.apart i) ∙ made_own b n i es all.1

pub made_board : (b n : ℕ) (es : List Entry) → AllByRecursion (IsMade b n) es → AllByRecursion (λ (e : Entry). board_of e ≡ b) es
made_board b n [] all = tt
made_board b n (e ∷ es) all = (all.0.board, made_board b n es all.1)

pub own_one : (b : ℕ) (e : Entry) → is_own b e ≡ true → own_entries (e ∷ []) b ≡ e ∷ []
own_one b e is = ap (λ (t : Bool). if t then e ∷ [] else []) is

-- the board's own entry, behind entries of the turn and steps
pub own_is_last : (b : ℕ) (entries es : List Entry) (e : Entry) → is_own b e ≡ true → EndsWithAnswer b (entries ++ (es ++ e ∷ []))
own_is_last b entries es e own = OwnIsLast (entries ++ es) e (sym (append_assoc entries es (e ∷ []))) own

-- nothing has happened
pub comes_none : (b at : ℕ) (access : AccessKind) (w : View) → Comes b at access w w [] [] []
comes_none b at access w = record {
  history = sym (append-nil w.history);
  room = add-zero w.room;
  turns = tt;
  own = refl;
  served = tt;
  keeps = keeps_same w;
  carries = λ (rest : Flat) (st : Stands rest w). record { carried = carried_none rest w w refl; stands = st };
  later = omega arith;
  quiet = refl;
}

-- a turn goes on: with steps and the entry that they serve, which is the last of the board's own
pub comes_on : (b at : ℕ) (access : AccessKind) (w u v z : View) (entries faults : List Entry) (e : Entry) → Comes b at access w u entries faults [] → (way : OnWay b at (need_of access) u v)
    → z.history ≡ v.history ++ e ∷ [] → z.room + 1 ≡ v.room → IsOfTurn b (length w.caches) e → is_own b e ≡ true → Keeps v z → z.faults ≡ v.faults
    → ((rest : Flat) → Stands rest u → CarriesOn rest u z (way.entries ++ e ∷ [])) → Comes b at access w z (entries ++ (way.entries ++ e ∷ [])) faults (e ∷ [])
comes_on b at access w u v z entries faults e comes way history room turn own keeps count carries =
    let es : List Entry = way.entries in
    let long_e : length (es ++ e ∷ []) ≡ length es + 1 = length-append es (e ∷ []) in
    let long : length (entries ++ (es ++ e ∷ [])) ≡ length entries + length (es ++ e ∷ []) = length-append entries (es ++ e ∷ []) in
    let r0 : u.room + length entries ≡ w.room = comes.room in
    let r1 : v.room + length es ≡ u.room = way.room in
    let later : w.faults ≤ u.faults = comes.later in
    let same : v.faults ≡ u.faults = way.faults in
    let after : Keeps u z = keeps_then u v z way.keeps keeps in
    record {
      history = history ∙ ap (λ (h : List Entry). h ++ e ∷ []) way.history ∙ append_assoc u.history es (e ∷ [])
          ∙ ap (λ (h : List Entry). h ++ (es ++ e ∷ [])) comes.history ∙ append_assoc w.history entries (es ++ e ∷ []);
      room = omega arith;
      turns = all_append (IsOfTurn b (length w.caches)) entries (es ++ e ∷ []) comes.turns
          (all_append (IsOfTurn b (length w.caches)) es (e ∷ []) (all_of_turn b (length w.caches) (length u.caches) es comes.keeps.boards way.made) (turn, tt));
      own = own_entries-append entries (es ++ e ∷ []) b ∙ ap (λ (o : List Entry). o ++ own_entries (es ++ e ∷ []) b) (comes.own ∙ append-nil faults)
          ∙ ap (λ (o : List Entry). faults ++ o) (own_entries-append es (e ∷ []) b ∙ ap (λ (o : List Entry). o ++ own_entries (e ∷ []) b) (made_own b (length u.caches) b es way.made) ∙ own_one b e own);
      served = comes.served;
      keeps = keeps_then w u z comes.keeps after;
      carries = λ (rest : Flat) (st : Stands rest w).
          let one = comes.carries rest st in
          let two = carries rest one.stands in
          record { carried = carried_then rest w u z entries (es ++ e ∷ []) comes.keeps one.carried two.carried; stands = two.stands };
      later = omega arith;
      quiet = quiet_then entries (es ++ e ∷ []) comes.quiet (quiet_all (es ++ e ∷ []) (all_append (λ x. is_of_leaving x ≡ false) es (e ∷ []) way.quiet (own_quiet b e own, tt)));
    }

-- a fault was served, or the swap failed
pub comes_served : (b at : ℕ) (access : AccessKind) (kind : FaultKind) (w z y : View) (entries faults : List Entry) (answer : Result (Unit {0}) ServeFault) → Comes b at access w z entries faults (entry.Fault b kind access at ∷ [])
    → Does b z kind at answer y → IsCarriedOn z y → Keeps z y → z.faults ≤ y.faults → Comes b at access w y (entries ++ appended z y) faults (entry.Fault b kind access at ∷ [])
comes_served b at access kind w z y entries faults answer comes does carried keeps later =
    let more : List Entry = appended z y in
    let long : length (entries ++ more) ≡ length entries + length more = length-append entries more in
    let r0 : z.room + length entries ≡ w.room = comes.room in
    let r1 : y.room + length more ≡ z.room = does.room in
    let before : w.faults ≤ z.faults = comes.later in
    record {
      history = does.history ∙ ap (λ (h : List Entry). h ++ more) comes.history ∙ append_assoc w.history entries more;
      room = omega arith;
      turns = all_append (IsOfTurn b (length w.caches)) entries more comes.turns (all_of_turn b (length w.caches) (length z.caches) more comes.keeps.boards does.made);
      own = own_entries-append entries more b ∙ ap (λ (o : List Entry). own_entries entries b ++ o) (does.own b) ∙ append-nil (own_entries entries b) ∙ comes.own;
      served = comes.served;
      keeps = keeps_then w z y comes.keeps keeps;
      carries = λ (rest : Flat) (st : Stands rest w).
          let one = comes.carries rest st in
          let two = carried rest one.stands in
          record { carried = carried_then rest w z y entries more comes.keeps one.carried two.carried; stands = two.stands };
      later = omega arith;
      quiet = ap leaving_entries (fault_past b kind access at more entries faults comes.own) ∙ comes.quiet;
    }

-- a fault that was served is one of them
pub comes_again : (b at : ℕ) (access : AccessKind) (kind : FaultKind) (w y : View) (entries faults : List Entry) → is_ending kind ≡ false → Comes b at access w y entries faults (entry.Fault b kind access at ∷ [])
    → Comes b at access w y entries (faults ++ entry.Fault b kind access at ∷ []) []
comes_again b at access kind w y entries faults served comes = record {
  history = comes.history;
  room = comes.room;
  turns = comes.turns;
  own = comes.own ∙ sym (append-nil (faults ++ entry.Fault b kind access at ∷ []));
  served = all_append (IsServedFault b at access) faults (entry.Fault b kind access at ∷ []) comes.served (record { kind = kind; is = refl; served = served }, tt);
  keeps = comes.keeps;
  carries = comes.carries;
  later = comes.later;
  quiet = comes.quiet;
}

-- such a state can be served
pub servable_now : (b at : ℕ) (access : AccessKind) (w u : View) (entries faults last : List Entry) → Comes b at access w u entries faults last → IsServable w → IsServable u
servable_now b at access w u entries faults last comes servable = record { rest = servable.rest; stands = (comes.carries servable.rest servable.stands).stands }
