-- The entry of a page is brought, and changed.
use Rattle.std.proofs.Common.{◌≡◌, ◌∙◌, ℕ, ◌+◌, ◌<◌, ◌≤◌, true, ap, sym, refl, subst, List, [], ◌∷◌, ◌++◌, get_or, length, map, slice_set, Option, Some, None, arith}
use Rattle.std.specs.Prelude.{IsSome}
use Rattle.std.proofs.Math.ListN.{set}
use Rattle.std.proofs.lemmas.List as L
use Rattle.std.proofs.lemmas.List.{append_assoc}
use Rattle.spur_addr.specs.Address.{entry_address_of, table_start}
use Rattle.spur_cache.specs.declared.line.Line.{Line}
use Rattle.spur_cache.specs.Lines.{found, with_word}
use Rattle.spur_cache.specs.Lines as lines
use Rattle.spur_snoop.specs.declared.BlockState.{BlockState}
use Rattle.spur_snoop.specs.declared.BlockState.TheVariants.{Invalid, UnOwned, OwnedNonExclusive, OwnedExclusive}
use Rattle.spur_flat.specs.declared.entry.Entry.{Entry}
use Rattle.spur_snoop.specs.Protocol.{is_exclusive}
use Rattle.spur_bus.specs.Boards.{line_of_block}
use Rattle.spur_bus.proofs.BoardFacts.{lines_here}
use Rattle.spur_walk.specs.declared.plan.Plan.TheVariants as plan
use Rattle.spur_walk.specs.Bounds.{page_steps_left}
use Rattle.spur_walk.specs.Laws.{is_alone}
use Rattle.spur_walk.specs.Plan.{page_plan}
use Rattle.spur_walk.specs.Present.{MayWalk}
use Rattle.spur_walk.specs.Steps.{answer_of}
use Rattle.spur_walk.specs.Tables.{logical_flat}
use Rattle.spur_walk.proofs.AnswerFacts.{page-ready}
use Rattle.spur_walk.proofs.BoundFacts.{page-few}
use Rattle.spur_walk.proofs.TableFacts.{entry_word}
use Rattle.spur_pager.specs.declared.change.Change.{Change}
use Rattle.spur_flat.specs.Past.{Past}
use Rattle.spur_pager.specs.Acts.{Hold, with_entry_word}
use Rattle.spur_pager.specs.Changes.{Changes, MayChange, changed_word, entry_for, hold_entry}
use Rattle.spur_pager.specs.Fetch.{Fetches}
use Rattle.spur_walk.proofs.OpenedFacts.{small_length}
use Rattle.spur_pager.proofs.OptionFacts.{some_is}
use Rattle.spur_pager.proofs.WriteFacts.{HasEntry, writes}

exclusive_is : (state : BlockState) → is_exclusive state ≡ true → state ≡ OwnedExclusive
exclusive_is Invalid h = cc
exclusive_is UnOwned h = cc
exclusive_is OwnedNonExclusive h = cc
exclusive_is OwnedExclusive h = refl

alone_has : (caches : List (List (Option Line))) (b g : ℕ) (o : Option Line) → line_of_block caches b (entry_address_of g) ≡ o → is_alone o ≡ true → HasEntry caches b g
alone_has caches b g None is h = cc
alone_has caches b g (Some line) is h = record { line = line; there = is; exclusive = exclusive_is line.state h }

-- what is ready is exclusive
pub ready_has : (caches : List (List (Option Line))) (memory : List ℕ) (b g : ℕ) → page_plan caches memory b g ≡ plan.Ready → HasEntry caches b g
ready_has caches memory b g ready =
    alone_has caches b g (line_of_block caches b (entry_address_of g)) refl
    ((page-ready (get_or caches b []) (logical_flat caches memory) b g).0 (ap (answer_of b (entry_address_of g)) ready))

pub ready_there : (caches : List (List (Option Line))) (memory : List ℕ) (b g : ℕ) → page_plan caches memory b g ≡ plan.Ready → IsSome (line_of_block caches b (entry_address_of g))
ready_there caches memory b g ready = let has = ready_has caches memory b g ready in some_is (line_of_block caches b (entry_address_of g)) has.line has.there

-- the word that the cache has of it is that of the logical memory
pub ready_word : (caches : List (List (Option Line))) (memory : List ℕ) (b g : ℕ) → MayWalk caches memory → b < length caches → g < table_start → page_plan caches memory b g ≡ plan.Ready
    → lines.word_in (line_of_block caches b (entry_address_of g)) (entry_address_of g) ≡ hold_entry (record { caches = caches; memory = memory }) g
ready_word caches memory b g may within user ready =
    let has = ready_has caches memory b g ready in
    ap (λ (o : Option Line). lines.word_in o (entry_address_of g)) has.there ∙ sym (entry_word caches memory b g has.line may within user has.there)

pub room_left : (b g : ℕ) (from mid : Hold) (before past : Past) → 5 ≤ before.room → Fetches b g from before mid past → 1 ≤ past.room
room_left b g from mid before past enough f =
    let few : page_steps_left (get_or from.caches b []) g ≤ 4 = (page-few (get_or from.caches b []) g).steps in
    let long : length f.fetched + page_steps_left (get_or mid.caches b []) g ≤ page_steps_left (get_or from.caches b []) g = f.leads.few in
    let room : past.room + length f.fetched ≡ before.room = f.room in
    omega arith

-- the board has the word in its cache
pub written_boards : {X : Type 0} (lines_of : X → List (Option Line)) (with_lines : X → List (Option Line) → X) → ((x : X) (ls : List (Option Line)) → lines_of (with_lines x ls) ≡ ls)
    → (boards : List X) (b g at word : ℕ) (d y : X) → b < length boards → at ≡ entry_address_of g → y ≡ with_lines (get_or boards b d) (with_word (lines_of (get_or boards b d)) at word)
    → map lines_of (set boards b y) ≡ with_entry_word (map lines_of boards) b g word
written_boards lines_of with_lines given boards b g at word d y within at_is is =
    L.map-set lines_of boards b y
    ∙ ap (slice_set (map lines_of boards) b)
    (ap lines_of is ∙ given (get_or boards b d) (with_word (lines_of (get_or boards b d)) at word)
    ∙ ap (λ (ls : List (Option Line)). with_word ls at word) (sym (lines_here lines_of boards b d within))
    ∙ ap (λ (n : ℕ). with_word (get_or (map lines_of boards) b []) n word) at_is)

pub all_changed : (b g : ℕ) (change : Change) (from mid to : Hold) (before past after : Past) (word : ℕ) (e : Entry) → b < length from.caches → g < table_start → MayChange b g change from → Fetches b g from before mid past
    → word ≡ changed_word change (hold_entry mid g) → to.caches ≡ with_entry_word mid.caches b g word → to.memory ≡ mid.memory → e ≡ entry_for change b g → after.entries ≡ past.entries ++ e ∷ [] → after.room + 1 ≡ past.room
    → Changes b g change from before to after
all_changed b g change from mid to before past after word e within user may f word_is caches memory e_is entries room =
    let here : b < length mid.caches = subst (λ (n : ℕ). b < n) (sym f.leads.boards) within in
    let has = ready_has mid.caches mid.memory b g f.fetch.ready in
    let new : ℕ = changed_word change (hold_entry mid g) in
    let now : to.caches ≡ with_entry_word mid.caches b g new = caches ∙ ap (with_entry_word mid.caches b g) word_is in
    let past_room : past.room + length f.fetched ≡ before.room = f.room in
    let long : length (f.fetched ++ entry_for change b g ∷ []) ≡ length f.fetched + 1 = small_length f.fetched (entry_for change b g) in
    record {
      fetched = f.fetched;
      mid = mid;
      fetch = f.fetch;
      leads = f.leads;
      to_is = ap (λ (cs : List (List (Option Line))). record { caches = cs; memory = to.memory }) now ∙ ap (λ (ws : List ℕ). record { caches = with_entry_word mid.caches b g new; memory = ws }) memory;
      writes = writes mid.caches to.caches mid.memory b g new f.leads.walk here user has (may f.fetched mid f.leads) now;
      entries = entries ∙ ap (λ (x : Entry). past.entries ++ x ∷ []) e_is ∙ ap (λ (es : List Entry). es ++ entry_for change b g ∷ []) f.entries ∙ append_assoc before.entries f.fetched (entry_for change b g ∷ []);
      room = omega arith;
    }
