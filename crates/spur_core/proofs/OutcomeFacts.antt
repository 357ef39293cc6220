-- The outcomes of a turn, each by its answer.
use Rattle.std.proofs.Common.{◌≡◌, ◌∙◌, ℕ, ◌<◌, ap, sym, refl, subst, List, [], get_or, length, Option, Some, None}
use Rattle.std.specs.Prelude.{IsSome, slice_get}
use Rattle.std.proofs.lemmas.List.{get_or_default}
use Rattle.std.proofs.lemmas.Option.{slice_get_read}
use Rattle.spur_addr.specs.Address.{table_start}
use Rattle.spur_cache.specs.declared.line.Line.{Line}
use Rattle.spur_cache.specs.Lines.{found, word_in}
use Rattle.spur_snoop.specs.declared.Need.{Need}
use Rattle.spur_flat.specs.declared.access.AccessKind.{AccessKind}
use Rattle.spur_flat.specs.declared.access.FaultKind.{FaultKind}
use Rattle.spur_flat.specs.declared.entry.Entry.{Entry}
use Rattle.spur_flat.specs.Table.{data_word}
use Rattle.spur_walk.specs.declared.looked.Looked.TheVariants.{Hit}
use Rattle.spur_walk.specs.Look.{look_of}
use Rattle.spur_walk.specs.Laws.{need_of}
use Rattle.spur_walk.specs.Tables.{logical_flat}
use Rattle.spur_walk.proofs.AnswerFacts.{ready-hit, ready-word}
use Rattle.spur_pager.specs.View.{View}
use Rattle.spur_core.specs.declared.reach.Reached.{Reached}
use Rattle.spur_core.specs.declared.reach.Reached.TheVariants as reached
use Rattle.spur_core.specs.Comes.{BecomesReady, Comes, EndsByFault, EndsBySwap, Reaches}

pub ready_of : (b at : ℕ) (kind : AccessKind) (w v : View) (r : Reached) → r ≡ reached.Ready → Reaches b at kind w v r → BecomesReady b at kind w v
ready_of b at kind w v r is h = subst (Reaches b at kind w v) is h

pub ended_of : (b at : ℕ) (kind : AccessKind) (w v : View) (why : FaultKind) (r : Reached) → r ≡ reached.Ends why → Reaches b at kind w v r → EndsByFault b at kind w v why
ended_of b at kind w v why r is h = subst (Reaches b at kind w v) is h

pub swapped_of : (b at : ℕ) (kind : AccessKind) (w v : View) (r : Reached) → r ≡ reached.SwapFault → Reaches b at kind w v r → EndsBySwap b at kind w v
swapped_of b at kind w v r is h = subst (Reaches b at kind w v) is h

pub read_at : {X : Type 0} (xs : List X) (i : ℕ) (d : X) → i < length xs → slice_get xs i ≡ Some (get_or xs i d)
read_at xs i d within = slice_get_read _ _ _ _ refl within (get_or_default xs i d (get_or xs i d) within)

some_of : (o : Option Line) (need : Need) → look_of o need ≡ Hit → IsSome o
some_of None need h = cc
some_of (Some l) need h = refl

pub ready_there : (b at : ℕ) (kind : AccessKind) (w v : View) → BecomesReady b at kind w v → IsSome (found (get_or v.caches b []) at)
ready_there b at kind w v ready = some_of (found (get_or v.caches b []) at) (need_of kind) ((ready-hit (get_or v.caches b []) (logical_flat v.caches v.memory) b at (need_of kind)).0 ready.ready)

pub ready_word : (b at : ℕ) (kind : AccessKind) (w v : View) → b < length w.caches → at < table_start → BecomesReady b at kind w v → word_in (found (get_or v.caches b []) at) at ≡ data_word (logical_flat v.caches v.memory) at
ready_word b at kind w v within user ready =
    let way = ready.way in
    let within_v : b < length v.caches = subst (λ (n : ℕ). b < n) (sym (way.keeps.boards ∙ ready.comes.keeps.boards)) within in
    ready-word v.caches v.memory b at (need_of kind) way.stepped.walk within_v user ready.ready

-- another view with the same caches, where nothing else differs
pub comes_alike : (b at : ℕ) (kind : AccessKind) (w v z : View) (entries faults last : List Entry) → Comes b at kind w v entries faults last → z.caches ≡ v.caches → z ≡ record v { caches = z.caches } → Comes b at kind w z entries faults last
comes_alike b at kind w v z entries faults last comes caches is =
    subst (λ (y : View). Comes b at kind w y entries faults last) (sym (is ∙ ap (λ (cs : List (List (Option Line))). record v { caches = cs }) caches)) comes
