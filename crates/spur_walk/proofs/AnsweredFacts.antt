-- What is answered is carried, with its board's open entries emptied.
use Rattle.std.proofs.Common.{◌≡◌, ◌∙◌, ℕ, ◌^◌, ◌<◌, Bool, true, if◌then◌else◌, ap, sym, refl, List, [], ◌∷◌, get_or, slice_set, Option, Some}
use Rattle.std.proofs.lemmas.List.Elements.{All-cons, All-nil}
use Rattle.spur_flat.specs.declared.flat.Flat.{Flat}
use Rattle.spur_flat.specs.declared.tag.Tag.{Tag}
use Rattle.spur_flat.specs.declared.access.FaultKind.TheVariants as fault
use Rattle.spur_flat.specs.declared.entry.Entry.{Entry}
use Rattle.spur_flat.specs.declared.entry.Entry.TheVariants as entry
use Rattle.spur_flat.specs.Access.{is_align, may, may_aligned}
use Rattle.spur_flat.specs.Blocks.{board_of, role_of}
use Rattle.spur_flat.specs.History.{on}
use Rattle.spur_flat.specs.Laws.{address_of}
use Rattle.spur_flat.specs.Needed.{lack_in, open_on}
use Rattle.spur_flat.specs.State.{Beside, IsCarried, State, served_beside, step}
use Rattle.spur_flat.specs.StateLaws.{IsAccess}
use Rattle.spur_flat.specs.Table.{walk_of}
use Rattle.spur_flat.specs.TagLines.{tags_on}
use Rattle.spur_flat.specs.Validity.{IsValidFlat}
use Rattle.spur_flat.proofs.UntoldFacts.{untold-where-told}
use Rattle.spur_bus.specs.Calls.{line_count, tags_of}
use Rattle.spur_bus.specs.Logical.{logical_words}
use Rattle.spur_bus.specs.Stand.{flat_of, state_of}
use Rattle.spur_walk.specs.Tables.{HasTablesOf, flat_of_words}
use Rattle.spur_walk.specs.Answered.{AccessIsCarried, AlignMayStand, StoresLeaveBy}
use Rattle.spur_flat.proofs.QuietFacts.{tags_same}

open_emptied : (opened : List (List Entry)) (e : Entry) → IsAccess e → open_on opened e ≡ slice_set opened (board_of e) []
open_emptied opened (entry.Load b at value) is = refl
open_emptied opened (entry.Store b at value) is = refl
open_emptied opened (entry.Tas b at old) is = refl
open_emptied opened (entry.Fault b kind access at) is = refl
open_emptied opened (entry.Fill b l n at) is = absurd is
open_emptied opened (entry.Claim b at) is = absurd is
open_emptied opened (entry.WriteBack b at) is = absurd is
open_emptied opened (entry.Refresh b at) is = absurd is
open_emptied opened (entry.BlockFlush b holder at) is = absurd is
open_emptied opened (entry.Leave b at) is = absurd is
open_emptied opened (entry.PageOut b at) is = absurd is
open_emptied opened (entry.PageIn b at frame) is = absurd is
open_emptied opened (entry.SetRef b at) is = absurd is
open_emptied opened (entry.SetDirty b at) is = absurd is
open_emptied opened (entry.ClearRef b at) is = absurd is

-- an access changes words alone, and by words alone
on_words : (rest : Flat) (ws : List ℕ) (e : Entry) → IsAccess e → on (record rest { words = ws }) e ≡ record rest { words = (on (flat_of_words ws) e).words }
on_words rest ws (entry.Load b at value) is = refl
on_words rest ws (entry.Store b at value) is = refl
on_words rest ws (entry.Tas b at old) is = refl
on_words rest ws (entry.Fault b kind access at) is = refl
on_words rest ws (entry.Fill b l n at) is = absurd is
on_words rest ws (entry.Claim b at) is = absurd is
on_words rest ws (entry.WriteBack b at) is = absurd is
on_words rest ws (entry.Refresh b at) is = absurd is
on_words rest ws (entry.BlockFlush b holder at) is = absurd is
on_words rest ws (entry.Leave b at) is = absurd is
on_words rest ws (entry.PageOut b at) is = absurd is
on_words rest ws (entry.PageIn b at frame) is = absurd is
on_words rest ws (entry.SetRef b at) is = absurd is
on_words rest ws (entry.SetDirty b at) is = absurd is
on_words rest ws (entry.ClearRef b at) is = absurd is

pub access-carried : AccessIsCarried
access-carried rest before after memory beside e is may lacks leaves =
    let F : Flat = flat_of rest before memory in
    let S : State = state_of rest before memory beside in
    let served : Beside = served_beside beside (board_of e) in
    let to : State = state_of rest after memory served in
    let flat : on F e ≡ flat_of rest after memory = on_words rest (logical_words before memory) e is ∙ ap (λ (ws : List ℕ). record rest { words = ws }) (sym leaves.logical) in
    let leads : step S e ≡ to =
    ap (λ (G : Flat). record { flat = G; tags = tags_on F (tags_of before) e; opened = open_on beside.opened e; lines = line_count before }) flat
    ∙ ap (λ (T : List (List (Option Tag))). record { flat = flat_of rest after memory; tags = T; opened = open_on beside.opened e; lines = line_count before }) (tags_same F (tags_of before) e is ∙ sym leaves.tags)
    ∙ ap (λ (o : List (List Entry)). record { flat = flat_of rest after memory; tags = tags_of after; opened = o; lines = line_count before }) (open_emptied beside.opened e is)
    ∙ ap (λ (n : ℕ). record { flat = flat_of rest after memory; tags = tags_of after; opened = served.opened; lines = n }) (sym leaves.lines) in
    let carried : IsCarried S to (e ∷ []) = record { follows = (record { legal = may.told rest; tagged = may.tagged F; needed = lacks }, tt); leads = leads } in
    record {
      told = carried;
      untold = λ (valid : IsValidFlat F) (small : address_of e < 2 ^ 38).
          untold-where-told S to (e ∷ []) valid (All-cons (λ (x : Entry). address_of x < 2 ^ 38) e [] small (All-nil (λ (x : Entry). address_of x < 2 ^ 38))) carried;
    }

pub align-stands : AlignMayStand
align-stands caches memory b at kind beside apart =
    let e : Entry = entry.Fault b fault.Align kind at in
    let may_be : (o : Option ℕ) → may o kind at (Some fault.Align) ≡ true = λ (o : Option ℕ). ap (λ (x : Bool). if x then may_aligned o kind (Some fault.Align) else is_align (Some fault.Align)) apart in
    record {
      stands = record {
        told = λ (rest : Flat). may_be (walk_of (flat_of rest caches memory) at);
        untold = λ (F : Flat) (has : HasTablesOf F (logical_words caches memory)). may_be (walk_of F at);
        tagged = λ (F : Flat). refl;
      };
      needed = λ (none : get_or beside.opened b [] ≡ []). ap (λ (os : List Entry). lack_in (line_count caches) os (role_of e)) none;
    }

pub stores-leave : StoresLeaveBy
stores-leave caches memory b at = record {
  store = λ value s. record { logical = s.logical; tags = s.tags; lines = s.lines };
  tas = λ old s. record { logical = s.logical; tags = s.tags; lines = s.lines };
}
