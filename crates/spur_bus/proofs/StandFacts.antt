-- A call of the bus is a step of the state that stands.
use Rattle.std.proofs.Common.{◌≡◌, ◌∙◌, ℕ, ◌^◌, ◌<◌, ap, sym, refl, List, [], ◌∷◌, Option}
use Rattle.std.proofs.lemmas.List.Elements.{All-cons, All-nil}
use Rattle.spur_cache.specs.Lines.{tagged}
use Rattle.spur_flat.specs.declared.flat.Flat.{Flat}
use Rattle.spur_flat.specs.declared.tag.Tag.{Tag}
use Rattle.spur_flat.specs.declared.entry.Entry.{Entry}
use Rattle.spur_flat.specs.TagLines.{tags_on}
use Rattle.spur_bus.specs.Calls.{tags_of, line_count}
use Rattle.spur_bus.specs.Stand.{flat_of, state_of, IsOfBus, BusSteps, BusIsCarried, BusIsCarriedUntold}
use Rattle.spur_flat.specs.History.{on, IsAllowed}
use Rattle.spur_flat.specs.State.{beside_on}
use Rattle.spur_flat.specs.Laws.{address_of}
use Rattle.spur_flat.proofs.UntoldFacts.{untold-where-told}
use Rattle.spur_flat.specs.Needed.{open_on}
use Rattle.spur_flat.specs.declared.entry.Entry.TheVariants as entry

-- an entry of the bus leaves each flat state, and each allows it
pub on_same : (F : Flat) (e : Entry) → IsOfBus e → on F e ≡ F
on_same F (entry.Fill b l n at) is = refl
on_same F (entry.Claim b at) is = refl
on_same F (entry.WriteBack b at) is = refl
on_same F (entry.Refresh b at) is = refl
on_same F (entry.BlockFlush b holder at) is = refl
on_same F (entry.Load b at value) is = absurd is
on_same F (entry.Store b at value) is = absurd is
on_same F (entry.Tas b at old) is = absurd is
on_same F (entry.Fault b kind access at) is = absurd is
on_same F (entry.Leave b at) is = absurd is
on_same F (entry.PageOut b at) is = absurd is
on_same F (entry.PageIn b at frame) is = absurd is
on_same F (entry.SetRef b at) is = absurd is
on_same F (entry.SetDirty b at) is = absurd is
on_same F (entry.ClearRef b at) is = absurd is

allowed : (F : Flat) (e : Entry) → IsOfBus e → IsAllowed F e
allowed F (entry.Fill b l n at) is = tt
allowed F (entry.Claim b at) is = tt
allowed F (entry.WriteBack b at) is = tt
allowed F (entry.Refresh b at) is = tt
allowed F (entry.BlockFlush b holder at) is = tt
allowed F (entry.Load b at value) is = absurd is
allowed F (entry.Store b at value) is = absurd is
allowed F (entry.Tas b at old) is = absurd is
allowed F (entry.Fault b kind access at) is = absurd is
allowed F (entry.Leave b at) is = absurd is
allowed F (entry.PageOut b at) is = absurd is
allowed F (entry.PageIn b at frame) is = absurd is
allowed F (entry.SetRef b at) is = absurd is
allowed F (entry.SetDirty b at) is = absurd is
allowed F (entry.ClearRef b at) is = absurd is

pub bus-steps : BusSteps
bus-steps rest before after old new beside e bus moves =
    let F : Flat = flat_of rest before old in
    let flat : flat_of rest after new ≡ on F e = ap (λ (ws : List ℕ). record rest { words = ws }) moves.logical ∙ sym (on_same F e bus) in
    ap (λ (G : Flat). record { flat = G; tags = tags_of after; opened = open_on beside.opened e; lines = line_count after }) flat
    ∙ ap (λ (t : List (List (Option Tag))). record { flat = on F e; tags = t; opened = open_on beside.opened e; lines = line_count after }) moves.tags
    ∙ ap (λ (n : ℕ). record { flat = on F e; tags = tags_on F (tags_of before) e; opened = open_on beside.opened e; lines = n }) moves.lines

pub bus-carried : BusIsCarried
bus-carried rest before after old new beside e bus moves tagged needed = record {
  follows = (record { legal = allowed (flat_of rest before old) e bus; tagged = tagged; needed = needed }, tt);
  leads = sym (bus-steps rest before after old new beside e bus moves);
}

pub bus-untold : BusIsCarriedUntold
bus-untold rest before after old new beside e bus small valid moves tagged needed =
    untold-where-told (state_of rest before old beside) (state_of rest after new (beside_on beside e)) (e ∷ []) valid
    (All-cons (λ (entry : Entry). address_of entry < 2 ^ 38) e [] small (All-nil (λ (entry : Entry). address_of entry < 2 ^ 38)))
    (bus-carried rest before after old new beside e bus moves tagged needed)
