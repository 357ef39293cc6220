-- The entries of one change of a page's entry are carried.
use Rattle.std.proofs.Common.{◌≡◌, ◌∙◌, ℕ, ◌+◌, ◌<◌, ◌≤◌, ◌^◌, ap, sym, subst, List, [], ◌∷◌, ◌++◌, get_or, length, slice_set, Option, Some, None, arith}
use Rattle.std.specs.List.{AllByRecursion}
use Rattle.std.proofs.lemmas.List.{get_or-set_same, length-replicate}
use Rattle.spur_flat.specs.declared.flat.Flat.{Flat}
use Rattle.spur_flat.specs.declared.tag.Tag.{Tag}
use Rattle.spur_flat.specs.declared.entry.Entry.{Entry}
use Rattle.spur_flat.specs.declared.entry.Entry.TheVariants as entry
use Rattle.spur_flat.specs.Blocks.{Role, Serves, board_of, entry_block, pager_blocks, role_of}
use Rattle.spur_flat.specs.History.{IsAllowed, IsLegal, flat_after, on}
use Rattle.spur_flat.specs.Laws.{address_of}
use Rattle.spur_flat.specs.Needed.{lack_in, lack_of, open_at, open_in, open_on}
use Rattle.spur_flat.specs.State.{IsCarried, IsNeeded, IsTagged, State, open_after, state_after, tags_after}
use Rattle.spur_flat.specs.TagLines.{tags_on}
use Rattle.spur_flat.specs.TagRules.{tags_refusal}
use Rattle.spur_flat.specs.Untold.{IsAllowedButValue, IsLegalButValues, IsLike, LeadsUntold}
use Rattle.spur_flat.specs.Validity.{IsValidFlat}
use Rattle.spur_flat.proofs.HistoryFacts.{flat_after-snoc, legal-snoc}
use Rattle.spur_flat.proofs.PieceFacts.{legal-but-values-append, needed-append, open_after-append, tagged-append, tags_after-append}
use Rattle.spur_flat.proofs.StateFacts.{follow-where-each, lead-to-each}
use Rattle.spur_flat.proofs.UntoldFacts.{like-is-allowed-but-value, step-is-like}
use Rattle.spur_bus.specs.Logical.{logical_words}
use Rattle.spur_bus.specs.Calls.{line_count, tags_of}
use Rattle.spur_bus.specs.Stand.{IsOfBus}
use Rattle.spur_bus.proofs.StandFacts.{on_same}
use Rattle.spur_walk.specs.Bounds.{page_steps_left}
use Rattle.spur_walk.specs.Laws.{IsServing}
use Rattle.spur_walk.specs.Tables.{HasTablesOf}
use Rattle.spur_walk.proofs.BoundFacts.{page-few}
use Rattle.spur_pager.specs.Acts.{Hold}
use Rattle.spur_pager.specs.Fetch.{Leads}
use Rattle.spur_pager.proofs.FetchFacts.{flat_same}
use Rattle.spur_pager.proofs.OpenFacts.{opens}
use Rattle.spur_walk.proofs.OpenedFacts.{lacks_nothing, set_again, none_set, none_open}

-- an entry of the bus is allowed in each flat state
record IsFree (F : Flat) (e : Entry) : Type 0 where
  pub told : IsAllowed F e
  pub untold : IsAllowedButValue F e

free : (F : Flat) (e : Entry) → IsOfBus e → IsFree F e
free F (entry.Fill b l n at) is = record { told = tt; untold = tt }
free F (entry.Claim b at) is = record { told = tt; untold = tt }
free F (entry.WriteBack b at) is = record { told = tt; untold = tt }
free F (entry.Refresh b at) is = record { told = tt; untold = tt }
free F (entry.BlockFlush b holder at) is = record { told = tt; untold = tt }
free F (entry.Load b at value) is = absurd is
free F (entry.Store b at value) is = absurd is
free F (entry.Tas b at old) is = absurd is
free F (entry.Fault b kind access at) is = absurd is
free F (entry.Leave b at) is = absurd is
free F (entry.PageOut b at) is = absurd is
free F (entry.PageIn b at frame) is = absurd is
free F (entry.SetRef b at) is = absurd is
free F (entry.SetDirty b at) is = absurd is
free F (entry.ClearRef b at) is = absurd is

legal_bus : (F : Flat) (b lines : ℕ) (blocks : List ℕ) (owned : Option ℕ) (es : List Entry) → AllByRecursion (IsServing b lines blocks owned) es → IsLegal F es
legal_bus F b lines blocks owned [] all = tt
legal_bus F b lines blocks owned (e ∷ es) all = ((free F e all.0.bus).told, subst (λ (G : Flat). IsLegal G es) (sym (on_same F e all.0.bus)) (legal_bus F b lines blocks owned es all.1))

untold_bus : (F : Flat) (b lines : ℕ) (blocks : List ℕ) (owned : Option ℕ) (es : List Entry) → AllByRecursion (IsServing b lines blocks owned) es → IsLegalButValues F es
untold_bus F b lines blocks owned [] all = tt
untold_bus F b lines blocks owned (e ∷ es) all = ((free F e all.0.bus).untold, subst (λ (G : Flat). IsLegalButValues G es) (sym (on_same F e all.0.bus)) (untold_bus F b lines blocks owned es all.1))

-- an entry of the pager of board b on the page of g, which the tags allow after those that were fetched, in every flat state
pub record IsPagers (b g : ℕ) (mid : Hold) (e : Entry) : Type 0 where
  pub board : board_of e ≡ b
  pub role : role_of e ≡ Serves (pager_blocks g) (Some (entry_block g))
  pub small : address_of e < 2 ^ 38
  pub tagged : (F : Flat) → tags_refusal F (tags_of mid.caches) e ≡ None
  pub still : (F : Flat) → tags_on F (tags_of mid.caches) e ≡ tags_of mid.caches

-- the state of a flat state and of caches, where nothing is open
abbrev pub closed : Flat → Hold → ℕ → State
closed F h n = record { flat = F; tags = tags_of h.caches; opened = none_open n; lines = line_count h.caches }

-- the open entries go with it
record IsClosed (n lines : ℕ) (fetched : List Entry) (e : Entry) : Type 0 where
  pub needed : IsNeeded lines (none_open n) (fetched ++ e ∷ [])
  pub after : open_after (none_open n) (fetched ++ e ∷ []) ≡ none_open n

closes : (n b g lines : ℕ) (mid : Hold) (fetched : List Entry) (e : Entry) → b < n → AllByRecursion (IsServing b lines (pager_blocks g) (Some (entry_block g))) fetched → length fetched ≤ 6 → IsPagers b g mid e → IsClosed n lines fetched e
closes n b g lines mid fetched e within all few pager =
    let o = opens n b lines (pager_blocks g) (Some (entry_block g)) fetched within all few in
    let base : List (List Entry) = none_open n in
    let mids : List (List Entry) = open_after base fetched in
    let long : b < length base = subst (λ (k : ℕ). b < k) (sym (length-replicate n [])) within in
    let there : open_at mids b ≡ o.now = ap (λ (m : List (List Entry)). open_at m b) o.after ∙ get_or-set_same base b o.now [] long in
    let lacks : lack_of lines mids e ≡ None =
    ap (λ (k : ℕ). lack_in lines (open_at mids k) (role_of e)) pager.board ∙ ap (λ (l : List Entry). lack_in lines l (role_of e)) there ∙ ap (lack_in lines o.now) pager.role
    ∙ lacks_nothing b lines (pager_blocks g) (Some (entry_block g)) o.now o.serving in
    let last : open_on mids e ≡ base =
    ap (λ (k : ℕ). slice_set mids k (open_in (open_at mids k) e (role_of e))) pager.board ∙ ap (λ (r : Role). slice_set mids b (open_in (open_at mids b) e r)) pager.role
    ∙ ap (λ (m : List (List Entry)). slice_set m b []) o.after ∙ set_again base b o.now [] ∙ none_set n b in
    record {
      needed = (needed-append lines base fetched (e ∷ [])).1 (o.needed, (lacks, tt));
      after = open_after-append base fetched (e ∷ []) ∙ last;
    }

-- the tags go with it
record IsTaggedAll (F : Flat) (from mid : Hold) (fetched : List Entry) (e : Entry) : Type 0 where
  pub tagged : IsTagged F (tags_of from.caches) (fetched ++ e ∷ [])
  pub tags : tags_after F (tags_of from.caches) (fetched ++ e ∷ []) ≡ tags_of mid.caches

tags_all : (F : Flat) (b g : ℕ) (from mid : Hold) (fetched : List Entry) (e : Entry) → Leads b g from fetched mid → HasTablesOf F (logical_words from.caches from.memory) → IsPagers b g mid e → IsTaggedAll F from mid fetched e
tags_all F b g from mid fetched e leads has pager =
    let still : flat_after F fetched ≡ F = flat_same F b (line_count from.caches) (pager_blocks g) (Some (entry_block g)) fetched leads.serving in
    let T : List (List (Option Tag)) = tags_after F (tags_of from.caches) fetched in
    let T_is : T ≡ tags_of mid.caches = leads.tags F has in
    let one : tags_refusal (flat_after F fetched) T e ≡ None = ap (λ (t : List (List (Option Tag))). tags_refusal (flat_after F fetched) t e) T_is ∙ pager.tagged (flat_after F fetched) in
    record {
      tagged = (tagged-append F (tags_of from.caches) fetched (e ∷ [])).1 (leads.tagged F has, (one, tt));
      tags = tags_after-append F (tags_of from.caches) fetched (e ∷ []) ∙ ap (λ (t : List (List (Option Tag))). tags_on (flat_after F fetched) t e) T_is ∙ pager.still (flat_after F fetched);
    }

few_fetched : (b g : ℕ) (from mid : Hold) (fetched : List Entry) → Leads b g from fetched mid → length fetched ≤ 6
few_fetched b g from mid fetched leads =
    let few : page_steps_left (get_or from.caches b []) g ≤ 4 = (page-few (get_or from.caches b []) g).steps in
    let long : length fetched + page_steps_left (get_or mid.caches b []) g ≤ page_steps_left (get_or from.caches b []) g = leads.few in
    omega arith

-- from a flat state F with the same tables, the piece is carried to the flat state that its last entry makes of F
pub one_carried : (F : Flat) (n b g : ℕ) (from mid to : Hold) (fetched : List Entry) (e : Entry) → Leads b g from fetched mid → HasTablesOf F (logical_words from.caches from.memory) → b < n → IsPagers b g mid e → IsAllowed F e
    → tags_of to.caches ≡ tags_of mid.caches → line_count to.caches ≡ line_count mid.caches → IsCarried (closed F from n) (closed (on F e) to n) (fetched ++ e ∷ [])
one_carried F n b g from mid to fetched e leads has within pager allowed tags lines =
    let S : State = closed F from n in
    let piece : List Entry = fetched ++ e ∷ [] in
    let still : flat_after F fetched ≡ F = flat_same F b (line_count from.caches) (pager_blocks g) (Some (entry_block g)) fetched leads.serving in
    let c = closes n b g (line_count from.caches) mid fetched e within leads.serving (few_fetched b g from mid fetched leads) pager in
    let t = tags_all F b g from mid fetched e leads has pager in
    let legal : IsLegal F piece = legal-snoc F fetched e (legal_bus F b (line_count from.caches) (pager_blocks g) (Some (entry_block g)) fetched leads.serving) (subst (λ (G : Flat). IsAllowed G e) (sym still) allowed) in
    let leads_to = lead-to-each S piece in
    let flat : flat_after F piece ≡ on F e = flat_after-snoc F fetched e ∙ ap (λ (G : Flat). on G e) still in
    record {
      follows = (follow-where-each S piece).1 (record { legal = legal; tagged = t.tagged; needed = c.needed });
      leads =
          ap (λ (G : Flat). record (state_after S piece) { flat = G }) (leads_to.flat ∙ flat)
          ∙ ap (λ (T : List (List (Option Tag))). record { flat = on F e; tags = T; opened = (state_after S piece).opened; lines = (state_after S piece).lines }) (leads_to.tags ∙ t.tags ∙ sym tags)
          ∙ ap (λ (o : List (List Entry)). record { flat = on F e; tags = tags_of to.caches; opened = o; lines = (state_after S piece).lines }) (leads_to.opened ∙ c.after)
          ∙ ap (λ (k : ℕ). record { flat = on F e; tags = tags_of to.caches; opened = none_open n; lines = k }) (leads_to.lines ∙ sym leads.lines ∙ sym lines);
    }

-- and from each flat state that is like one from which it is, where data and swapped words are not told
pub one_untold : (F other : Flat) (n b g : ℕ) (from mid to : Hold) (fetched : List Entry) (e : Entry) → Leads b g from fetched mid → HasTablesOf F (logical_words from.caches from.memory) → IsLike F other → IsValidFlat other → b < n
    → IsPagers b g mid e → IsAllowed other e → tags_of to.caches ≡ tags_of mid.caches → line_count to.caches ≡ line_count mid.caches → LeadsUntold F (closed other from n) (closed (on other e) to n) (fetched ++ e ∷ [])
one_untold F other n b g from mid to fetched e leads has like valid within pager allowed tags lines =
    let piece : List Entry = fetched ++ e ∷ [] in
    let still : flat_after F fetched ≡ F = flat_same F b (line_count from.caches) (pager_blocks g) (Some (entry_block g)) fetched leads.serving in
    let c = closes n b g (line_count from.caches) mid fetched e within leads.serving (few_fetched b g from mid fetched leads) pager in
    let t = tags_all F b g from mid fetched e leads has pager in
    let flat : flat_after F piece ≡ on F e = flat_after-snoc F fetched e ∙ ap (λ (G : Flat). on G e) still in
    let one : IsAllowedButValue F e = like-is-allowed-but-value F other e like valid pager.small allowed in
    record {
      legal = (legal-but-values-append F fetched (e ∷ [])).1 (untold_bus F b (line_count from.caches) (pager_blocks g) (Some (entry_block g)) fetched leads.serving, (subst (λ (G : Flat). IsAllowedButValue G e) (sym still) one, tt));
      tagged = t.tagged;
      needed = c.needed;
      like = subst (λ (G : Flat). IsLike G (on other e)) (sym flat) (step-is-like F other e like valid pager.small allowed);
      tags = t.tags ∙ sym tags;
      opened = c.after;
      lines = sym leads.lines ∙ sym lines;
    }
