-- Accesses change the flat state alone where nothing is open.
use Rattle.std.proofs.Common.{◌≡◌, ℕ, zero, suc, List, [], ◌∷◌, Option, None, refl, sym, ap, ◌∙◌, subst, get_or, slice_set}
use Rattle.spur_flat.specs.declared.flat.Flat.{Flat}
use Rattle.spur_flat.specs.declared.tag.Tag.{Tag}
use Rattle.spur_flat.specs.declared.entry.Entry.{Entry}
use Rattle.spur_flat.specs.declared.entry.Entry.TheVariants.{Load, Store, Tas, Fault, Fill, Claim, WriteBack, Refresh, BlockFlush, Leave, PageOut, PageIn, SetRef, SetDirty, ClearRef}
use Rattle.spur_flat.specs.Blocks.{board_of, role_of}
use Rattle.spur_flat.specs.History.{on}
use Rattle.spur_flat.specs.TagLines.{tags_on}
use Rattle.spur_flat.specs.TagRules.{tags_refusal}
use Rattle.spur_flat.specs.Needed.{lack_of, lack_in, open_at, open_on}
use Rattle.spur_flat.specs.State.{State, step, state_after, AllFollow}
use Rattle.spur_flat.specs.StateLaws.{IsAccess, AreQuiet, QuietMayFollow}

-- a list that is empty already is emptied
emptied : (opened : List (List Entry)) (board : ℕ) → get_or opened board [] ≡ [] → slice_set opened board [] ≡ opened
emptied [] board none = refl
emptied (first ∷ rest) zero none = ap (λ (entries : List Entry). entries ∷ rest) (sym none)
emptied (first ∷ rest) (suc board) none = ap (λ (lists : List (List Entry)). first ∷ lists) (emptied rest board none)

opened_same : (opened : List (List Entry)) (entry : Entry) → IsAccess entry → open_at opened (board_of entry) ≡ [] → open_on opened entry ≡ opened
opened_same opened (Load board at value) is none = emptied opened board none
opened_same opened (Store board at value) is none = emptied opened board none
opened_same opened (Tas board at old) is none = emptied opened board none
opened_same opened (Fault board kind access at) is none = emptied opened board none
opened_same opened (Fill board layer need at) is none = absurd is
opened_same opened (Claim board at) is none = absurd is
opened_same opened (WriteBack board at) is none = absurd is
opened_same opened (Refresh board at) is none = absurd is
opened_same opened (BlockFlush board holder at) is none = absurd is
opened_same opened (Leave board at) is none = absurd is
opened_same opened (PageOut board at) is none = absurd is
opened_same opened (PageIn board at frame) is none = absurd is
opened_same opened (SetRef board at) is none = absurd is
opened_same opened (SetDirty board at) is none = absurd is
opened_same opened (ClearRef board at) is none = absurd is

pub tags_same : (F : Flat) (T : List (List (Option Tag))) (entry : Entry) → IsAccess entry → tags_on F T entry ≡ T
tags_same F T (Load board at value) is = refl
tags_same F T (Store board at value) is = refl
tags_same F T (Tas board at old) is = refl
tags_same F T (Fault board kind access at) is = refl
tags_same F T (Fill board layer need at) is = absurd is
tags_same F T (Claim board at) is = absurd is
tags_same F T (WriteBack board at) is = absurd is
tags_same F T (Refresh board at) is = absurd is
tags_same F T (BlockFlush board holder at) is = absurd is
tags_same F T (Leave board at) is = absurd is
tags_same F T (PageOut board at) is = absurd is
tags_same F T (PageIn board at frame) is = absurd is
tags_same F T (SetRef board at) is = absurd is
tags_same F T (SetDirty board at) is = absurd is
tags_same F T (ClearRef board at) is = absurd is

-- the tags judge an access without the flat state
pub refusal_same : (F G : Flat) (T : List (List (Option Tag))) (entry : Entry) → IsAccess entry → tags_refusal F T entry ≡ tags_refusal G T entry
refusal_same F G T (Load board at value) is = refl
refusal_same F G T (Store board at value) is = refl
refusal_same F G T (Tas board at old) is = refl
refusal_same F G T (Fault board kind access at) is = refl
refusal_same F G T entry is = absurd is

needed_none : (lines : ℕ) (opened : List (List Entry)) (entry : Entry) → IsAccess entry → open_at opened (board_of entry) ≡ [] → lack_of lines opened entry ≡ None
needed_none lines opened (Load board at value) is none = ap (λ (entries : List Entry). lack_in lines entries (role_of (Load board at value))) none
needed_none lines opened (Store board at value) is none = ap (λ (entries : List Entry). lack_in lines entries (role_of (Store board at value))) none
needed_none lines opened (Tas board at old) is none = ap (λ (entries : List Entry). lack_in lines entries (role_of (Tas board at old))) none
needed_none lines opened (Fault board kind access at) is none = ap (λ (entries : List Entry). lack_in lines entries (role_of (Fault board kind access at))) none
needed_none lines opened (Fill board layer need at) is none = absurd is
needed_none lines opened (Claim board at) is none = absurd is
needed_none lines opened (WriteBack board at) is none = absurd is
needed_none lines opened (Refresh board at) is none = absurd is
needed_none lines opened (BlockFlush board holder at) is none = absurd is
needed_none lines opened (Leave board at) is none = absurd is
needed_none lines opened (PageOut board at) is none = absurd is
needed_none lines opened (PageIn board at frame) is none = absurd is
needed_none lines opened (SetRef board at) is none = absurd is
needed_none lines opened (SetDirty board at) is none = absurd is
needed_none lines opened (ClearRef board at) is none = absurd is

-- a state with another flat state
abbrev with_flat : State → Flat → State
with_flat S F = record S { flat = F }

access_step : (S : State) (entry : Entry) → IsAccess entry → open_at S.opened (board_of entry) ≡ [] → step S entry ≡ with_flat S (on S.flat entry)
access_step S entry is none =
    ap (λ (T : List (List (Option Tag))). record { flat = on S.flat entry; tags = T; opened = open_on S.opened entry; lines = S.lines }) (tags_same S.flat S.tags entry is)
    ∙ ap (λ (opened : List (List Entry)). record { flat = on S.flat entry; tags = S.tags; opened = opened; lines = S.lines }) (opened_same S.opened entry is none)

-- what is quiet is so in every flat state
quiet_in : (S : State) (F : Flat) (history : List Entry) → AreQuiet S history → AreQuiet (with_flat S F) history
quiet_in S F [] quiet = tt
quiet_in S F (entry ∷ rest) quiet = (quiet.0, quiet.1, refusal_same F S.flat S.tags entry quiet.0 ∙ quiet.2, quiet_in S F rest quiet.3)

pub quiet-may-follow : QuietMayFollow
quiet-may-follow S [] quiet legal = record { follows = tt; leads = refl }
quiet-may-follow S (entry ∷ rest) quiet legal =
    let next : step S entry ≡ with_flat S (on S.flat entry) = access_step S entry quiet.0 quiet.1 in
    let later = quiet-may-follow (with_flat S (on S.flat entry)) rest (quiet_in S (on S.flat entry) rest quiet.3) legal.1 in
    record {
      follows = (record { legal = legal.0; tagged = quiet.2; needed = needed_none S.lines S.opened entry quiet.0 quiet.1 }, subst (λ (n : State). AllFollow n rest) (sym next) later.follows);
      leads = ap (λ (n : State). state_after n rest) next ∙ later.leads;
    }
