-- Where items may stand, by the counts behind them.
use Rattle.std.proofs.Common.{◌≡◌, ℕ, ◌+◌, ◌<◌, ◌≤◌, Bool, true, false, take, ◌==◌, nat_lt, if◌then◌else◌, List, [], ◌∷◌, Some, None, refl, arith}
use Rattle.std.specs.Prelude.{⊤, IfSome}
use Rattle.std.proofs.lemmas.Bool.{lt-ltb, ltb-true, eqb-true, eq-eqb}
use Rattle.spur_asm.specs.Item.{Item, Label, Page, Word, Board, Seg, Code}
use Rattle.spur_asm.specs.Context.{Placed, has_label, immediate_of, limit_fault, misplacement}
use Rattle.spur_asm.specs.declared.fault.AsmKind.TheVariants.{BadToken, Twice, Limit}
use Rattle.spur_asm.specs.declared.statement.Context.{Context}
use Rattle.spur_asm.proofs.Levels.{sort_of, Leads, Stands, AllStand, behind_item}
use Rattle.spur_asm.proofs.ItemRuns.{AllIn, IsNoBoard, Behind}

-- ---- the parts of what lets an item stand

-- an item may stand here, whatever its label is
abbrev pub MayStand : Context → Item → Type 0
MayStand c (Label name) = (c.boards == 0) ≡ false
MayStand c item = IfSome (sort_of item) (λ sort. misplacement c sort ≡ None)

-- no label of the board before has the name of a label
abbrev pub IsNew : List Placed → Context → Item → Type 0
IsNew all c (Label name) = has_label (take c.labels all) c.boards name ≡ false
IsNew all c item = ⊤

-- an instruction leads to its label
abbrev pub LeadsIn : List Placed → Context → Item → Type 0
LeadsIn all c item = Leads (immediate_of all c) item

label_parts : (a b : Bool) → (if a then Some BadToken else (if b then Some Twice else None)) ≡ None → (a ≡ false) × (b ≡ false)
label_parts true b e = absurd cc
label_parts false true e = absurd cc
label_parts false false e = (refl, refl)

label_from : (a b : Bool) → a ≡ false → b ≡ false → (if a then Some BadToken else (if b then Some Twice else None)) ≡ None
label_from true b e f = absurd cc
label_from false true e f = absurd cc
label_from false false e f = refl

stands_parts : (all : List Placed) (c : Context) (item : Item) → Stands all c item → MayStand c item × IsNew all c item × LeadsIn all c item
stands_parts all c (Label name) h =
    let parts = label_parts (c.boards == 0) (has_label (take c.labels all) c.boards name) h in
    (parts.0, parts.1, tt)
stands_parts all c (item) h = (h.0, tt, h.1)

stands_from : (all : List Placed) (c : Context) (item : Item) → MayStand c item → IsNew all c item → LeadsIn all c item → Stands all c item
stands_from all c (Label name) may new leads = label_from (c.boards == 0) (has_label (take c.labels all) c.boards name) may new
stands_from all c (item) may new leads = (may, leads)

pub record HasParts (all : List Placed) (c : Context) (items : List Item) : Type 0 where
  pub may : AllIn MayStand c items
  pub new : AllIn (IsNew all) c items
  pub leads : AllIn (LeadsIn all) c items

pub all_stand_parts : (all : List Placed) (c : Context) (items : List Item) → AllStand all c items → HasParts all c items
all_stand_parts all c [] h = record { may = tt; new = tt; leads = tt }
all_stand_parts all c (item ∷ items) h =
    let here = stands_parts all c item h.0 in
    let on = all_stand_parts all (behind_item c item) items h.1 in
    record { may = (here.0, on.may); new = (here.1, on.new); leads = (here.2, on.leads) }

pub all_stand_from : (all : List Placed) (c : Context) (items : List Item) → AllIn MayStand c items → AllIn (IsNew all) c items → AllIn (LeadsIn all) c items → AllStand all c items
all_stand_from all c [] may new leads = tt
all_stand_from all c (item ∷ items) may new leads =
    (stands_from all c item may.0 new.0 leads.0, all_stand_from all (behind_item c item) items may.1 new.1 leads.1)

-- ---- limits

few_enough : (most before : ℕ) → before + 1 ≤ most → limit_fault most before ≡ None
few_enough most before le = (let lt : before < most = omega arith in rw (lt-ltb before most lt) refl)

limited : (most before : ℕ) (b : Bool) → nat_lt before most ≡ b → (if b then None else Some Limit) ≡ None → before + 1 ≤ most
limited most before true e h = (let lt = ltb-true before most e in omega arith)
limited most before false e h = absurd cc

was_few : (most before : ℕ) → limit_fault most before ≡ None → before + 1 ≤ most
was_few most before h = limited most before (nat_lt before most) refl h

-- the counts of a whole text
pub record IsFew (c : Context) : Type 0 where
  pub pages : c.pages ≤ 2048
  pub words : c.words ≤ 65536
  pub boards : c.boards ≤ 12

-- the counts of a board
pub record IsShort (c : Context) : Type 0 where
  pub segs : c.segs ≤ 1
  pub codes : c.codes ≤ 4096

-- what belongs to a board stands behind a `.board`
abbrev pub IsApt : Context → Item → Type 0
IsApt c (Page segment place prot) = ⊤
IsApt c (Word segment offset value) = ⊤
IsApt c Board = ⊤
IsApt c item = (c.boards == 0) ≡ false

pub few_before : (c : Context) (item : Item) → IsFew (behind_item c item) → IsFew c
few_before c (Page segment place prot) h = record { pages = (let a = h.pages in omega arith); words = h.words; boards = h.boards }
few_before c (Word segment offset value) h = record { pages = h.pages; words = (let a = h.words in omega arith); boards = h.boards }
few_before c Board h = record { pages = h.pages; words = h.words; boards = (let a = h.boards in omega arith) }
few_before c (item) h = record { pages = h.pages; words = h.words; boards = h.boards }

pub short_before : (c : Context) (item : Item) → IsNoBoard item → IsShort (behind_item c item) → IsShort c
short_before c Board whole h = absurd (whole refl)
short_before c (Seg first second third fourth) whole h = record { segs = (let a = h.segs in omega arith); codes = h.codes }
short_before c (Code instr label) whole h = record { segs = h.segs; codes = (let a = h.codes in omega arith) }
short_before c (item) whole h = record { segs = h.segs; codes = h.codes }

-- ---- what may stand

one_seg : (n : ℕ) (a b : Bool) → n == 0 ≡ b → (if a then Some BadToken else (if b then None else Some Twice)) ≡ None → (a ≡ false) × (n + 1 ≤ 1)
one_seg n true b e h = absurd cc
one_seg n false true e h = (refl, (let none = eqb-true n 0 e in omega arith))
one_seg n false false e h = absurd cc

some_code : (n : ℕ) (a : Bool) → (if a then Some BadToken else limit_fault 4096 n) ≡ None → (a ≡ false) × (n + 1 ≤ 4096)
some_code n true h = absurd cc
some_code n false h = (refl, was_few 4096 n h)

record Fits (c : Context) (item : Item) : Type 0 where
  apt : IsApt c item
  few : IsFew (behind_item c item)
  short : IsShort (behind_item c item)

fits_if_may : (c : Context) (item : Item) → IsFew c → IsShort c → MayStand c item → Fits c item
fits_if_may c (Label name) few short h = record {
  apt = h;
  few = record { pages = few.pages; words = few.words; boards = few.boards };
  short = record { segs = short.segs; codes = short.codes };
}
fits_if_may c (Page segment place prot) few short h = record {
  apt = tt;
  few = record { pages = was_few 2048 c.pages h; words = few.words; boards = few.boards };
  short = record { segs = short.segs; codes = short.codes };
}
fits_if_may c (Word segment offset value) few short h = record {
  apt = tt;
  few = record { pages = few.pages; words = was_few 65536 c.words h; boards = few.boards };
  short = record { segs = short.segs; codes = short.codes };
}
fits_if_may c Board few short h = record {
  apt = tt;
  few = record { pages = few.pages; words = few.words; boards = was_few 12 c.boards h };
  short = record { segs = omega arith; codes = omega arith };
}
fits_if_may c (Seg first second third fourth) few short h =
    let parts = one_seg c.segs (c.boards == 0) (c.segs == 0) refl h in
    record {
      apt = parts.0;
      few = record { pages = few.pages; words = few.words; boards = few.boards };
      short = record { segs = parts.1; codes = short.codes };
    }
fits_if_may c (Code instr label) few short h =
    let parts = some_code c.codes (c.boards == 0) h in
    record {
      apt = parts.0;
      few = record { pages = few.pages; words = few.words; boards = few.boards };
      short = record { segs = short.segs; codes = parts.1 };
    }

first_seg : (n : ℕ) (a : Bool) → a ≡ false → n + 1 ≤ 1 → (if a then Some BadToken else (if n == 0 then None else Some Twice)) ≡ None
first_seg n true e h = absurd cc
first_seg n false e h = (let none : n ≡ 0 = omega arith in rw (eq-eqb n 0 none) refl)

one_code : (n : ℕ) (a : Bool) → a ≡ false → n + 1 ≤ 4096 → (if a then Some BadToken else limit_fault 4096 n) ≡ None
one_code n true e h = absurd cc
one_code n false e h = few_enough 4096 n h

may_if_fits : (c : Context) (item : Item) → IsApt c item → IsFew (behind_item c item) → IsShort (behind_item c item) → MayStand c item
may_if_fits c (Label name) apt few short = apt
may_if_fits c (Page segment place prot) apt few short = few_enough 2048 c.pages few.pages
may_if_fits c (Word segment offset value) apt few short = few_enough 65536 c.words few.words
may_if_fits c Board apt few short = few_enough 12 c.boards few.boards
may_if_fits c (Seg first second third fourth) apt few short = first_seg c.segs (c.boards == 0) apt short.segs
may_if_fits c (Code instr label) apt few short = one_code c.codes (c.boards == 0) apt short.codes

pub record AllFit (c : Context) (items : List Item) : Type 0 where
  pub apt : AllIn IsApt c items
  pub few : AllIn (Behind IsFew) c items
  pub short : AllIn (Behind IsShort) c items

pub all_fit_if_may : (c : Context) (items : List Item) → IsFew c → IsShort c → AllIn MayStand c items → AllFit c items
all_fit_if_may c [] few short h = record { apt = tt; few = tt; short = tt }
all_fit_if_may c (item ∷ items) few short h =
    let here = fits_if_may c item few short h.0 in
    let on = all_fit_if_may (behind_item c item) items here.few here.short h.1 in
    record { apt = (here.apt, on.apt); few = (here.few, on.few); short = (here.short, on.short) }

pub all_may_if_fit : (c : Context) (items : List Item) → AllIn IsApt c items → AllIn (Behind IsFew) c items → AllIn (Behind IsShort) c items → AllIn MayStand c items
all_may_if_fit c [] apt few short = tt
all_may_if_fit c (item ∷ items) apt few short =
    (may_if_fits c item apt.0 few.0 short.0, all_may_if_fit (behind_item c item) items apt.1 few.1 short.1)
