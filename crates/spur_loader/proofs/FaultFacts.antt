-- The faults, one by one.
use Rattle.std.specs.Prelude.{nat_lt}
use Rattle.std.specs.List.{All}
use Rattle.std.specs.Option.{option_or}
use Rattle.std.proofs.Common.{◌≡◌, ℕ, ◌+◌, length, subst, ◌<◌, ◌≤◌, Bool, true, false, List, Option, Some, None, refl, sym, ap, ◌∙◌, arith, if◌then◌else◌}
use Rattle.std.proofs.lemmas.Bool.{lt-ltb, le-ltb, ltb-false}
use Rattle.spur_object.specs.Limits.{IsPage}
use Rattle.spur_object.specs.declared.unit.Unit.{Unit as Program}
use Rattle.spur_object.specs.declared.unit.PageText.{PageText}
use Rattle.spur_loader.specs.declared.opening.Options.{Options}
use Rattle.spur_loader.specs.declared.fault.LoadFault.{LoadFault}
use Rattle.spur_loader.specs.declared.fault.LoadFault.TheVariants.{Segment255, NoRoom}
use Rattle.spur_loader.specs.Faults.{names_255, segment_fault, again_fault, outside_fault, room_fault, frames_wanted, load_fault_of}
use Rattle.spur_object.specs.declared.unit.WordText.{WordText}
use Rattle.spur_loader.specs.Opening.{roots_of}
use Rattle.spur_loader.specs.Parts.{AreRoots}
use Rattle.spur_loader.proofs.RootFacts.{roots_same}

-- ---- none of them

record AreBoth (P Q : Type 0) : Type 0 where
  first : P
  second : Q

or_none : (o p : Option LoadFault) → option_or o p ≡ None → AreBoth (o ≡ None) (p ≡ None)
or_none None p e = record { first = refl; second = e }
or_none (Some x) p e = cc

-- no fault at all
pub record HasNoFault (unit : Program) (options : Options) : Type 0 where
  pub segment : segment_fault unit ≡ None
  pub again : again_fault unit.pages ≡ None
  pub outside : outside_fault unit.pages unit.words ≡ None
  pub room : room_fault unit.pages options ≡ None

pub no_fault : (unit : Program) (options : Options) → load_fault_of unit options ≡ None → HasNoFault unit options
no_fault unit options e =
    let a = or_none (segment_fault unit) (option_or (again_fault unit.pages) (option_or (outside_fault unit.pages unit.words) (room_fault unit.pages options))) e in
    let b = or_none (again_fault unit.pages) (option_or (outside_fault unit.pages unit.words) (room_fault unit.pages options)) a.second in
    let d = or_none (outside_fault unit.pages unit.words) (room_fault unit.pages options) b.second in
    record { segment = a.first; again = b.first; outside = d.first; room = d.second }

-- ---- the last of them

pub fault_rest : (unit : Program) (options : Options) → names_255 unit ≡ false → again_fault unit.pages ≡ None → outside_fault unit.pages unit.words ≡ None
    → load_fault_of unit options ≡ room_fault unit.pages options
fault_rest unit options segment again outside =
    ap (λ (b : Bool). option_or (if b then Some Segment255 else None) (option_or (again_fault unit.pages) (option_or (outside_fault unit.pages unit.words) (room_fault unit.pages options)))) segment
    ∙ ap (λ (o : Option LoadFault). option_or o (option_or (outside_fault unit.pages unit.words) (room_fault unit.pages options))) again
    ∙ ap (λ (o : Option LoadFault). option_or o (room_fault unit.pages options)) outside

pub room_some : (pages : List PageText) (options : Options) (n : ℕ) → n ≡ frames_wanted pages options → 4096 < n → room_fault pages options ≡ Some (NoRoom n)
room_some pages options n is many =
    let more : 4096 < frames_wanted pages options = omega arith in
    ap (λ (b : Bool). if b then Some (NoRoom (frames_wanted pages options)) else None) (lt-ltb 4096 (frames_wanted pages options) more)
    ∙ ap (λ (m : ℕ). Some (NoRoom m)) (sym is)

pub room_none : (pages : List PageText) (options : Options) (n : ℕ) → n ≡ frames_wanted pages options → n ≤ 4096 → room_fault pages options ≡ None
room_none pages options n is few =
    let less : frames_wanted pages options ≤ 4096 = omega arith in
    ap (λ (b : Bool). if b then Some (NoRoom (frames_wanted pages options)) else None) (le-ltb 4096 (frames_wanted pages options) less)

-- where the other faults are none, too many frames are the fault, or there is none
fault_room : (unit : Program) (options : Options) (pages : List PageText) (words : List WordText) → pages ≡ unit.pages → words ≡ unit.words
    → names_255 unit ≡ false → again_fault pages ≡ None → outside_fault pages words ≡ None → load_fault_of unit options ≡ room_fault unit.pages options
fault_room unit options pages words same-pages same-words segment once inside =
    fault_rest unit options segment
    (ap again_fault (sym same-pages) ∙ once)
    (ap (λ (ps : List PageText). outside_fault ps unit.words) (sym same-pages) ∙ ap (outside_fault pages) (sym same-words) ∙ inside)

roots_counted : (unit : Program) (options : Options) (pages : List PageText) (roots : List ℕ) (n : ℕ) → pages ≡ unit.pages → All IsPage unit.pages
    → AreRoots pages roots → n ≡ 64 + length roots + options.frames → n ≡ frames_wanted unit.pages options
roots_counted unit options pages roots n same small needed count =
    let is : roots ≡ roots_of unit.pages = roots_same unit.pages roots small (subst (λ (ps : List PageText). AreRoots ps roots) same needed) in
    count ∙ ap (λ (rs : List ℕ). 64 + length rs + options.frames) is

pub too_many_frames : (unit : Program) (options : Options) (pages : List PageText) (words : List WordText) (roots : List ℕ) (n : ℕ) → pages ≡ unit.pages
    → words ≡ unit.words → All IsPage unit.pages → AreRoots pages roots → names_255 unit ≡ false → again_fault pages ≡ None → outside_fault pages words ≡ None
    → n ≡ 64 + length roots + options.frames → 4096 < n → load_fault_of unit options ≡ Some (NoRoom n)
too_many_frames unit options pages words roots n same-pages same-words small needed segment once inside count many =
    fault_room unit options pages words same-pages same-words segment once inside
    ∙ room_some unit.pages options n (roots_counted unit options pages roots n same-pages small needed count) many

pub few_frames_pass : (unit : Program) (options : Options) (pages : List PageText) (words : List WordText) (roots : List ℕ) (n : ℕ) → pages ≡ unit.pages
    → words ≡ unit.words → All IsPage unit.pages → AreRoots pages roots → names_255 unit ≡ false → again_fault pages ≡ None → outside_fault pages words ≡ None
    → n ≡ 64 + length roots + options.frames → n ≤ 4096 → load_fault_of unit options ≡ None
few_frames_pass unit options pages words roots n same-pages same-words small needed segment once inside count few =
    fault_room unit options pages words same-pages same-words segment once inside
    ∙ room_none unit.pages options n (roots_counted unit options pages roots n same-pages small needed count) few

-- ---- what follows where there is none

few_by : (w : ℕ) (b : Bool) → nat_lt 4096 w ≡ b → (if b then Some (NoRoom w) else None) ≡ None → w ≤ 4096
few_by w true e none = let f : Some (NoRoom w) ≡ None = none in cc
few_by w false e none = ltb-false 4096 w e

pub few_frames : (pages : List PageText) (options : Options) → room_fault pages options ≡ None → frames_wanted pages options ≤ 4096
few_frames pages options none = few_by (frames_wanted pages options) (nat_lt 4096 (frames_wanted pages options)) refl none
