-- Inputs that are run, and those that are refused.
use Rattle.std.proofs.Common.{◌≡◌, ◌∙◌, ◌⊎◌, inl, inr, refl, sym, ap, ℕ, ◌<◌, ◌≤◌, true, false, List, length, Option, Some, None, arith}
use Rattle.spur_object.specs.Faults as objects
use Rattle.spur_object.specs.declared.fault.ObjKind.{ObjKind}
use Rattle.spur_object.specs.declared.unit.Unit.{Unit as Program}
use Rattle.spur_asm.specs.Faults.{IsFirstFault}
use Rattle.spur_asm.specs.Says.{Says}
use Rattle.spur_asm.specs.Told.{Told, told_of}
use Rattle.spur_asm.specs.declared.fault.AsmKind.{AsmKind}
use Rattle.spur_asm.proofs.FaultTheorems.{says_without_fault, tells_the_first_fault}
use Rattle.spur_loader.specs.declared.fault.LoadFault.{LoadFault}
use Rattle.spur_loader.specs.declared.opening.Options.{Options}
use Rattle.spur_loader.specs.Faults.{load_fault_of}
use Rattle.spur_input.specs.declared.refusal.Refusal.{Refusal}
use Rattle.spur_input.specs.declared.refusal.Refusal.TheVariants.{Load, Object, Text, TooLong}
use Rattle.spur_input.specs.Program.{IsLoadable, IsProgramOf, OfText, is_object, program_limit}
use Rattle.spur_input.specs.Refused.{HasObjectFault, HasTextFault, IsLong, IsNotLoaded, IsRefusedToRun}
use Rattle.spur_input.specs.Laws.{LoadableIsNotRefused, OneIsLoadable, OneRefusalToRun, TextIsLoadableOrRefused}
use Rattle.spur_input.proofs.ProgramFacts.{first_once, not_both, object_fault_once, program_no_object_fault, program_no_text_fault, program_once}

pub too_long : (limit n : ℕ) → n ≤ limit → limit < n → ⊥
too_long limit n within long = omega (arith, within, long)

-- a load fault of the unit of an input is that of any unit of it
pub load_fault_once : (options : Options) (unit other : Program) (why reason : LoadFault) → unit ≡ other → load_fault_of unit options ≡ Some why → load_fault_of other options ≡ Some reason
    → Load why ≡ Load reason
load_fault_once options unit other why reason same is are =
    let e : Some why ≡ Some reason = sym is ∙ ap (λ (u : Program). load_fault_of u options) same ∙ are in cc

pub loads_or_not : (options : Options) (unit other : Program) (why : LoadFault) → unit ≡ other → load_fault_of unit options ≡ None → load_fault_of other options ≡ Some why → ⊥
loads_or_not options unit other why same is are =
    let e : None ≡ Some why = sym is ∙ ap (λ (u : Program). load_fault_of u options) same ∙ are in cc

module _ (options : Options) (input : List ℕ) where
  long_alone : program_limit < length input → (other : Refusal) → IsRefusedToRun options input other → TooLong program_limit ≡ other
  long_alone long other (IsLong l) = refl
  long_alone long other (HasTextFault within t line column kind first) = absurd (too_long program_limit (length input) within long)
  long_alone long other (HasObjectFault within t kind byte fault) = absurd (too_long program_limit (length input) within long)
  long_alone long other (IsNotLoaded within unit is why loads) = absurd (too_long program_limit (length input) within long)

  text_alone : length input ≤ program_limit → is_object input ≡ false → (line column : ℕ) (kind : AsmKind) → IsFirstFault input line column kind
      → (other : Refusal) → IsRefusedToRun options input other → Text kind line column ≡ other
  text_alone within text line column kind first other (IsLong long) = absurd (too_long program_limit (length input) within long)
  text_alone within text line column kind first other (HasTextFault w t l c k f) = first_once input line column kind l c k first f
  text_alone within text line column kind first other (HasObjectFault w t k b f) = absurd (not_both input text t)
  text_alone within text line column kind first other (IsNotLoaded w unit is why loads) = absurd (program_no_text_fault input unit line column kind is text first)

  object_alone : length input ≤ program_limit → is_object input ≡ true → (kind : ObjKind) (byte : ℕ) → objects.HasFault input kind byte
      → (other : Refusal) → IsRefusedToRun options input other → Object kind byte ≡ other
  object_alone within object kind byte fault other (IsLong long) = absurd (too_long program_limit (length input) within long)
  object_alone within object kind byte fault other (HasTextFault w t l c k f) = absurd (not_both input t object)
  object_alone within object kind byte fault other (HasObjectFault w t k b f) = object_fault_once input kind k byte b fault f
  object_alone within object kind byte fault other (IsNotLoaded w unit is why loads) = absurd (program_no_object_fault input unit kind byte is object fault)

  load_alone : length input ≤ program_limit → (unit : Program) → IsProgramOf unit input → (why : LoadFault) → load_fault_of unit options ≡ Some why
      → (other : Refusal) → IsRefusedToRun options input other → Load why ≡ other
  load_alone within unit is why loads other (IsLong long) = absurd (too_long program_limit (length input) within long)
  load_alone within unit is why loads other (HasTextFault w t l c k f) = absurd (program_no_text_fault input unit l c k is t f)
  load_alone within unit is why loads other (HasObjectFault w t k b f) = absurd (program_no_object_fault input unit k b is t f)
  load_alone within unit is why loads other (IsNotLoaded w u are reason faults) = load_fault_once options unit u why reason (program_once input unit u is are) loads faults

-- an input has one refusal at most
pub one_refusal_to_run : OneRefusalToRun
one_refusal_to_run options input one other (IsLong long) r = long_alone options input long other r
one_refusal_to_run options input one other (HasTextFault w t l c k f) r = text_alone options input w t l c k f other r
one_refusal_to_run options input one other (HasObjectFault w t k b f) r = object_alone options input w t k b f other r
one_refusal_to_run options input one other (IsNotLoaded w u is why loads) r = load_alone options input w u is why loads other r

-- an input that can be loaded is not refused
pub loadable_is_not_refused : LoadableIsNotRefused
loadable_is_not_refused options input unit refusal ok (IsLong long) = too_long program_limit (length input) ok.within long
loadable_is_not_refused options input unit refusal ok (HasTextFault w t l c k f) = program_no_text_fault input unit l c k ok.program t f
loadable_is_not_refused options input unit refusal ok (HasObjectFault w t k b f) = program_no_object_fault input unit k b ok.program t f
loadable_is_not_refused options input unit refusal ok (IsNotLoaded w u is why loads) = loads_or_not options unit u why (program_once input unit u ok.program is) ok.loads loads

-- an input is the program of one unit
pub one_is_loadable : OneIsLoadable
one_is_loadable options input one other ok as_well = program_once input one other ok.program as_well.program

-- ---- texts

-- a text says a unit, or has a first fault
pub data IsReadOrNot (text : List ℕ) : Type 0 where
  IsSaid : (unit : Program) → Says text unit → IsReadOrNot text
  IsFaulty : (line column : ℕ) (kind : AsmKind) → IsFirstFault text line column kind → IsReadOrNot text

read_by : (text : List ℕ) (told : Option Told) → told_of text ≡ told → IsReadOrNot text
read_by text None are = (let said : (unit : Program) × Says text unit = (says_without_fault text).0 ((tells_the_first_fault text).none.0 are) in IsSaid said.0 said.1)
read_by text (Some told) are = IsFaulty told.line told.column told.kind (((tells_the_first_fault text).some told).0 are)

pub read_or_not : (text : List ℕ) → IsReadOrNot text
read_or_not text = read_by text (told_of text) refl

loaded_by : (options : Options) (text : List ℕ) (unit : Program) → length text ≤ program_limit → IsProgramOf unit text → (why : Option LoadFault) → load_fault_of unit options ≡ why
    → ((unit : Program) × IsLoadable options text unit) ⊎ ((refusal : Refusal) × IsRefusedToRun options text refusal)
loaded_by options text unit within is None e = inl (unit, record { within = within; program = is; loads = e })
loaded_by options text unit within is (Some why) e = inr (Load why, IsNotLoaded within unit is why e)

answered : (options : Options) (text : List ℕ) → is_object text ≡ false → length text ≤ program_limit → IsReadOrNot text
    → ((unit : Program) × IsLoadable options text unit) ⊎ ((refusal : Refusal) × IsRefusedToRun options text refusal)
answered options text is within (IsSaid unit says) = loaded_by options text unit within (OfText is says) (load_fault_of unit options) refl
answered options text is within (IsFaulty line column kind first) = inr (Text kind line column, HasTextFault within is line column kind first)

-- a text is loadable or refused
pub text_is_loadable_or_refused : TextIsLoadableOrRefused
text_is_loadable_or_refused options text is within = answered options text is within (read_or_not text)
