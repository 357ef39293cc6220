-- The name of a statement's sort, back from the sort.
use Rattle.std.proofs.Common.{◌≡◌, ℕ, Bool, true, false, List, [], ◌∷◌, Option, Some, None, refl, sym, ap, ◌∙◌, if◌then◌else◌}
use Rattle.std.specs.Prelude.{codes}
use Rattle.std.specs.Str.{bytes_eq}
use Rattle.std.proofs.lemmas.Slice.Eq.{bytes_eq-Decides}
use Rattle.spur_isa.specs.declared.instr.Instr.{Instr}
use Rattle.spur_isa.specs.declared.instr.Instr.TheVariants as instrs
use Rattle.spur_asm.specs.Item.{Item, Label, Page, Word, Board, Seg, Code}
use Rattle.spur_asm.specs.Names.{operations, operation_name, operation_among, operation_named, code_sort, sort_named}
use Rattle.spur_asm.specs.declared.statement.Operation.{Operation}
use Rattle.spur_asm.specs.declared.statement.Sort.{Sort}
use Rattle.spur_asm.specs.declared.statement.Sort.TheVariants as sorts
use Rattle.spur_asm.proofs.Levels.{operation_of, sort_of}
use Rattle.spur_asm.proofs.LineHeads.{instr_name, item_name}

abbrev pub sort_name : Sort → List ℕ
sort_name sorts.Page = codes ".page"
sort_name sorts.Word = codes ".word"
sort_name sorts.Board = codes ".board"
sort_name sorts.Seg = codes ".seg"
sort_name (sorts.Code operation) = operation_name operation

-- what a name stands for, where its test decides
chosen : {A : Type 0} (name key : List ℕ) (test : Bool) → bytes_eq name key ≡ test → (x y : A) (others : Option A) (named : A → List ℕ) → named x ≡ key
    → (others ≡ Some y → name ≡ named y) → (if test then Some x else others) ≡ Some y → name ≡ named y
chosen name key true t x y others named key_is next e = let same : x ≡ y = cc in (bytes_eq-Decides name key).0 t ∙ sym key_is ∙ ap named same
chosen name key false t x y others named key_is next e = next e

among : (all : List Operation) (name : List ℕ) (o : Operation) → operation_among all name ≡ Some o → name ≡ operation_name o
among [] name o e = absurd cc
among (operation ∷ others) name o e =
    chosen name (operation_name operation) (bytes_eq name (operation_name operation)) refl operation o (operation_among others name) operation_name refl (among others name o) e

coded : (o : Option Operation) (sort : Sort) → code_sort o ≡ Some sort → (p : Operation) × (o ≡ Some p) × (sorts.Code p ≡ sort)
coded None sort e = absurd cc
coded (Some p) sort e = (p, refl, cc)

code_named : (name : List ℕ) (sort : Sort) → code_sort (operation_named name) ≡ Some sort → name ≡ sort_name sort
code_named name sort e = let c = coded (operation_named name) sort e in among operations name c.0 c.1 ∙ ap sort_name c.2

-- a name in the table of sorts is its sort's
pub sort_named_is : (name : List ℕ) (sort : Sort) → sort_named name ≡ Some sort → name ≡ sort_name sort
sort_named_is name sort e =
    chosen name (codes ".page") (bytes_eq name (codes ".page")) refl sorts.Page sort _ sort_name refl
    (chosen name (codes ".word") (bytes_eq name (codes ".word")) refl sorts.Word sort _ sort_name refl
    (chosen name (codes ".board") (bytes_eq name (codes ".board")) refl sorts.Board sort _ sort_name refl
    (chosen name (codes ".seg") (bytes_eq name (codes ".seg")) refl sorts.Seg sort (code_sort (operation_named name)) sort_name refl (code_named name sort)))) e

instr_name_is : (instr : Instr) → instr_name instr ≡ operation_name (operation_of instr)
instr_name_is instrs.Halt = refl
instr_name_is instrs.Nop = refl
instr_name_is (instrs.Li a i) = refl
instr_name_is (instrs.Lih a u) = refl
instr_name_is (instrs.AddI a b i) = refl
instr_name_is (instrs.Add a b c) = refl
instr_name_is (instrs.Sub a b c) = refl
instr_name_is (instrs.And a b c) = refl
instr_name_is (instrs.Or a b c) = refl
instr_name_is (instrs.Xor a b c) = refl
instr_name_is (instrs.Shl a b c) = refl
instr_name_is (instrs.Shr a b c) = refl
instr_name_is (instrs.Slt a b c) = refl
instr_name_is (instrs.SltU a b c) = refl
instr_name_is (instrs.Ld a b i) = refl
instr_name_is (instrs.St a b i) = refl
instr_name_is (instrs.Tas a b i) = refl
instr_name_is (instrs.Beq a b i) = refl
instr_name_is (instrs.Bne a b i) = refl
instr_name_is (instrs.Blt a b i) = refl
instr_name_is (instrs.Bge a b i) = refl
instr_name_is (instrs.Jmp i) = refl
instr_name_is (instrs.Call a i) = refl
instr_name_is (instrs.Jr a) = refl
instr_name_is (instrs.Show a) = refl

item_name_is : (item : Item) (sort : Sort) → sort_of item ≡ Some sort → item_name item ≡ sort_name sort
item_name_is (Label name) sort e = absurd cc
item_name_is (Page segment place prot) sort e = let same : sorts.Page ≡ sort = cc in ap sort_name same
item_name_is (Word segment offset value) sort e = let same : sorts.Word ≡ sort = cc in ap sort_name same
item_name_is Board sort e = let same : sorts.Board ≡ sort = cc in ap sort_name same
item_name_is (Seg first second third fourth) sort e = let same : sorts.Seg ≡ sort = cc in ap sort_name same
item_name_is (Code instr label) sort e = let same : sorts.Code (operation_of instr) ≡ sort = cc in instr_name_is instr ∙ ap sort_name same

-- the name that was read is the item's
pub named_as : (name : List ℕ) (sort : Sort) (item : Item) → sort_named name ≡ Some sort → sort_of item ≡ Some sort → name ≡ item_name item
named_as name sort item named is = sort_named_is name sort named ∙ sym (item_name_is item sort is)
