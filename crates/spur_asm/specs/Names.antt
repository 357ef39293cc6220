-- Which statement a line has, by the name with which it begins.
use Rattle.std.specs.Prelude.{ℕ, if◌then◌else◌, List, [], ◌∷◌, Option, Some, None, codes}
use Rattle.std.specs.Str.{bytes_eq}
use Rattle.spur_asm.specs.declared.statement.Operation.{Operation}
use Rattle.spur_asm.specs.declared.statement.Operation.TheVariants.{Halt, Nop, Li, Lih, AddI, Add, Sub, And, Or, Xor, Shl, Shr, Slt, SltU, Ld, St, Tas, Beq, Bne, Blt, Bge, Jmp, Call, Jr, Show}
use Rattle.spur_asm.specs.declared.statement.Sort.{Sort}
use Rattle.spur_asm.specs.declared.statement.Sort.TheVariants.{Page, Word, Board, Seg, Code}

abbrev pub operation_name : Operation → List ℕ
operation_name Halt = codes "halt"
operation_name Nop = codes "nop"
operation_name Li = codes "li"
operation_name Lih = codes "lih"
operation_name AddI = codes "addi"
operation_name Add = codes "add"
operation_name Sub = codes "sub"
operation_name And = codes "and"
operation_name Or = codes "or"
operation_name Xor = codes "xor"
operation_name Shl = codes "shl"
operation_name Shr = codes "shr"
operation_name Slt = codes "slt"
operation_name SltU = codes "sltu"
operation_name Ld = codes "ld"
operation_name St = codes "st"
operation_name Tas = codes "tas"
operation_name Beq = codes "beq"
operation_name Bne = codes "bne"
operation_name Blt = codes "blt"
operation_name Bge = codes "bge"
operation_name Jmp = codes "jmp"
operation_name Call = codes "call"
operation_name Jr = codes "jr"
operation_name Show = codes "show"

abbrev pub operations : List Operation
operations = Halt ∷ Nop ∷ Li ∷ Lih ∷ AddI ∷ Add ∷ Sub ∷ And ∷ Or ∷ Xor ∷ Shl ∷ Shr ∷ Slt ∷ SltU ∷ Ld ∷ St ∷ Tas ∷ Beq ∷ Bne ∷ Blt ∷ Bge ∷ Jmp ∷ Call ∷ Jr ∷ Show ∷ []

-- the operation of these with this name
abbrev pub operation_among : List Operation → List ℕ → Option Operation
operation_among [] name = None
operation_among (operation ∷ others) name = if bytes_eq name (operation_name operation) then Some operation else operation_among others name

-- the operation with this name
abbrev pub operation_named : List ℕ → Option Operation
operation_named name = operation_among operations name

abbrev pub code_sort : Option Operation → Option Sort
code_sort None = None
code_sort (Some operation) = Some (Code operation)

-- the sort of the statements with this name
abbrev pub sort_named : List ℕ → Option Sort
sort_named name =
    if bytes_eq name (codes ".page") then Some Page else
    (if bytes_eq name (codes ".word") then Some Word else
    (if bytes_eq name (codes ".board") then Some Board else
    (if bytes_eq name (codes ".seg") then Some Seg else code_sort (operation_named name))))
