-- The registers, as the list of their words.
use Rattle.std.specs.Prelude.{ℕ, ◌==◌, List, [], ◌∷◌, slice_index, slice_set, if◌then◌else◌}
use Rattle.spur_isa.specs.declared.instr.Instr.{Instr}
use Rattle.spur_isa.specs.declared.instr.Instr.TheVariants.{Ld, Tas}

-- sixteen registers, all 0
abbrev pub zeros : List ℕ
zeros = 0 ∷ 0 ∷ 0 ∷ 0 ∷ 0 ∷ 0 ∷ 0 ∷ 0 ∷ 0 ∷ 0 ∷ 0 ∷ 0 ∷ 0 ∷ 0 ∷ 0 ∷ 0 ∷ []

-- the word of a register
abbrev pub register_of : List ℕ → ℕ → ℕ
register_of registers a = slice_index registers a

-- the registers after a write; one to register 0 is dropped
abbrev pub with_register : List ℕ → ℕ → ℕ → List ℕ
with_register registers a value = if a == 0 then registers else slice_set registers a value

-- the registers after an access that is done: a load and a test-and-set put the word that they read into their register
abbrev pub loaded : Instr → List ℕ → ℕ → List ℕ
loaded (Ld a b i) registers value = with_register registers a value
loaded (Tas a b i) registers value = with_register registers a value
loaded other registers value = registers
