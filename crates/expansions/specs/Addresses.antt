-- The addresses of a code's instructions as a list.
use Rattle.std.specs.Prelude.{ℕ, List, [], ◌∷◌}
use Rattle.image_model.specs.Image.{Image}
use Rattle.asm_syntax.specs.declared.instr.Instr.{Instr}
use Rattle.code_model.specs.Addresses.{address_after}

-- the address behind each instruction of the code that begins at a
abbrev pub addresses_after : Image → ℕ → List Instr → List ℕ
addresses_after v a [] = []
addresses_after v a (x ∷ code) = address_after v a x ∷ addresses_after v (address_after v a x) code

-- the address of each instruction, and then that of the end
abbrev pub addresses_of : Image → ℕ → List Instr → List ℕ
addresses_of v a code = a ∷ addresses_after v a code
