-- Operands in print.
use Rattle.std.specs.Prelude.{ℕ, List, [], ◌∷◌, ◌++◌, decimal}
use Rattle.std.specs.Fmt.{signed_decimal}
use Rattle.isa_model.specs.Word.{word_digits}
use Rattle.ppc_decode.specs.declared.operand.Operand.{Operand}
use Rattle.ppc_decode.specs.declared.operand.Operand.TheVariants.{Number, Signed, Target}
use Rattle.ppc_decode.specs.declared.operand.Operands.{Operands}
use Rattle.ppc_decode.specs.declared.operand.Operands.TheVariants.{Zero, One, Two, Three, Five}

-- a number, a number with a sign, or an address in hexadecimal digits
abbrev pub operand_text : Operand → List ℕ
operand_text (Number n) = decimal n
operand_text (Signed z) = signed_decimal z
operand_text (Target address) = word_digits address

-- the operands with commas between them
abbrev pub operands_text : List Operand → List ℕ
operands_text [] = []
operands_text (x ∷ []) = operand_text x
operands_text (x ∷ y ∷ rest) = operand_text x ++ (44 ∷ operands_text (y ∷ rest))

abbrev pub operand_list : Operands → List Operand
operand_list Zero = []
operand_list (One x) = x ∷ []
operand_list (Two x y) = x ∷ y ∷ []
operand_list (Three x y z) = x ∷ y ∷ z ∷ []
operand_list (Five v w x y z) = v ∷ w ∷ x ∷ y ∷ z ∷ []

-- the mnemonic, then a space and the operands, where there are any
abbrev pub line : List ℕ → List Operand → List ℕ
line name [] = name
line name (x ∷ rest) = name ++ (32 ∷ operands_text (x ∷ rest))
