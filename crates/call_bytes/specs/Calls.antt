-- What both machines know of a call of an external function: where its arguments are, the sizes of its buffers and their fills.
-- PowerPC EABI, "Parameter Passing".
use Rattle.std.specs.Prelude.{ℕ, List, [], ◌∷◌, slice_index_or}
use Rattle.asm_syntax.specs.declared.unit.Width.{Width}
use Rattle.asm_syntax.specs.declared.unit.Sig.{Sig}
use Rattle.asm_syntax.specs.declared.unit.Size.{Size}
use Rattle.asm_syntax.specs.declared.unit.Size.TheVariants.{Fixed, Arg}
use Rattle.asm_shapes.specs.Signatures.{first_register, register_behind, argument_registers}
use Rattle.effect_model.specs.declared.Place.TheVariants.{Gpr}
use Rattle.effect_model.specs.Files.{File, get}

-- the first registers of arguments in their order, where those below next are passed over or used
abbrev pub first_registers : ℕ → List Width → List ℕ
first_registers next [] = []
first_registers next (width ∷ widths) = first_register next width ∷ first_registers (register_behind next width) widths

-- the first register of the argument with this place, from 0
abbrev pub register_at : Sig → ℕ → ℕ
register_at sig place = slice_index_or (first_registers 3 sig.args) place 3

-- what registers hold
abbrev pub held : {A : Type 0} → A → File A → List ℕ → List A
held absent file [] = []
held absent file (r ∷ registers) = get absent file (Gpr r) ∷ held absent file registers

-- what the registers of all arguments hold
abbrev pub arguments : {A : Type 0} → A → File A → Sig → List A
arguments absent file sig = held absent file (argument_registers sig.args)

-- the size of a buffer: a number, or what an argument's register holds
abbrev pub size_of : {A : Type 0} → A → (ℕ → A) → File A → Sig → Size → A
size_of absent number file sig (Fixed n) = number n
size_of absent number file sig (Arg place) = get absent file (Gpr (register_at sig place))

-- the first fill that is left; an absent one is empty
abbrev pub first_fill : List (List ℕ) → List ℕ
first_fill [] = []
first_fill (fill ∷ fills) = fill

abbrev pub rest_fills : List (List ℕ) → List (List ℕ)
rest_fills [] = []
rest_fills (fill ∷ fills) = fills

-- the registers of all argument words, and the first register of each argument
pub record ArgumentRegisters : Type 0 where
  pub words : List ℕ
  pub firsts : List ℕ

abbrev pub registers_of_arguments : List Width → ArgumentRegisters
registers_of_arguments widths = record { words = argument_registers widths; firsts = first_registers 3 widths }
