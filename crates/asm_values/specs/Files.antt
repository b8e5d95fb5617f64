-- What effects do to registers that hold values.
use Rattle.std.specs.Prelude.{◌≡◌, ℕ, Bool, true, false, List, replicate, Option, Some, None, if◌then◌else◌}
use Rattle.effect_model.specs.declared.Operand.{Operand}
use Rattle.effect_model.specs.declared.Operand.TheVariants as operand
use Rattle.effect_model.specs.declared.Effect.{Effect}
use Rattle.effect_model.specs.declared.Effects.{Effects}
use Rattle.effect_model.specs.declared.Effects.TheVariants.{Nothing, One, Two, Three}
use Rattle.effect_model.specs.Meaning.{stops}
use Rattle.effect_model.specs.Files.{File, get, put}
use Rattle.link_model.specs.declared.key.KeyKind.{KeyKind}
use Rattle.asm_mem.specs.declared.value.Val.{Val}
use Rattle.asm_mem.specs.declared.value.Val.TheVariants.{Undef, Int}
use Rattle.asm_mem.specs.Blocks.{Live}
use Rattle.asm_values.specs.declared.operands.OperandValue.{OperandValue}
use Rattle.asm_values.specs.declared.operands.OperandValue.TheVariants.{Known, Lo, Ha, Sda, Undefined}
use Rattle.asm_values.specs.Operands.{value_results, word_in}

abbrev pub value_read : File Val → Operand → OperandValue
value_read f (operand.At p) = Known (get Undef f p)
value_read f (operand.Number n) = Known (Int n)
value_read f (operand.Lo key o) = Lo key o
value_read f (operand.Ha key o) = Ha key o
value_read f (operand.Sda key o) = Sda key o
value_read f operand.Undefined = Undefined

unfoldable pub asm_effect : List KeyKind → List Live → Effect → File Val → File Val
asm_effect kinds live e f =
    let r = value_results kinds live e.op (value_read f e.x) (value_read f e.y) (value_read f e.z) in
    put (put (put f e.first r.first) e.second r.second) e.third r.third

abbrev pub asm_all : List KeyKind → List Live → Effects → File Val → File Val
asm_all kinds live Nothing f = f
asm_all kinds live (One e) f = asm_effect kinds live e f
asm_all kinds live (Two e d) f = asm_effect kinds live d (asm_effect kinds live e f)
asm_all kinds live (Three e d c) f = asm_effect kinds live c (asm_effect kinds live d (asm_effect kinds live e f))

abbrev pub divided : List KeyKind → List Live → Effect → File Val → Option ℕ → Option ℕ → Option (File Val)
divided kinds live e f (Some x) (Some y) = if stops e.op x y then None else Some (asm_effect kinds live e f)
divided kinds live e f _ _ = None

-- a division: None where an operand is no word or the division has no result
abbrev pub asm_divided : List KeyKind → List Live → Effect → File Val → Option (File Val)
asm_divided kinds live e f = divided kinds live e f (word_in (value_read f e.x)) (word_in (value_read f e.y))

-- the answer of a division, and the registers before and after
abbrev pub Divides : Option (File Val) → Bool → File Val → File Val → Type 0
Divides None answer old new = (answer ≡ false) × (new ≡ old)
Divides (Some f) answer old new = (answer ≡ true) × (new ≡ f)

-- no register holds a value
abbrev pub no_values : File Val
no_values = record {
  gprs = replicate 32 Undef;
  bits = replicate 32 Undef;
  lr = Undef;
  ctr = Undef;
  ca = Undef;
  so = Undef;
}
