-- When two signatures are the same.
use Rattle.std.specs.Prelude.{Bool, true, false, ◌&&◌, ◌==◌}
use Rattle.std.specs.Bool.{beq}
use Rattle.std.specs.Option.{option_eq}
use Rattle.std.specs.Cmp.Lexicographic.{pointwise}
use Rattle.asm_syntax.specs.declared.unit.Width.{Width}
use Rattle.asm_syntax.specs.declared.unit.Width.TheVariants.{Word, Long}
use Rattle.asm_syntax.specs.declared.unit.Size.{Size}
use Rattle.asm_syntax.specs.declared.unit.Size.TheVariants.{Fixed, Arg}
use Rattle.asm_syntax.specs.declared.unit.Buffer.{Buffer}
use Rattle.asm_syntax.specs.declared.unit.Sig.{Sig}

abbrev pub same_width : Width → Width → Bool
same_width Word Word = true
same_width Long Long = true
same_width _ _ = false

abbrev pub same_size : Size → Size → Bool
same_size (Fixed m) (Fixed n) = m == n
same_size (Arg m) (Arg n) = m == n
same_size _ _ = false

abbrev pub same_buffer : Buffer → Buffer → Bool
same_buffer a b = beq a.fills b.fills && a.arg == b.arg && same_size a.size b.size

-- the same arguments, result and buffers
abbrev pub same_sig : Sig → Sig → Bool
same_sig a b = pointwise same_width a.args b.args && option_eq same_width a.result b.result && pointwise same_buffer a.buffers b.buffers
