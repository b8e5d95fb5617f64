-- Loads and stores by form. Power ISA 2.07, Book I, "Fixed-Point Load Instructions", "Fixed-Point Store Instructions" and
-- "Fixed-Point Load and Store with Byte Reversal Instructions".
use Rattle.std.specs.Prelude.{ℕ}
use Rattle.effect_model.specs.declared.Form.{Form}
use Rattle.effect_model.specs.declared.Form.TheVariants.{Word, Half, Byte, SignedHalf, ReversedWord, ReversedHalf}

-- the bytes that are loaded or stored
abbrev pub width : Form → ℕ
width Word = 4
width Half = 2
width Byte = 1
width SignedHalf = 2
width ReversedWord = 4
width ReversedHalf = 2
