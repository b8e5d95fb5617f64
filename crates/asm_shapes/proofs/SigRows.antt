-- Worked rows of signatures.
use Rattle.std.proofs.Common.{◌≡◌, ℕ, false, List, [], ◌∷◌, Option, Some, None, refl}
use Rattle.std.specs.Prelude.{replicate}
use Rattle.ordered_tests.specs.Checks.{first_fault}
use Rattle.asm_syntax.specs.declared.unit.Width.{Width}
use Rattle.asm_syntax.specs.declared.unit.Width.TheVariants.{Word, Long}
use Rattle.asm_syntax.specs.declared.unit.Size.{Size}
use Rattle.asm_syntax.specs.declared.unit.Size.TheVariants.{Fixed, Arg}
use Rattle.asm_syntax.specs.declared.unit.Buffer.{Buffer}
use Rattle.asm_syntax.specs.declared.shape.ShapeError.{ShapeError}
use Rattle.asm_syntax.specs.declared.shape.ShapeError.TheVariants.{TooManyArgs, BadBuffer}
use Rattle.asm_shapes.specs.Signatures.{argument_registers, sig_tests}

-- the fault of a signature with these arguments and buffers
abbrev fault : List Width → List Buffer → Option ShapeError
fault args buffers = first_fault (sig_tests (record { args = args; result = None; buffers = buffers }))

reads : ℕ → Size → Buffer
reads arg size = record { fills = false; arg = arg; size = size }

-- a long passes over an even register
pair_row : argument_registers (Word ∷ Long ∷ Word ∷ []) ≡ 3 ∷ 5 ∷ 6 ∷ 7 ∷ []
pair_row = refl

up_to_r10 : fault (Long ∷ Word ∷ Long ∷ Word ∷ Word ∷ []) [] ≡ None
up_to_r10 = refl

past_r10 : fault (Long ∷ Word ∷ Long ∷ Word ∷ Long ∷ []) [] ≡ Some (TooManyArgs 0)
past_r10 = refl

four_longs : fault (replicate 4 Long) [] ≡ None
four_longs = refl

eight_words : fault (replicate 8 Word) [] ≡ None
eight_words = refl

nine_words : fault (replicate 9 Word) [] ≡ Some (TooManyArgs 0)
nine_words = refl

-- a pointer, a length and eight buffers
most_buffers : fault (Word ∷ Word ∷ []) (reads 0 (Fixed 65536) ∷ replicate 7 (reads 0 (Arg 1))) ≡ None
unfolding reads
most_buffers = refl

ninth_buffer : fault (Word ∷ Word ∷ []) (replicate 9 (reads 0 (Arg 1))) ≡ Some (BadBuffer 8)
unfolding reads
ninth_buffer = refl

long_pointer : fault (Long ∷ []) (reads 0 (Fixed 4) ∷ []) ≡ Some (BadBuffer 0)
unfolding reads
long_pointer = refl

no_pointer : fault (Word ∷ []) (reads 0 (Fixed 4) ∷ reads 1 (Fixed 4) ∷ []) ≡ Some (BadBuffer 1)
unfolding reads
no_pointer = refl

large_size : fault (Word ∷ []) (reads 0 (Fixed 65537) ∷ []) ≡ Some (BadBuffer 0)
unfolding reads
large_size = refl

long_size : fault (Word ∷ Long ∷ []) (reads 0 (Arg 1) ∷ []) ≡ Some (BadBuffer 0)
unfolding reads
long_size = refl

no_size : fault (Word ∷ []) (reads 0 (Arg 1) ∷ []) ≡ Some (BadBuffer 0)
unfolding reads
no_size = refl

-- the arguments are tested first
arguments_first : fault (replicate 9 Word) (reads 9 (Fixed 4) ∷ []) ≡ Some (TooManyArgs 0)
unfolding reads
arguments_first = refl
