-- The bytes of a live block, and of a buffer that is read.
use Rattle.std.specs.Prelude.{ℕ, zero, suc, ◌+◌, Bool, true, ◌&&◌, nat_le, if◌then◌else◌, List, [], ◌∷◌, length, is_some, unwrap_or}
use Rattle.limits.specs.declared.TheConstants.{MOST_BUFFER_BYTES}
use Rattle.effect_model.specs.Files.{File}
use Rattle.asm_syntax.specs.declared.unit.Sig.{Sig}
use Rattle.asm_syntax.specs.declared.unit.Buffer.{Buffer}
use Rattle.asm_mem.specs.declared.value.Val.{Val}
use Rattle.asm_mem.specs.Blocks.{Live, byte_at}
use Rattle.asm_step.specs.Calls.{buffer_at, buffer_size, read_at}

abbrev pub are_bytes_at : List Live → ℕ → ℕ → ℕ → Bool
are_bytes_at live b o zero = true
are_bytes_at live b o (suc n) = is_some (byte_at live b o) && are_bytes_at live b (o + 1) n

abbrev pub bytes_at : List Live → ℕ → ℕ → ℕ → List ℕ
bytes_at live b o zero = []
bytes_at live b o (suc n) = unwrap_or (byte_at live b o) 0 ∷ bytes_at live b (o + 1) n

-- the list of a buffer that is read, and none of one that is filled
abbrev pub read_one : List Live → File Val → Sig → Buffer → List (List ℕ)
read_one live f sig b = if b.fills then [] else read_at live (buffer_at f sig b) (buffer_size f sig b) ∷ []

-- a list no longer than a buffer
abbrev pub is_short : List ℕ → Bool
is_short bytes = nat_le (length bytes) MOST_BUFFER_BYTES
