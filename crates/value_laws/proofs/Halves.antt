-- Halves of words, without tests, so that arithmetic closes what is said of them.
use Rattle.std.proofs.Common.{◌≡◌, ℕ, ◌+◌, ◌*◌, ◌%◌, ◌/◌, ◌<◌, Bool, true, false, nat_lt, refl, sym, ap, ◌∙◌, arith, if◌then◌else◌}
use Rattle.std.proofs.lemmas.Bool.{ltb-true, ltb-false}
use Rattle.std.specs.Prelude.{pos}
use Rattle.std.specs.Int.{cast_unsigned, w32}
use Rattle.isa_model.specs.Word.{wrapped, sext16, lo, ha}
use Rattle.code_model.specs.Fields.{short}

-- sign extension without a test
abbrev pub spread : ℕ → ℕ
spread h = ((h % 65536 + 32768) % 65536 + 4294934528) % 4294967296

pub sext16_is : (h : ℕ) → sext16 h ≡ spread h
sext16_is h = at (nat_lt (h % 65536) 32768) refl
  where
    at : (b : Bool) → nat_lt (h % 65536) 32768 ≡ b → (if b then h % 65536 else h % 65536 + 4294901760) ≡ spread h
    at true e = let l = ltb-true (h % 65536) 32768 e in omega arith
    at false e = let l = ltb-false (h % 65536) 32768 e in omega arith

-- a half that is read as a number with a sign, as a word
pub short_word : (h : ℕ) → h < 65536 → cast_unsigned w32 (short h) ≡ spread h
short_word h l = at (nat_lt h 32768) refl
  where
    at : (b : Bool) → nat_lt h 32768 ≡ b → cast_unsigned w32 (short h) ≡ spread h
    at true e = let q = ltb-true h 32768 e in rw e (omega arith)
    at false e = let q = ltb-false h 32768 e in rw e (omega arith)

pub halves : (p n : ℕ) → p < 4294967296 → wrapped (wrapped (ha p * 65536 + n) + spread (lo p)) ≡ wrapped (p + n)
halves p n h = omega arith

pub wrap_right : (a o n : ℕ) → wrapped (wrapped (a + o) + n) ≡ wrapped (a + wrapped (o + n))
wrap_right a o n = omega arith

pub cast_pos : (n : ℕ) → cast_unsigned w32 (pos n) ≡ n
cast_pos n = refl
