-- The registers of a machine, and what effects do to them where they hold words.
use Rattle.std.specs.Prelude.{ℕ, zero, suc, ◌*◌, ◌/◌, ◌%◌, ◌^◌, ◌-◌, ◌+◌, Bool, List, fold, slice_index_or, slice_set}
use Rattle.isa_model.specs.Word.{wrapped}
use Rattle.effect_model.specs.declared.Place.{Place}
use Rattle.effect_model.specs.declared.Place.TheVariants.{Gpr, Bit, Lr, Ctr, Ca, So, Unused}
use Rattle.effect_model.specs.declared.Operand.{Operand}
use Rattle.effect_model.specs.declared.Operand.TheVariants.{At, Number, Lo, Ha, Sda, Undefined}
use Rattle.effect_model.specs.declared.Effect.{Effect}
use Rattle.effect_model.specs.declared.Effects.{Effects}
use Rattle.effect_model.specs.declared.Effects.TheVariants.{Nothing, One, Two, Three}
use Rattle.effect_model.specs.Meaning.{results, stops}

-- the register file: 32 general registers, the 32 bits of the condition register, and the others
pub record File (A : Type 0) : Type 0 where
  pub gprs : List A
  pub bits : List A
  pub lr : A
  pub ctr : A
  pub ca : A
  pub so : A

-- what a place holds; d where it is no place of the file
abbrev pub get : {A : Type 0} → A → File A → Place → A
get d f (Gpr n) = slice_index_or f.gprs n d
get d f (Bit n) = slice_index_or f.bits n d
get d f Lr = f.lr
get d f Ctr = f.ctr
get d f Ca = f.ca
get d f So = f.so
get d f Unused = d

-- the file with a place changed
abbrev pub put : {A : Type 0} → File A → Place → A → File A
put f (Gpr n) v = record f { gprs = slice_set f.gprs n v }
put f (Bit n) v = record f { bits = slice_set f.bits n v }
put f Lr v = record f { lr = v }
put f Ctr v = record f { ctr = v }
put f Ca v = record f { ca = v }
put f So v = record f { so = v }
put f Unused v = f

-- bit i of a word, bit 0 the highest
abbrev pub bit_of : ℕ → ℕ → ℕ
bit_of w i = w / 2 ^ (31 - i) % 2

-- so many bits of the condition register from one on, each with the bit of a word
abbrev pub put_bits : File ℕ → ℕ → ℕ → ℕ → File ℕ
put_bits f w i zero = f
put_bits f w i (suc n) = put (put_bits f w i n) (Bit (i + n)) (bit_of w (i + n))

-- ---- effects on words

abbrev pub word_read : File ℕ → Operand → ℕ
word_read f (At p) = get 0 f p
word_read f (Number n) = n
word_read f (Lo key offset) = 0
word_read f (Ha key offset) = 0
word_read f (Sda key offset) = 0
word_read f Undefined = 0

unfoldable pub flat_effect : Effect → File ℕ → File ℕ
flat_effect e f =
    let r = results e.op (word_read f e.x) (word_read f e.y) (word_read f e.z) in
    put (put (put f e.first r.first) e.second r.second) e.third r.third

abbrev pub flat_all : Effects → File ℕ → File ℕ
flat_all Nothing f = f
flat_all (One e) f = flat_effect e f
flat_all (Two e d) f = flat_effect d (flat_effect e f)
flat_all (Three e d c) f = flat_effect c (flat_effect d (flat_effect e f))

-- the effect is a division without a result
abbrev pub flat_stops : Effect → File ℕ → Bool
flat_stops e f = stops e.op (word_read f e.x) (word_read f e.y)

-- the word whose bits these are, the highest first
abbrev pub word_of_bits : List ℕ → ℕ
word_of_bits bits = fold (λ w b. wrapped (2 * w + b % 2)) 0 bits
