-- Loads, stores and fetches of flat memory. Power ISA 2.07, Book I, "Fixed-Point Load Instructions", "Fixed-Point Store
-- Instructions" and "Fixed-Point Load and Store with Byte Reversal Instructions".
use Rattle.std.specs.Prelude.{ℕ, ◌+◌, ◌*◌, ◌/◌, ◌%◌, ◌≡◌, not, ◌==◌, if◌then◌else◌, List, [], ◌∷◌, Option, Some, None, Result, Ok, Err}
use Rattle.isa_model.specs.Word.{wrapped, sext16}
use Rattle.image_model.specs.Image.{Segment}
use Rattle.effect_model.specs.Forms.{width}
use Rattle.effect_model.specs.declared.Form.{Form}
use Rattle.effect_model.specs.declared.Form.TheVariants.{Word, Half, Byte, SignedHalf, ReversedWord, ReversedHalf}
use Rattle.flat_mem.specs.declared.memory.FaultKind.{FaultKind}
use Rattle.flat_mem.specs.declared.memory.FaultKind.TheVariants.{Unmapped, NotCode, ReadOnly}
use Rattle.flat_mem.specs.Memory.{byte_of, is_mapped, may_write, may_run, set_bytes, each_from}

abbrev pub half : ℕ → ℕ → ℕ
half x y = 256 * x + y

abbrev pub word : ℕ → ℕ → ℕ → ℕ → ℕ
word x y z w = 16777216 * x + 65536 * y + 256 * z + w

-- the address behind one
abbrev pub next : ℕ → ℕ
next a = wrapped (a + 1)

abbrev pub half_of : List Segment → ℕ → ℕ
half_of m a = half (byte_of m a) (byte_of m (next a))

abbrev pub word_of : List Segment → ℕ → ℕ
word_of m a = word (byte_of m a) (byte_of m (next a)) (byte_of m (next (next a))) (byte_of m (next (next (next a))))

-- what the bytes from an address on stand for
abbrev pub value_of : List Segment → Form → ℕ → ℕ
value_of m Word a = word_of m a
value_of m Half a = half_of m a
value_of m Byte a = byte_of m a
value_of m SignedHalf a = sext16 (half_of m a)
value_of m ReversedWord a =
    word (byte_of m (next (next (next a)))) (byte_of m (next (next a))) (byte_of m (next a)) (byte_of m a)
value_of m ReversedHalf a = half (byte_of m (next a)) (byte_of m a)

-- the bytes of a word that are stored
abbrev pub bytes_of : Form → ℕ → List ℕ
bytes_of Word x = x / 16777216 % 256 ∷ x / 65536 % 256 ∷ x / 256 % 256 ∷ x % 256 ∷ []
bytes_of Half x = x / 256 % 256 ∷ x % 256 ∷ []
bytes_of Byte x = x % 256 ∷ []
bytes_of SignedHalf x = x / 256 % 256 ∷ x % 256 ∷ []
bytes_of ReversedWord x = x % 256 ∷ x / 256 % 256 ∷ x / 65536 % 256 ∷ x / 16777216 % 256 ∷ []
bytes_of ReversedHalf x = x % 256 ∷ x / 256 % 256 ∷ []

abbrev pub loaded : List Segment → Form → ℕ → Option ℕ
loaded m f a = if each_from (is_mapped m) (width f) a then Some (value_of m f a) else None

abbrev pub stored : List Segment → Form → ℕ → ℕ → Result (List Segment) FaultKind
stored m f a x =
    if not (each_from (is_mapped m) (width f) a) then Err Unmapped
    else if not (each_from (may_write m) (width f) a) then Err ReadOnly
    else Ok (set_bytes m a (bytes_of f x))

abbrev pub fetched : List Segment → ℕ → Result ℕ FaultKind
fetched m a =
    if not (each_from (is_mapped m) 4 a) then Err Unmapped
    else if not (each_from (may_run m) 4 a) then Err NotCode
    else if not (a % 4 == 0) then Err NotCode
    else Ok (word_of m a)

-- the answer of a store, and the memory before and after
abbrev pub Stores : Result (List Segment) FaultKind → Result (Unit {0}) FaultKind → List Segment → List Segment → Type 0
Stores (Ok n) result old new = (result ≡ Ok tt) × (new ≡ n)
Stores (Err e) result old new = (result ≡ Err e) × (new ≡ old)
