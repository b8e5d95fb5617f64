-- Flat memory: a list of segments, of which the first that covers an address has its byte. Addresses wrap.
use Rattle.std.specs.Prelude.{ℕ, zero, suc, ◌+◌, ◌-◌, Bool, true, false, ◌&&◌, if◌then◌else◌, List, [], ◌∷◌, slice_set, Option, find}
use Rattle.std.specs.Prelude.{is_some, option_map}
use Rattle.std.specs.Option.{option_map_or}
use Rattle.isa_model.specs.Word.{wrapped}
use Rattle.image_model.specs.Image.{Segment}
use Rattle.image_model.specs.Loaded.{covers, segment_byte, is_writable, is_executable}

abbrev pub byte_in : List Segment → ℕ → Option ℕ
byte_in m a = option_map (λ (s : Segment). segment_byte s (a - s.vaddr)) (find (covers a) m)

abbrev pub flags_in : List Segment → ℕ → Option ℕ
flags_in m a = option_map (λ (s : Segment). s.flags) (find (covers a) m)

-- the byte at an address, 0 where none is mapped
abbrev pub byte_of : List Segment → ℕ → ℕ
byte_of m a = option_map_or (λ n. n) (byte_in m a) 0

abbrev pub is_mapped : List Segment → ℕ → Bool
is_mapped m a = is_some (flags_in m a)

abbrev pub may_write : List Segment → ℕ → Bool
may_write m a = option_map_or is_writable (flags_in m a) false

abbrev pub may_run : List Segment → ℕ → Bool
may_run m a = option_map_or is_executable (flags_in m a) false

-- a segment with another byte at an address, where it can be stored to
abbrev pub written : Segment → ℕ → ℕ → Segment
written s a x = if is_writable s.flags then record s { held = slice_set s.held (a - s.vaddr) x } else s

abbrev pub set_byte : List Segment → ℕ → ℕ → List Segment
set_byte [] a x = []
set_byte (s ∷ rest) a x = if covers a s then written s a x ∷ rest else s ∷ set_byte rest a x

-- the bytes from an address on
abbrev pub set_bytes : List Segment → ℕ → List ℕ → List Segment
set_bytes m a [] = m
set_bytes m a (x ∷ xs) = set_bytes (set_byte m a x) (wrapped (a + 1)) xs

-- each of so many addresses from the first on
abbrev pub each_from : (ℕ → Bool) → ℕ → ℕ → Bool
each_from p zero a = true
each_from p (suc n) a = p a && each_from p n (wrapped (a + 1))
