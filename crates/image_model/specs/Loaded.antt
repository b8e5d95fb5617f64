-- The bytes and the flags that an image loads at an address. System V gABI, "Program Loading".
use Rattle.std.specs.Prelude.{◌<◌, ◌≤◌, ℕ, ◌+◌, ◌*◌, ◌-◌, ◌/◌, ◌%◌, ◌^◌, Bool, ◌&&◌, ◌==◌, nat_lt, nat_le, if◌then◌else◌, List, length}
use Rattle.std.specs.Prelude.{slice_index, Option, find, option_map, option_and_then}
use Rattle.image_model.specs.Bytes.{part}
use Rattle.image_model.specs.Image.{Image, Segment}

-- the address is in the segment
abbrev pub covers : ℕ → Segment → Bool
covers a s = nat_le s.vaddr a && nat_lt a (s.vaddr + s.memsz)

-- PF_X and PF_W of flags
abbrev pub is_executable : ℕ → Bool
is_executable flags = flags % 2 == 1

abbrev pub is_writable : ℕ → Bool
is_writable flags = flags / 2 % 2 == 1

-- a segment has a byte in memory, and no more in the file, and its addresses are below 2 ^ 32
pub record HasRange (s : Segment) : Type 0 where
  pub some : 0 < s.memsz
  pub held : length s.held ≤ s.memsz
  pub below : s.vaddr + s.memsz ≤ 2 ^ 32

-- the segment that holds an address
abbrev pub segment_of : Image → ℕ → Option Segment
segment_of v a = find (covers a) v.segments

-- byte i of a segment: one of the file, or zero behind these
abbrev pub segment_byte : Segment → ℕ → ℕ
segment_byte s i = if nat_lt i (length s.held) then slice_index s.held i else 0

-- the big-endian word from byte i of a segment on
abbrev pub segment_word : Segment → ℕ → ℕ
segment_word s i = 16777216 * segment_byte s i + 65536 * segment_byte s (i + 1) + 256 * segment_byte s (i + 2) + segment_byte s (i + 3)

abbrev pub byte_at : Image → ℕ → Option ℕ
byte_at v a = option_map (λ (s : Segment). segment_byte s (a - s.vaddr)) (segment_of v a)

abbrev pub flags_at : Image → ℕ → Option ℕ
flags_at v a = option_map (λ (s : Segment). s.flags) (segment_of v a)

-- the big-endian word of four loaded bytes
abbrev pub word_at : Image → ℕ → Option ℕ
word_at v a =
    option_and_then (λ x. option_and_then (λ y. option_and_then (λ z. option_map (λ w. 16777216 * x + 65536 * y + 256 * z + w)
    (byte_at v (a + 3))) (byte_at v (a + 2))) (byte_at v (a + 1))) (byte_at v a)

-- the addresses from lo on that are below hi lie in the part of a segment that the file holds. Where there are none, lo
-- itself is in that part or at its end
abbrev pub holds_range : ℕ → ℕ → Segment → Bool
holds_range lo hi s = nat_le s.vaddr lo && nat_le hi (s.vaddr + length s.held)

-- the bytes of the file at these addresses, where one segment has them all
abbrev pub held_bytes : Image → ℕ → ℕ → Option (List ℕ)
held_bytes v lo hi = option_map (λ (s : Segment). part s.held (lo - s.vaddr) (hi - lo)) (find (holds_range lo hi) v.segments)
