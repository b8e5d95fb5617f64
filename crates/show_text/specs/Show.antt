-- What is shown of an image, line by line.
use Rattle.std.specs.Prelude.{ℕ, ◌+◌, ◌*◌, ◌/◌, ◌%◌, ◌^◌, Bool, ◌==◌, nat_lt, List, [], ◌∷◌, ◌++◌, length, map, codes, decimal}
use Rattle.std.specs.Prelude.{if◌then◌else◌}
use Rattle.std.specs.List.{flat_map, range_with_len}
use Rattle.std.specs.Option.{option_map_or}
use Rattle.isa_model.specs.Word.{word_digits}
use Rattle.image_model.specs.Image.{Image, Segment}
use Rattle.image_model.specs.Loaded.{is_executable, is_writable, word_at}
use Rattle.ppc_decode.specs.Decoding.{decoded}
use Rattle.ppc_decode.specs.Text.{text_of}
use Rattle.text_model.specs.Lines.{line}

-- ---- a segment. System V gABI, "Program Header", p_flags

-- PF_R of flags
abbrev pub is_readable : ℕ → Bool
is_readable flags = flags / 4 % 2 == 1

abbrev pub letter_if : Bool → List ℕ → List ℕ
letter_if b letter = if b then letter else codes "-"

abbrev pub flags_text : ℕ → List ℕ
flags_text flags =
    letter_if (is_readable flags) (codes "r")
    ++ (letter_if (is_writable flags) (codes "w")
    ++ letter_if (is_executable flags) (codes "x"))

-- its address, the bytes that the file holds of it, those that it has in memory, and its flags
abbrev pub segment_text : Segment → List ℕ
segment_text s =
    line (codes "segment" ∷ word_digits s.vaddr ∷ decimal (length s.held) ∷ decimal s.memsz ∷ flags_text s.flags ∷ [])

-- ---- a word

abbrev pub instruction_text : ℕ → ℕ → List ℕ
instruction_text a word = option_map_or (λ i. text_of i a) (decoded word) (codes "?")

abbrev pub loaded_text : ℕ → ℕ → List ℕ
loaded_text a word = line (word_digits a ∷ word_digits word ∷ instruction_text a word ∷ [])

abbrev pub none_text : ℕ → List ℕ
none_text a = line (word_digits a ∷ codes "none" ∷ [])

-- the word at an address, where there is such an address
abbrev pub word_text : Image → ℕ → List ℕ
word_text v a = if nat_lt a (2 ^ 32) then option_map_or (loaded_text a) (word_at v a) (none_text a) else []

-- ---- the whole

-- the entry, each segment in the order of the program headers, and the number of symbols
abbrev pub head_text : Image → List ℕ
head_text v =
    line (codes "entry" ∷ word_digits v.entry ∷ [])
    ++ (flat_map segment_text v.segments
    ++ line (codes "symbols" ∷ decimal (length v.symbols) ∷ []))

-- so many addresses of words, from one on
abbrev pub word_addresses : ℕ → ℕ → List ℕ
word_addresses a n = map (λ k. a + 4 * k) (range_with_len 0 n)

abbrev pub words_text : Image → ℕ → ℕ → List ℕ
words_text v a n = flat_map (word_text v) (word_addresses a n)

unfoldable pub show_text : Image → ℕ → ℕ → List ℕ
show_text v a n = head_text v ++ words_text v a n
