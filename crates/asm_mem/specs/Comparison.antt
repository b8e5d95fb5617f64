-- The unsigned comparison and the difference of values.
use Rattle.std.specs.Prelude.{ℕ, ◌+◌, ◌-◌, ◌^◌, Bool, false, ◌&&◌, ◌==◌, nat_lt, nat_le, if◌then◌else◌, List, length, Option, Some, None}
use Rattle.std.specs.Prelude.{find}
use Rattle.isa_model.specs.Word.{carry_bit, wrapped}
use Rattle.asm_mem.specs.declared.value.Val.{Val}
use Rattle.asm_mem.specs.declared.value.Val.TheVariants.{Undef, Int, Ptr, Code, Ext}
use Rattle.asm_mem.specs.Blocks.{Live, has}

-- ---- less, greater and equal

abbrev pub Compared : Type 0
Compared = Val × Val × Val

abbrev pub of_words : ℕ → ℕ → Compared
of_words x y = (Int (carry_bit (nat_lt x y)), Int (carry_bit (nat_lt y x)), Int (carry_bit (x == y)))

abbrev pub unknown : Compared
unknown = (Undef, Undef, Undef)

abbrev pub unequal : Compared
unequal = (Undef, Undef, Int 0)

-- ---- live pointers

abbrev pub reaches : Option Live → ℕ → Bool
reaches None o = false
reaches (Some k) o = nat_le o (length k.cells)

-- a live block with the offset at most its size
abbrev pub is_valid : List Live → ℕ → ℕ → Bool
is_valid live b o = reaches (find (has b) live) o

-- and below its size
abbrev pub is_inside : List Live → ℕ → ℕ → Bool
is_inside live b o = reaches (find (has b) live) (o + 1)

-- a value that is above 0
abbrev pub is_place : List Live → Val → Bool
is_place live (Ptr b o) = is_valid live b o
is_place live (Code f i) = i == 0
is_place live (Ext k o) = o == 0
is_place live _ = false

-- ---- comparison

abbrev pub compared : List Live → Val → Val → Compared
compared live (Int x) (Int y) = of_words x y
compared live (Ptr b o) (Ptr c p) =
    if b == c then (if is_valid live b o && is_valid live b p then of_words o p else unknown)
    else (if is_inside live b o && is_inside live c p then unequal else unknown)
compared live (Code f i) (Code g j) = if i == 0 && j == 0 then (if f == g then of_words 0 0 else unequal) else unknown
compared live (Ext k o) (Ext l p) = if o == 0 && p == 0 && k == l then of_words 0 0 else unknown
compared live (Int n) v = if n == 0 && is_place live v then of_words 0 1 else unknown
compared live u (Int n) = if n == 0 && is_place live u then of_words 1 0 else unknown
compared live _ _ = unknown

-- ---- difference

-- n less m, for a word m
abbrev pub less : ℕ → ℕ → ℕ
less n m = wrapped (2 ^ 32 - 1 - m + n + 1)

-- from one offset to another
abbrev pub distance : ℕ → ℕ → ℕ
distance o p = wrapped (p + (2 ^ 32 - wrapped o))

-- the second less the first: a word or an address less a word, or two offsets in one live block
abbrev pub difference_of : List Live → Val → Val → Val
difference_of live (Int n) (Int m) = Int (less m n)
difference_of live (Int n) (Ptr b o) = Ptr b (less o n)
difference_of live (Int n) (Ext k o) = Ext k (less o n)
difference_of live (Ptr b o) (Ptr c p) = if b == c && is_valid live b 0 then Int (distance o p) else Undef
difference_of live _ _ = Undef
