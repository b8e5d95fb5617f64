-- Sums of values, and whether two are the same.
use Rattle.std.specs.Prelude.{ℕ, ◌+◌, ℤ, Bool, true, false, ◌&&◌, ◌==◌, if◌then◌else◌}
use Rattle.std.specs.Int.{cast_unsigned, w32}
use Rattle.isa_model.specs.Word.{wrapped}
use Rattle.asm_mem.specs.declared.value.Val.{Val}
use Rattle.asm_mem.specs.declared.value.Val.TheVariants.{Undef, Int, Ptr, Code, Ext, Stop, Ha}

-- a value and a word
abbrev pub add_word : Val → ℕ → Val
add_word (Int x) n = Int (wrapped (x + n))
add_word (Ptr b o) n = Ptr b (wrapped (o + n))
add_word (Ext k o) n = Ext k (wrapped (o + n))
add_word (Ha k o m) n = Ha k o (wrapped (m + n))
add_word (Code f i) n = if n == 0 then Code f i else Undef
add_word Stop n = if n == 0 then Stop else Undef
add_word Undef n = Undef

-- two values, in either order
abbrev pub sum_of : Val → Val → Val
sum_of (Int x) v = add_word v x
sum_of u (Int n) = add_word u n
sum_of _ _ = Undef

-- two offsets have the same bits
abbrev pub same_offset : ℤ → ℤ → Bool
same_offset o p = cast_unsigned w32 o == cast_unsigned w32 p

abbrev pub same_val : Val → Val → Bool
same_val Undef Undef = true
same_val (Int a) (Int b) = a == b
same_val (Ptr a b) (Ptr c d) = a == c && b == d
same_val (Code a b) (Code c d) = a == c && b == d
same_val (Ext a b) (Ext c d) = a == c && b == d
same_val Stop Stop = true
same_val (Ha k a b) (Ha l c d) = k == l && same_offset a c && b == d
same_val _ _ = false
