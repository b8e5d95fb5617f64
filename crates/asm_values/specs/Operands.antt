-- Operations on values: on words as the instruction set has them, and on addresses by one short table.
use Rattle.std.specs.Prelude.{ℕ, ◌+◌, ℤ, ◌&&◌, ◌==◌, if◌then◌else◌, List, slice_index_or, Option, Some, None}
use Rattle.std.specs.Int.{cast_unsigned, w32}
use Rattle.isa_model.specs.Word.{wrapped}
use Rattle.effect_model.specs.declared.Op.{Op}
use Rattle.effect_model.specs.declared.Op.TheVariants.{Sum, Difference, Copy, ComparisonUnsigned}
use Rattle.effect_model.specs.declared.Results.{Results}
use Rattle.effect_model.specs.Meaning.{results}
use Rattle.link_model.specs.declared.key.KeyKind.{KeyKind}
use Rattle.link_model.specs.declared.key.KeyKind.TheVariants.{Function, Variable, External}
use Rattle.asm_mem.specs.declared.value.Val.{Val}
use Rattle.asm_mem.specs.declared.value.Val.TheVariants as val
use Rattle.asm_mem.specs.Values.{sum_of, same_offset}
use Rattle.asm_mem.specs.Blocks.{Live}
use Rattle.asm_mem.specs.Comparison.{compared, difference_of, Compared}
use Rattle.asm_values.specs.declared.operands.OperandValue.{OperandValue}
use Rattle.asm_values.specs.declared.operands.OperandValue.TheVariants.{Known, Lo, Ha, Sda, Undefined}
use Rattle.asm_values.specs.declared.operands.ValueResults.{ValueResults}

-- ---- the value of a symbol

-- what a key is
abbrev pub kind_at : List KeyKind → ℕ → KeyKind
kind_at kinds key = slice_index_or kinds key (External 0)

-- a variable's block, the first instruction of a function, or an external, at an offset
abbrev pub address_of : ℕ → KeyKind → ℕ → Val
address_of key (Variable v) o = val.Ptr v o
address_of key (Function f) o = if o == 0 then val.Code f 0 else val.Undef
address_of key (External x) o = val.Ext key o

-- with an offset and an added word
abbrev pub symbol_value : List KeyKind → ℕ → ℤ → ℕ → Val
symbol_value kinds key o n = address_of key (kind_at kinds key) (wrapped (cast_unsigned w32 o + n))

-- ---- sums

-- the low half on the high half of the same address
abbrev pub lo_on : List KeyKind → Val → ℕ → ℤ → Val
lo_on kinds (val.Ha k o n) key p = if k == key && same_offset o p then symbol_value kinds key o n else val.Undef
lo_on kinds _ key p = val.Undef

-- the high half on a word
abbrev pub ha_on : Val → ℕ → ℤ → Val
ha_on (val.Int n) key o = val.Ha key o n
ha_on _ key o = val.Undef

-- a small-data displacement on no base
abbrev pub sda_on : List KeyKind → Val → ℕ → ℤ → Val
sda_on kinds (val.Int n) key o = if n == 0 then symbol_value kinds key o 0 else val.Undef
sda_on kinds _ key o = val.Undef

abbrev pub part_on : List KeyKind → Val → OperandValue → Val
part_on kinds u (Known v) = sum_of u v
part_on kinds u (Lo key o) = lo_on kinds u key o
part_on kinds u (Ha key o) = ha_on u key o
part_on kinds u (Sda key o) = sda_on kinds u key o
part_on kinds u Undefined = val.Undef

abbrev pub sum_args : List KeyKind → OperandValue → OperandValue → Val
sum_args kinds (Known u) y = part_on kinds u y
sum_args kinds _ y = val.Undef

-- ---- the other operations on addresses

abbrev pub value_in : OperandValue → Val
value_in (Known v) = v
value_in _ = val.Undef

abbrev pub difference_args : List Live → OperandValue → OperandValue → Val
difference_args live (Known u) (Known v) = difference_of live u v
difference_args live _ _ = val.Undef

-- one result
abbrev pub only : Val → ValueResults
only v = record { first = v; second = val.Undef; third = val.Undef }

abbrev pub ordered : Compared → ValueResults
ordered c = record { first = c.0; second = c.1; third = c.2 }

abbrev pub compare_args : List Live → OperandValue → OperandValue → ValueResults
compare_args live (Known u) (Known v) = ordered (compared live u v)
compare_args live _ _ = only val.Undef

-- where an operand is no word: sums, differences, copies and unsigned comparisons; all else is no value
abbrev pub address_results : List KeyKind → List Live → Op → OperandValue → OperandValue → ValueResults
address_results kinds live Sum x y = only (sum_args kinds x y)
address_results kinds live Difference x y = only (difference_args live x y)
address_results kinds live Copy x y = only (value_in x)
address_results kinds live ComparisonUnsigned x y = compare_args live x y
address_results kinds live _ x y = only val.Undef

-- ---- an operation

abbrev pub word_in : OperandValue → Option ℕ
word_in (Known (val.Int n)) = Some n
word_in _ = None

abbrev pub word_values : Results → ValueResults
word_values r = record { first = val.Int r.first; second = val.Int r.second; third = val.Int r.third }

abbrev pub on_words : Op → ValueResults → Option ℕ → Option ℕ → Option ℕ → ValueResults
on_words op other (Some x) (Some y) (Some z) = word_values (results op x y z)
on_words op other _ _ _ = other

-- the words' results where all operands are words
unfoldable pub value_results : List KeyKind → List Live → Op → OperandValue → OperandValue → OperandValue → ValueResults
value_results kinds live op x y z = on_words op (address_results kinds live op x y) (word_in x) (word_in y) (word_in z)
