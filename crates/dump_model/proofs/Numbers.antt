-- Numbers, names and arrays that are written are read back.
use Rattle.std.proofs.Common.{◌≡◌, ℕ, ◌^◌, ◌≤◌, ℤ, pos, negsuc, true, List, [], ◌∷◌, Ok, refl, ap, arith}
use Rattle.std.specs.Prelude.{nat_lt, int_le, ◌&&◌}
use Rattle.std.proofs.lemmas.Bool.Decides.{nat_tests}
use Rattle.std.proofs.lemmas.Int.{ints}
use Rattle.serde_json.specs.Data.{Data, string}
use Rattle.serde_json.specs.View.{items_of}
use Rattle.isa_model.specs.Instructions.{is_register, is_cr_field, is_s16, is_u16}
use Rattle.asm_syntax.specs.Names.{is_name}
use Rattle.json_tree.specs.Reading.{name}
use Rattle.json_tree.specs.Arrays.{elements, items}
use Rattle.json_tree.specs.Numbers.{natural, ranged, wrapped, word, unsigned16, unsigned32, signed32}
use Rattle.dump_reader.specs.Operands.{register, cr_field, signed16}
use Rattle.dump_model.specs.Trees.{unsigned_data, signed_data, array_of}
use Rattle.dump_model.specs.Types.{is_u32, is_i32}

pub natural_back : (most n : ℕ) → n ≤ most → natural most (unsigned_data n) ≡ Ok n
unfolding natural
natural_back most n h = grind (arith, nat_tests)

-- a register, or the number of a bit
pub register_back : (n : ℕ) → is_register n ≡ true → register (unsigned_data n) ≡ Ok n
register_back n h = natural_back 31 n (grind (arith, nat_tests))

pub cr_field_back : (n : ℕ) → is_cr_field n ≡ true → cr_field (unsigned_data n) ≡ Ok n
cr_field_back n h = natural_back 7 n (grind (arith, nat_tests))

pub unsigned16_back : (n : ℕ) → nat_lt n (2 ^ 16) ≡ true → unsigned16 (unsigned_data n) ≡ Ok n
unfolding unsigned16
unsigned16_back n h = natural_back 0xffff n (grind (arith, nat_tests))

pub unsigned32_back : (n : ℕ) → is_u32 n ≡ true → unsigned32 (unsigned_data n) ≡ Ok n
unfolding unsigned32
unsigned32_back n h = natural_back 0xffffffff n (grind (arith, nat_tests))

pub wrapped_back : (size n : ℕ) → nat_lt n size ≡ true → wrapped size (unsigned_data n) ≡ Ok n
unfolding wrapped ranged
wrapped_back size n h = grind (arith, nat_tests, ints)

pub word_back : (n : ℕ) → is_u32 n ≡ true → word (unsigned_data n) ≡ Ok n
unfolding word
word_back n h = wrapped_back (2 ^ 32) n h

-- a number with a sign
pub ranged_back : (lo hi : ℕ) (z : ℤ) → (int_le (negsuc lo) z && int_le z (pos hi)) ≡ true
    → ranged (negsuc lo) (pos hi) (signed_data z) ≡ Ok z
unfolding ranged
ranged_back lo hi (pos n) h = grind (arith, nat_tests, ints)
ranged_back lo hi (negsuc n) h = grind (arith, nat_tests, ints)

pub signed16_back : (z : ℤ) → is_s16 z ≡ true → signed16 (signed_data z) ≡ Ok z
signed16_back z h = ranged_back 32767 32767 z h

pub signed32_back : (z : ℤ) → is_i32 z ≡ true → signed32 (signed_data z) ≡ Ok z
unfolding signed32
signed32_back z h = ranged_back 0x7fffffff 0x7fffffff z h

-- a number without a sign, where one with a sign is the type
pub half_back : (z : ℤ) → is_u16 z ≡ true → ranged (pos 0) (pos 65535) (signed_data z) ≡ Ok z
unfolding ranged
half_back (pos n) h = grind (arith, nat_tests, ints)
half_back (negsuc n) h = grind (arith, nat_tests, ints)

pub name_back : (bytes : List ℕ) → is_name bytes ≡ true → name (string bytes) ≡ Ok bytes
unfolding name
name_back bytes h = rw h refl

pub elements_back : (ds : List Data) → elements (items_of ds) ≡ ds
elements_back [] = refl
elements_back (d ∷ ds) = ap (λ (es : List Data). d ∷ es) (elements_back ds)

pub items_back : (ds : List Data) → items (array_of ds) ≡ Ok ds
unfolding items
items_back ds = ap Ok (elements_back ds)
