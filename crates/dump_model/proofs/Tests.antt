-- What the tests of a valid unit say of its parts.
use Rattle.std.proofs.Common.{◌≡◌, ℕ, zero, suc, ◌+◌, ◌<◌, ◌≤◌, Bool, true, false, List, [], ◌∷◌, length, Option, Some, None, refl, arith}
use Rattle.std.specs.Prelude.{◌&&◌, nat_le, nat_lt, is_none, is_some, if◌then◌else◌, fold}
use Rattle.std.specs.List.{list_all, list_any, enumerate_from}
use Rattle.std.proofs.lemmas.Bool.{and_parts, and_from, leb-true, ltb-true, le-leb}
use Rattle.std.proofs.lemmas.Bool.Decides.{nat_tests}
use Rattle.hex.specs.Hex.{IsBytes}
use Rattle.ordered_tests.specs.Checks.{check, first_fault, each_check}
use Rattle.ordered_tests.proofs.Faults.{front_passes, rest_passes, head_passes}
use Rattle.asm_syntax.specs.declared.instr.Instr.{Instr}
use Rattle.asm_syntax.specs.declared.unit.Width.{Width}
use Rattle.asm_syntax.specs.declared.unit.Width.TheVariants.{Word, Long}
use Rattle.asm_syntax.specs.declared.unit.Buffer.{Buffer}
use Rattle.asm_syntax.specs.declared.unit.Sig.{Sig}
use Rattle.asm_syntax.specs.declared.unit.Init.{Init}
use Rattle.asm_syntax.specs.declared.shape.ShapeError.{ShapeError}
use Rattle.asm_syntax.specs.declared.shape.ShapeError.TheVariants.{Empty, TooManyArgs, BadBuffer}
use Rattle.limits.specs.declared.TheConstants.{MOST_VARIABLE_BYTES, MOST_BUFFERS}
use Rattle.asm_syntax.specs.Instructions.{has_words}
use Rattle.asm_shapes.specs.Operands.{instr_in_range}
use Rattle.asm_shapes.specs.Shapes.{instr_tests, place_tests, code_tests, function_tests, is_valid_code}
use Rattle.asm_shapes.specs.Signatures.{first_register, registers_of, argument_registers, is_argument_register, argument_tests}
use Rattle.asm_shapes.specs.Signatures.{buffer_test, buffer_tests, buffer_fits, sig_tests, is_valid_sig}
use Rattle.asm_syntax.specs.Sizes.{init_size, variable_size, limited_size}
use Rattle.dump_reader.specs.declared.external.TheConstants.{MOST_INDEXED}
use Rattle.dump_model.specs.Types.{is_byte}

pub none_is : {X : Type 0} (o : Option X) → is_none o ≡ true → o ≡ None
none_is None h = refl
none_is (Some x) h = cc

pub both_all : {X : Type 0} (p q : X → Bool) (xs : List X) → list_all p xs ≡ true → list_all q xs ≡ true
    → list_all (λ x. p x && q x) xs ≡ true
both_all p q [] h k = refl
both_all p q (x ∷ xs) h k =
    let a = and_parts (p x) (list_all p xs) h in
    let b = and_parts (q x) (list_all q xs) k in
    rw (a.0, b.0) (both_all p q xs a.1 b.1)

-- ---- instructions of a valid function

place_in_range : (code : List Instr) (n : ℕ) (i : Instr) → first_fault (instr_tests code n i) ≡ None → instr_in_range i ≡ true
place_in_range code n i h = grind arith

places_in_range : (code : List Instr) (n : ℕ) (is : List Instr)
    → first_fault (each_check (place_tests code) (enumerate_from n is)) ≡ None → list_all instr_in_range is ≡ true
places_in_range code n [] h = refl
places_in_range code n (i ∷ is) h =
    let rest = each_check (place_tests code) (enumerate_from (n + 1) is) in
    and_from (instr_in_range i) (list_all instr_in_range is)
    (place_in_range code n i (front_passes (instr_tests code n i) rest h))
    (places_in_range code (n + 1) is (rest_passes (instr_tests code n i) rest h))

pub code_in_range : (code : List Instr) → is_valid_code code ≡ true → list_all instr_in_range code ≡ true
code_in_range code h =
    places_in_range code 0 code
    (rest_passes (check (list_any has_words code) (Empty 0) ∷ []) (code_tests code) (none_is (first_fault (function_tests code)) h))

-- ---- items of a variable that is not too large

sizes_from : (total most : ℕ) (items : List Init) → fold (λ sum item. sum + init_size item) total items ≤ most
    → (total ≤ most) × (list_all (λ item. nat_le (init_size item) most) items ≡ true)
sizes_from total most [] h = (h, refl)
sizes_from total most (item ∷ items) h =
    let rest = sizes_from (total + init_size item) most items h in
    let all : total + init_size item ≤ most = rest.0 in
    let one : init_size item ≤ most = omega arith in
    let few : total ≤ most = omega arith in
    (few, and_from (nat_le (init_size item) most) _ (le-leb (init_size item) most one) rest.1)

some_is : {X : Type 0} (b : Bool) (x : X) → is_some (if b then Some x else None) ≡ true → b ≡ true
some_is true x h = refl
some_is false x h = cc

pub items_fit : (items : List Init) → is_some (limited_size items) ≡ true
    → list_all (λ item. nat_le (init_size item) MOST_VARIABLE_BYTES) items ≡ true
items_fit items h =
    let few = some_is (nat_le (variable_size items) MOST_VARIABLE_BYTES) (variable_size items) h in
    (sizes_from 0 MOST_VARIABLE_BYTES items (leb-true (variable_size items) MOST_VARIABLE_BYTES few)).1

pub bytes_are : (bytes : List ℕ) → list_all is_byte bytes ≡ true → IsBytes bytes
bytes_are [] h i = omega arith
bytes_are (byte ∷ bytes) h zero = grind (arith, nat_tests)
bytes_are (byte ∷ bytes) h (suc i) = bytes_are bytes (grind (arith, nat_tests)) i

-- ---- arguments of a valid signature

first_at_least : (next : ℕ) → next ≤ first_register next Long
first_at_least next = grind (arith, nat_tests)

few_from : (next : ℕ) (widths : List Width) → list_all is_argument_register (registers_of next widths) ≡ true → next ≤ 11
    → length widths + next ≤ 11
few_from next [] h low = omega arith
few_from next (Word ∷ widths) h low =
    let parts = and_parts (nat_le next 10) (list_all is_argument_register (registers_of (next + 1) widths)) h in
    let here : next ≤ 10 = leb-true next 10 parts.0 in
    let rest : length widths + (next + 1) ≤ 11 = few_from (next + 1) widths parts.1 (omega arith) in
    omega arith
few_from next (Long ∷ widths) h low =
    let first = first_register next Long in
    let parts = and_parts (nat_le first 10) (nat_le (first + 1) 10 && list_all is_argument_register (registers_of (first + 2) widths)) h in
    let more = and_parts (nat_le (first + 1) 10) (list_all is_argument_register (registers_of (first + 2) widths)) parts.1 in
    let here : first + 1 ≤ 10 = leb-true (first + 1) 10 more.0 in
    let least : next ≤ first = first_at_least next in
    let rest : length widths + (first + 2) ≤ 11 = few_from (first + 2) widths more.1 (omega arith) in
    omega arith

pub few_arguments : (widths : List Width) → first_fault (argument_tests widths) ≡ None → nat_le (length widths) MOST_INDEXED ≡ true
few_arguments widths h =
    let passes = head_passes (check (list_all is_argument_register (argument_registers widths)) (TooManyArgs 0)) [] h in
    let few : length widths + 3 ≤ 11 = few_from 3 widths passes (omega arith) in
    le-leb (length widths) MOST_INDEXED (omega arith)

-- ---- signatures

pub sig_parts : (sig : Sig) → is_valid_sig sig ≡ true
    → (first_fault (argument_tests sig.args) ≡ None) × (first_fault (buffer_tests sig.args sig.buffers) ≡ None)
sig_parts sig h =
    let none = none_is (first_fault (sig_tests sig)) h in
    let tests = buffer_tests sig.args sig.buffers in
    (front_passes (argument_tests sig.args) tests none, rest_passes (argument_tests sig.args) tests none)

fitting_from : (widths : List Width) (n : ℕ) (buffers : List Buffer) → n ≤ 8
    → first_fault (each_check (buffer_test widths) (enumerate_from n buffers)) ≡ None
    → (length buffers + n ≤ 8) × (list_all (buffer_fits widths) buffers ≡ true)
fitting_from widths n [] low h = (omega arith, refl)
fitting_from widths n (b ∷ buffers) low h =
    let rest = each_check (buffer_test widths) (enumerate_from (n + 1) buffers) in
    let test = buffer_test widths (n, b) in
    let both = and_parts (nat_lt n MOST_BUFFERS) (buffer_fits widths b) (passes (nat_lt n MOST_BUFFERS && buffer_fits widths b)
    (BadBuffer n) (front_passes test rest h)) in
    let here : n < 8 = ltb-true n 8 both.0 in
    let others = fitting_from widths (n + 1) buffers (omega arith) (rest_passes test rest h) in
    let few : length buffers + (n + 1) ≤ 8 = others.0 in
    (omega arith, and_from (buffer_fits widths b) (list_all (buffer_fits widths) buffers) both.1 others.1)
  where
    passes : (b : Bool) (e : ShapeError) → first_fault (check b e ∷ []) ≡ None → b ≡ true
    passes b e h = head_passes (check b e) [] h

pub fitting : (widths : List Width) (buffers : List Buffer) → first_fault (buffer_tests widths buffers) ≡ None
    → (nat_le (length buffers) MOST_BUFFERS ≡ true) × (list_all (buffer_fits widths) buffers ≡ true)
fitting widths buffers h =
    let all = fitting_from widths 0 buffers (omega arith) h in
    let few : length buffers + 0 ≤ 8 = all.0 in
    (le-leb (length buffers) MOST_BUFFERS (omega arith), all.1)
