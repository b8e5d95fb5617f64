-- What is executable is loaded, byte by byte and word by word; and an instruction has as many forms as words.
use Rattle.std.proofs.Common.{◌≡◌, ℕ, zero, suc, ◌+◌, ◌-◌, ◌*◌, ◌<◌, ◌≤◌, inl, inr, Bool, true, false, ◌&&◌, List, [], ◌∷◌, length, Some}
use Rattle.std.proofs.Common.{None, refl, ◌∙◌, subst, arith, if◌then◌else◌}
use Rattle.std.specs.Prelude.{Option, is_some, option_map, ◌==◌, nat_le, pos}
use Rattle.std.specs.List.{range_with_len}
use Rattle.std.specs.Option.{option_map_or}
use Rattle.std.proofs.lemmas.Bool.{and_from, cases_eq}
use Rattle.isa_model.specs.Word.{wrapped, signed_word, lo, hi}
use Rattle.isa_model.specs.Operands.{is_s16}
use Rattle.ordered_tests.specs.Lists.{EachOf}
use Rattle.image_model.specs.Image.{Image, Segment}
use Rattle.image_model.specs.Loaded.{byte_at, word_at, segment_of, segment_byte, is_executable}
use Rattle.ppc_decode.specs.declared.machine.Machine.TheVariants as machine
use Rattle.asm_syntax.specs.declared.instr.Instr.{Instr}
use Rattle.asm_syntax.specs.declared.instr.Instr.TheVariants as instrs
use Rattle.code_model.specs.Fields.{short}
use Rattle.code_model.specs.Forms.{Form, closed, near, far, forms, instr_length, is_bc, is_addi, addi, addis, ori, lwz, negated, two_halves}
use Rattle.code_model.specs.Addresses.{is_executable_at, words_from, are_loaded}

-- ---- loaded words

runs_loaded : (v : Image) (a : ℕ) → is_executable_at v a ≡ true → is_some (byte_at v a) ≡ true
runs_loaded v a h = at (segment_of v a) h
  where
    at : (o : Option Segment) → option_map_or is_executable (option_map (λ (s : Segment). s.flags) o) false ≡ true →
        is_some (option_map (λ (s : Segment). segment_byte s (a - s.vaddr)) o) ≡ true
    at None q = q
    at (Some s) q = refl

some_value : (o : Option ℕ) → is_some o ≡ true → (x : ℕ) × (o ≡ Some x)
some_value None q = absurd (cc)
some_value (Some x) q = (x, refl)

word_there : (v : Image) (a : ℕ) → is_some (byte_at v a) ≡ true → is_some (byte_at v (a + 1)) ≡ true →
    is_some (byte_at v (a + 2)) ≡ true → is_some (byte_at v (a + 3)) ≡ true → is_some (word_at v a) ≡ true
word_there v a h0 h1 h2 h3 =
    let b0 = some_value (byte_at v a) h0 in
    let b1 = some_value (byte_at v (a + 1)) h1 in
    let b2 = some_value (byte_at v (a + 2)) h2 in
    let b3 = some_value (byte_at v (a + 3)) h3 in
    rw (b0.1, b1.1, b2.1, b3.1) refl

pub runs_words : (v : Image) (n a : ℕ) → ((b : ℕ) → a ≤ b → b < a + 4 * n → is_executable_at v b ≡ true) → are_loaded v a n ≡ true
runs_words v zero a h = refl
runs_words v (suc n) a h =
    let one : (i : ℕ) → i < 4 → is_some (byte_at v (a + i)) ≡ true =
    λ i lt. runs_loaded v (a + i) (h (a + i) (omega arith) (omega arith)) in
    let zero_is : a + 0 ≡ a = omega arith in
    let first = subst (λ b. is_some (byte_at v b) ≡ true) zero_is (one 0 (omega arith)) in
    and_from (is_some (word_at v a)) (are_loaded v (a + 4) n)
    (word_there v a first (one 1 (omega arith)) (one 2 (omega arith)) (one 3 (omega arith)))
    (runs_words v n (a + 4) (λ b low high. h b (omega arith) (omega arith)))

-- ---- lengths

pub words_length : (v : Image) (a n : ℕ) → length (words_from v a n) ≡ n
words_length v a zero = refl
words_length v a (suc n) = let h = words_length v (a + 4) n in omega arith

if_length : (b : Bool) (xs ys : List Form) (m n : ℕ) → length xs ≡ m → length ys ≡ n → length (if b then xs else ys) ≡ (if b then m else n)
if_length true xs ys m n h k = h
if_length false xs ys m n h k = k

same_if : (b : Bool) (n : ℕ) → (if b then n else n) ≡ n
same_if true n = refl
same_if false n = refl

pub forms_length : (t : ℕ) (x : Instr) (w : ℕ) → length (forms t x w) ≡ instr_length x w
unfolding forms instr_length
forms_length t (instrs.Plain plain) w = refl
forms_length t (instrs.AllocFrame n) w =
    let high = closed (addis 12 0 (short (hi (negated n)))) in
    let low = closed (ori 12 12 (lo (negated n))) in
    if_length (nat_le n 32768) (closed (machine.Stwu 1 (short (lo (negated n))) 1) ∷ []) (high ∷ low ∷ closed (machine.Stwux 1 1 12) ∷ [])
    1 3 refl refl
forms_length t (instrs.FreeFrame n) w =
    if_length (is_addi w && nat_le n 32767) (closed (addi 1 1 (pos n)) ∷ []) (closed (lwz 1 (pos 0) 1) ∷ []) 1 1 refl refl
    ∙ same_if (is_addi w && nat_le n 32767) 1
forms_length t (instrs.Imm r m) w =
    let n = wrapped m in
    let one = closed (addis r 0 (short (hi n))) ∷ [] in
    let two = two_halves r n in
    if_length (is_s16 (signed_word n)) (closed (addi r 0 (signed_word n)) ∷ []) (if lo n == 0 then one else two) 1
    (if lo n == 0 then 1 else 2) refl (if_length (lo n == 0) one two 1 2 refl refl)
forms_length t (instrs.Bt bit label) w =
    if_length (is_bc 4 w) (closed (machine.Bc 4 bit (pos 8)) ∷ far t machine.B ∷ []) (near t (machine.Bc 12 bit) ∷ []) 2 1 refl refl
forms_length t (instrs.Bf bit label) w =
    if_length (is_bc 12 w) (closed (machine.Bc 12 bit (pos 8)) ∷ far t machine.B ∷ []) (near t (machine.Bc 4 bit) ∷ []) 2 1 refl refl
forms_length t (instrs.Btbl r labels) w = refl
forms_length t (instrs.MfcrBit r bit) w = refl
forms_length t (instrs.Label label) w = refl
forms_length t instrs.Cfi w = refl
forms_length t instrs.Annot w = refl

-- ---- numbers from one up to another

pub each_number : (P : ℕ → Type 0) (i m a : ℕ) → EachOf P (range_with_len i m) → i ≤ a → a < i + m → P a
each_number P i zero a e low high = absurd (omega arith)
each_number P i (suc m) a e low high = elim (cases_eq i a) [
  | inl q ↦ subst P q e.0
  | inr q ↦ each_number P (i + 1) m a e.1 (omega arith) (omega arith)
]

pub number_each : (P : ℕ → Type 0) (i m : ℕ) → ((a : ℕ) → i ≤ a → a < i + m → P a) → EachOf P (range_with_len i m)
number_each P i zero h = tt
number_each P i (suc m) h =
    (h i (omega arith) (omega arith), number_each P (i + 1) m (λ a low high. h a (omega arith) (omega arith)))
