-- The addresses of a function's instructions.
use Rattle.std.proofs.Common.{◌≡◌, ℕ, zero, suc, ◌+◌, ◌*◌, ◌%◌, ◌<◌, ◌≤◌, Bool, true, false, List, [], ◌∷◌, length, Some, None, refl, ◌∙◌}
use Rattle.std.proofs.Common.{ap, arith, if◌then◌else◌}
use Rattle.std.specs.Prelude.{Option, slice_get, is_some, unwrap_or}
use Rattle.image_model.specs.Image.{Image}
use Rattle.asm_syntax.specs.declared.instr.Instr.{Instr}
use Rattle.code_model.specs.Addresses.{loaded_word, address_after, code_end, instr_address, words_from}
use Rattle.code_model.specs.Spelling.{first_word}
use Rattle.code_model.specs.Forms.{forms, instr_length, is_bc}
use Rattle.asm_syntax.specs.declared.instr.Instr.TheVariants as instrs

pub after_is : (v : Image) (a : ℕ) (x : Instr) → address_after v a x ≡ a + 4 * instr_length x (loaded_word v a)
unfolding address_after
after_is v a x = refl

after_low : (v : Image) (a : ℕ) (x : Instr) → a ≤ address_after v a x
after_low v a x = let e = after_is v a x in omega arith

after_aligned : (v : Image) (a : ℕ) (x : Instr) → a % 4 ≡ 0 → address_after v a x % 4 ≡ 0
after_aligned v a x h = let e = after_is v a x in omega arith

pub address_zero : (v : Image) (a : ℕ) (code : List Instr) → instr_address v a code 0 ≡ a
address_zero v a [] = refl
address_zero v a (x ∷ code) = refl

pub address_low : (v : Image) (a : ℕ) (code : List Instr) (i : ℕ) → a ≤ instr_address v a code i
address_low v a [] i = omega arith
address_low v a (x ∷ code) zero = omega arith
address_low v a (x ∷ code) (suc i) = let h = address_low v (address_after v a x) code i in let b = after_low v a x in omega arith

pub address_end : (v : Image) (a : ℕ) (code : List Instr) (i : ℕ) → i ≤ length code → instr_address v a code i ≤ code_end v a code
address_end v a [] i h = omega arith
address_end v a (x ∷ code) zero h = address_low v a (x ∷ code) (length (x ∷ code))
address_end v a (x ∷ code) (suc i) h = address_end v (address_after v a x) code i (omega arith)

pub address_aligned : (v : Image) (a : ℕ) (code : List Instr) (i : ℕ) → a % 4 ≡ 0 → instr_address v a code i % 4 ≡ 0
address_aligned v a [] i h = h
address_aligned v a (x ∷ code) zero h = h
address_aligned v a (x ∷ code) (suc i) h = address_aligned v (address_after v a x) code i (after_aligned v a x h)

pub address_next : (v : Image) (a : ℕ) (code : List Instr) (i : ℕ) (x : Instr) → slice_get code i ≡ Some x →
    instr_address v a code (suc i) ≡ address_after v (instr_address v a code i) x
address_next v a [] i x h = absurd (cc)
address_next v a (y ∷ code) zero x h = let s : y ≡ x = cc in address_zero v (address_after v a y) code ∙ ap (λ z. address_after v a z) s
address_next v a (y ∷ code) (suc i) x h = address_next v (address_after v a y) code i x h

pub get_below : {X : Type 0} (xs : List X) (i : ℕ) (x : X) → slice_get xs i ≡ Some x → i < length xs
get_below [] i x h = absurd (cc)
get_below (y ∷ ys) zero x h = omega arith
get_below (y ∷ ys) (suc i) x h = let lt = get_below ys i x h in omega arith

-- ---- words

pub some_word : (o : Option ℕ) → is_some o ≡ true → o ≡ Some (unwrap_or o 0)
some_word None h = absurd (cc)
some_word (Some w) h = refl

-- the first of the words that an instruction has chooses its forms
pub first_forms : (v : Image) (a t : ℕ) (x : Instr) → forms t x (first_word (words_from v a (instr_length x
    (loaded_word v a)))) ≡ forms t x (loaded_word v a)
unfolding forms instr_length
first_forms v a t (instrs.Plain plain) = refl
first_forms v a t (instrs.AllocFrame n) = refl
first_forms v a t (instrs.FreeFrame n) = refl
first_forms v a t (instrs.Imm r n) = refl
first_forms v a t (instrs.Bt bit label) = at (is_bc 4 (loaded_word v a))
  where
    at : (b : Bool) → forms t (instrs.Bt bit label) (first_word (words_from v a (if b then 2 else 1))) ≡ forms t (instrs.Bt bit label)
        (loaded_word v a)
    at true = refl
    at false = refl
first_forms v a t (instrs.Bf bit label) = at (is_bc 12 (loaded_word v a))
  where
    at : (b : Bool) → forms t (instrs.Bf bit label) (first_word (words_from v a (if b then 2 else 1))) ≡ forms t (instrs.Bf bit label)
        (loaded_word v a)
    at true = refl
    at false = refl
first_forms v a t (instrs.Btbl r labels) = refl
first_forms v a t (instrs.MfcrBit r bit) = refl
first_forms v a t (instrs.Label label) = refl
first_forms v a t instrs.Cfi = refl
first_forms v a t instrs.Annot = refl
