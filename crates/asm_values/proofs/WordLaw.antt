-- The word law, by the forms of actions and then by the classes of instructions.
use Rattle.std.proofs.Common.{◌≡◌, ℕ, zero, suc, ◌+◌, ◌*◌, ◌<◌, Bool, true, false, ◌&&◌, List, [], ◌∷◌, length, map, slice_index_or}
use Rattle.std.proofs.Common.{slice_set, Some, refl, ap, sym, ◌∙◌, subst, arith, if◌then◌else◌}
use Rattle.std.specs.Prelude.{◌%◌, ◌^◌, is_some, ◌==◌, nat_lt, bit_xor}
use Rattle.std.specs.Int.{cast_unsigned, w32}
use Rattle.std.specs.Int.Bits.{or_self, xor_self}
use Rattle.std.proofs.lemmas.Bool.{and_parts, eqb-true, ltb-true}
use Rattle.isa_model.specs.Word.{wrapped}
use Rattle.isa_model.specs.Instructions.{addi_place, addis_place, or_place, and_dot_place}
use Rattle.asm_syntax.specs.declared.instr.Plain.{Plain}
use Rattle.asm_syntax.specs.declared.instr.Plain.TheVariants.{AluImm, LogImm, Alu, Alu2, Log, Log2, Srawi, Rot, Load, LoadX, Store, StoreX}
use Rattle.asm_syntax.specs.declared.instr.Plain.TheVariants.{Cmp, CmpImm, CrBit, Move, Bar, Jump}
use Rattle.asm_syntax.specs.Places.{alu2_place, alu_imm_place, alu_place, cmp_imm_place, cmp_place, cr_bit_place, log2_place, log_imm_place}
use Rattle.asm_syntax.specs.Places.{log_place, move_place, rot_place}
use Rattle.effect_model.specs.declared.Place.{Place}
use Rattle.effect_model.specs.declared.Place.TheVariants.{Gpr, Bit, Lr, Ctr, Ca, So, Unused}
use Rattle.effect_model.specs.declared.Operand.{Operand}
use Rattle.effect_model.specs.declared.Operand.TheVariants as operand
use Rattle.effect_model.specs.declared.Op.{Op}
use Rattle.effect_model.specs.declared.Op.TheVariants as op
use Rattle.effect_model.specs.declared.Effect.{Effect}
use Rattle.effect_model.specs.declared.Effects.TheVariants.{Nothing, One, Two}
use Rattle.effect_model.specs.declared.Constant.{Constant}
use Rattle.effect_model.specs.declared.Action.{Action}
use Rattle.effect_model.specs.declared.Action.TheVariants.{Work, Divide}
use Rattle.effect_model.specs.Meaning.{results}
use Rattle.effect_model.specs.Files.{File, get, put, word_read, flat_effect}
use Rattle.effect_model.specs.Rows.{base, plain, shifted, register, simple, carried, effect, moved, compared, summary, recorded, copy_row}
use Rattle.effect_model.specs.Rows.{alu_imm_rows, log_imm_ops, alu_rows, alu2_rows, log_rows, log2_rows, cmp_ops, cr_bit_rows, alu_imm}
use Rattle.effect_model.specs.Rows.{log_imm, alu, log, rot, cr_bit, move}
use Rattle.link_model.specs.declared.key.KeyKind.{KeyKind}
use Rattle.asm_mem.specs.declared.value.Val.{Val}
use Rattle.asm_mem.specs.declared.value.Val.TheVariants.{Undef, Int, Ptr, Code, Ext, Stop, Ha}
use Rattle.asm_mem.specs.Blocks.{Live}
use Rattle.asm_values.specs.declared.operands.OperandValue.{OperandValue}
use Rattle.asm_values.specs.declared.operands.OperandValue.TheVariants.{Known}
use Rattle.asm_values.specs.Operands.{value_results, word_in, word_values}
use Rattle.asm_values.specs.Files.{value_read, asm_effect}
use Rattle.asm_values.specs.Actions.{constant_of, value_log, value_cr_bit, plain_action}
use Rattle.asm_values.specs.WordLaw.{IsFile, word_or_zero, words_of, effect_reads_words, with_words, WordLaw, ObeysWordLaw}

-- ---- what is read

word_is : (v : Val) → is_some (word_in (Known v)) ≡ true → Known v ≡ Known (Int (word_or_zero v))
word_is (Int n) h = refl
word_is Undef h = cc
word_is (Ptr b o) h = cc
word_is (Code f i) h = cc
word_is (Ext k o) h = cc
word_is Stop h = cc
word_is (Ha k o n) h = cc

map_at : (xs : List Val) (n : ℕ) → slice_index_or (map word_or_zero xs) n 0 ≡ word_or_zero (slice_index_or xs n Undef)
map_at [] n = refl
map_at (x ∷ xs) zero = refl
map_at (x ∷ xs) (suc n) = map_at xs n

place_word : (f : File Val) (p : Place) → get 0 (words_of f) p ≡ word_or_zero (get Undef f p)
place_word f (Gpr n) = map_at f.gprs n
place_word f (Bit n) = map_at f.bits n
place_word f Lr = refl
place_word f Ctr = refl
place_word f Ca = refl
place_word f So = refl
place_word f Unused = refl

-- an operand that is a word is the word of the registers' words
pub read_word : (f : File Val) (o : Operand) → is_some (word_in (value_read f o)) ≡ true
    → value_read f o ≡ Known (Int (word_read (words_of f) o))
read_word f (operand.At p) h = word_is (get Undef f p) h ∙ ap (λ (n : ℕ). Known (Int n)) (sym (place_word f p))
read_word f (operand.Number n) h = refl
read_word f (operand.Lo k o) h = cc
read_word f (operand.Ha k o) h = cc
read_word f (operand.Sda k o) h = cc
read_word f operand.Undefined h = cc

-- ---- one effect

results_words : (kinds : List KeyKind) (live : List Live) (o : Op) (x y z : OperandValue) (a b c : ℕ)
    → x ≡ Known (Int a) → y ≡ Known (Int b) → z ≡ Known (Int c) → value_results kinds live o x y z ≡ word_values (results o a b c)
unfolding value_results
results_words kinds live o x y z a b c p q r = rw (p, q, r) refl

-- an effect whose operands are words of g puts the words that it has on g
pub effect_words : (kinds : List KeyKind) (live : List Live) (e : Effect) (f : File Val) (g : File ℕ)
    → value_read f e.x ≡ Known (Int (word_read g e.x)) → value_read f e.y ≡ Known (Int (word_read g e.y))
    → value_read f e.z ≡ Known (Int (word_read g e.z))
    → asm_effect kinds live e f ≡ with_words e g f
unfolding asm_effect
effect_words kinds live e f g p q r =
    ap (λ v. put (put (put f e.first v.first) e.second v.second) e.third v.third)
    (results_words kinds live e.op (value_read f e.x) (value_read f e.y) (value_read f e.z) (word_read g e.x) (word_read g e.y)
    (word_read g e.z) p q r)

-- what an effect reads
record Reads (e : Effect) (f : File Val) : Type 0 where
  x : value_read f e.x ≡ Known (Int (word_read (words_of f) e.x))
  y : value_read f e.y ≡ Known (Int (word_read (words_of f) e.y))
  z : value_read f e.z ≡ Known (Int (word_read (words_of f) e.z))

reads : (e : Effect) (f : File Val) → effect_reads_words e f ≡ true → Reads e f
reads e f h =
    let a = is_some (word_in (value_read f e.x)) in
    let b = is_some (word_in (value_read f e.y)) in
    let c = is_some (word_in (value_read f e.z)) in
    let p = and_parts (a && b) c h in
    let q = and_parts a b p.0 in
    record { x = read_word f e.x q.0; y = read_word f e.y q.1; z = read_word f e.z p.1 }

first_words : (kinds : List KeyKind) (live : List Live) (e : Effect) (f : File Val) → effect_reads_words e f ≡ true
    → asm_effect kinds live e f ≡ with_words e (words_of f) f
first_words kinds live e f h = let r = reads e f h in effect_words kinds live e f (words_of f) r.x r.y r.z

-- the copy of the summary overflow, which is no value
summary_undefined : (kinds : List KeyKind) (live : List Live) (n : ℕ) (f : File Val) → f.so ≡ Undef
    → asm_effect kinds live (summary n) f ≡ put f (Bit (4 * n + 3)) Undef
unfolding asm_effect value_results
summary_undefined kinds live n f h = rw h refl

-- ---- by the forms of actions

one_law : (e : Effect) → WordLaw (Work (One e)) (Work (One e))
one_law e kinds live f is h n = ap Some (first_words kinds live e f h)

divide_law : (e : Effect) → WordLaw (Divide e) (Divide e)
divide_law e kinds live f is h n =
    let r = reads e f h in
    let g = words_of f in
    let x : word_in (value_read f e.x) ≡ Some (word_read g e.x) = ap word_in r.x in
    let y : word_in (value_read f e.y) ≡ Some (word_read g e.y) = ap word_in r.y in
    rw (x, y, n) (ap Some (first_words kinds live e f h))

compare_law : (o : Op) (x y : Operand) (n : ℕ)
    → WordLaw (Work (Two (compared o x y n) (summary n))) (Work (Two (compared o x y n) (summary n)))
compare_law o x y n kinds live f is h t =
    let e = compared o x y n in
    let f1 = with_words e (words_of f) f in
    ap Some (ap (asm_effect kinds live (summary n)) (first_words kinds live e f h) ∙ summary_undefined kinds live n f1 is.so)

set_index : {A : Type 0} (xs : List A) (i : ℕ) (x d : A) → i < length xs → slice_index_or (slice_set xs i x) i d ≡ x
set_index [] i x d h = absurd (omega arith)
set_index (y ∷ xs) zero x d h = refl
set_index (y ∷ xs) (suc i) x d h = set_index xs i x d (omega arith)

length_words : (xs : List Val) → length (map word_or_zero xs) ≡ length xs
length_words [] = refl
length_words (x ∷ xs) = ap suc (length_words xs)

-- a result in a general register, on words
flat_result : (o : Op) (x y : Operand) (a : ℕ) (f : File Val) → IsFile f → a < 32
    → word_read (flat_effect (effect (simple o) x y (Gpr a)) (words_of f)) (register a)
    ≡ (results o (word_read (words_of f) x) (word_read (words_of f) y) 0).first
unfolding flat_effect
flat_result o x y a f is h =
    set_index (map word_or_zero f.gprs) a (results o (word_read (words_of f) x) (word_read (words_of f) y) 0).first 0
    (omega (arith, is.gprs, length_words f.gprs))

recorded_law : (o : Op) (x y : Operand) (a : ℕ) → a < 32
    → WordLaw (Work (recorded (effect (simple o) x y (Gpr a)) (Gpr a))) (Work (recorded (effect (simple o) x y (Gpr a)) (Gpr a)))
recorded_law o x y a small kinds live f is h t =
    let e = effect (simple o) x y (Gpr a) in
    let d = compared op.Comparison (register a) (operand.Number 0) 0 in
    let g = words_of f in
    let f1 = with_words e g f in
    let g1 = flat_effect e g in
    let r = (results o (word_read g x) (word_read g y) 0).first in
    let value : value_read f1 (register a) ≡ Known (Int (word_read g1 (register a))) =
    ap Known (set_index f.gprs a (Int r) Undef (omega (arith, is.gprs)))
    ∙ ap (λ (n : ℕ). Known (Int n)) (sym (flat_result o x y a f is small)) in
    let first = first_words kinds live e f h in
    let second : asm_effect kinds live d f1 ≡ with_words d g1 f1 = effect_words kinds live d f1 g1 value refl refl in
    ap Some
    (ap (λ (u : File Val). asm_effect kinds live (summary 0) (asm_effect kinds live d u)) first
    ∙ (ap (asm_effect kinds live (summary 0)) second ∙ summary_undefined kinds live 0 (with_words d g1 f1) is.so))

-- either of two actions
choice_law : (t : Bool) (a b : Action) → WordLaw a a → WordLaw b b → WordLaw (if t then a else b) (if t then a else b)
choice_law true a b p q = p
choice_law false a b p q = q

-- ---- by classes

alu_imm_law : (k d a : ℕ) (c : Constant) → WordLaw (alu_imm k d a c) (alu_imm k d a c)
alu_imm_law k d a c =
    let r = slice_index_or alu_imm_rows k copy_row in
    let e = effect r (base a) (plain c) (Gpr d) in
    let h = effect r (base a) (shifted c) (Gpr d) in
    let i = effect r (register a) (plain c) (Gpr d) in
    choice_law (k == addi_place) (Work (One e)) (if k == addis_place then Work (One h) else Work (One i)) (one_law e)
    (choice_law (k == addis_place) (Work (One h)) (Work (One i)) (one_law h) (one_law i))

log_imm_law : (k a s n : ℕ) → a < 32 → WordLaw (log_imm k a s n) (log_imm k a s n)
log_imm_law k a s n small =
    let m = if k % 2 == 1 then wrapped (n * 2 ^ 16) else n in
    let o = slice_index_or log_imm_ops k op.Copy in
    let e = effect (simple o) (register s) (operand.Number m) (Gpr a) in
    choice_law (nat_lt k 4) (Work (One e)) (Work (recorded e (Gpr a))) (one_law e) (recorded_law o (register s) (operand.Number m) a small)

alu_law : (k d a b : ℕ) → WordLaw (alu k d a b) (alu k d a b)
alu_law k d a b =
    let e = effect (slice_index_or alu_rows k copy_row) (register a) (register b) (Gpr d) in
    choice_law (nat_lt k 9) (Work (One e)) (Divide e) (one_law e) (divide_law e)

log_law : (k a s b : ℕ) → a < 32 → WordLaw (log k a s b) (log k a s b)
log_law k a s b small = at (k == and_dot_place) refl
  where
    at : (t : Bool) → (k == and_dot_place) ≡ t → WordLaw (log k a s b) (log k a s b)
    at true h =
        subst (λ z. WordLaw (log z a s b) (log z a s b)) (sym (eqb-true k and_dot_place h))
        (recorded_law op.And (register s) (register b) a small)
    at false h = rw h (one_law (effect (slice_index_or log_rows k copy_row) (register s) (register b) (Gpr a)))

-- `or` of a word with itself is the word
copy_law : (a s : ℕ) → WordLaw (log or_place a s s) (Work (One (moved (register s) (Gpr a))))
unfolding results
copy_law a s kinds live f is h n =
    let e = effect (simple op.Or) (register s) (register s) (Gpr a) in
    let g = words_of f in
    let r = reads e f h in
    ap Some
    (effect_words kinds live (moved (register s) (Gpr a)) f g r.x refl refl
    ∙ ap (λ (m : ℕ). put f (Gpr a) (Int m)) (sym (or_self (word_read g (register s)))))

value_log_law : (k a s b : ℕ) → a < 32 → WordLaw (log k a s b) (value_log k a s b)
value_log_law k a s b small = at (k == or_place && s == b) refl
  where
    at : (t : Bool) → (k == or_place && s == b) ≡ t → WordLaw (log k a s b) (value_log k a s b)
    at true h =
        let p = and_parts (k == or_place) (s == b) h in
        let copy = Work (One (moved (register s) (Gpr a))) in
        rw h
        (subst (λ z. WordLaw (log z a s b) copy) (sym (eqb-true k or_place p.0))
        (subst (λ z. WordLaw (log or_place a s z) copy) (eqb-true s b p.1) (copy_law a s)))
    at false h = rw h (log_law k a s b small)

cr_bit_law : (k t a b : ℕ) → WordLaw (cr_bit k t a b) (cr_bit k t a b)
cr_bit_law k t a b = one_law (effect (slice_index_or cr_bit_rows k copy_row) (operand.At (Bit a)) (operand.At (Bit b)) (Bit t))

-- crxor of a bit with itself gives 0, creqv 1
constant_law : (k t a : ℕ) → k < 2 → WordLaw (cr_bit k t a a) (Work (One (moved (operand.Number k) (Bit t))))
unfolding results
constant_law zero t a l kinds live f is h n =
    let g = words_of f in
    ap Some
    (effect_words kinds live (moved (operand.Number 0) (Bit t)) f g refl refl refl
    ∙ ap (λ (m : ℕ). put f (Bit t) (Int m)) (sym (xor_self (get 0 g (Bit a)))))
constant_law (suc zero) t a l kinds live f is h n =
    let g = words_of f in
    ap Some
    (effect_words kinds live (moved (operand.Number 1) (Bit t)) f g refl refl refl
    ∙ ap (λ (m : ℕ). put f (Bit t) (Int (bit_xor m 1))) (sym (xor_self (get 0 g (Bit a)))))
constant_law (suc (suc k)) t a l kinds live f is h n = absurd (omega arith)

value_cr_bit_law : (k t a b : ℕ) → WordLaw (cr_bit k t a b) (value_cr_bit k t a b)
value_cr_bit_law k t a b = at (a == b && nat_lt k 2) refl
  where
    at : (u : Bool) → (a == b && nat_lt k 2) ≡ u → WordLaw (cr_bit k t a b) (value_cr_bit k t a b)
    at true h =
        let p = and_parts (a == b) (nat_lt k 2) h in
        rw h (subst (λ z. WordLaw (cr_bit k t a z) (Work (One (moved (operand.Number k) (Bit t))))) (eqb-true a b p.0)
        (constant_law k t a (ltb-true k 2 p.1)))
    at false h = rw h (cr_bit_law k t a b)

rot_law : (k a s sh mb me : ℕ) → WordLaw (rot k a s sh mb me) (rot k a s sh mb me)
rot_law k a s sh mb me =
    let e = effect (simple (op.Insertion sh mb me)) (register s) (register a) (Gpr a) in
    let d = effect (simple (op.Rotation sh mb me)) (register s) (operand.Number 0) (Gpr a) in
    choice_law (k == 0) (Work (One e)) (Work (One d)) (one_law e) (one_law d)

move_law : (k r : ℕ) → WordLaw (move k r) (move k r)
move_law k r =
    let a = moved (operand.At Lr) (Gpr r) in
    let b = moved (operand.At Ctr) (Gpr r) in
    let c = moved (register r) Lr in
    let d = moved (register r) Ctr in
    choice_law (k == 0) (Work (One a)) (if k == 1 then Work (One b) else if k == 2 then Work (One c) else Work (One d)) (one_law a)
    (choice_law (k == 1) (Work (One b)) (if k == 2 then Work (One c) else Work (One d)) (one_law b)
    (choice_law (k == 2) (Work (One c)) (Work (One d)) (one_law c) (one_law d)))

nothing_law : WordLaw (Work Nothing) (Work Nothing)
nothing_law kinds live f is h n = refl

pub word_law : (x : Plain) (key : ℕ) → ObeysWordLaw x key (plain_action x key)
word_law (AluImm o d a c) key w = alu_imm_law (alu_imm_place o) d a (constant_of c key)
word_law (LogImm o a s n) key w = log_imm_law (log_imm_place o) a s n (ltb-true a 32 w)
word_law (Alu o d a b) key w = alu_law (alu_place o) d a b
word_law (Alu2 o d a) key w = one_law (effect (slice_index_or alu2_rows (alu2_place o) copy_row) (register a) (operand.Number 0) (Gpr d))
word_law (Log o a s b) key w = value_log_law (log_place o) a s b (ltb-true a 32 w)
word_law (Log2 o a s) key w = one_law (effect (slice_index_or log2_rows (log2_place o) copy_row) (register s) (operand.Number 0) (Gpr a))
word_law (Srawi a s n) key w = one_law (effect (carried op.ShiftRightSigned (operand.Number 0)) (register s) (operand.Number n) (Gpr a))
word_law (Rot o a s sh mb me) key w = rot_law (rot_place o) a s sh mb me
word_law (Cmp o f a b) key w = compare_law (slice_index_or cmp_ops (cmp_place o) op.Copy) (register a) (register b) f
word_law (CmpImm o f a n) key w = compare_law (slice_index_or cmp_ops (cmp_imm_place o) op.Copy) (register a)
    (operand.Number (cast_unsigned w32 n)) f
word_law (CrBit o t a b) key w = value_cr_bit_law (cr_bit_place o) t a b
word_law (Move o r) key w = move_law (move_place o) r
word_law (Bar o) key w = nothing_law
word_law (Load o d c a) key w = cc
word_law (LoadX o d a b) key w = cc
word_law (Store o s c a) key w = cc
word_law (StoreX o s a b) key w = cc
word_law (Jump j) key w = cc
