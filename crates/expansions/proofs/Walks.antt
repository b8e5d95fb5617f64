-- Code, one instruction further.
use Rattle.std.proofs.Common.{append_assoc, ◌≡◌, ℕ, zero, suc, ◌+◌, ◌-◌, ◌*◌, ◌<◌, ◌≤◌, inl, inr, Bool, true, false, List, [], ◌∷◌, ◌++◌}
use Rattle.std.proofs.Common.{length, take, drop, get_or, Option, Some, None, refl, sym, ◌∙◌, ap, subst, arith}
use Rattle.std.specs.Prelude.{◌==◌, nat_le, if◌then◌else◌, slice_get}
use Rattle.std.specs.List.{list_all}
use Rattle.std.specs.Option.{option_or, option_map_or}
use Rattle.std.proofs.lemmas.Bool.{cases_Bool, and_parts}
use Rattle.std.proofs.lemmas.Option.{slice_get-get_or, slice_get_within}
use Rattle.isa_model.specs.Word.{wrapped, lo, signed_word}
use Rattle.isa_model.specs.Operands.{is_s16}
use Rattle.ordered_tests.specs.Checks.{first_fault}
use Rattle.ordered_tests.proofs.Faults.{first_fault_append, first_fault_before, first_fault_after}
use Rattle.image_model.specs.Image.{Image}
use Rattle.layout_model.specs.Layouts.{Layout}
use Rattle.asm_syntax.specs.declared.instr.Instr.{Instr}
use Rattle.asm_syntax.specs.declared.instr.Instr.TheVariants as instrs
use Rattle.asm_syntax.specs.Instructions.{label_place}
use Rattle.code_model.specs.declared.spot.Spot.{Spot}
use Rattle.code_model.specs.Forms.{forms, instr_length, is_bc}
use Rattle.code_model.specs.Spelling.{first_word}
use Rattle.code_model.specs.Addresses.{loaded_word, words_from, address_after, instr_address, code_end, label_address}
use Rattle.code_model.specs.WordChecks.{words_checks}
use Rattle.code_model.specs.Code.{target}
use Rattle.code_model.specs.FunctionChecks.{jump_checks, instr_checks, code_checks, place_checks, function_checks}
use Rattle.link_model.specs.declared.owner.Owner.{Owner}
use Rattle.link_model.specs.Claims.{Claim, jump_claims, table_claims}
use Rattle.expansions.specs.Addresses.{addresses_of}
use Rattle.expansions.proofs.Reading.{take_words, words_length}

-- ---- the list of addresses

pub address_get : (v : Image) (a i : ℕ) (code : List Instr) → i ≤ length code →
    slice_get (addresses_of v a code) i ≡ Some (instr_address v a code i)
address_get v a zero [] le = refl
address_get v a zero (x ∷ code) le = refl
address_get v a (suc i) [] le = absurd (omega arith)
address_get v a (suc i) (x ∷ code) le = address_get v (address_after v a x) i code (omega arith)

held : (v : Image) (a i : ℕ) (code : List Instr) (list : List ℕ) → list ≡ addresses_of v a code → i ≤ length code →
    slice_get list i ≡ Some (instr_address v a code i)
held v a i code list e le = ap (λ (xs : List ℕ). slice_get xs i) e ∙ address_get v a i code le

pub is_held : (v : Image) (a i : ℕ) (code : List Instr) (list : List ℕ) → list ≡ addresses_of v a code → i ≤ length code → i < length list
is_held v a i code list e le = slice_get_within list i (instr_address v a code i) (held v a i code list e le)

pub held_address : (v : Image) (a i d : ℕ) (code : List Instr) (list : List ℕ) → list ≡ addresses_of v a code → i ≤ length code →
    get_or list i d ≡ instr_address v a code i
held_address v a i d code list e le =
    let both : Some (get_or list i d) ≡ Some (instr_address v a code i) =
    sym (slice_get-get_or list i d (is_held v a i code list e le)) ∙ held v a i code list e le in
    cc

-- ---- addresses in their order

after_low : (v : Image) (a : ℕ) (x : Instr) → a ≤ address_after v a x
unfolding address_after
after_low v a x = omega arith

pub end_low : (v : Image) (a : ℕ) (code : List Instr) → a ≤ code_end v a code
end_low v a [] = omega arith
end_low v a (x ∷ code) = let h = end_low v (address_after v a x) code in let b = after_low v a x in omega arith

pub address_low : (v : Image) (a i : ℕ) (code : List Instr) → a ≤ instr_address v a code i
address_low v a i [] = omega arith
address_low v a zero (x ∷ code) = omega arith
address_low v a (suc i) (x ∷ code) = let h = address_low v (address_after v a x) i code in let b = after_low v a x in omega arith

pub address_high : (v : Image) (a i : ℕ) (code : List Instr) → instr_address v a code i ≤ code_end v a code
address_high v a i [] = omega arith
address_high v a zero (x ∷ code) = end_low v a (x ∷ code)
address_high v a (suc i) (x ∷ code) = address_high v (address_after v a x) i code

pub label_high : (v : Image) (a label : ℕ) (code : List Instr) → label_address v a code label ≤ code_end v a code
label_high v a label code = at (label_place code label)
  where
    at : (o : Option ℕ) → option_map_or (instr_address v a code) o 0 ≤ code_end v a code
    at None = omega arith
    at (Some i) = address_high v a i code

-- the address of the next instruction
pub address_next : (v : Image) (a i : ℕ) (x : Instr) (code : List Instr) → slice_get code i ≡ Some x →
    instr_address v a code (i + 1) ≡ address_after v (instr_address v a code i) x
address_next v a i x [] h = absurd (cc)
address_next v a zero x (y ∷ []) h = let s : y ≡ x = cc in rw s refl
address_next v a zero x (y ∷ z ∷ code) h = let s : y ≡ x = cc in rw s refl
address_next v a (suc i) x (y ∷ code) h =
    let e : suc i + 1 ≡ suc (i + 1) = omega arith in rw e (address_next v (address_after v a y) i x code h)

-- the words of an instruction end where the code does or before
pub words_end : (v : Image) (a i : ℕ) (x : Instr) (code : List Instr) → slice_get code i ≡ Some x →
    instr_address v a code i + 4 * instr_length x (loaded_word v (instr_address v a code i)) ≤ code_end v a code
unfolding address_after
words_end v a i x code h =
    let high = address_high v a (i + 1) code in
    let next = address_next v a i x code h in
    omega (arith, high, next)

pub within : (i : ℕ) (x : Instr) (code : List Instr) → slice_get code i ≡ Some x → i ≤ length code
within i x code h = let lt = slice_get_within code i x h in omega arith

-- ---- the words of one instruction

length_few : (x : Instr) (w : ℕ) → instr_length x w ≤ 5
unfolding instr_length
length_few (instrs.Plain plain) w = omega arith
length_few (instrs.AllocFrame n) w = elim (cases_Bool (nat_le n 32768)) [ inl t ↦ rw t (omega arith) | inr f ↦ rw f (omega arith) ]
length_few (instrs.FreeFrame n) w = omega arith
length_few (instrs.Imm r n) w = elim (cases_Bool (is_s16 (signed_word (wrapped n)))) [
  | inl t ↦ rw t (omega arith)
  | inr f ↦ rw f (elim (cases_Bool (lo (wrapped n) == 0)) [ inl t ↦ rw t (omega arith) | inr g ↦ rw g (omega arith) ])
]
length_few (instrs.Bt bit label) w = elim (cases_Bool (is_bc 4 w)) [ inl t ↦ rw t (omega arith) | inr f ↦ rw f (omega arith) ]
length_few (instrs.Bf bit label) w = elim (cases_Bool (is_bc 12 w)) [ inl t ↦ rw t (omega arith) | inr f ↦ rw f (omega arith) ]
length_few (instrs.Btbl r labels) w = omega arith
length_few (instrs.MfcrBit r bit) w = omega arith
length_few (instrs.Label label) w = omega arith
length_few instrs.Cfi w = omega arith
length_few instrs.Annot w = omega arith

-- the first of the words says how many there are
first_length : (v : Image) (a : ℕ) (x : Instr) →
    instr_length x (first_word (words_from v a (instr_length x (loaded_word v a)))) ≡ instr_length x (loaded_word v a)
unfolding instr_length
first_length v a (instrs.Plain plain) = refl
first_length v a (instrs.AllocFrame n) = refl
first_length v a (instrs.FreeFrame n) = refl
first_length v a (instrs.Imm r n) = refl
first_length v a (instrs.Bt bit label) = at (is_bc 4 (loaded_word v a))
  where
    at : (b : Bool) → ◌≡◌ {A = ℕ} (if is_bc 4 (first_word (words_from v a (if b then 2 else 1))) then 2 else 1)
        (if is_bc 4 (loaded_word v a) then 2 else 1)
    at true = refl
    at false = refl
first_length v a (instrs.Bf bit label) = at (is_bc 12 (loaded_word v a))
  where
    at : (b : Bool) → ◌≡◌ {A = ℕ} (if is_bc 12 (first_word (words_from v a (if b then 2 else 1))) then 2 else 1)
        (if is_bc 12 (loaded_word v a) then 2 else 1)
    at true = refl
    at false = refl
first_length v a (instrs.Btbl r labels) = refl
first_length v a (instrs.MfcrBit r bit) = refl
first_length v a (instrs.Label label) = refl
first_length v a instrs.Cfi = refl
first_length v a instrs.Annot = refl

-- the first n of five words
pub taken : (v : Image) (a n : ℕ) (five : List ℕ) → five ≡ words_from v a 5 → n ≤ 5 → take n five ≡ words_from v a n
taken v a n five e le = rw e (take_words v a n 5 le)

pub taken_count : (v : Image) (a n : ℕ) (five : List ℕ) → five ≡ words_from v a 5 → n ≤ 5 → length (take n five) ≡ n
taken_count v a n five e le = rw (taken v a n five e le) (words_length v a n)

pub taken_length : (v : Image) (a n : ℕ) (x : Instr) (five : List ℕ) → five ≡ words_from v a 5 → n ≡ instr_length x (loaded_word v a) →
    length (take n five) ≡ instr_length x (first_word (take n five))
taken_length v a n x five e q =
    let few : n ≤ 5 = rw q (length_few x (loaded_word v a)) in
    let same : take n five ≡ words_from v a (instr_length x (loaded_word v a)) = taken v a n five e few ∙ ap (λ m. words_from v a m) q in
    rw same (words_length v a (instr_length x (loaded_word v a)) ∙ sym (first_length v a x))

-- ---- a step of a loop over the code

pub at_get : {X : Type 0} (code : List X) (i : ℕ) (x : X) → slice_get code i ≡ Some x → drop i code ≡ x ∷ drop (i + 1) code
at_get [] i x h = absurd (cc)
at_get (y ∷ ys) zero x h = let s : y ≡ x = cc in rw s refl
at_get (y ∷ ys) (suc i) x h = let e : suc i + 1 ≡ suc (i + 1) = omega arith in rw e (at_get ys i x h)

-- what all pass, each passes
pub each_of_all : {X : Type 0} (p : X → Bool) (xs : List X) (i : ℕ) (x : X) → slice_get xs i ≡ Some x → list_all p xs ≡ true →
    p x ≡ true
each_of_all p [] i x h e = absurd (cc)
each_of_all p (y ∷ ys) zero x h e =
    let s : y ≡ x = cc in subst (λ z. p z ≡ true) s (and_parts (p y) (list_all p ys) e).0
each_of_all p (y ∷ ys) (suc i) x h e = each_of_all p ys i x h (and_parts (p y) (list_all p ys) e).1

-- the tests of the code from instruction i on
code_more : (v : Image) (l : Layout) (symbol_at : List ℕ → ℕ) (label_at : ℕ → ℕ) (base i : ℕ) (x : Instr) (code : List Instr) →
    slice_get code i ≡ Some x →
    first_fault (code_checks v l symbol_at label_at base (instr_address v base code i) (drop i code))
    ≡ option_or (first_fault (instr_checks v l symbol_at label_at (instr_address v base code i - base) (instr_address v base code i) x))
    (first_fault (code_checks v l symbol_at label_at base (instr_address v base code (i + 1)) (drop (i + 1) code)))
code_more v l symbol_at label_at base i x code h =
    let a = instr_address v base code i in
    ap (λ (xs : List Instr). first_fault (code_checks v l symbol_at label_at base a xs)) (at_get code i x h)
    ∙ first_fault_append (instr_checks v l symbol_at label_at (a - base) a x)
    (code_checks v l symbol_at label_at base (address_after v a x) (drop (i + 1) code))
    ∙ ap (λ b. option_or (first_fault (instr_checks v l symbol_at label_at (a - base) a x))
    (first_fault (code_checks v l symbol_at label_at base b (drop (i + 1) code)))) (sym (address_next v base i x code h))

pub code_hit : (v : Image) (l : Layout) (symbol_at : List ℕ → ℕ) (label_at : ℕ → ℕ) (base i : ℕ) (x : Instr) (code : List Instr)
    (f : Spot) (whole : Option Spot) → slice_get code i ≡ Some x →
    first_fault (instr_checks v l symbol_at label_at (instr_address v base code i - base) (instr_address v base code i) x) ≡ Some f →
    first_fault (code_checks v l symbol_at label_at base (instr_address v base code i) (drop i code)) ≡ whole → whole ≡ Some f
code_hit v l symbol_at label_at base i x code f whole h hit e = sym e ∙ code_more v l symbol_at label_at base i x code h ∙ rw hit refl

pub code_miss : (v : Image) (l : Layout) (symbol_at : List ℕ → ℕ) (label_at : ℕ → ℕ) (base i : ℕ) (x : Instr) (code : List Instr)
    (whole : Option Spot) → slice_get code i ≡ Some x →
    first_fault (instr_checks v l symbol_at label_at (instr_address v base code i - base) (instr_address v base code i) x) ≡ None →
    first_fault (code_checks v l symbol_at label_at base (instr_address v base code i) (drop i code)) ≡ whole →
    first_fault (code_checks v l symbol_at label_at base (instr_address v base code (i + 1)) (drop (i + 1) code)) ≡ whole
code_miss v l symbol_at label_at base i x code whole h miss e = sym (code_more v l symbol_at label_at base i x code h ∙ rw miss refl) ∙ e

-- the tables of the code from instruction i on
claims_more : (v : Image) (owner_at : ℕ → Owner) (base i : ℕ) (x : Instr) (code : List Instr) → slice_get code i ≡ Some x →
    table_claims v owner_at base (instr_address v base code i) (drop i code)
    ≡ jump_claims v owner_at base (instr_address v base code i) x
    ++ table_claims v owner_at base (instr_address v base code (i + 1)) (drop (i + 1) code)
claims_more v owner_at base i x code h =
    let a = instr_address v base code i in
    ap (λ (xs : List Instr). table_claims v owner_at base a xs) (at_get code i x h)
    ∙ ap (λ b. jump_claims v owner_at base a x ++ table_claims v owner_at base b (drop (i + 1) code)) (sym (address_next v base i x code h))

-- the tables found so far and those of the rest, one instruction further
pub claims_next : (v : Image) (owner_at : ℕ → Owner) (base i : ℕ) (x : Instr) (code : List Instr) (found more : List Claim)
    (whole : List Claim) → slice_get code i ≡ Some x → more ≡ jump_claims v owner_at base (instr_address v base code i) x →
    found ++ table_claims v owner_at base (instr_address v base code i) (drop i code) ≡ whole →
    found ++ more ++ table_claims v owner_at base (instr_address v base code (i + 1)) (drop (i + 1) code) ≡ whole
claims_next v owner_at base i x code found more whole h m e =
    let rest = table_claims v owner_at base (instr_address v base code (i + 1)) (drop (i + 1) code) in
    append_assoc found more rest
    ∙ ap (λ (cs : List Claim). found ++ cs) (ap (λ (cs : List Claim). cs ++ rest) m ∙ sym (claims_more v owner_at base i x code h))
    ∙ e

-- the code begins where its first instruction does
pub address_first : (v : Image) (a : ℕ) (code : List Instr) → instr_address v a code 0 ≡ a
address_first v a [] = refl
address_first v a (x ∷ code) = refl

-- ---- the tests of one instruction

-- the words of an instruction, then its table
pub instruction_tests : (v : Image) (l : Layout) (symbol_at : List ℕ → ℕ) (label_at : ℕ → ℕ) (offset a t : ℕ) (x : Instr)
    (ws : List ℕ) (words jump : Option Spot) → ws ≡ words_from v a (instr_length x (loaded_word v a)) →
    t ≡ target symbol_at label_at x → words ≡ first_fault (words_checks l offset a (forms t x (first_word ws)) ws) →
    jump ≡ first_fault (jump_checks v l label_at offset a x) →
    option_or words jump ≡ first_fault (instr_checks v l symbol_at label_at offset a x)
unfolding instr_checks
instruction_tests v l symbol_at label_at offset a t x ws words jump e to f j =
    let n = words_from v a (instr_length x (loaded_word v a)) in
    let front = words_checks l offset a (forms (target symbol_at label_at x) x (first_word n)) n in
    rw (f, j, to, e) (sym (first_fault_append front (jump_checks v l label_at offset a x)))

-- where the words have a fault, it is the first
pub words_fail : (v : Image) (l : Layout) (symbol_at : List ℕ → ℕ) (label_at : ℕ → ℕ) (offset a t : ℕ) (x : Instr) (ws : List ℕ)
    (f : Spot) → ws ≡ words_from v a (instr_length x (loaded_word v a)) → t ≡ target symbol_at label_at x →
    Some f ≡ first_fault (words_checks l offset a (forms t x (first_word ws)) ws) →
    Some f ≡ first_fault (instr_checks v l symbol_at label_at offset a x)
words_fail v l symbol_at label_at offset a t x ws f e to h =
    instruction_tests v l symbol_at label_at offset a t x ws (Some f) (first_fault (jump_checks v l label_at offset a x)) e to h refl

-- ---- a function

-- a fault of the place is the first
pub place_fails : (v : Image) (l : Layout) (symbol_at : List ℕ → ℕ) (base end : ℕ) (code : List Instr) (place : Option Spot) (f : Spot) →
    end ≡ code_end v base code → place ≡ first_fault (place_checks v l base end) → place ≡ Some f →
    first_fault (function_checks v l symbol_at base code) ≡ Some f
unfolding function_checks
place_fails v l symbol_at base end code place f e p s =
    first_fault_before (place_checks v l base (code_end v base code))
    (code_checks v l symbol_at (label_address v base code) base base code) f
    (ap (λ b. first_fault (place_checks v l base b)) (sym e) ∙ sym p ∙ s)

-- behind a right place the words and the tables decide
pub place_passes : (v : Image) (l : Layout) (symbol_at : List ℕ → ℕ) (base end : ℕ) (code : List Instr) (place : Option Spot) →
    end ≡ code_end v base code → place ≡ first_fault (place_checks v l base end) → place ≡ None →
    first_fault (function_checks v l symbol_at base code)
    ≡ first_fault (code_checks v l symbol_at (label_address v base code) base base code)
unfolding function_checks
place_passes v l symbol_at base end code place e p s =
    first_fault_after (place_checks v l base (code_end v base code)) (code_checks v l symbol_at (label_address v base code) base base code)
    (ap (λ b. first_fault (place_checks v l base b)) (sym e) ∙ sym p ∙ s)
