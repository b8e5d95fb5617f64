-- A register and a constant: their sum in the assembly stands for the sum of the word's register and number.
use Rattle.std.proofs.Common.{◌≡◌, ℕ, ◌+◌, ◌*◌, ◌%◌, ◌<◌, Bool, true, false, ◌&&◌, List, length, Option, Some, None, refl, sym, ap, ◌∙◌}
use Rattle.std.proofs.Common.{subst, arith, if◌then◌else◌}
use Rattle.std.specs.Prelude.{◌==◌, ℤ, option_map}
use Rattle.std.specs.Option.{option_map_or}
use Rattle.std.specs.Int.{cast_unsigned, w32}
use Rattle.std.proofs.lemmas.Bool.{eqb-true, and_parts}
use Rattle.isa_model.specs.Word.{wrapped, sext16, lo, ha}
use Rattle.ppc_decode.specs.declared.machine.Machine.{Machine}
use Rattle.effect_model.specs.declared.Place.TheVariants.{Gpr}
use Rattle.effect_model.specs.declared.Operand.{Operand}
use Rattle.effect_model.specs.declared.Operand.TheVariants.{At, Number}
use Rattle.effect_model.specs.declared.Op.TheVariants.{Sum}
use Rattle.effect_model.specs.declared.Results.{Results}
use Rattle.effect_model.specs.declared.Constant.TheVariants as constant
use Rattle.effect_model.specs.Meaning.{results}
use Rattle.effect_model.specs.Files.{File, get, word_read}
use Rattle.effect_model.specs.Rows.{base, plain, shifted}
use Rattle.asm_syntax.specs.declared.instr.Const.{Const}
use Rattle.asm_syntax.specs.declared.instr.Const.TheVariants as consts
use Rattle.asm_syntax.specs.Instructions.{const_symbol}
use Rattle.asm_shapes.specs.Operands.{is_address_constant, is_high_constant}
use Rattle.asm_mem.specs.declared.value.Val.{Val}
use Rattle.asm_mem.specs.declared.value.Val.TheVariants.{Undef, Int, Ptr, Code, Ext, Stop, Ha}
use Rattle.asm_mem.specs.Blocks.{Live}
use Rattle.asm_values.specs.declared.operands.OperandValue.{OperandValue}
use Rattle.asm_values.specs.declared.operands.OperandValue.TheVariants as operand
use Rattle.asm_values.specs.Operands.{sum_args, value_results, symbol_value, part_on}
use Rattle.asm_values.specs.Files.{value_read}
use Rattle.asm_values.specs.Actions.{constant_of}
use Rattle.asm_syntax.specs.References.{Reference}
use Rattle.code_model.specs.Fields.{base_field, half_field, address_plus, short}
use Rattle.code_model.specs.Forms.{Form, constant_form}
use Rattle.code_model.specs.SmallData.{reaches}
use Rattle.code_model.specs.Spelling.{found_instruction, agrees}
use Rattle.machine_model.specs.Worlds.{World}
use Rattle.machine_model.specs.Fits.{Fits}
use Rattle.machine_model.specs.Relation.{Means, Laid, FilesAgree}
use Rattle.value_laws.specs.Laws.{OperandMeans, ResultsMean}
use Rattle.file_laws.specs.Laws.{SumsAgree}
use Rattle.value_laws.proofs.Halves.{spread, sext16_is, short_word}
use Rattle.value_laws.proofs.ValueLaws.{int_means, undef_means, sum_law, symbol_law}
use Rattle.file_laws.proofs.FileLaws.{concrete, read_law}

-- the base register and the number of a word with a constant
abbrev pub found_base : ℕ → Const → ℕ → ℕ
found_base a (consts.Sda name o) wd = base_field wd
found_base a _ wd = a

abbrev pub found_number : Const → ℕ → ℤ
found_number (consts.Int n) wd = n
found_number _ wd = half_field wd

pub with_found : (t a : ℕ) (c : Const) (made : ℕ → ℤ → Machine) (wd : ℕ)
    → found_instruction (constant_form t a c made) wd ≡ made (found_base a c wd) (found_number c wd)
with_found t a (consts.Int n) made wd = refl
with_found t a (consts.Lo name o) made wd = refl
with_found t a (consts.Ha name o) made wd = refl
with_found t a (consts.Sda name o) made wd = refl

pub base_concrete : (a : ℕ) → concrete (base a) ≡ true
base_concrete a = at (a == 0)
  where
    at : (b : Bool) → concrete (if b then Number 0 else At (Gpr a)) ≡ true
    at true = refl
    at false = refl

module _ (w : World) (live : List Live) (next : ℕ) where
  only_sum : (v : Val) (r : Results) → Means w live next v r.first
      → Means w live next v r.first × (Means w live next Undef r.second × Means w live next Undef r.third)
  only_sum v r m = (m, (undef_means w live next _, undef_means w live next _))

  two_words : (a b : ℕ) (n : ℕ) (r : Results) → r.first ≡ wrapped (a + b) → Means w live next (Int (wrapped (b + a))) r.first
      → Means w live next (Int (wrapped (a + b))) r.first
  two_words a b n r e m = int_means w live next _ _ e

  -- the outcome of a sum, from what the sum means
  pub sum_outcome : (u v : OperandValue) (n x y z : ℕ) → Means w live next (sum_args w.program.kinds u v) (wrapped (x + y))
      → ResultsMean w live next (value_results w.program.kinds live Sum u v (operand.Known (Int n))) (results Sum x y z)
  unfolding value_results results
  sum_outcome (operand.Known (Int a)) (operand.Known (Int b)) n x y z m =
      (record { named = tt; shows = m.shows ∙ plus b a }, (int_means w live next _ _ refl, int_means w live next _ _ refl))
    where
      plus : (p q : ℕ) → wrapped (p + q) ≡ wrapped (q + p)
      plus p q = omega arith
  sum_outcome (operand.Known (Int a)) _ n x y z m = (m, (undef_means w live next _, undef_means w live next _))
  sum_outcome _ _ n x y z m = (m, (undef_means w live next _, undef_means w live next _))

  module _ (ok : Fits w) (laid : Laid w live next) where
    pub concrete_sums : (u v : Operand) → concrete u ≡ true → concrete v ≡ true → SumsAgree w live next u v u v
    concrete_sums u v cu cv f g h = sum_law w ok live next laid _ _ _ _ (read_law w live next f g h u cu) (read_law w live next f g h v cv)

    half_is : (h x : ℕ) → h ≡ x → h < 65536 → cast_unsigned w32 (short h) ≡ sext16 x
    half_is h x e l = short_word h l ∙ sym (sext16_is h) ∙ ap sext16 e

    again : (n : ℕ) → wrapped n ≡ wrapped (wrapped n + 0)
    again n = omega arith

    -- the base that a small-data word names
    base_law : (g : File ℕ) → (f : File Val) → FilesAgree w live next f g → (r h x : ℕ) → reaches w.layout r h x ≡ true
        → wrapped (word_read g (base r) + sext16 h) ≡ x
    base_law g f fa r h x e = first (r == 13) refl e
      where
        first : (b : Bool) → (r == 13) ≡ b
            → option_map_or (λ n. n == x) (option_map (λ n. wrapped (n + sext16 h))
            (if b then Some w.layout.r13 else if r == 2 then Some w.layout.r2 else if r == 0 then Some 0 else None)) false ≡ true
            → wrapped (word_read g (base r) + sext16 h) ≡ x
        first true q e1 =
            let z = eqb-true r 13 q in
            ap (λ n. wrapped (word_read g (base n) + sext16 h)) z ∙ ap (λ n. wrapped (n + sext16 h)) fa.bases.1 ∙ eqb-true _ x e1
        first false q e1 = second (r == 2) refl e1
          where
            second : (b : Bool) → (r == 2) ≡ b
                → option_map_or (λ n. n == x) (option_map (λ n. wrapped (n + sext16 h))
                (if b then Some w.layout.r2 else if r == 0 then Some 0 else None)) false ≡ true
                → wrapped (word_read g (base r) + sext16 h) ≡ x
            second true q e2 =
                let z = eqb-true r 2 q in
                ap (λ n. wrapped (word_read g (base n) + sext16 h)) z ∙ ap (λ n. wrapped (n + sext16 h)) fa.bases.0 ∙ eqb-true _ x e2
            second false q e2 = third (r == 0) refl e2
              where
                third : (b : Bool) → (r == 0) ≡ b
                    → option_map_or (λ n. n == x) (option_map (λ n. wrapped (n + sext16 h)) (if b then Some 0 else None)) false ≡ true
                    → wrapped (word_read g (base r) + sext16 h) ≡ x
                third true q e3 = let z = eqb-true r 0 q in ap (λ n. wrapped (word_read g (base n) + sext16 h)) z ∙ eqb-true _ x e3
                third false q e3 = cc

    -- the constant of addi, a load or a store
    pub const_sums : (c : Const) (a key t at wd : ℕ) (made : ℕ → ℤ → Machine) → is_address_constant c a ≡ true
        → agrees w.layout at (constant_form t a c made).gap wd ≡ true
        → ((r : Reference) → const_symbol c ≡ Some r → (key < length w.program.kinds) × (t ≡ w.address key))
        → SumsAgree w live next (base a) (plain (constant_of c key)) (base (found_base a c wd)) (plain (constant.Int (found_number c wd)))
    const_sums (consts.Int n) a key t at wd made v e k f g h =
        concrete_sums (base a) (Number (cast_unsigned w32 n)) (base_concrete a) refl f g h
    const_sums (consts.Lo name o) a key t at wd made v e k f g h =
        let q = k _ refl in
        let l : lo wd ≡ lo (address_plus t o) = eqb-true (lo wd) (lo (address_plus t o)) e in
        sum_law w ok live next laid _ _ _ _ (read_law w live next f g h (base a) (base_concrete a)) (
          q.0,
          half_is (lo wd) _ (l ∙ ap (λ z. lo (address_plus z o)) q.1) (omega arith),
        )
    const_sums (consts.Ha name o) a key t at wd made v e k f g h = cc
    const_sums (consts.Sda name o) a key t at wd made v e k f g h =
        let q = k _ refl in
        let z : a ≡ 0 = eqb-true a 0 v in
        let b = base_law g f h (base_field wd) (lo wd) (address_plus t o) e in
        let n : cast_unsigned w32 (half_field wd) ≡ sext16 (lo wd) = half_is (lo wd) (lo wd) refl (omega arith) in
        let x = wrapped (word_read g (base (base_field wd)) + cast_unsigned w32 (half_field wd)) in
        let y : x ≡ wrapped (address_plus (w.address key) o + 0) =
        ap (λ m. wrapped (word_read g (base (base_field wd)) + m)) n ∙ b ∙ ap (λ m. address_plus m o) q.1
        ∙ again (w.address key + cast_unsigned w32 o) in
        subst (λ m. Means w live next (sum_args w.program.kinds (value_read f (base m)) (operand.Sda key o)) x) (sym z)
        (symbol_law w ok live next laid key o 0 x q.0 y)

    spread_high : (h y : ℕ) → h < 65536 → y ≡ h → wrapped (spread h * 65536) ≡ wrapped (y * 65536)
    spread_high h y l e = omega arith

    high_word : (h y : ℕ) → h < 65536 → y ≡ h → wrapped (sext16 h * 65536) ≡ wrapped (y * 65536)
    high_word h y l e = ap (λ z. wrapped (z * 65536)) (sext16_is h) ∙ spread_high h y l e

    -- the constant of addis
    pub high_sums : (c : Const) (a key t at wd : ℕ) (made : ℕ → ℤ → Machine) → is_high_constant c ≡ true
        → agrees w.layout at (constant_form t a c made).gap wd ≡ true
        → ((r : Reference) → const_symbol c ≡ Some r → (key < length w.program.kinds) × (t ≡ w.address key))
        → SumsAgree w live next (base a) (shifted (constant_of c key)) (base (found_base a c wd))
        (shifted (constant.Int (found_number c wd)))
    high_sums (consts.Int n) a key t at wd made v e k f g h =
        concrete_sums (base a) (Number (wrapped (cast_unsigned w32 n * 65536))) (base_concrete a) refl f g h
    high_sums (consts.Ha name o) a key t at wd made v e k f g h =
        let q = k _ refl in
        let l : lo wd ≡ ha (address_plus t o) = eqb-true (lo wd) (ha (address_plus t o)) e in
        let n : wrapped (cast_unsigned w32 (half_field wd) * 65536) ≡ wrapped (ha (address_plus (w.address key) o) * 65536) =
        ap (λ m. wrapped (m * 65536)) (half_is (lo wd) (lo wd) refl (omega arith))
        ∙ high_word (lo wd) (ha (address_plus (w.address key) o)) (omega arith) (sym (l ∙ ap (λ z. ha (address_plus z o)) q.1)) in
        sum_law w ok live next laid _ _ _ _ (read_law w live next f g h (base a) (base_concrete a)) (q.0, n)
    high_sums (consts.Lo name o) a key t at wd made v e k f g h = cc
    high_sums (consts.Sda name o) a key t at wd made v e k f g h = cc
