-- Results on values stand for results on words.
use Rattle.std.proofs.Common.{◌≡◌, ℕ, zero, suc, ◌+◌, ◌*◌, ◌<◌, ◌≤◌, Bool, true, false, ◌&&◌, List, [], ◌∷◌, length, Option, Some, None}
use Rattle.std.proofs.Common.{refl, sym, ap, ap₂, ◌∙◌, subst, arith, if◌then◌else◌}
use Rattle.std.specs.Prelude.{◌==◌, ℤ, option_map, find, is_some}
use Rattle.std.proofs.lemmas.Bool.{eqb-true, and_parts}
use Rattle.std.specs.Int.{cast_unsigned, w32}
use Rattle.isa_model.specs.Word.{wrapped, sext16, ha, lo}
use Rattle.effect_model.specs.declared.Op.{Op}
use Rattle.effect_model.specs.declared.Op.TheVariants.{Sum, Difference, Copy, ComparisonUnsigned}
use Rattle.effect_model.specs.declared.Results.{Results}
use Rattle.effect_model.specs.Meaning.{results, complement}
use Rattle.asm_mem.specs.declared.value.Val.{Val}
use Rattle.asm_mem.specs.declared.value.Val.TheVariants.{Undef, Int, Ptr, Code, Ext, Stop, Ha}
use Rattle.asm_mem.specs.Values.{add_word, sum_of, same_offset}
use Rattle.asm_mem.specs.Blocks.{Live, has}
use Rattle.asm_values.specs.declared.operands.OperandValue.{OperandValue}
use Rattle.asm_values.specs.declared.operands.OperandValue.TheVariants as operand
use Rattle.link_model.specs.declared.key.KeyKind.{KeyKind}
use Rattle.link_model.specs.declared.key.KeyKind.TheVariants as kind
use Rattle.asm_values.specs.declared.operands.ValueResults.{ValueResults}
use Rattle.asm_values.specs.Operands.{kind_at, address_of, symbol_value, lo_on, ha_on, sum_args, value_in, only}
use Rattle.image_model.specs.Image.{Image}
use Rattle.asm_syntax.specs.declared.instr.Instr.{Instr}
use Rattle.code_model.specs.Fields.{address_plus}
use Rattle.code_model.specs.Addresses.{instr_address}
use Rattle.machine_model.specs.Worlds.{World, code_of, home, place_at}
use Rattle.machine_model.specs.Fits.{Fits, KeyFits}
use Rattle.machine_model.specs.Relation.{Shows, Means, Laid}
use Rattle.value_laws.specs.Laws.{OperandMeans, ResultsMean}
use Rattle.value_laws.proofs.Halves.{spread, sext16_is, halves, wrap_right}

pub start_of : (v : Image) (a : ℕ) (code : List Instr) → instr_address v a code 0 ≡ a
start_of v a [] = refl
start_of v a (x ∷ xs) = refl

pub first_place : (w : World) (f : ℕ) → place_at w f 0 ≡ w.function_at f
first_place w f = start_of w.image (w.function_at f) (code_of w.program f)

module _ (w : World) (live : List Live) (next : ℕ) where
  pub undef_means : (x : ℕ) → Means w live next Undef x
  undef_means x = record { named = tt; shows = tt }

  pub int_means : (n x : ℕ) → x ≡ n → Means w live next (Int n) x
  int_means n x e = record { named = tt; shows = e }

  pub unknown : (x : Results) → ResultsMean w live next (only Undef) x
  unknown x = (undef_means _, (undef_means _, undef_means _))

module _ (w : World) (ok : Fits w) (live : List Live) (next : ℕ) (laid : Laid w live next) where
  ptr_add : (h : Option ℕ) (o n x : ℕ) → Shows (option_map (λ a. wrapped (a + o)) h) x
      → Shows (option_map (λ a. wrapped (a + wrapped (o + n))) h) (wrapped (x + n))
  ptr_add None o n x e = tt
  ptr_add (Some a) o n x e = rw e (wrap_right a o n)

  keep_zero : (v : Val) (n x : ℕ) → x < 4294967296 → Means w live next v x
      → Means w live next (if n == 0 then v else Undef) (wrapped (x + n))
  keep_zero v n x h m = at (n == 0) refl
    where
      at : (b : Bool) → (n == 0) ≡ b → Means w live next (if b then v else Undef) (wrapped (x + n))
      at true e = let z = eqb-true n 0 e in let q : wrapped (x + n) ≡ x = omega arith in subst (λ y. Means w live next v y) (sym q) m
      at false e = undef_means w live next _

  pub code_below : (f i x : ℕ) → Means w live next (Code f i) x → x < 4294967296
  code_below f i x m = let p = ok.places f i m.named.0 m.named.1 in let b = p.below in let e = m.shows in omega arith

  pub stop_below : (x : ℕ) → Means w live next Stop x → x < 4294967296
  stop_below x m = let b : w.layout.stop + 4 ≤ 0xfffffff0 = ok.stop.most in let e = m.shows in omega arith

  pub add_word_law : (v : Val) (n x : ℕ) → Means w live next v x → Means w live next (add_word v n) (wrapped (x + n))
  add_word_law Undef n x m = undef_means w live next _
  add_word_law (Int k) n x m = int_means w live next _ _ (ap (λ y. wrapped (y + n)) m.shows)
  add_word_law (Ptr b o) n x m = record { named = m.named; shows = ptr_add (home w live b) o n x m.shows }
  add_word_law (Ext k o) n x m = record { named = m.named; shows = ap (λ y. wrapped (y + n)) m.shows ∙ wrap_right (w.address k) o n }
  add_word_law (Ha k o p) n x m =
      record { named = m.named; shows = ap (λ y. wrapped (y + n)) m.shows ∙ wrap_right (ha (address_plus (w.address k) o) * 65536) p n }
  add_word_law (Code f i) n x m = keep_zero (Code f i) n x (code_below f i x m) m
  add_word_law Stop n x m = keep_zero Stop n x (stop_below x m) m

  commute : (v : Val) (x y : ℕ) → Means w live next v (wrapped (y + x)) → Means w live next v (wrapped (x + y))
  commute v x y m = let e : wrapped (y + x) ≡ wrapped (x + y) = omega arith in subst (λ z. Means w live next v z) e m

  pub sum_of_law : (u v : Val) (x y : ℕ) → Means w live next u x → Means w live next v y → Means w live next (sum_of u v) (wrapped (x + y))
  sum_of_law (Int n) v x y m p = commute (add_word v n) x y (rw m.shows (add_word_law v n y p))
  sum_of_law u (Int n) x y m p = rw p.shows (add_word_law u n x m)
  sum_of_law _ _ x y m p = undef_means w live next _

  kind_law : (k : KeyKind) (a c n x : ℕ) → a < length w.program.kinds → (KeyFits w a k) → x ≡ wrapped (wrapped (w.address a + c) + n)
      → Means w live next (address_of a k (wrapped (c + n))) x
  kind_law (kind.Variable v) a c n x ab h e =
      let g = laid.given in
      let l = h.0 in
      record {
        named = omega arith;
        shows = rw (laid.variables_live v h.0) (e ∙ wrap_right (w.address a) c n
            ∙ ap (λ z. wrapped (z + wrapped (c + n))) (sym h.1));
      }
  kind_law (kind.External k) a c n x ab h e = record { named = ab; shows = e ∙ wrap_right (w.address a) c n }
  kind_law (kind.Function f) a c n x ab h e = at (wrapped (c + n) == 0) refl
    where
      at : (b : Bool) → (wrapped (c + n) == 0) ≡ b → Means w live next (if b then Code f 0 else Undef) x
      at true q =
          let z : wrapped (c + n) ≡ 0 = eqb-true (wrapped (c + n)) 0 q in
          let p = ok.places f 0 h.0 (omega arith) in
          let below = p.below in
          let start : place_at w f 0 ≡ w.address a = first_place w f ∙ h.1 in
          record { named = (h.0, omega arith); shows = omega arith }
      at false q = undef_means w live next x

  pub symbol_law : (k : ℕ) (o : ℤ) (n x : ℕ) → k < length w.program.kinds → x ≡ wrapped (address_plus (w.address k) o + n)
      → Means w live next (symbol_value w.program.kinds k o n) x
  symbol_law k o n x h e = kind_law (kind_at w.program.kinds k) k (cast_unsigned w32 o) n x h (ok.keys k h) e

  high_word : (p n y : ℕ) → y ≡ wrapped (p * 65536) → wrapped (n + y) ≡ wrapped (p * 65536 + n)
  high_word p n y e = omega arith

  same_moved : (a : ℕ) (o p : ℤ) → same_offset o p ≡ true → address_plus a o ≡ address_plus a p
  same_moved a o p e = ap (λ c. wrapped (a + c)) (eqb-true (cast_unsigned w32 o) (cast_unsigned w32 p) e)

  pub low_law : (u : Val) (l : ℕ) (o : ℤ) (x y : ℕ) → Means w live next u x → l < length w.program.kinds
      → y ≡ sext16 (lo (address_plus (w.address l) o)) → Means w live next (lo_on w.program.kinds u l o) (wrapped (x + y))
  low_law (Ha k p n) l o x y m h e = at (k == l) (same_offset p o) refl refl
    where
      at : (a b : Bool) → (k == l) ≡ a → same_offset p o ≡ b
          → Means w live next (if a && b then symbol_value w.program.kinds l p n else Undef) (wrapped (x + y))
      at true true q r =
          let e0 : address_plus (w.address k) p ≡ address_plus (w.address l) o =
          ap (λ z. address_plus (w.address z) p) (eqb-true k l q) ∙ same_moved (w.address l) p o r in
          let e1 = ap₂ (λ x y. wrapped (x + y)) m.shows (e ∙ sext16_is (lo (address_plus (w.address l) o))) in
          let e2 = ap (λ z. wrapped (wrapped (ha z * 65536 + n) + spread (lo (address_plus (w.address l) o)))) e0 in
          let e3 = halves (address_plus (w.address l) o) n (omega arith) in
          symbol_law l p n _ h (e1 ∙ e2 ∙ e3 ∙ ap (λ z. wrapped (z + n)) (sym (same_moved (w.address l) p o r)))
      at true false q r = undef_means w live next _
      at false b q r = undef_means w live next _
  low_law Undef l o x y m h e = undef_means w live next _
  low_law (Int n) l o x y m h e = undef_means w live next _
  low_law (Ptr _ _) l o x y m h e = undef_means w live next _
  low_law (Code _ _) l o x y m h e = undef_means w live next _
  low_law (Ext _ _) l o x y m h e = undef_means w live next _
  low_law Stop l o x y m h e = undef_means w live next _

  pub high_law : (u : Val) (k : ℕ) (o : ℤ) (x y : ℕ) → Means w live next u x → k < length w.program.kinds
      → y ≡ wrapped (ha (address_plus (w.address k) o) * 65536) → Means w live next (ha_on u k o) (wrapped (x + y))
  high_law (Int n) k o x y m h e =
      record { named = h; shows = ap (λ x. wrapped (x + y)) m.shows ∙ high_word (ha (address_plus (w.address k) o)) n y e }
  high_law _ k o x y m h e = undef_means w live next _

  pub sum_law : (u v : OperandValue) (x y : ℕ) → OperandMeans w live next u x → OperandMeans w live next v y
      → Means w live next (sum_args w.program.kinds u v) (wrapped (x + y))
  sum_law (operand.Known u) (operand.Known v) x y m p = sum_of_law u v x y m p
  sum_law (operand.Known u) (operand.Lo l o) x y m p = low_law u l o x y m p.0 p.1
  sum_law (operand.Known u) (operand.Ha l o) x y m p = high_law u l o x y m p.0 p.1
  sum_law (operand.Known u) (operand.Sda k o) x y m p = absurd p
  sum_law (operand.Known u) operand.Undefined x y m p = undef_means w live next _
  sum_law (operand.Lo _ _) v x y m p = undef_means w live next _
  sum_law (operand.Ha _ _) v x y m p = undef_means w live next _
  sum_law (operand.Sda _ _) v x y m p = undef_means w live next _
  sum_law operand.Undefined v x y m p = undef_means w live next _
