-- Each operation on values stands for that on words.
use Rattle.std.proofs.Common.{◌≡◌, ℕ, ◌+◌, ◌-◌, Bool, true, false, ◌&&◌, nat_lt, List, Option, Some, None, refl, sym, ap, ap₂, ◌∙◌, subst}
use Rattle.std.proofs.Common.{arith, if◌then◌else◌}
use Rattle.std.specs.Prelude.{◌==◌, option_map, find, is_some}
use Rattle.std.proofs.lemmas.Bool.{eqb-true, and_parts}
use Rattle.isa_model.specs.Word.{wrapped}
use Rattle.effect_model.specs.declared.Op.{Op}
use Rattle.effect_model.specs.declared.Op.TheVariants.{Sum, Difference, Copy, ComparisonUnsigned}
use Rattle.effect_model.specs.declared.Results.{Results}
use Rattle.effect_model.specs.Meaning.{results, complement, three}
use Rattle.asm_mem.specs.declared.value.Val.{Val}
use Rattle.asm_mem.specs.declared.value.Val.TheVariants.{Undef, Int, Ptr, Code, Ext, Stop, Ha}
use Rattle.asm_mem.specs.Blocks.{Live, has}
use Rattle.asm_mem.specs.Comparison.{less, distance, difference_of, is_valid, reaches}
use Rattle.asm_values.specs.declared.operands.OperandValue.{OperandValue}
use Rattle.asm_values.specs.declared.operands.OperandValue.TheVariants as operand
use Rattle.asm_values.specs.declared.operands.ValueResults.{ValueResults}
use Rattle.asm_values.specs.Operands.{sum_args, value_in, word_in, word_values, only, difference_args, compare_args, address_results}
use Rattle.asm_values.specs.Operands.{on_words, value_results}
use Rattle.machine_model.specs.Worlds.{World, home}
use Rattle.machine_model.specs.Fits.{Fits}
use Rattle.machine_model.specs.Relation.{Shows, Means, Laid}
use Rattle.value_laws.specs.Laws.{OperandMeans, ResultsMean}
use Rattle.value_laws.proofs.Lookups.{home_of}
use Rattle.value_laws.proofs.ValueLaws.{undef_means, int_means, unknown, sum_law}
use Rattle.value_laws.proofs.Comparisons.{compare_law}

sum_is : (x y z : ℕ) → (results Sum x y z).first ≡ wrapped (x + y)
unfolding results
sum_is x y z = refl

copy_is : (x y z : ℕ) → (results Copy x y z).first ≡ x
unfolding results
copy_is x y z = refl

difference_is : (x y z : ℕ) → (results Difference x y z).first ≡ wrapped (complement x + y + 1)
unfolding results
difference_is x y z = refl

comparison_is : (x y z : ℕ) → results ComparisonUnsigned x y z ≡ three (nat_lt x y) (nat_lt y x) (x == y)
unfolding results
comparison_is x y z = refl

module _ (w : World) (ok : Fits w) (live : List Live) (next : ℕ) (laid : Laid w live next) where
  ptr_less : (h : Option ℕ) (o n y : ℕ) → Shows (option_map (λ a. wrapped (a + o)) h) y
      → Shows (option_map (λ a. wrapped (a + less o n)) h) (wrapped (complement n + y + 1))
  ptr_less None o n y e = tt
  ptr_less (Some a) o n y e = let c = complement n in let q : wrapped (c + wrapped (a + o) + 1) ≡ wrapped (a + wrapped (c + o + 1)) =
      omega arith in rw e q

  ext_less : (a o n y : ℕ) → y ≡ wrapped (a + o) → wrapped (complement n + y + 1) ≡ wrapped (a + less o n)
  ext_less a o n y e = let c = complement n in let q : wrapped (c + wrapped (a + o) + 1) ≡ wrapped (a + wrapped (c + o + 1)) =
      omega arith in rw e q

  apart_law : (a o p x y : ℕ) → x ≡ wrapped (a + o) → y ≡ wrapped (a + p) → wrapped (complement x + y + 1) ≡ distance o p
  apart_law a o p x y e f = omega arith

  pub difference_law : (u v : Val) (x y : ℕ) → Means w live next u x → Means w live next v y
      → Means w live next (difference_of live u v) (wrapped (complement x + y + 1))
  difference_law (Int n) (Int p) x y m k = int_means w live next _ _ (ap₂ (λ a b. wrapped (complement a + b + 1)) m.shows k.shows)
  difference_law (Int n) (Ptr b o) x y m k =
      record {
        named = k.named;
        shows =
            subst (λ z. Shows (option_map (λ a. wrapped (a + less o n)) (home w live b)) (wrapped (complement z + y + 1))) (sym m.shows)
            (ptr_less (home w live b) o n y k.shows);
      }
  difference_law (Int n) (Ext b o) x y m k =
      record { named = k.named; shows = ap (λ z. wrapped (complement z + y + 1)) m.shows ∙ ext_less (w.address b) o n y k.shows }
  difference_law (Ptr b o) (Ptr c p) x y m k = at (b == c && is_valid live b 0) refl
    where
      at : (t : Bool) → (b == c && is_valid live b 0) ≡ t
          → Means w live next (if t then Int (distance o p) else Undef) (wrapped (complement x + y + 1))
      at true h = two (find (has b) live) refl q.1
        where
          q : ((b == c) ≡ true) × (is_valid live b 0 ≡ true)
          q = and_parts (b == c) (is_valid live b 0) h

          two : (f : Option Live) → find (has b) live ≡ f → reaches f 0 ≡ true
              → Means w live next (Int (distance o p)) (wrapped (complement x + y + 1))
          two None e s = cc
          two (Some j) e s =
              let r = home_of w live b j e in
              let k' : Means w live next (Ptr b p) y = subst (λ z. Means w live next (Ptr z p) y) (sym (eqb-true b c q.0)) k in
              let e1 : x ≡ wrapped (r.0 + o) = subst (λ z. Shows (option_map (λ a. wrapped (a + o)) z) x) r.1.home_is m.shows in
              let e2 : y ≡ wrapped (r.0 + p) = subst (λ z. Shows (option_map (λ a. wrapped (a + p)) z) y) r.1.home_is k'.shows in
              int_means w live next _ _ (apart_law r.0 o p x y e1 e2)
      at false h = undef_means w live next _
  difference_law _ _ x y m k = undef_means w live next _

  differences : (u v : OperandValue) (x y : ℕ) → OperandMeans w live next u x → OperandMeans w live next v y
      → Means w live next (difference_args live u v) (wrapped (complement x + y + 1))
  differences (operand.Known u) (operand.Known v) x y m k = difference_law u v x y m k
  differences _ _ x y m k = undef_means w live next _

  comparisons : (u v : OperandValue) (x y : ℕ) → OperandMeans w live next u x → OperandMeans w live next v y
      → ResultsMean w live next (compare_args live u v) (three (nat_lt x y) (nat_lt y x) (x == y))
  comparisons (operand.Known u) (operand.Known v) x y m k = compare_law w ok live next laid u v x y m k
  comparisons _ _ x y m k = unknown w live next _

  copies : (u : OperandValue) (x : ℕ) → OperandMeans w live next u x → Means w live next (value_in u) x
  copies (operand.Known v) x m = m
  copies _ x m = undef_means w live next x

  first_law : (v : Val) (x : Results) (y : ℕ) → x.first ≡ y → Means w live next v y → ResultsMean w live next (only v) x
  first_law v x y e m = (subst (λ z. Means w live next v z) (sym e) m, (undef_means w live next _, undef_means w live next _))

  unlike_law : (op : Op) (u v : OperandValue) (x y z : ℕ) → OperandMeans w live next u x → OperandMeans w live next v y
      → ResultsMean w live next (address_results w.program.kinds live op u v) (results op x y z)
  unlike_law Sum u v x y z m k = first_law _ _ _ (sum_is x y z) (sum_law w ok live next laid u v x y m k)
  unlike_law Copy u v x y z m k = first_law _ _ _ (copy_is x y z) (copies u x m)
  unlike_law Difference u v x y z m k = first_law _ _ _ (difference_is x y z) (differences u v x y m k)
  unlike_law ComparisonUnsigned u v x y z m k =
      subst (λ r. ResultsMean w live next (compare_args live u v) r) (sym (comparison_is x y z)) (comparisons u v x y m k)
  unlike_law op u v x y z m k = unknown w live next _

  pub word_is : (u : OperandValue) (x n : ℕ) → OperandMeans w live next u x → word_in u ≡ Some n → x ≡ n
  word_is (operand.Known (Int k)) x n m e = let a = m.shows in cc
  word_is (operand.Known Undef) x n m e = cc
  word_is (operand.Known (Ptr _ _)) x n m e = cc
  word_is (operand.Known (Code _ _)) x n m e = cc
  word_is (operand.Known (Ext _ _)) x n m e = cc
  word_is (operand.Known Stop) x n m e = cc
  word_is (operand.Known (Ha _ _ _)) x n m e = cc
  word_is (operand.Lo _ _) x n m e = cc
  word_is (operand.Ha _ _) x n m e = cc
  word_is (operand.Sda _ _) x n m e = cc
  word_is operand.Undefined x n m e = cc

  words_mean : (r : Results) → ResultsMean w live next (word_values r) r
  words_mean r = (int_means w live next _ _ refl, (int_means w live next _ _ refl, int_means w live next _ _ refl))

  pub op_law : (op : Op) (u v t : OperandValue) (x y z : ℕ) → OperandMeans w live next u x → OperandMeans w live next v y
      → OperandMeans w live next t z → ResultsMean w live next (value_results w.program.kinds live op u v t) (results op x y z)
  unfolding value_results
  op_law op u v t x y z m k l = at (word_in u) (word_in v) (word_in t) refl refl refl
    where
      at : (a b c : Option ℕ) → word_in u ≡ a → word_in v ≡ b → word_in t ≡ c
          → ResultsMean w live next (on_words op (address_results w.program.kinds live op u v) a b c) (results op x y z)
      at (Some a) (Some b) (Some c) e f g = rw (word_is u x a m e, word_is v y b k f, word_is t z c l g) (words_mean (results op a b c))
      at (Some a) (Some b) None e f g = unlike_law op u v x y z m k
      at (Some a) None c e f g = unlike_law op u v x y z m k
      at None b c e f g = unlike_law op u v x y z m k
