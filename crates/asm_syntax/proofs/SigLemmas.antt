-- The test for the same signature holds of equal signatures alone.
use Rattle.std.proofs.Common.{◌≡◌, Bool, true, false, Option, Some, None, refl, sym, ap, subst}
use Rattle.std.specs.Prelude.{◌&&◌, ◌==◌, IsTrue}
use Rattle.std.specs.Bool.{beq, Decides}
use Rattle.std.specs.Cmp.{first_so, second_so, unsigned_Decides, booleans_Decides}
use Rattle.std.specs.Cmp.Lexicographic.{pointwise, pointwise_decides}
use Rattle.std.specs.Option.{option_eq}
use Rattle.asm_syntax.specs.declared.unit.Width.{Width}
use Rattle.asm_syntax.specs.declared.unit.Width.TheVariants.{Word, Long}
use Rattle.asm_syntax.specs.declared.unit.Size.{Size}
use Rattle.asm_syntax.specs.declared.unit.Size.TheVariants.{Fixed, Arg}
use Rattle.asm_syntax.specs.declared.unit.Buffer.{Buffer}
use Rattle.asm_syntax.specs.declared.unit.Sig.{Sig}
use Rattle.asm_syntax.specs.Sigs.{same_width, same_size, same_buffer, same_sig}

-- a test that holds of each value and itself, and else only of equal ones
decided : {K : Type 0} (E : K → K → Bool) → ((x y : K) → E x y ≡ true → x ≡ y) → ((x : K) → E x x ≡ true) → (x y : K)
    → Decides (E x y) (x ≡ y)
decided E same own x y = (same x y, λ e. subst (λ z. E x z ≡ true) e (own x))

widths_decide : (a b : Width) → Decides (same_width a b) (a ≡ b)
widths_decide = decided same_width same own where
  same : (a b : Width) → same_width a b ≡ true → a ≡ b
  same Word Word h = refl
  same Word Long h = absurd (cc)
  same Long Word h = absurd (cc)
  same Long Long h = refl

  own : (a : Width) → same_width a a ≡ true
  own Word = refl
  own Long = refl

sizes_decide : (a b : Size) → Decides (same_size a b) (a ≡ b)
sizes_decide = decided same_size same own where
  same : (a b : Size) → same_size a b ≡ true → a ≡ b
  same (Fixed m) (Fixed n) h = ap Fixed ((unsigned_Decides m n).0 h)
  same (Fixed m) (Arg n) h = absurd (cc)
  same (Arg m) (Fixed n) h = absurd (cc)
  same (Arg m) (Arg n) h = ap Arg ((unsigned_Decides m n).0 h)

  own : (a : Size) → same_size a a ≡ true
  own (Fixed n) = (unsigned_Decides n n).1 refl
  own (Arg n) = (unsigned_Decides n n).1 refl

buffers_decide : (a b : Buffer) → Decides (same_buffer a b) (a ≡ b)
buffers_decide = decided same_buffer same own where
  same : (a b : Buffer) → same_buffer a b ≡ true → a ≡ b
  same a b h =
      let both = beq a.fills b.fills && a.arg == b.arg in
      let front = first_so both (same_size a.size b.size) h in
      let fills = (booleans_Decides a.fills b.fills).0 (first_so (beq a.fills b.fills) (a.arg == b.arg) front) in
      let arg = (unsigned_Decides a.arg b.arg).0 (second_so (beq a.fills b.fills) (a.arg == b.arg) front) in
      let size = (sizes_decide a.size b.size).0 (second_so both (same_size a.size b.size) h) in
      λ i. record { fills = fills i; arg = arg i; size = size i }

  own : (a : Buffer) → same_buffer a a ≡ true
  own a = rw ((booleans_Decides a.fills a.fills).1 refl, (unsigned_Decides a.arg a.arg).1 refl, (sizes_decide a.size a.size).1 refl) refl

results_decide : (a b : Option Width) → Decides (option_eq same_width a b) (a ≡ b)
results_decide = decided (option_eq same_width) same own where
  same : (a b : Option Width) → option_eq same_width a b ≡ true → a ≡ b
  same None None h = refl
  same None (Some y) h = absurd (cc)
  same (Some x) None h = absurd (cc)
  same (Some x) (Some y) h = ap Some ((widths_decide x y).0 h)

  own : (a : Option Width) → option_eq same_width a a ≡ true
  own None = refl
  own (Some x) = (widths_decide x x).1 refl

sigs_decide : (a b : Sig) → Decides (same_sig a b) (a ≡ b)
sigs_decide = decided same_sig same own where
  same : (a b : Sig) → same_sig a b ≡ true → a ≡ b
  same a b h =
      let args = pointwise same_width a.args b.args in
      let result = option_eq same_width a.result b.result in
      let buffers = pointwise same_buffer a.buffers b.buffers in
      let front = first_so (args && result) buffers h in
      let args_same = (pointwise_decides widths_decide a.args b.args).0 (first_so args result front) in
      let result_same = (results_decide a.result b.result).0 (second_so args result front) in
      let buffers_same = (pointwise_decides buffers_decide a.buffers b.buffers).0 (second_so (args && result) buffers h) in
      λ i. record { args = args_same i; result = result_same i; buffers = buffers_same i }

  own : (a : Sig) → same_sig a a ≡ true
  own a =
      rw (
        (pointwise_decides widths_decide a.args a.args).1 refl,
        (results_decide a.result a.result).1 refl,
        (pointwise_decides buffers_decide a.buffers a.buffers).1 refl,
      ) refl

pub sigs_equal : (a b : Sig) (t : Bool) → t ≡ same_sig a b → (IsTrue t → a ≡ b) × (a ≡ b → IsTrue t)
sigs_equal a b true h = (λ _. (sigs_decide a b).0 (sym h), λ _. refl)
sigs_equal a b false h = (λ no. absurd (cc), λ e. absurd (let yes = (sigs_decide a b).1 e in cc))
