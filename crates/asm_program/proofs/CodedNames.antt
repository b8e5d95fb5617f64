-- Names in the order of their codes and then of their bytes.
use Rattle.std.proofs.Common.{◌≡◌, ℕ, Bool, true, false, ◌&&◌, List, refl, ◌∙◌, ap, arith}
use Rattle.std.specs.Prelude.{◌==◌}
use Rattle.std.specs.Str.{bytes_eq}
use Rattle.std.specs.declared.cmp.Ordering.{Ordering}
use Rattle.std.specs.declared.cmp.Ordering.TheVariants.{Less, Equal, Greater}
use Rattle.std.specs.Cmp.{IsTotalOrder}
use Rattle.std.specs.Cmp.Lexicographic.{slice_cmp}
use Rattle.std.specs.Ordering.{nat_cmp, is_eq, ordering_then}
use Rattle.std.proofs.lemmas.Bool.{eq-eqb}
use Rattle.std.proofs.lemmas.Cmp.{nat_cmp_total, nat_list_cmp_total, on_total, then_total}
use Rattle.std.proofs.lemmas.Map.Text.{is_eq-slice_cmp}
use Rattle.std.proofs.lemmas.Slice.Eq.{bytes_eq-Decides}
use Rattle.asm_program.specs.declared.codes.CodedName.{CodedName}
use Rattle.asm_program.specs.Codes.{name_code, by_code}
use Rattle.asm_program.specs.Coded.{by_coded}

pub by_code_total : IsTotalOrder by_code
by_code_total = then_total (on_total name_code nat_cmp_total) nat_list_cmp_total

pub then_eq : (a b : Ordering) → is_eq (ordering_then a b) ≡ (is_eq a && is_eq b)
then_eq Less b = refl
then_eq Equal b = refl
then_eq Greater b = refl

pub nat_eq : (m n : ℕ) → is_eq (nat_cmp m n) ≡ (m == n)
nat_eq m n = grind arith

and_last : (a b : Bool) → (b ≡ true → a ≡ true) → (a && b) ≡ b
and_last true b h = refl
and_last false true h = let e = h refl in cc
and_last false false h = refl

pub code_is : (m n : List ℕ) → is_eq (by_code m n) ≡ bytes_eq m n
code_is m n =
    then_eq (nat_cmp (name_code m) (name_code n)) (slice_cmp nat_cmp m n)
    ∙ ((λ k. nat_eq (name_code m) (name_code n) k && is_eq-slice_cmp m n k)
    ∙ and_last (name_code m == name_code n) (bytes_eq m n)
    (λ h. eq-eqb (name_code m) (name_code n) (ap name_code ((bytes_eq-Decides m n).0 h))))

-- by the bytes alone
abbrev pub by_text : CodedName → CodedName → Ordering
by_text x y = by_code x.name.now y.name.now

pub coded_is : (x y : CodedName) → by_coded x y ≡ by_text x y
coded_is x y = λ k. ordering_then (nat_cmp (x.coded k) (y.coded k)) (slice_cmp nat_cmp x.name.now y.name.now)

-- as orders
pub text_order : by_coded ≡ by_text
text_order = λ k x y. coded_is x y k
