-- The open addresses after one more use, and the candidates that they leave.
use Rattle.std.proofs.Common.{◌≡◌, length, get_or, set, ℕ, suc, ◌<◌, ◌%◌, ◌^◌, inl, inr, Bool, true, false, ◌&&◌, List, [], ◌∷◌, ◌++◌}
use Rattle.std.proofs.Common.{Option, Some, None, refl, sym, ◌∙◌, ap, arith}
use Rattle.std.specs.Prelude.{filter, ◌==◌, All}
use Rattle.std.specs.List.{list_all}
use Rattle.std.specs.Option.{option_map_or}
use Rattle.std.proofs.lemmas.Bool.{cases_Bool, cases_eq, eq-eqb}
use Rattle.std.proofs.lemmas.Bool.Decides.{nat_tests}
use Rattle.std.proofs.lemmas.List.{get_or-set_same, get_or-set_other, length-set}
use Rattle.std.proofs.lemmas.List.Folds.{list_all-append}
use Rattle.code_model.specs.declared.gap.Gap.{Gap}
use Rattle.code_model.specs.declared.gap.Gap.TheVariants.{Closed, Half, SmallData, Near, Far, Free}
use Rattle.code_model.specs.Forms.{plain_form}
use Rattle.code_model.specs.Spelling as spelling
use Rattle.asm_syntax.specs.declared.instr.Plain.{Plain}
use Rattle.layout_model.specs.Layouts.{Layout}
use Rattle.link_model.specs.Uses.{Use, agrees, uses_of, refers_to, FromInstr}
use Rattle.link_model.specs.Binding.{fitting_addresses}
use Rattle.symbol_bind.specs.declared.address_set.AddressSet.{AddressSet}
use Rattle.symbol_bind.specs.AddressSets.{contains}
use Rattle.symbol_bind.specs.Open.{AreOpen, IsOpen}

-- a branch leads from an address as it does from the address on the cycle
gap_wraps : (l : Layout) (at w : ℕ) (gap : Gap) → spelling.agrees l at gap w ≡ spelling.agrees l (at % 2 ^ 32) gap w
gap_wraps l at w Closed = refl
gap_wraps l at w (Half h) = refl
gap_wraps l at w (SmallData a) = refl
gap_wraps l at w (Near t) = ap (λ a. a == t % 2 ^ 32) (omega arith)
gap_wraps l at w (Far t) = ap (λ a. a == t % 2 ^ 32) (omega arith)
gap_wraps l at w Free = refl

pub place_wraps : (l : Layout) (t at w : ℕ) (plain : Plain)
    → refers_to l t at (FromInstr plain) w ≡ refers_to l t (at % 2 ^ 32) (FromInstr plain) w
place_wraps l t at w plain = gap_wraps l at w (plain_form t plain).gap

abbrev is_use_of : ℕ → Use → Bool
is_use_of k u = option_map_or (λ j. j == k) u.key false

uses_append : (k : ℕ) (us vs : List Use) → uses_of k (us ++ vs) ≡ uses_of k us ++ uses_of k vs
uses_append k [] vs = refl
uses_append k (u ∷ us) vs = elim (cases_Bool (is_use_of k u)) [
  | inl t ↦ rw t (ap (λ (xs : List Use). u ∷ xs) (uses_append k us vs))
  | inr f ↦ rw f (uses_append k us vs)
]

and_true : (a b : Bool) → (a && (b && true)) ≡ (a && b)
and_true true true = refl
and_true true false = refl
and_true false b = refl

nil_behind : (xs : List Use) → xs ++ [] ≡ xs
nil_behind [] = refl
nil_behind (x ∷ xs) = ap (λ (ys : List Use). x ∷ ys) (nil_behind xs)

uses_snoc : (k : ℕ) (us : List Use) (u : Use) → is_use_of k u ≡ true → uses_of k (us ++ u ∷ []) ≡ uses_of k us ++ u ∷ []
uses_snoc k us u h = uses_append k us (u ∷ []) ∙ rw h refl

uses_same : (k : ℕ) (us : List Use) (u : Use) → is_use_of k u ≡ false → uses_of k (us ++ u ∷ []) ≡ uses_of k us
uses_same k us u h = uses_append k us (u ∷ []) ∙ rw h (nil_behind (uses_of k us))

-- a use of the key narrows
pub use_more : (l : Layout) (k t : ℕ) (us : List Use) (u : Use) → is_use_of k u ≡ true
    → list_all (agrees l t) (uses_of k (us ++ u ∷ [])) ≡ (list_all (agrees l t) (uses_of k us) && agrees l t u)
use_more l k t us u h =
    ap (list_all (agrees l t)) (uses_snoc k us u h)
    ∙ (list_all-append (agrees l t) (uses_of k us) (u ∷ []) ∙ and_true (list_all (agrees l t) (uses_of k us)) (agrees l t u))

-- a use of another key changes nothing
pub use_other : (l : Layout) (k t : ℕ) (us : List Use) (u : Use) → is_use_of k u ≡ false
    → list_all (agrees l t) (uses_of k (us ++ u ∷ [])) ≡ list_all (agrees l t) (uses_of k us)
use_other l k t us u h = ap (list_all (agrees l t)) (uses_same k us u h)

-- the candidates that fit are those that the set contains
pub fitting_is_open : (l : Layout) (uses : List Use) (k : ℕ) (c : AddressSet) (ts : List ℕ) → All (λ t. t < 2 ^ 32) ts
    → IsOpen l uses k c → filter (contains c) ts ≡ fitting_addresses l uses k ts
fitting_is_open l uses k c [] e h = refl
fitting_is_open l uses k c (t ∷ ts) e h =
    elim (cases_Bool (list_all (agrees l t) (uses_of k uses))) [
      | inl y ↦ (let q : contains c t ≡ true = h t (e 0 t (omega arith)) ∙ y in
          rw (q, y) (ap (λ (xs : List ℕ). t ∷ xs) (fitting_is_open l uses k c ts (λ i d lt. e (suc i) d (omega arith)) h)))
      | inr n ↦ (let q : contains c t ≡ false = h t (e 0 t (omega arith)) ∙ n in
          rw (q, n) (fitting_is_open l uses k c ts (λ i d lt. e (suc i) d (omega arith)) h))
    ]

other_key : (j k : ℕ) → (j ≡ k → ⊥) → (j == k) ≡ false
other_key j k ne = grind (arith, nat_tests)

-- one key's set is narrower by a use of it
pub open_more : (l : Layout) (us : List Use) (u : Use) (cs : List AddressSet) (k : ℕ) (o c : AddressSet) → u.key ≡ Some k → k < length cs
    → ((t : ℕ) → t < 2 ^ 32 → contains c t ≡ (contains (get_or cs k o) t && agrees l t u)) → AreOpen l us cs
    → AreOpen l (us ++ u ∷ []) (set cs k c)
open_more l us u cs k o c is lt narrow old j d low t fits = elim (cases_eq j k) [
  | inl e ↦ (
      let yes_use : is_use_of j u ≡ true = rw is (eq-eqb k j (sym e)) in
      let here : get_or (set cs k c) j d ≡ c = rw e (get_or-set_same cs k c d lt) in
      let was : contains (get_or cs k o) t ≡ list_all (agrees l t) (uses_of j us) = rw e (old k o lt t fits) in
      rw here (narrow t fits ∙ (ap (λ b. b && agrees l t u) was ∙ sym (use_more l j t us u yes_use)))
      )
  | inr ne ↦ (
      let no_use : is_use_of j u ≡ false = rw is (other_key k j (λ e. ne (sym e))) in
      let size : length (set cs k c) ≡ length cs = length-set cs k c in
      rw (get_or-set_other cs k j c d ne) (old j d (omega arith) t fits ∙ sym (use_other l j t us u no_use))
      )
]

-- a use of no key that has a set
pub open_kept : (l : Layout) (us : List Use) (u : Use) (cs : List AddressSet) → ((k : ℕ) → u.key ≡ Some k → k < length cs → ⊥)
    → AreOpen l us cs → AreOpen l (us ++ u ∷ []) cs
open_kept l us u cs none old j d low t fits = old j d low t fits ∙ sym (use_other l j t us u (at u.key refl))
  where
    at : (o : Option ℕ) → u.key ≡ o → option_map_or (λ i. i == j) o false ≡ false
    at None e = refl
    at (Some k) e = elim (cases_eq k j) [
      | inl q ↦ absurd (none k e (rw q low))
      | inr ne ↦ other_key k j ne
    ]
