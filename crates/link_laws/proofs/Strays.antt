-- The pass over all addresses fails exactly where a loaded address is stray, and first at the lowest.
use Rattle.std.proofs.Common.{◌≡◌, ℕ, zero, suc, ◌-◌, ◌^◌, ◌<◌, inl, inr, Bool, true, false, not, List, [], ◌∷◌, Some, None, refl, sym}
use Rattle.std.proofs.Common.{◌∙◌, ap, subst, arith}
use Rattle.std.specs.Prelude.{Option, option_map, unwrap_or}
use Rattle.std.specs.Option.{option_map_or}
use Rattle.std.proofs.lemmas.Bool.{cases_eq, cases_lt, not-true}
use Rattle.ordered_tests.specs.Checks.{check, first_fault}
use Rattle.ordered_tests.proofs.Faults.{first_fault_after, first_fault_before, front_passes, rest_passes, head_passes}
use Rattle.image_model.specs.Image.{Image, Segment}
use Rattle.image_model.specs.Loaded.{byte_at, segment_byte}
use Rattle.image_model.specs.Segments.{IsLoadable}
use Rattle.image_model.proofs.Holders.{high_segment}
use Rattle.layout_model.specs.Layouts.{Layout}
use Rattle.asm_syntax.specs.declared.rule.Rule.TheVariants as rules
use Rattle.code_model.specs.WordChecks.{spot}
use Rattle.link_model.specs.declared.fault.Fault.{Fault}
use Rattle.link_model.specs.Claims.{Claim}
use Rattle.link_model.specs.Kinds.{Kind, Claimed, Foreign, Padding, Stray, kind_of_byte, kind_at, NoneStray}
use Rattle.link_model.specs.Account.{same_kind}
use Rattle.link_model.specs.Passes.{nowhere, is_stray, stray_check, stray_checks, stray_pass}
use Rattle.link_laws.specs.Laws.{NoFault, IsLowestStray}

-- ---- the test of an address

stray_kind : (o : Option Kind) → option_map_or (same_kind Stray) o false ≡ true → o ≡ Some Stray
stray_kind None h = absurd (cc)
stray_kind (Some (Claimed j)) h = absurd (cc)
stray_kind (Some Foreign) h = absurd (cc)
stray_kind (Some Padding) h = absurd (cc)
stray_kind (Some Stray) h = refl

kind_stray : (o : Option Kind) → o ≡ Some Stray → option_map_or (same_kind Stray) o false ≡ true
kind_stray o e = rw e refl

-- no address below n is stray
abbrev NoneBelow : Image → Layout → List Claim → ℕ → Type 0
NoneBelow v l cs n = (a : ℕ) → a < n → kind_at v l cs a ≡ Some Stray → ⊥

passes_if : (b : Bool) (f : Fault) → (b ≡ true → ⊥) → NoFault (first_fault (check (not b) f ∷ []))
passes_if true f h = absurd (h refl)
passes_if false f h = refl

fails_if : (b : Bool) (f : Fault) → b ≡ true → first_fault (check (not b) f ∷ []) ≡ Some f
fails_if b f h = rw h refl

-- ---- the addresses below n

pub none_first : (v : Image) (l : Layout) (cs : List Claim) (n : ℕ) → NoneBelow v l cs n → NoFault (first_fault (stray_checks v l cs n))
unfolding stray_checks
none_first v l cs zero h = refl
none_first v l cs (suc n) h =
    first_fault_after (stray_checks v l cs n) (stray_check v l cs n ∷ []) (none_first v l cs n (λ a lt e. h a (omega arith) e))
    ∙ passes_if (is_stray v l cs n) _ (λ t. h n (omega arith) (stray_kind (kind_at v l cs n) t))

first_none : (v : Image) (l : Layout) (cs : List Claim) (n : ℕ) → NoFault (first_fault (stray_checks v l cs n)) → NoneBelow v l cs n
unfolding stray_checks
first_none v l cs zero h a lt e = absurd (omega arith)
first_none v l cs (suc n) h a lt e = elim (cases_eq a n) [
  | inl q ↦ (
      let here = not-true (is_stray v l cs n) (head_passes (stray_check v l cs n) [] (rest_passes (stray_checks v l cs n) _ h)) in
      let stray = kind_stray (kind_at v l cs n) (subst (λ b. kind_at v l cs b ≡ Some Stray) q e) in absurd (cc))
  | inr q ↦ first_none v l cs n (front_passes (stray_checks v l cs n) _ h) a (omega arith) e
]

abbrev stray_fault : ℕ → ℕ → Fault
stray_fault a byte = nowhere (spot rules.Stray a 0 0 byte)

pub lowest_first : (v : Image) (l : Layout) (cs : List Claim) (n a byte : ℕ) → IsLowestStray v l cs a byte → a < n →
    first_fault (stray_checks v l cs n) ≡ Some (stray_fault a byte)
unfolding stray_checks
lowest_first v l cs zero a byte s lt = absurd (omega arith)
lowest_first v l cs (suc n) a byte s lt = elim (cases_eq n a) [
  | inl q ↦ (
      let low : NoneBelow v l cs n = λ b below e. s.lower b (omega arith) e in
      let stray = kind_stray (kind_at v l cs n) (subst (λ b. kind_at v l cs b ≡ Some Stray) (sym q) s.stray) in
      let here : unwrap_or (byte_at v n) 0 ≡ byte = ap (λ b. unwrap_or (byte_at v b) 0) q ∙ ap (λ o. unwrap_or o 0) s.loaded in
      first_fault_after (stray_checks v l cs n) (stray_check v l cs n ∷ []) (none_first v l cs n low)
      ∙ fails_if (is_stray v l cs n) _ stray ∙ ap (λ f. Some f) (ap (stray_fault n) here ∙ ap (λ b. stray_fault b byte) q))
  | inr q ↦ first_fault_before (stray_checks v l cs n) (stray_check v l cs n ∷ []) (stray_fault a byte)
      (lowest_first v l cs n a byte s (omega arith))
]

-- ---- all addresses

-- what has a kind is loaded
pub some_byte : (v : Image) (l : Layout) (cs : List Claim) (a : ℕ) (kind : Kind) → kind_at v l cs a ≡ Some kind →
    (byte : ℕ) × (byte_at v a ≡ Some byte)
unfolding kind_at
some_byte v l cs a kind h = at (byte_at v a) refl h
  where
    at : (o : Option ℕ) → byte_at v a ≡ o → option_map (kind_of_byte v l cs a) o ≡ Some kind → (byte : ℕ) × (byte_at v a ≡ Some byte)
    at None e q = absurd (cc)
    at (Some b) e q = (b, e)

-- what is loaded lies below 2 ^ 32
loaded_below : (v : Image) (a byte : ℕ) → IsLoadable v → byte_at v a ≡ Some byte → a < 2 ^ 32
loaded_below v a byte k h = elim (cases_lt a (2 ^ 32)) [
  | inl lt ↦ lt
  | inr le ↦ (
      let none = high_segment v a k le in
      let gone : Some byte ≡ None = sym h ∙ ap (λ o. option_map (λ (s : Segment). segment_byte s (a - s.vaddr)) o) none in absurd (cc))
]

pub no_strays : (v : Image) (l : Layout) (cs : List Claim) → IsLoadable v → NoFault (first_fault (stray_pass v l cs)) → NoneStray v l cs
unfolding stray_pass
no_strays v l cs k h a e =
    let b = some_byte v l cs a Stray e in first_none v l cs (2 ^ 32) h a (loaded_below v a b.0 k b.1) e

pub strays_pass : (v : Image) (l : Layout) (cs : List Claim) → NoneStray v l cs → NoFault (first_fault (stray_pass v l cs))
unfolding stray_pass
strays_pass v l cs h = none_first v l cs (2 ^ 32) (λ a lt e. h a e)

pub lowest_stray : (v : Image) (l : Layout) (cs : List Claim) (a byte : ℕ) → IsLoadable v → IsLowestStray v l cs a byte →
    first_fault (stray_pass v l cs) ≡ Some (stray_fault a byte)
unfolding stray_pass
lowest_stray v l cs a byte k s = lowest_first v l cs (2 ^ 32) a byte s (loaded_below v a byte k s.loaded)
