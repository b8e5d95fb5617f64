-- The least number below a bound that passes a test.
use Rattle.std.proofs.Common.{◌≡◌, ℕ, zero, suc, ◌+◌, ◌<◌, ◌≤◌, ◌⊎◌, inl, inr, Bool, true, false, Option, Some, None, refl, sym, ap, ◌∙◌}
use Rattle.std.proofs.Common.{arith}
use Rattle.std.proofs.lemmas.Bool.{cases_lt, cases_eq}
use Rattle.machine_runs.specs.Traces.{least_below}

-- none below n passes
abbrev pub NoneBelow : (ℕ → Bool) → ℕ → Type 0
NoneBelow test n = (k : ℕ) → k < n → test k ≡ false

abbrev pub IsLeast : (ℕ → Bool) → ℕ → Option ℕ → Type 0
IsLeast test steps None = NoneBelow test steps
IsLeast test steps (Some n) = (n < steps) × (test n ≡ true) × NoneBelow test n

pub least_is : (test : ℕ → Bool) (steps : ℕ) → IsLeast test steps (least_below test steps)
least_is test zero = λ k h. absurd (omega arith)
least_is test (suc n) = at (least_below test n) refl (test n) refl (least_is test n)
  where
    both : (b : Bool) → test n ≡ b → NoneBelow test n → b ≡ false → NoneBelow test (suc n)
    both b e h z k l = by (cases_eq k n)
      where
        by : (k ≡ n) ⊎ (k ≡ n → ⊥) → test k ≡ false
        by (inl q) = ap test q ∙ e ∙ z
        by (inr q) = h k (omega arith)

    at : (o : Option ℕ) → least_below test n ≡ o → (b : Bool) → test n ≡ b → IsLeast test n o
        → IsLeast test (suc n) (least_below test (suc n))
    at None e true q h = rw (e, q) (omega arith, q, h)
    at None e false q h = rw (e, q) (both false q h refl)
    at (Some m) e b q h = rw e (let l = h.0 in omega arith, h.1, h.2)

not_both : {b : Bool} → b ≡ true → b ≡ false → ⊥
not_both h n = let q : true ≡ false = sym h ∙ n in cc

pub least_none : (test : ℕ → Bool) (n : ℕ) → NoneBelow test n → least_below test n ≡ None
least_none test n h = at (least_below test n) refl (least_is test n)
  where
    at : (o : Option ℕ) → least_below test n ≡ o → IsLeast test n o → least_below test n ≡ None
    at None e l = e
    at (Some m) e l = absurd (not_both l.1 (h m l.0))

pub least_some : (test : ℕ → Bool) (n steps : ℕ) → n < steps → NoneBelow test n → test n ≡ true → least_below test steps ≡ Some n
least_some test n steps lt before here = at (least_below test steps) refl (least_is test steps)
  where
    at : (o : Option ℕ) → least_below test steps ≡ o → IsLeast test steps o → least_below test steps ≡ Some n
    at None e l = absurd (not_both here (l n lt))
    at (Some m) e l = e ∙ ap Some (same (cases_lt m n) (cases_lt n m))
      where
        same : (m < n) ⊎ (n ≤ m) → (n < m) ⊎ (m ≤ n) → m ≡ n
        same (inl a) b = absurd (not_both l.1 (before m a))
        same (inr a) (inl b) = absurd (not_both here (l.2 n b))
        same (inr a) (inr b) = omega arith
