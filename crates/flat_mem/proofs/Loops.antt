-- One address more of a run of addresses.
use Rattle.std.proofs.Common.{◌≡◌, ℕ, zero, suc, ◌+◌, ◌-◌, ◌<◌, ◌≤◌, Bool, true, refl, arith}
use Rattle.std.specs.Prelude.{◌&&◌}
use Rattle.isa_model.specs.Word.{wrapped}
use Rattle.flat_mem.specs.Memory.{each_from}

pub each_more : (p : ℕ → Bool) (n i a : ℕ) → i < n → each_from p (n - i) a ≡ (p a && each_from p (n - (i + 1)) (wrapped (a + 1)))
each_more p n i a lt = let e : n - i ≡ suc (n - (i + 1)) = omega arith in rw e refl

pub each_end : (p : ℕ → Bool) (n i a : ℕ) → n ≤ i → each_from p (n - i) a ≡ true
each_end p n i a le = let e : n - i ≡ zero = omega arith in rw e refl
