-- A block more.
use Rattle.std.proofs.Common.{◌≡◌, ℕ, ◌+◌, ◌<◌, ◌≤◌, List, [], ◌∷◌, ◌++◌, reverse, arith}
use Rattle.std.proofs.lemmas.List.{reverse-append}
use Rattle.asm_mem.specs.Blocks.{Live}
use Rattle.asm_mem.specs.Order.{Above, Below, Rising, AreBlocks}

pub reverse_push : (ks : List Live) (k : Live) → reverse (ks ++ k ∷ []) ≡ k ∷ reverse ks
reverse_push ks k = reverse-append ks (k ∷ [])

below_push : (ks : List Live) (k : Live) (n m : ℕ) → Below n ks → n ≤ m → k.number < m → Below m (ks ++ k ∷ [])
below_push [] k n m b l h = (h, tt)
below_push (j ∷ ks) k n m b l h = (omega (arith, b.0), below_push ks k n m b.1 l h)

above_push : (ks : List Live) (k : Live) (n : ℕ) → Above n ks → n < k.number → Above n (ks ++ k ∷ [])
above_push [] k n a h = (h, tt)
above_push (j ∷ ks) k n a h = (a.0, above_push ks k n a.1 h)

rising_push : (ks : List Live) (k : Live) (n : ℕ) → Rising ks → Below n ks → n ≤ k.number → Rising (ks ++ k ∷ [])
rising_push [] k n r b h = (tt, tt)
rising_push (j ∷ ks) k n r b h =
    (above_push ks k j.number r.0 (omega (arith, b.0)), rising_push ks k n r.1 b.1 h)

pub pushed_blocks : (ks : List Live) (k : Live) (n : ℕ) → AreBlocks ks n → k.number ≡ n → AreBlocks (ks ++ k ∷ []) (n + 1)
pushed_blocks ks k n a e = record {
  rising = rising_push ks k n a.rising a.below (omega arith);
  below = below_push ks k n (n + 1) a.below (omega arith) (omega arith);
}
