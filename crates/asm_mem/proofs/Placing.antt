-- Where a store is aligned, and the newest block.
use Rattle.std.proofs.Common.{◌≡◌, ◌+◌, ◌%◌, ℕ, true, List, [], ◌∷◌, Option, Some, None, refl, ap}
use Rattle.std.specs.Prelude.{◌==◌, nat_le, length}
use Rattle.std.proofs.lemmas.Bool.{and_parts, eqb-true}
use Rattle.asm_mem.specs.Blocks.{Live, may_read, may_write_found, newest, forget, emptied}

-- what may be stored to is aligned
pub store_place : (k : Option Live) (w o : ℕ) → may_write_found k w o ≡ true → o % w ≡ 0
store_place None w o h = cc
store_place (Some k) w o h =
    eqb-true (o % w) 0 (and_parts (o % w == 0) (nat_le (o + w) (length k.cells)) (and_parts k.writable (may_read k w o) h).1).0

pub forget_none : (live : List Live) → newest live 0 ≡ None → forget live ≡ live
forget_none [] h = refl
forget_none (k ∷ ks) h = cc

pub forget_some : (live : List Live) (b : ℕ) → newest live 0 ≡ Some b → forget live ≡ emptied live b 4
forget_some [] b h = cc
forget_some (k ∷ ks) b h = let e : k.number ≡ b = cc in ap (λ (n : ℕ). emptied (k ∷ ks) n 4) e
