-- The bytes of the lists that a call reads.
use Rattle.std.proofs.Common.{◌≡◌, ℕ, zero, suc, ◌+◌, List, [], ◌∷◌, length, drop, Some, refl, ap, sym, ◌∙◌, arith}
use Rattle.std.specs.Prelude.{slice_get}
use Rattle.call_bytes.specs.CallLists.{bytes_in}

-- the list that comes next is in front of those behind it
pub bytes_next : (lists : List (List ℕ)) (i : ℕ) (list : List ℕ) → slice_get lists i ≡ Some list
    → bytes_in (drop i lists) ≡ length list + bytes_in (drop (i + 1) lists)
bytes_next [] i list h = absurd (cc)
bytes_next (x ∷ xs) zero list h = let same : x ≡ list = cc in ap (λ y. length y + bytes_in xs) same
bytes_next (x ∷ xs) (suc i) list h =
    let e : suc i + 1 ≡ suc (i + 1) = omega arith in
    bytes_next xs i list h ∙ sym (ap (λ j. length list + bytes_in (drop j (x ∷ xs))) e)

pub bytes_end : (lists : List (List ℕ)) → bytes_in (drop (length lists) lists) ≡ 0
bytes_end [] = refl
bytes_end (x ∷ xs) = bytes_end xs
