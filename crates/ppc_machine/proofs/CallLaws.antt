-- The words of arguments by their registers.
use Rattle.std.proofs.Common.{◌≡◌, ℕ, zero, suc, ◌<◌, ◌≤◌, List, [], ◌∷◌, length, slice_index_or, slice_get, refl, ap, arith}
use Rattle.std.specs.Prelude.{unwrap_or}
use Rattle.effect_model.specs.declared.Place.TheVariants.{Gpr}
use Rattle.effect_model.specs.Files.{File, get}
use Rattle.call_bytes.specs.Calls.{held}

pub held_at : (f : File ℕ) (rs : List ℕ) (i d : ℕ) → i < length rs
    → slice_index_or (held 0 f rs) i 0 ≡ get 0 f (Gpr (slice_index_or rs i d))
held_at f [] i d h = absurd (omega arith)
held_at f (r ∷ rs) zero d h = refl
held_at f (r ∷ rs) (suc i) d h = held_at f rs i d (omega arith)

pub held_past : (f : File ℕ) (rs : List ℕ) (i : ℕ) → length rs ≤ i → slice_index_or (held 0 f rs) i 0 ≡ 0
held_past f [] zero h = refl
held_past f [] (suc i) h = refl
held_past f (r ∷ rs) zero h = absurd (omega arith)
held_past f (r ∷ rs) (suc i) h = held_past f rs i (omega arith)

pub length_held : (f : File ℕ) (rs : List ℕ) → length (held 0 f rs) ≡ length rs
length_held f [] = refl
length_held f (r ∷ rs) = ap suc (length_held f rs)

pub found_or : (xs : List ℕ) (i d : ℕ) → unwrap_or (slice_get xs i) d ≡ slice_index_or xs i d
found_or [] zero d = refl
found_or [] (suc i) d = refl
found_or (x ∷ xs) zero d = refl
found_or (x ∷ xs) (suc i) d = found_or xs i d
