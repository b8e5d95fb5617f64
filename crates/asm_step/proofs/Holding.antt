-- What registers hold, by their place among the arguments.
use Rattle.std.proofs.Common.{◌≡◌, ℕ, zero, suc, ◌<◌, ◌≤◌, Bool, List, [], ◌∷◌, length, slice_index_or, refl, ap, arith}
use Rattle.std.specs.List.{list_all}
use Rattle.std.specs.Prelude.{◌&&◌}
use Rattle.effect_model.specs.declared.Place.TheVariants.{Gpr}
use Rattle.effect_model.specs.Files.{File, get}
use Rattle.call_bytes.specs.Calls.{held}
use Rattle.asm_mem.specs.declared.value.Val.{Val}
use Rattle.asm_mem.specs.declared.value.Val.TheVariants.{Undef}

pub held_at : (f : File Val) (rs : List ℕ) (n d : ℕ) → n < length rs
    → get Undef f (Gpr (slice_index_or rs n d)) ≡ slice_index_or (held Undef f rs) n Undef
held_at f [] n d h = absurd (omega arith)
held_at f (r ∷ rs) zero d h = refl
held_at f (r ∷ rs) (suc n) d h = held_at f rs n d (omega arith)

pub held_past : (f : File Val) (rs : List ℕ) (n : ℕ) → length rs ≤ n → Undef ≡ slice_index_or (held Undef f rs) n Undef
held_past f [] n h = refl
held_past f (r ∷ rs) zero h = absurd (omega arith)
held_past f (r ∷ rs) (suc n) h = held_past f rs n (omega arith)

pub held_length : (f : File Val) (rs : List ℕ) → length rs ≡ length (held Undef f rs)
held_length f [] = refl
held_length f (r ∷ rs) = ap suc (held_length f rs)

pub held_all : (f : File Val) (p : Val → Bool) (rs : List ℕ) → list_all (λ r. p (get Undef f (Gpr r))) rs ≡ list_all p (held Undef f rs)
held_all f p [] = refl
held_all f p (r ∷ rs) = ap (λ (b : Bool). p (get Undef f (Gpr r)) && b) (held_all f p rs)
