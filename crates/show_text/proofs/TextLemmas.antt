-- A text that grows by what one more element gives.
use Rattle.std.proofs.Common.{◌≡◌, ℕ, ◌+◌, List, ◌++◌, map, take, Some, zero-add, sym, ap, ◌∙◌}
use Rattle.std.specs.Prelude.{slice_get}
use Rattle.std.specs.List.{flat_map, range_with_len}
use Rattle.std.proofs.lemmas.List.{flat_map_more}
use Rattle.std.proofs.lemmas.List.FromFn.{map-range_with_len_more}
use Rattle.elf_view.proofs.ByAddressLemmas.{take_one}

pub one_more : {X : Type 0} (f : X → List ℕ) (head now : List ℕ) (xs : List X) (i : ℕ) (x : X) → slice_get xs i ≡ Some x
    → now ≡ head ++ flat_map f (take i xs) → now ++ f x ≡ head ++ flat_map f (take (i + 1) xs)
one_more f head now xs i x here so_far =
    ap (λ t. t ++ f x) so_far ∙ flat_map_more f head (take i xs) x
    ∙ ap (λ ys. head ++ flat_map f ys) (sym (take_one xs i x here))

pub one_more_number : (f : ℕ → List ℕ) (g : ℕ → ℕ) (head now : List ℕ) (k at : ℕ) → at ≡ g k
    → now ≡ head ++ flat_map f (map g (range_with_len 0 k)) → now ++ f at ≡ head ++ flat_map f (map g (range_with_len 0 (k + 1)))
one_more_number f g head now k at here so_far =
    ap (λ a. now ++ f a) here ∙ ap (λ t. t ++ f (g k)) so_far ∙ flat_map_more f head (map g (range_with_len 0 k)) (g k)
    ∙ ap (λ ys. head ++ flat_map f ys) (sym (map-range_with_len_more g 0 k k (zero-add k)))
