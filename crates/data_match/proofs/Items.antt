-- The first fault of the items of a variable, from the front.
use Rattle.std.proofs.Common.{◌≡◌, ℕ, zero, suc, ◌+◌, ◌<◌, ◌≤◌, List, [], ◌∷◌, ◌++◌, length, get_or, drop, replicate, Option, Some, None}
use Rattle.std.proofs.Common.{refl, sym, ◌∙◌, arith}
use Rattle.std.specs.Prelude.{fold}
use Rattle.std.specs.List.{flat_map}
use Rattle.std.proofs.lemmas.List.{drop_more}
use Rattle.image_model.specs.Image.{Image}
use Rattle.asm_syntax.specs.declared.unit.Init.{Init}
use Rattle.asm_syntax.specs.declared.unit.Init.TheVariants as inits
use Rattle.asm_syntax.specs.Sizes.{init_size, variable_size}
use Rattle.code_model.specs.declared.spot.Spot.{Spot}
use Rattle.code_model.specs.Variables.{init_bytes}
use Rattle.data_match.specs.Stretches.{bytes_fault}
use Rattle.data_match.proofs.Stretches.{bytes_append, no_bytes, no_more}

-- ---- sizes

zeros_length : (n : ℕ) → length {A = ℕ} (replicate n 0) ≡ n
zeros_length zero = refl
zeros_length (suc n) = let h = zeros_length n in omega arith

init_length : (f : List ℕ → ℕ) (x : Init) → length (init_bytes f x) ≡ init_size x
init_length f (inits.Int8 n) = refl
init_length f (inits.Int16 n) = refl
init_length f (inits.Int32 n) = refl
init_length f (inits.Bytes bytes) = refl
init_length f (inits.Space n) = zeros_length n
init_length f (inits.Addr name o) = refl

sum_from : (xs : List Init) (n : ℕ) → fold (λ a x. a + init_size x) n xs ≡ n + variable_size xs
sum_from [] n = omega arith
sum_from (x ∷ xs) n = let a = sum_from xs (n + init_size x) in let b = sum_from xs (0 + init_size x) in omega arith

pub size_more : (xs : List Init) (i : ℕ) (x : Init) → i < length xs → x ≡ get_or xs i x →
    variable_size (drop i xs) ≡ init_size x + variable_size (drop (i + 1) xs)
size_more xs i x lt is =
    let h = sum_from (drop (i + 1) xs) (0 + init_size x) in rw (drop_more xs i x lt, ← is) (omega (arith, h))

-- ---- faults

front : (v : Image) (f : List ℕ → ℕ) (a o i : ℕ) (xs : List Init) (x : Init) → i < length xs → x ≡ get_or xs i x →
    bytes_fault v a o (flat_map (init_bytes f) (drop i xs))
    ≡ bytes_fault v a o (init_bytes f x ++ flat_map (init_bytes f) (drop (i + 1) xs))
front v f a o i xs x lt is = rw (drop_more xs i x lt, ← is) refl

pub items_fail : (v : Image) (f : List ℕ → ℕ) (a o i : ℕ) (xs : List Init) (x : Init) (s : Spot) → i < length xs → x ≡ get_or xs i x →
    bytes_fault v a o (init_bytes f x) ≡ Some s → bytes_fault v a o (flat_map (init_bytes f) (drop i xs)) ≡ Some s
items_fail v f a o i xs x s lt is h =
    front v f a o i xs x lt is ∙ bytes_append v a o (init_bytes f x) (flat_map (init_bytes f) (drop (i + 1) xs)) ∙ rw h refl

pub items_pass : (v : Image) (f : List ℕ → ℕ) (a o i n : ℕ) (xs : List Init) (x : Init) → i < length xs → x ≡ get_or xs i x →
    n ≡ init_size x → (let none : Option Spot = None in bytes_fault v a o (init_bytes f x) ≡ none) →
    bytes_fault v a (o + n) (flat_map (init_bytes f) (drop (i + 1) xs)) ≡ bytes_fault v a o (flat_map (init_bytes f) (drop i xs))
items_pass v f a o i n xs x lt is size h =
    let e : length (init_bytes f x) ≡ n = init_length f x ∙ sym size in
    sym (front v f a o i xs x lt is ∙ bytes_append v a o (init_bytes f x) (flat_map (init_bytes f) (drop (i + 1) xs)) ∙ rw (h, e) refl)

pub items_end : (v : Image) (f : List ℕ → ℕ) (a o i : ℕ) (xs : List Init) → length xs ≤ i →
    (let none : Option Spot = None in bytes_fault v a o (flat_map (init_bytes f) (drop i xs)) ≡ none)
items_end v f a o i xs h = rw (no_more xs i h) (no_bytes v a o)
