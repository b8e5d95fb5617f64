-- A variable has as many bytes as its size says.
use Rattle.std.proofs.Common.{◌≡◌, ℕ, zero, suc, ◌+◌, ◌<◌, List, [], ◌∷◌, ◌++◌, length, replicate, Some, refl, arith}
use Rattle.std.specs.Prelude.{slice_get, flat_map, fold}
use Rattle.asm_syntax.specs.declared.unit.Init.{Init}
use Rattle.asm_syntax.specs.declared.unit.Init.TheVariants as inits
use Rattle.asm_syntax.specs.declared.unit.Variable.{Variable}
use Rattle.asm_syntax.specs.Sizes.{init_size, variable_size}
use Rattle.code_model.specs.Variables.{init_bytes, data_bytes}
use Rattle.link_laws.proofs.Items.{some_item}

append_length : {X : Type 0} (xs ys : List X) → length (xs ++ ys) ≡ length xs + length ys
append_length [] ys = omega arith
append_length (x ∷ xs) ys = let h = append_length xs ys in omega arith

zeros_length : (n : ℕ) → length {A = ℕ} (replicate n 0) ≡ n
zeros_length zero = refl
zeros_length (suc n) = let h = zeros_length n in omega arith

init_length : (symbol_at : List ℕ → ℕ) (x : Init) → length (init_bytes symbol_at x) ≡ init_size x
init_length symbol_at (inits.Int8 n) = refl
init_length symbol_at (inits.Int16 n) = refl
init_length symbol_at (inits.Int32 n) = refl
init_length symbol_at (inits.Bytes bytes) = refl
init_length symbol_at (inits.Space n) = zeros_length n
init_length symbol_at (inits.Addr name o) = refl

sum_from : (xs : List Init) (n : ℕ) → fold (λ a x. a + init_size x) n xs ≡ n + variable_size xs
sum_from [] n = omega arith
sum_from (x ∷ xs) n = let a = sum_from xs (n + init_size x) in let b = sum_from xs (0 + init_size x) in omega arith

items_length : (symbol_at : List ℕ → ℕ) (xs : List Init) → length (flat_map (init_bytes symbol_at) xs) ≡ variable_size xs
items_length symbol_at [] = refl
items_length symbol_at (x ∷ xs) =
    let a = append_length (init_bytes symbol_at x) (flat_map (init_bytes symbol_at) xs) in
    let b = init_length symbol_at x in
    let c = items_length symbol_at xs in
    let d = sum_from xs (0 + init_size x) in omega (arith, a, b, c, d)

-- the byte at an offset below the size
pub byte_of : (symbol_at : List ℕ → ℕ) (x : Variable) (o : ℕ) → o < variable_size x.init →
    (byte : ℕ) × (slice_get (data_bytes symbol_at x) o ≡ Some byte)
byte_of symbol_at x o lt = let size = items_length symbol_at x.init in some_item (data_bytes symbol_at x) o (omega arith)
