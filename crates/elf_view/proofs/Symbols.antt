-- One symbol more.
use Rattle.std.proofs.Common.{◌≡◌, ℕ, zero, suc, ◌+◌, ◌-◌, ◌<◌, ◌≤◌, true, false, List, [], ◌∷◌, length, get_or, Some, arith, ap, refl, ◌∙◌}
use Rattle.std.specs.Prelude.{slice_get, option_map}
use Rattle.std.proofs.lemmas.List.{length-map}
use Rattle.std.proofs.lemmas.List.FromFn.{length-map-range_with_len, get_or-map-range_with_len}
use Rattle.std.proofs.lemmas.Option.{slice_get-map, slice_get-get_or}
use Rattle.image_model.specs.Image.{Symbol, symbol_at, symbols_of}
use Rattle.image_model.specs.Names.{name_start, name_start_at}
use Rattle.ordered_tests.specs.Checks.{first_fault, each_check, from_to}
use Rattle.ordered_tests.proofs.Faults.{each_number_passes, each_number_fails}
use Rattle.image_model.specs.declared.error.ElfError.TheVariants.{NameEnd}
use Rattle.image_model.specs.SymbolTable.{symbol_count, symbol_place, symbol_places}
use Rattle.image_model.specs.Tests.{has_name, name_tests}

pub names_pass : (b : List ℕ) (i : ℕ) → i < symbol_count b → has_name b (symbol_place b i) ≡ true
    → first_fault (each_check (name_tests b) (from_to i (symbol_count b)))
    ≡ first_fault (each_check (name_tests b) (from_to (i + 1) (symbol_count b)))
names_pass b i h named = each_number_passes (name_tests b) i (symbol_count b) h (rw named)

pub names_fail : (b : List ℕ) (i : ℕ) → i < symbol_count b → has_name b (symbol_place b i) ≡ false
    → first_fault (each_check (name_tests b) (from_to i (symbol_count b))) ≡ Some (NameEnd (symbol_place b i))
names_fail b i h unnamed = each_number_fails (name_tests b) i (symbol_count b) (NameEnd (symbol_place b i)) h (rw unnamed)

pub symbol_total : (b : List ℕ) → length (symbols_of b) ≡ symbol_count b
symbol_total b =
    let e : symbol_count b - 0 ≡ symbol_count b = omega arith in
    length-map (symbol_places b) (symbol_at b) ∙ length-map-range_with_len (symbol_place b) 0 (symbol_count b - 0) ∙ e

pub symbol_get : (b : List ℕ) (i : ℕ) → i < symbol_count b → slice_get (symbols_of b) i ≡ Some (symbol_at b (symbol_place b i))
symbol_get b i h =
    let within : i < length (symbol_places b) = omega (arith, length-map-range_with_len (symbol_place b) 0 (symbol_count b - 0)) in
    let place : get_or (symbol_places b) i 0 ≡ symbol_place b i = get_or-map-range_with_len (symbol_place b) 0
    (symbol_count b - 0) i i 0 (omega arith) (omega arith) in
    slice_get-map (symbol_at b) (symbol_places b) i
    ∙ ap (option_map (symbol_at b)) (slice_get-get_or (symbol_places b) i 0 within ∙ ap Some place)

pub start_get : (b : List ℕ) (i : ℕ) → i < symbol_count b → name_start_at (symbols_of b) i ≡ name_start (symbol_at b (symbol_place b i))
start_get b i h = rw (symbol_get b i h) refl

start_past : (xs : List Symbol) (i : ℕ) → length xs ≤ i → (let none : List ℕ = [] in name_start_at xs i ≡ none)
start_past [] i h = refl
start_past (x ∷ xs) zero h = absurd (omega arith)
start_past (x ∷ xs) (suc i) h = start_past xs i (omega arith)

pub start_none : (b : List ℕ) (i : ℕ) → symbol_count b ≤ i → (let none : List ℕ = [] in name_start_at (symbols_of b) i ≡ none)
start_none b i h = start_past (symbols_of b) i (omega (arith, symbol_total b))
