-- The alignments of keys and of variables.
use Rattle.std.specs.Prelude.{ℕ, max, List, filter, fold, Option, slice_get, option_map}
use Rattle.std.specs.Option.{option_and_then}
use Rattle.asm_syntax.specs.declared.unit.Unit.{Unit}
use Rattle.link_model.specs.declared.key.KeyKind.TheVariants as kinds
use Rattle.link_model.specs.Program.{Declaration, keys, item_alignment, key_alignment}
use Rattle.link_model.specs.Numbers.{key_of}
use Rattle.asm_program.specs.Scopes.{is_of, scoped_name}

-- the greatest of a name in its scope
abbrev pub greatest : ℕ × List ℕ → List Declaration → ℕ
greatest q ds = fold (λ a e. max a (item_alignment e.item)) 1 (filter (is_of q) ds)

-- the greatest of the declarations that are one key with d
abbrev pub alignment_in : List Declaration → Declaration → ℕ
alignment_in ds d = greatest (scoped_name d) ds

-- of the key of the variable v
abbrev pub variable_alignment : List Unit → ℕ → Option ℕ
variable_alignment units v =
    option_and_then (λ k. option_map (key_alignment units) (slice_get (keys units) k)) (key_of units (kinds.Variable v))
