-- What the tables of a program hold, by its declarations and its keys.
use Rattle.std.specs.Prelude.{◌≡◌, ℕ, Bool, ◌&&◌, List, map, slice_get, is_some}
use Rattle.std.specs.List.{list_any, flat_map}
use Rattle.std.specs.Map.{lookup}
use Rattle.link_model.specs.Program.{Declaration, name_of, is_external}
use Rattle.link_model.specs.Numbers.{is_function, is_variable, item_functions, item_variables, item_externals}
use Rattle.asm_program.specs.Scopes.{is_same}
use Rattle.linked_program.specs.declared.tables.Tables.{Tables}
use Rattle.linked_program.specs.Alignments.{alignment_in}
use Rattle.linked_program.specs.Kinds.{function_of, variable_of, external_of, function_key, variable_key, external_key, key_numbers}
use Rattle.linked_program.specs.Kinds.{kind_in}

-- an external with this unit and this name
abbrev pub is_external_of : ℕ × List ℕ → Declaration → Bool
is_external_of q d = is_external d.item && is_same q (d.unit, name_of d)

pub record AreTables (ds ks : List Declaration) (t : Tables) : Type 0 where
  pub kinds : (k : ℕ) → slice_get t.kinds.items k ≡ kind_in ks k
  pub functions : map function_of t.functions.items ≡ flat_map (λ (d : Declaration). item_functions d.item) ks
  pub function_keys : map function_key t.functions.items ≡ key_numbers is_function ks
  pub variables : map variable_of t.variables.items ≡ flat_map (λ (d : Declaration). item_variables d.item) ks
  pub variable_keys : map variable_key t.variables.items ≡ key_numbers is_variable ks
  pub externals : map external_of t.externals.items ≡ flat_map (λ (d : Declaration). item_externals d.item) ks
  pub external_keys : map external_key t.externals.items ≡ key_numbers is_external ks
  pub alignments : t.alignments.items ≡ map (alignment_in ds) ks
  pub declared : (q : ℕ × List ℕ) → is_some (lookup (is_same q) t.declared) ≡ list_any (is_external_of q) ds
