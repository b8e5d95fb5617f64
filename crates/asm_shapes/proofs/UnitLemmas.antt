-- What holds of the functions of a unit that fits.
use Rattle.std.proofs.Common.{◌≡◌, true, List, [], ◌∷◌}
use Rattle.std.specs.Prelude.{◌&&◌, nat_le, length}
use Rattle.std.specs.List.{list_all}
use Rattle.std.proofs.lemmas.Bool.{and_parts}
use Rattle.ordered_tests.specs.Lists.{EachOf}
use Rattle.asm_syntax.specs.declared.instr.Function.{Function}
use Rattle.asm_syntax.specs.declared.unit.Unit.{Unit}
use Rattle.limits.specs.declared.TheConstants.{MOST_INSTRUCTIONS}
use Rattle.asm_shapes.specs.Shapes.{HasShape, is_valid_code}
use Rattle.asm_shapes.specs.Units.{are_distinct, counts_fit, external_fits, function_fits, table_fits, unit_fits, unit_names, variable_fits}
use Rattle.asm_shapes.proofs.ShapeLemmas.{valid_shape}

abbrev has_shape : Function → Type 0
has_shape f = HasShape f.code

shapes : (fs : List Function) → list_all function_fits fs ≡ true → EachOf has_shape fs
shapes [] h = tt
shapes (f ∷ fs) h =
    let both = and_parts (function_fits f) (list_all function_fits fs) h in
    let parts = and_parts (nat_le (length f.code) MOST_INSTRUCTIONS && list_all table_fits f.code) (is_valid_code f.code) both.0 in
    (valid_shape f.code parts.1, shapes fs both.1)

pub unit_shapes : (u : Unit) → unit_fits u ≡ true → EachOf (λ f. HasShape f.code) u.functions
unit_shapes u h =
    let names = counts_fit u && are_distinct (unit_names u) in
    let functions = list_all function_fits u.functions in
    let variables = list_all variable_fits u.variables in
    let all = and_parts (names && functions && variables) (list_all external_fits u.externals) h in
    let front = and_parts (names && functions) variables all.0 in
    shapes u.functions (and_parts names functions front.0).1
