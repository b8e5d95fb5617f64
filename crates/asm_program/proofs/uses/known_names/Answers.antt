use Rattle.std.proofs.Common.{◌∙◌, ◌++◌, ap, map}
use Rattle.std.specs.List.{list_any}
use Rattle.std.specs.Str.{bytes_eq}
use Rattle.asm_shapes.specs.Units.{function_name, variable_name, external_name}
use Rattle.asm_program.proofs.NameSets.{known_is}
use Rattle.asm_program.proofs.uses.known_names.Goals as goal

pub returns : goal.returns
returns c = λ v.
    let unit = c.args.unit.now in
    c.in_ok-set.ensures v
    ∙ (ap (list_any (bytes_eq v)) (c.in_ok-add_declarations.ensures
    ∙ ap (λ l. l ++ map external_name unit.externals) (c.in_ok-add_definitions.ensures
    ∙ ap (λ l. (l ++ map function_name unit.functions) ++ map variable_name unit.variables) c.new-list.ensures))
    ∙ known_is v unit)
