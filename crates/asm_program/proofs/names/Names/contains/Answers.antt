use Rattle.std.proofs.Common.{◌∙◌}
use Rattle.std.specs.Str.{bytes_eq}
use Rattle.std.specs.List.{list_any}
use Rattle.std.specs.Ordering.{is_eq}
use Rattle.asm_program.specs.declared.codes.CodedName.{CodedName}
use Rattle.asm_program.proofs.CodedNames.{text_order}
use Rattle.asm_program.proofs.NameSets.{contains_is}
use Rattle.asm_program.proofs.names.Names.contains.Goals as goal

pub returns : goal.returns
returns c =
    c.contains.ensures
    ∙ ((λ i. list_any (λ (y : CodedName). is_eq (text_order i c.new.result y)) c.self.inside.kept.keys)
    ∙ (contains_is c.new.result.name.now c.self.inside.kept.keys
    ∙ (λ i. list_any (bytes_eq (c.new.ensures i)) (c.self.view_is i))))
