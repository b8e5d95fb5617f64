use Rattle.std.proofs.Common.{◌∙◌, ap}
use Rattle.std.specs.Prelude.{option_map}
use Rattle.std.specs.Map.{lookup}
use Rattle.std.specs.Ordering.{is_eq}
use Rattle.std.specs.Str.{bytes_eq}
use Rattle.asm_program.specs.declared.codes.CodedName.{CodedName}
use Rattle.asm_program.specs.Seen.{declaration_seen}
use Rattle.asm_program.proofs.CodedNames.{text_order}
use Rattle.asm_program.proofs.FirstNames.{get_is}
use Rattle.asm_program.proofs.firsts.Firsts.get.Goals as goal

pub returns : goal.returns
returns c =
    let entries = c.self.inside.kept.entries in
    ap (option_map declaration_seen) (c.copied.ensures ∙ (c.get.ensures.value
    ∙ (λ i. lookup (λ (y : CodedName). is_eq (text_order i c.new.result y)) entries)))
    ∙ (get_is c.new.result.name.now entries ∙ (λ i. lookup (bytes_eq (c.new.ensures i)) (c.self.view_is i)))
