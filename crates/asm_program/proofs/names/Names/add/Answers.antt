use Rattle.std.proofs.Common.{◌||◌, ◌∙◌, ap}
use Rattle.std.specs.Str.{bytes_eq}
use Rattle.std.specs.List.{list_any}
use Rattle.std.specs.BTreeSet.{insert_key}
use Rattle.asm_program.specs.Coded.{coded_texts}
use Rattle.asm_program.proofs.CodedNames.{text_order}
use Rattle.asm_program.proofs.NameSets.{insert_is}
use Rattle.asm_program.proofs.names.Names.add.Goals as goal

pub returns : goal.returns
returns c = λ v.
    ap (λ keys. list_any (bytes_eq v) (coded_texts keys)) c.in_ok-insert.ensures.keys
    ∙ ((λ i. list_any (bytes_eq v) (coded_texts (insert_key (text_order i) c.self.inside.kept.keys c.new.result)))
    ∙ (insert_is v c.self.inside.kept.keys c.new.result
    ∙ (λ i. bytes_eq v (c.new.ensures i) || list_any (bytes_eq v) (c.self.view_is i))))
