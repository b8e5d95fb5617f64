use Rattle.std.proofs.Common.{◌∙◌}
use Rattle.image_model.specs.declared.symbol.TheConstants.{NAME_START_BYTES}
use Rattle.elf_view.proofs.Texts.{short_start}
use Rattle.elf_view.proofs.symbol.text_start.Goals as goal

pub returns-then-texts-at-le-NAME_START_BYTES : goal.returns-then-texts-at-le-NAME_START_BYTES
returns-then-texts-at-le-NAME_START_BYTES c =
    c.to_zero.ensures ∙ short_start c.args.texts.now c.args.at NAME_START_BYTES c.if-texts-at-le-NAME_START_BYTES.true
