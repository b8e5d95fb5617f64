use Rattle.std.proofs.Common.{string_bytes, sym, ◌∙◌}
use Rattle.commands.proofs.WordLemmas.{tested_right, tested_wrong}
use Rattle.commands.proofs.command.tested.Goals as goal

pub returns-then-are_operands : goal.returns-then-are_operands
returns-then-are_operands c =
    c.named.ensures ∙ tested_right string_bytes _ _ (sym c.are_operands.ensures ∙ c.if-are_operands.true)

pub returns-else-are_operands : goal.returns-else-are_operands
returns-else-are_operands c = tested_wrong string_bytes _ _ (sym c.are_operands.ensures ∙ c.if-are_operands.false)
