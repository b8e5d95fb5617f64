use Rattle.std.proofs.Common.{◌∙◌}
use Rattle.std.specs.Map.{lookup}
use Rattle.std.specs.Ordering.{is_eq}
use Rattle.asm_program.specs.Scopes.{is_same}
use Rattle.asm_program.proofs.NumberMaps.{Pair, pair_order, get_is}
use Rattle.asm_program.proofs.numbers.Numbers.get.Goals as goal

pub returns : goal.returns
returns c =
    let scope = c.args.scope in let entries = c.self.inside.kept.entries in
    c.copied.ensures ∙ (c.get.ensures.value
    ∙ ((λ i. lookup (λ (k : Pair). is_eq (pair_order i (c.new.result, scope) k)) entries)
    ∙ (get_is (scope, c.new.result.name.now) entries
    ∙ (λ i. lookup (is_same (scope, c.new.ensures i)) (c.self.view_is i)))))
