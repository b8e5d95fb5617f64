use Rattle.std.proofs.Common.{◌∙◌, ap, cond, Some}
use Rattle.std.specs.BTreeMap.{insert_entry}
use Rattle.std.specs.Map.{lookup}
use Rattle.asm_program.specs.Scopes.{is_same}
use Rattle.asm_program.specs.Numbered.{numbered}
use Rattle.asm_program.proofs.NumberMaps.{Pair, pair_order, set_is}
use Rattle.asm_program.proofs.numbers.Numbers.set.Goals as goal

pub returns : goal.returns
returns c = λ q.
    let scope = c.args.scope in let number = c.args.number in let entries = c.self.inside.kept.entries in
    let key : Pair = (c.new.result, scope) in
    ap (λ es. lookup (is_same q) (numbered es)) c.in_ok-insert.ensures.entries
    ∙ ((λ i. lookup (is_same q) (numbered (insert_entry (pair_order i) entries key number)))
    ∙ (set_is q entries key number
    ∙ (λ i. cond (is_same q (scope, c.new.ensures i)) (Some number) (lookup (is_same q) (c.self.view_is i)))))
