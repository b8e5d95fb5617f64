use Rattle.std.proofs.Common.{◌≡◌, ◌∙◌, ◌++◌, map, ap, sym, subst, append-nil}
use Rattle.asm_program.specs.Numbered.{numbered, row_seen, AreInOrder}
use Rattle.std.specs.List.Sorted.{IsStrictlySortedBy}
use Rattle.std.specs.Map.{keys_of}
use Rattle.asm_program.proofs.NumberMaps.{pair_order, order_seen}
use Rattle.asm_program.proofs.numbers.Numbers.table.Goals as goal

pub invariant_of-result : goal.invariant_of-result
invariant_of-result c =
    let rows = map row_seen c.loop-name.rows.items in
    let whole : rows ≡ numbered c.self.inside.kept.entries =
    sym (ap (λ l. rows ++ numbered l) c.in-None.ensures.steps.0 ∙ append-nil rows) ∙ (c.loop-name.invariant.rows ∙ sym c.self.view_is) in
    let entries = c.self.inside.kept.entries in
    let ordered = subst (λ order. IsStrictlySortedBy order (keys_of entries)) pair_order c.iter-name-items.ensures.ordered in
    subst AreInOrder (sym whole) (order_seen entries ordered)
