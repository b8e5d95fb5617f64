use Rattle.std.proofs.Common.{◌≡◌, ◌∙◌, ◌<◌, ℕ, List, length, get_or, sym, ap, subst, rules, Some}
use Rattle.std.specs.Map.{lookup}
use Rattle.std.specs.declared.cmp.Ordering.{Ordering}
use Rattle.std.specs.declared.cmp.Ordering.TheVariants.{Less, Equal, Greater}
use Rattle.std.specs.Ordering.{ordering_index}
use Rattle.std.specs.List.Sorted.{IsPartitionPoint, IsNonDecreasingBy}
use Rattle.std.proofs.lemmas.Fn.{always_returns_same}
use Rattle.asm_program.specs.declared.numbers.Row.{Row}
use Rattle.asm_program.specs.Scopes.{is_same}
use Rattle.asm_program.specs.declared.codes.CodedName.{CodedName}
use Rattle.asm_program.proofs.Tables.{row_order, row_kept, row_order_is, row_hit, row_miss, rows_rise}
use Rattle.asm_program.proofs.numbers.NumberTable.get.Goals as goal

pub returns-in-Ok : goal.returns-in-Ok
returns-in-Ok c =
    let rows = c.self.inside.rows.items in let n : CodedName = c.new-coded.result in let s = c.args.scope in
    let q : ℕ × List ℕ = (s, n.name.now) in let i = c.in-Ok.i in
    let row : Row = c.index.result.now in
    let value = c.deref.ensures.value in
    let lt : i < length rows = subst (λ (l : List Row). i < length l) value c.in-Ok.ensures.bound in
    let found = c.in-Ok.ensures.position (row_order q)
    (always_returns_same _ _ _ (λ a r f' h. let e : r ≡ row_kept n s a.0.now = search rules in (e ∙ row_order_is n s a.0.now, search rules))) in
    let equal : row_order q (get_or rows i row) ≡ Equal =
    subst (λ (l : List Row). row_order q (get_or l i row) ≡ Equal) value (found row) in
    sym ((λ k. lookup (is_same (s, sym c.new-coded.ensures k)) (sym c.self.view_is k))
    ∙ (row_hit rows q i row c.self.invariant lt equal ∙ ap (λ (r : Row). Some r.number) (sym c.index.ensures)))

pub returns-in-Err : goal.returns-in-Err
returns-in-Err c =
    let rows = c.self.inside.rows.items in let n : CodedName = c.new-coded.result in let s = c.args.scope in
    let q : ℕ × List ℕ = (s, n.name.now) in let i = c.in-Err.field-0 in
    let value = c.deref.ensures.value in
    let order : Row → Ordering = row_order q in
    let gap = c.in-Err.ensures.position order
    (always_returns_same _ _ _ (λ a r f' h. let e : r ≡ row_kept n s a.0.now = search rules in (e ∙ row_order_is n s a.0.now, search rules))) in
    let parts : IsPartitionPoint (λ r. order r ≡ Less) (λ r. order r ≡ Greater) rows i =
    subst (λ (l : List Row). IsPartitionPoint (λ r. order r ≡ Less) (λ r. order r ≡ Greater) l i) value
    (gap (subst (λ (l : List Row). IsNonDecreasingBy (λ r. ordering_index (order r)) l) (sym value) (rows_rise rows q c.self.invariant))) in
    sym ((λ k. lookup (is_same (s, sym c.new-coded.ensures k)) (sym c.self.view_is k)) ∙ row_miss rows q i c.self.invariant parts.0 parts.1)
