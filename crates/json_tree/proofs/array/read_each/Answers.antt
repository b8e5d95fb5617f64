use Rattle.std.proofs.Common.{rules, Vec, Global}
use Rattle.std.proofs.lemmas.Result.{err_from_is_err_and}
use Rattle.serde_json.specs.View.{view}
use Rattle.json_tree.proofs.Items.{goes_on, ends, is_done}
use Rattle.json_tree.proofs.array.read_each.Goals as goal

pub returns-in_err-item-clause-gives : goal.returns-in_err-item-clause-gives
returns-in_err-item-clause-gives g c =
    let p = err_from_is_err_and c.from_residual.result c.from_residual.ensures.1 in
    rw (p.1, p.2) (ends {S = Unit {0}} (λ left x. left) (λ left. g.P.Reads.reads) tt c.loop-value.items.items c.args.values.now
    c.loop-value.value-index _ c.len.result c.value-item.result c.loop-value-test.true c.value-item.is (search rules)
    (λ (v : Vec g.row.T.Denot Global). v.items) c.in_err-item.field-0.0
    (c.in_err-item.ensures.gives (g.P.Reads.reads (view c.value-item.result)) c.read.ensures) c.loop-value.invariant.rest)

pub loop-value-preserved : goal.loop-value-preserved
loop-value-preserved g c = record {
  count = search rules;
  rest = rw c.in_ok-push.ensures.items (goes_on {S = Unit {0}} (λ left x. left) (λ left. g.P.Reads.reads) tt c.loop-value.items.items
      c.args.values.now c.loop-value.value-index _ c.len.result c.value-item.result c.loop-value-test.true c.value-item.is (search rules)
      c.in_ok-item.item (c.in_ok-item.ensures.gives (g.P.Reads.reads (view c.value-item.result)) c.read.ensures)
      c.loop-value.invariant.rest);
}

pub returns-clause-gives : goal.returns-clause-gives
returns-clause-gives g c = is_done {S = Unit {0}} (λ left x. left) (λ left. g.P.Reads.reads) tt c.loop-value.items.items c.args.values.now
    c.loop-value.value-index _ c.loop-value-test.false c.loop-value.invariant.rest
