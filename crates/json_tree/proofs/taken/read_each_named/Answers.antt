use Rattle.std.proofs.Common.{rules, ◌≡◌, map, Vec, Global}
use Rattle.std.proofs.lemmas.Result.{err_from_is_err_and, IfOk-at_ok}
use Rattle.serde_json.specs.View.{view}
use Rattle.json_tree.specs.Arrays.{each_from}
use Rattle.json_tree.specs.NewNames.{with_name}
use Rattle.json_tree.proofs.Items.{with_none, goes_on, ends, is_done}
use Rattle.json_tree.proofs.NameSets.{with_names_none, with_names_more}
use Rattle.json_tree.proofs.taken.read_each_named.Goals as goal

pub loop-value-init : goal.loop-value-init
loop-value-init g c = record {
  count = search rules;
  names = rw c.new-items.ensures.items (with_names_none c.args.taken.now);
  rest = rw c.new-items.ensures.items (with_none
      (each_from (λ left x. with_name left (g.P.ReadsNamed.name_of x)) g.P.ReadsNamed.reads c.args.taken.now 0
      (map view c.args.values.now)));
}

pub returns-in_err-item-clause-gives : goal.returns-in_err-item-clause-gives
returns-in_err-item-clause-gives g c =
    let p = err_from_is_err_and c.from_residual.result c.from_residual.ensures.1 in
    rw (p.1, p.2) (ends (λ left x. with_name left (g.P.ReadsNamed.name_of x)) g.P.ReadsNamed.reads c.loop-value.taken
    c.loop-value.items.items c.args.values.now c.loop-value.value-index _ c.len-index.result c.value-item.result
    c.loop-value-test.true c.value-item.is (search rules) (λ (v : Vec g.row.T.Denot Global). v.items) c.in_err-item.field-0.0
    (c.in_err-item.ensures.gives (g.P.ReadsNamed.reads c.loop-value.taken (view c.value-item.result)) c.read-read.ensures.gives)
    c.loop-value.invariant.rest)

pub loop-value-preserved : goal.loop-value-preserved
loop-value-preserved g c =
    let name = g.P.ReadsNamed.name_of c.in_ok-item.item in
    let more : c.read-read.new.taken ≡ with_name c.loop-value.taken name = IfOk-at_ok
    (λ (x : g.row.T.Denot). c.read-read.new.taken ≡ with_name c.loop-value.taken (g.P.ReadsNamed.name_of x)) c.in_ok-item.ensures.same
    c.read-read.ensures.taken in
    record {
      count = search rules;
      names = rw (more, c.loop-value.invariant.names, c.in_ok-push.ensures.items)
          (with_names_more c.args.taken.now g.P.ReadsNamed.name_of c.loop-value.items.items c.in_ok-item.item);
      rest = rw (more, c.in_ok-push.ensures.items)
          (goes_on (λ left x. with_name left (g.P.ReadsNamed.name_of x)) g.P.ReadsNamed.reads c.loop-value.taken c.loop-value.items.items
          c.args.values.now c.loop-value.value-index _ c.len-index.result c.value-item.result c.loop-value-test.true c.value-item.is
          (search rules) c.in_ok-item.item (c.in_ok-item.ensures.gives
          (g.P.ReadsNamed.reads c.loop-value.taken (view c.value-item.result)) c.read-read.ensures.gives) c.loop-value.invariant.rest);
    }

pub returns-clause-gives : goal.returns-clause-gives
returns-clause-gives g c = is_done (λ left x. with_name left (g.P.ReadsNamed.name_of x)) g.P.ReadsNamed.reads c.loop-value.taken
    c.loop-value.items.items c.args.values.now c.loop-value.value-index _ c.loop-value-test.false c.loop-value.invariant.rest
