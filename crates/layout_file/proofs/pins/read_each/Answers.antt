use Rattle.std.proofs.Common.{rules}
use Rattle.std.proofs.lemmas.Result.{err_from_is_err_and}
use Rattle.serde_json.specs.View.{view}
use Rattle.layout_file.specs.LayoutTree.{pin}
use Rattle.layout_file.proofs.PinItems.{goes_on, ends, is_done}
use Rattle.layout_file.proofs.pins.read_each.Goals as goal

pub returns-in_err-pin : goal.returns-in_err-pin
returns-in_err-pin c =
    let p = err_from_is_err_and c.from_residual.result c.from_residual.ensures.1 in
    rw (p.1, p.2) (ends c.loop-value.pins c.args.values.now c.loop-value.value-index _ c.loop-value.index c.value-item.result
    c.loop-value-test.true c.value-item.is c.loop-value.invariant.count c.in_err-pin.field-0.0
    (c.in_err-pin.ensures.gives (pin c.loop-value.pins (view c.value-item.result)) c.read_pin.ensures) c.loop-value.invariant.rest)

pub loop-value-preserved : goal.loop-value-preserved
loop-value-preserved c = record {
  count = search rules;
  rest = rw c.in_ok-put.ensures (goes_on c.loop-value.pins c.args.values.now c.loop-value.value-index _ c.loop-value.index
      c.value-item.result c.loop-value-test.true c.value-item.is c.loop-value.invariant.count c.in_ok-pin.pin
      (c.in_ok-pin.ensures.gives (pin c.loop-value.pins (view c.value-item.result)) c.read_pin.ensures) c.loop-value.invariant.rest);
}

pub returns : goal.returns
returns c = is_done c.loop-value.pins c.args.values.now c.loop-value.value-index _ c.loop-value-test.false c.loop-value.invariant.rest
