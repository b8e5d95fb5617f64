use Rattle.std.proofs.Common.{sym, ◌∙◌, arith}
use Rattle.data_match.specs.Faults.{spot_of}
use Rattle.data_match.proofs.Items.{items_fail, items_pass, items_end, size_more}
use Rattle.data_match.proofs.bytes.items_fault.Goals as goal

pub returns-in-Some-clause-first : goal.returns-in-Some-clause-first
returns-in-Some-clause-first g c =
    sym (items_fail c.args.segments.now (g.F.NameAddresses.address c.args.names.now) c.args.a c.loop-item.offset c.loop-item.item-index
    c.args.init.now c.item-item.result (spot_of c.args.a c.in-Some.fault) (omega arith) c.item-item.is (sym c.in-Some.ensures.first))
    ∙ c.loop-item.invariant.same

pub loop-item-preserved : goal.loop-item-preserved
loop-item-preserved g c =
    let size = size_more c.args.init.now c.loop-item.item-index c.item-item.result (omega arith) c.item-item.is in
    record {
      same = items_pass c.args.segments.now (g.F.NameAddresses.address c.args.names.now) c.args.a c.loop-item.offset c.loop-item.item-index
          c.size.result c.args.init.now c.item-item.result (omega arith) c.item-item.is c.size.ensures (sym c.in_default.ensures.first)
          ∙ c.loop-item.invariant.same;
      total = omega (arith, c.loop-item.invariant.total, c.size.ensures);
      low = omega (arith, c.in_default.ensures.end, c.size.ensures);
    }

pub returns-clause-first : goal.returns-clause-first
returns-clause-first g c =
    sym (items_end c.args.segments.now (g.F.NameAddresses.address c.args.names.now) c.args.a c.loop-item.offset c.loop-item.item-index
    c.args.init.now (omega arith))
    ∙ c.loop-item.invariant.same
