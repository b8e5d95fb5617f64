use Rattle.std.proofs.Common.{◌≡◌, zero-add, arith, length, drop}
use Rattle.link_model.specs.Program.{keys}
use Rattle.link_model.specs.Numbers.{externals}
use Rattle.name_addresses.specs.Keys.{declared}
use Rattle.key_passes.proofs.Walks.{declared_externals, count_more, count_end}
use Rattle.key_passes.proofs.externals.count_externals.Goals as goal

pub loop-k-init : goal.loop-k-init
unfolding externals
loop-k-init g c = record { near = omega arith; counted = zero-add _ }

pub loop-k-preserved : goal.loop-k-preserved
loop-k-preserved g c = record {
  near = omega (arith, c.external_count-count.ensures.one, c.loop-k.invariant.near);
  counted = count_more declared_externals (keys (g.P.KeyedProgram.program c.args.program.now).units) c.loop-k.k
      (declared c.key-key.result) c.loop-k.count _ _ c.key-key.ensures.declared c.external_count-count.ensures.count
      c.loop-k.invariant.counted;
}

pub returns : goal.returns
returns g c = count_end declared_externals (keys (g.P.KeyedProgram.program c.args.program.now).units) c.loop-k.k c.loop-k.count _
    (omega arith) c.loop-k.invariant.counted
