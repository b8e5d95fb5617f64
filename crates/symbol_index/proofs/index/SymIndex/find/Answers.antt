use Rattle.std.proofs.Common.{◌≡◌, ◌+◌, ◌-◌, ◌/◌, arith, ap, sym, ◌∙◌}
use Rattle.std.specs.Ordering.{ordering_index}
use Rattle.symbol_index.proofs.Ranks.{rank, ranks_rise, ranks_most, narrow_less, narrow_equal, narrow_greater, spend, found_there}
use Rattle.symbol_index.proofs.Ranks.{found_nowhere, nobody_named}
use Rattle.symbol_index.proofs.index.SymIndex.find.Goals as goal

pub loop-low-preserved-in-Less : goal.loop-low-preserved-in-Less
loop-low-preserved-in-Less g c =
    let x = c.args.self.now in let name = c.args.name.now in
    let at : rank x name (c.loop-low.low + (c.loop-low.high - c.loop-low.low) / 2) ≡ 0 =
    ap ordering_index (sym c.compare_at.ensures.answer ∙ c.in-Less.is) in
    record {
      narrowed = narrow_less (rank x name) _ _ _ _ _ (ranks_rise x name c.places-high.ensures.index) c.loop-low.invariant.narrowed
          (omega arith) (omega arith) at;
      spent = rw c.compare_at.ensures.cost (spend _ _ _ _ _ c.loop-low.invariant.spent (omega arith) (omega arith));
    }

pub loop-low-preserved-in-Equal : goal.loop-low-preserved-in-Equal
loop-low-preserved-in-Equal g c =
    let x = c.args.self.now in let name = c.args.name.now in
    let at : rank x name (c.loop-low.low + (c.loop-low.high - c.loop-low.low) / 2) ≡ 1 =
    ap ordering_index (sym c.compare_at.ensures.answer ∙ c.in-Equal.is) in
    record {
      narrowed = narrow_equal (rank x name) _ _ _ _ _ (ranks_rise x name c.places-high.ensures.index) c.loop-low.invariant.narrowed
          (omega arith) (omega arith) at;
      spent = rw c.compare_at.ensures.cost (spend _ _ _ _ _ c.loop-low.invariant.spent (omega arith) (omega arith));
    }

pub loop-low-preserved : goal.loop-low-preserved
loop-low-preserved g c =
    let x = c.args.self.now in let name = c.args.name.now in
    let at : rank x name (c.loop-low.low + (c.loop-low.high - c.loop-low.low) / 2) ≡ 2 =
    ap ordering_index (sym c.compare_at.ensures.answer ∙ c.in-Greater.is) in
    record {
      narrowed = narrow_greater (rank x name) _ _ _ _ _ (ranks_rise x name c.places-high.ensures.index) (ranks_most x name)
          c.loop-low.invariant.narrowed (omega arith) (omega arith) at;
      spent = rw c.compare_at.ensures.cost (spend _ _ _ _ _ c.loop-low.invariant.spent (omega arith) (omega arith));
    }

pub returns-then-hit-clause-place : goal.returns-then-hit-clause-place
returns-then-hit-clause-place g c = found_there c.args.self.now c.args.name.now c.loop-low.low c.loop-low.high c.loop-low.hit c.requires
    c.loop-low.invariant.narrowed c.loop-low-test.false c.if-hit.true

pub returns-else-hit-clause-place : goal.returns-else-hit-clause-place
returns-else-hit-clause-place g c = found_nowhere c.args.self.now c.args.name.now c.loop-low.low c.loop-low.high c.loop-low.hit c.requires
    c.loop-low.invariant.narrowed c.loop-low-test.false c.if-hit.false

pub returns-else-hit-clause-none : goal.returns-else-hit-clause-none
returns-else-hit-clause-none g c =
    nobody_named c.args.self.now c.args.name.now c.places-high.ensures.index
    (found_nowhere c.args.self.now c.args.name.now c.loop-low.low c.loop-low.high c.loop-low.hit c.requires c.loop-low.invariant.narrowed
    c.loop-low-test.false c.if-hit.false)
