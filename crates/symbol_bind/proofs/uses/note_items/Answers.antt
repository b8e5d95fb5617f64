use Rattle.std.proofs.Common.{◌∙◌, ◌++◌, take, arith}
use Rattle.link_model.specs.Candidates.{Inputs}
use Rattle.link_model.specs.Uses.{data_uses}
use Rattle.name_addresses.specs.Given.{given}
use Rattle.symbol_bind.proofs.Walks.{data_more, size_more, noted_more}
use Rattle.symbol_bind.proofs.uses.note_items.Goals as goal

pub loop-item-preserved : goal.loop-item-preserved
loop-item-preserved g c =
    let inputs : Inputs = given c.args.segments.now c.args.layout.now (g.P.KeyedProgram.program c.args.program.now) in
    let now = c.loop-item.invariant in
    record {
      place = size_more c.args.at c.args.init.now c.loop-item.item-index _ _ _ (omega arith) c.item-item.is c.size-place.ensures now.place;
      same = c.note_item.ensures.same ∙ now.same;
      noted = λ us old.
          noted_more c.args.layout.now us _ _ _ _
          (data_more inputs c.args.unit c.args.at c.args.init.now c.loop-item.item-index _ _ (omega arith) c.item-item.is now.place)
          (c.note_item.ensures.open (us ++ data_uses inputs c.args.unit c.args.at (take c.loop-item.item-index c.args.init.now))
          (now.noted us old));
    }
