use Rattle.std.proofs.Common.{◌∙◌, ◌++◌, take, arith}
use Rattle.link_model.specs.Candidates.{Inputs}
use Rattle.link_model.specs.Uses.{code_uses}
use Rattle.name_addresses.specs.Given.{given}
use Rattle.symbol_bind.proofs.Walks.{code_more, end_more, noted_more}
use Rattle.symbol_bind.proofs.uses.note_code.Goals as goal

pub loop-instr-preserved : goal.loop-instr-preserved
loop-instr-preserved g c =
    let inputs : Inputs = given c.args.segments.now c.args.layout.now (g.P.KeyedProgram.program c.args.program.now) in
    let now = c.loop-instr.invariant in
    record {
      place = c.address_after-place.ensures.value
          ∙ end_more c.args.segments.now c.args.at c.args.code.now c.loop-instr.instr-index _ _ (omega arith) c.instr-item.is now.place;
      near = omega (arith, c.address_after-place.ensures.near, now.near);
      same = c.note_any.ensures.same ∙ now.same;
      noted = λ us old.
          noted_more c.args.layout.now us _ _ _ _
          (code_more inputs c.args.unit c.args.at c.args.code.now c.loop-instr.instr-index _ _ (omega arith) c.instr-item.is now.place)
          (c.note_any.ensures.open (us ++ code_uses inputs c.args.unit c.args.at (take c.loop-instr.instr-index c.args.code.now))
          (now.noted us old));
    }
