use Rattle.dump_model.specs.Spellings.{spelling}
use Rattle.dump_model.proofs.Mnemonics.{found, row_has, row_differs}
use Rattle.dump_writer.proofs.spelling.spelling.Goals as goal

pub loop-word-init : goal.loop-word-init
loop-word-init c = rw c.mnemonics-word-items.ensures (found c.args.form).1

pub returns-then-eq : goal.returns-then-eq
returns-then-eq c =
    row_has c.args.form c.mnemonics-word-items.result.now c.loop-word.word-index _ c.eq.result c.loop-word-test.true
    c.eq.ensures (spelling c.args.form)
    c.if-eq.true c.loop-word.invariant

pub loop-word-preserved : goal.loop-word-preserved
loop-word-preserved c =
    row_differs c.args.form c.mnemonics-word-items.result.now c.loop-word.word-index _ c.eq.result c.loop-word-test.true
    c.eq.ensures (spelling c.args.form)
    c.if-eq.false c.loop-word.invariant
