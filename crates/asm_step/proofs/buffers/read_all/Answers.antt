use Rattle.asm_step.specs.Calls.{reads}
use Rattle.asm_step.proofs.Reading.{Behind, behind}
use Rattle.asm_step.proofs.buffers.read_all.Goals as goal

pub loop-b-preserved : goal.loop-b-preserved
loop-b-preserved c =
    let live = c.args.blocks.now.live in
    let f = c.args.file.now in
    let sig = c.args.c.now in
    let bs = c.args.buffers.now in
    let v = c.loop-b.invariant in
    let n : Behind live f sig bs c.loop-b.b-index c.read_one.new.bytes (reads live f sig bs) =
    behind live f sig bs c.loop-b.b-index _ c.loop-b.bytes c.read_one.new.bytes (reads live f sig bs) c.loop-b-test.true c.read_one.ensures
    v.count v.short v.fits v.work in
    record { count = n.count; short = n.short; fits = n.fits; work = n.work }
