use Rattle.std.proofs.Common.{sym, arith}
use Rattle.asm_shapes.specs.Signatures.{buffer_test}
use Rattle.asm_shapes.proofs.ShapeLemmas.{place_fails}
use Rattle.asm_shapes.proofs.signature.valid_buffers.Goals as goal

pub returns-in_err-check_buffer : goal.returns-in_err-check_buffer
returns-in_err-check_buffer c =
    let fault = c.in_err-check_buffer.field-0.0 in
    let all = place_fails (buffer_test c.args.args.now) c.args.buffers.now c.loop-i.i _ fault (omega arith)
    (sym c.in_err-check_buffer.ensures) in
    grind (arith, all)
