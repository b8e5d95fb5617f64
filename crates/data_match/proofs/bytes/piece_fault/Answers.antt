use Rattle.std.proofs.Common.{◌+◌, ◌∙◌, arith}
use Rattle.elf_view.specs.Views.{segment_seen}
use Rattle.data_match.proofs.Stretches.{IsFound, found_byte, listed_passes, listed_fails}
use Rattle.data_match.proofs.bytes.piece_fault.Goals as goal

pub returns-then-found-wanted-clause-some : goal.returns-then-found-wanted-clause-some
returns-then-found-wanted-clause-some c =
    let at = c.from.result + c.from-in-loop-i.result + c.from-in-loop-i-2.result in
    let found : IsFound c.args.segments.now (segment_seen c.args.segment.now) _ _ c.args.a (c.args.offset + c.loop-i.i) at
    c.byte_in-found.result =
    record { has = c.requires.has; place = omega arith; low = omega arith; high = omega arith; byte = c.byte_in-found.ensures } in
    c.loop-i.invariant
    ∙ listed_fails c.args.segments.now c.args.a c.args.offset c.loop-i.i c.byte_in-found.result c.args.bytes.now
    (found_byte _ _ _ _ _ _ _ _ found) (omega arith) c.if-found-wanted.true

pub loop-i-preserved : goal.loop-i-preserved
loop-i-preserved c =
    let at = c.from.result + c.from-in-loop-i.result + c.from-in-loop-i-2.result in
    let found : IsFound c.args.segments.now (segment_seen c.args.segment.now) _ _ c.args.a (c.args.offset + c.loop-i.i) at
    c.byte_in-found.result =
    record { has = c.requires.has; place = omega arith; low = omega arith; high = omega arith; byte = c.byte_in-found.ensures } in
    c.loop-i.invariant
    ∙ listed_passes c.args.segments.now c.args.a c.args.offset c.loop-i.i c.byte_in-found.result c.args.bytes.now
    (found_byte _ _ _ _ _ _ _ _ found) (omega arith) c.if-found-wanted.false
