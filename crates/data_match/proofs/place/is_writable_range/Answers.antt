use Rattle.std.proofs.Common.{◌+◌, ◌∙◌, arith, rules}
use Rattle.elf_view.specs.Views.{segment_seen}
use Rattle.code_model.specs.Addresses.{is_writable_at}
use Rattle.data_match.proofs.Writable.{all_to, writable_throughout}
use Rattle.data_match.proofs.place.is_writable_range.Goals as goal

pub loop-a-preserved : goal.loop-a-preserved
loop-a-preserved c =
    let inside = c.in-Some.ensures.inside in
    all_to (is_writable_at c.args.segments.now) c.loop-a.a (c.from.result + c.from-in-loop-a.result) c.args.range.now.hi (omega arith)
    (λ b low high. writable_throughout c.args.segments.now c.loop-a.a (segment_seen c.in-Some.segment) c.in-Some.ensures.loadable
    (search rules) (omega arith) (search rules) b low (omega arith))
    ∙ c.loop-a.invariant
