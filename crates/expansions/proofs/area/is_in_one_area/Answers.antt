use Rattle.std.proofs.Common.{rules, ◌&&◌, sym, ◌∙◌}
use Rattle.word_ops.specs.Ranges.{extent, is_inside}
use Rattle.layout_model.specs.Layouts.{Area}
use Rattle.sda_match.proofs.Elements.{any_hit, any_miss}
use Rattle.expansions.specs.Parts.{is_kind_of}
use Rattle.expansions.proofs.area.is_in_one_area.Goals as goal

pub returns-then-takes-clause-value : goal.returns-then-takes-clause-value
returns-then-takes-clause-value c =
    any_hit (λ (area : Area). is_kind_of c.args.part area.kind && is_inside (extent c.args.lo c.args.hi) area.range)
    c.args.layout.now.areas c.loop-i.i _ _ c.area-area.ensures.value (sym c.takes.ensures.value ∙ (search rules)) c.loop-i.invariant

pub loop-i-preserved : goal.loop-i-preserved
loop-i-preserved c =
    any_miss (λ (area : Area). is_kind_of c.args.part area.kind && is_inside (extent c.args.lo c.args.hi) area.range)
    c.args.layout.now.areas c.loop-i.i _ _ c.area-area.ensures.value (sym c.takes.ensures.value ∙ (search rules)) c.loop-i.invariant
