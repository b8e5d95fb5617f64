use Rattle.std.proofs.Common.{rules, ◌&&◌, sym, ◌∙◌}
use Rattle.word_ops.specs.Ranges.{holds}
use Rattle.layout_model.specs.Layouts.{Area}
use Rattle.code_model.specs.SmallData.{is_register_of}
use Rattle.sda_match.proofs.Elements.{any_hit, any_miss}
use Rattle.sda_match.proofs.area.is_in_small_data.Goals as goal

pub returns-then-is_reached : goal.returns-then-is_reached
returns-then-is_reached c =
    any_hit (λ (area : Area). is_register_of c.args.r area.kind && holds c.args.a area.range) c.args.layout.now.areas c.loop-i.i _ _
    c.area.ensures.value (sym c.is_reached.ensures ∙ (search rules)) c.loop-i.invariant

pub loop-i-preserved : goal.loop-i-preserved
loop-i-preserved c =
    any_miss (λ (area : Area). is_register_of c.args.r area.kind && holds c.args.a area.range) c.args.layout.now.areas c.loop-i.i _ _
    c.area.ensures.value (sym c.is_reached.ensures ∙ (search rules)) c.loop-i.invariant
