use Rattle.std.proofs.Common.{rules, ◌&&◌, sym, ◌∙◌}
use Rattle.word_ops.specs.Ranges.{is_inside}
use Rattle.word_ops.specs.Seen.{extent_of}
use Rattle.layout_model.specs.Layouts.{Area}
use Rattle.code_model.specs.Areas.{is_data_kind}
use Rattle.sda_match.proofs.Elements.{any_hit, any_miss}
use Rattle.data_match.proofs.place.is_in_data_area.Goals as goal

pub returns-then-has_all : goal.returns-then-has_all
returns-then-has_all c =
    any_hit (λ (area : Area). is_data_kind c.args.writable area.kind && is_inside (extent_of c.args.range.now) area.range)
    c.args.layout.now.areas c.loop-i.i _ _ c.area.ensures.value (sym c.has_all.ensures ∙ (search rules)) c.loop-i.invariant

pub loop-i-preserved : goal.loop-i-preserved
loop-i-preserved c =
    any_miss (λ (area : Area). is_data_kind c.args.writable area.kind && is_inside (extent_of c.args.range.now) area.range)
    c.args.layout.now.areas c.loop-i.i _ _ c.area.ensures.value (sym c.has_all.ensures ∙ (search rules)) c.loop-i.invariant
