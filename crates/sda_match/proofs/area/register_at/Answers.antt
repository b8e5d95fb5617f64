use Rattle.std.proofs.Common.{rules, sym, ◌∙◌, ap}
use Rattle.std.specs.Option.{option_map_or}
use Rattle.word_ops.specs.Ranges.{holds}
use Rattle.layout_model.specs.Layouts.{Area}
use Rattle.code_model.specs.SmallData.{area_register, no_register}
use Rattle.sda_match.proofs.Elements.{find_hit, find_miss}
use Rattle.sda_match.proofs.area.register_at.Goals as goal

pub returns-then-contains : goal.returns-then-contains
returns-then-contains c =
    c.register_number.ensures
    ∙ ap (λ found. option_map_or (λ (area : Area). option_map_or (λ r. r) (area_register area.kind) no_register) found no_register)
    (find_hit (λ (area : Area). holds c.args.a area.range) c.args.layout.now.areas c.loop-i.i _ _ c.area-area.ensures.value
    (sym c.contains.ensures ∙ (search rules)) c.loop-i.invariant)

pub loop-i-preserved : goal.loop-i-preserved
loop-i-preserved c =
    find_miss (λ (area : Area). holds c.args.a area.range) c.args.layout.now.areas c.loop-i.i _ _ c.area-area.ensures.value
    (sym c.contains.ensures ∙ (search rules)) c.loop-i.invariant
