use Rattle.std.proofs.Common.{sym, ◌+◌, ◌&&◌, ◌∙◌}
use Rattle.word_ops.specs.Ranges.{extent, is_inside}
use Rattle.layout_model.specs.Layouts.{Area}
use Rattle.layout_file.specs.Seen.{area_seen}
use Rattle.code_model.specs.Areas.{is_code_kind}
use Rattle.link_laws.proofs.Items.{any_get}
use Rattle.coverage.proofs.LayoutStretches.{item_fails}
use Rattle.coverage.proofs.kinds.is_in_code.Goals as goal

pub returns-then-has_word : goal.returns-then-has_word
returns-then-has_word c =
    let a = c.args.a in
    sym (any_get (λ (x : Area). is_code_kind x.kind && is_inside (extent a (a + 4)) x.range) c.args.layout.now.areas c.loop-i.i
    (area_seen c.area.result) c.area.ensures.value (sym c.has_word.ensures ∙ c.if-has_word.true))

pub loop-i-preserved : goal.loop-i-preserved
loop-i-preserved c =
    let a = c.args.a in
    item_fails (λ (x : Area). is_code_kind x.kind && is_inside (extent a (a + 4)) x.range) c.args.layout.now.areas c.loop-i.i
    (area_seen c.area.result) c.area.ensures.value (sym c.has_word.ensures ∙ c.if-has_word.false) c.loop-i.invariant
