use Rattle.std.proofs.Common.{Ok, sym, ap, ◌∙◌}
use Rattle.simulation.specs.Judged.{contents}
use Rattle.run_verdicts.proofs.Reading.{by_image, by_layout, by_replies, by_units, all_no, all_yes}
use Rattle.run_verdicts.proofs.running.run_files.Goals as goal

pub returns-in-Err-clause-error : goal.returns-in-Err-clause-error
returns-in-Err-clause-error c =
    by_layout c.args.layout.now c.args.image.now c.args.replies.now (contents c.args.units.now) c.in-Err.error c.in-Err.ensures

pub returns-in-Err-read_image-clause-error : goal.returns-in-Err-read_image-clause-error
returns-in-Err-read_image-clause-error c =
    by_image c.args.layout.now c.args.image.now c.args.replies.now (contents c.args.units.now) c.in-Ok.layout c.in-Err-read_image.error
    c.in-Ok.ensures c.in-Err-read_image.ensures

pub returns-in-Err-read_units-clause-error : goal.returns-in-Err-read_units-clause-error
returns-in-Err-read_units-clause-error c =
    by_units c.args.layout.now c.args.image.now c.args.replies.now (contents c.args.units.now) c.in-Ok.layout c.in-Ok-read_image.view
    c.in-Err-read_units.error c.in-Ok.ensures c.in-Ok-read_image.ensures c.in-Err-read_units.ensures.read

pub returns-in-Err-read_replies-clause-error : goal.returns-in-Err-read_replies-clause-error
returns-in-Err-read_replies-clause-error c =
    by_replies c.args.layout.now c.args.image.now c.args.replies.now (contents c.args.units.now) c.in-Ok.layout c.in-Ok-read_image.view
    c.in-Ok-read_units.units.items c.in-Err-read_replies.error c.in-Ok.ensures c.in-Ok-read_image.ensures c.in-Ok-read_units.ensures.read
    c.in-Err-read_replies.ensures

pub returns-clause-yes : goal.returns-clause-yes
returns-clause-yes c =
    all_yes c.args.layout.now c.args.image.now c.args.replies.now (contents c.args.units.now) c.in-Ok.layout c.in-Ok-read_image.view
    c.deref.result.now c.items.result.now c.args.steps c.run_units.result c.in-Ok.ensures c.in-Ok-read_image.ensures
    (c.in-Ok-read_units.ensures.read ∙ ap Ok (sym c.deref.ensures.value)) (c.in-Ok-read_replies.ensures ∙ ap Ok (sym c.items.ensures))
    c.run_units.ensures.yes

pub returns-clause-error : goal.returns-clause-error
returns-clause-error c =
    all_no c.args.layout.now c.args.image.now c.args.replies.now (contents c.args.units.now) c.in-Ok.layout c.in-Ok-read_image.view
    c.deref.result.now c.items.result.now c.run_units.result c.in-Ok.ensures c.in-Ok-read_image.ensures
    (c.in-Ok-read_units.ensures.read ∙ ap Ok (sym c.deref.ensures.value)) (c.in-Ok-read_replies.ensures ∙ ap Ok (sym c.items.ensures))
    c.run_units.ensures.error
