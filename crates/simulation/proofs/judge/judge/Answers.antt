use Rattle.std.proofs.Common.{Ok, sym, ap, ◌∙◌}
use Rattle.coverage.specs.Accounts.{account_seen}
use Rattle.simulation.specs.Judged.{contents}
use Rattle.simulation.proofs.Refusals.{by_layout, by_image, by_units, all_yes, all_faithful, all_no}
use Rattle.simulation.proofs.judge.judge.Goals as goal

pub returns-in-Err-clause-error : goal.returns-in-Err-clause-error
returns-in-Err-clause-error c =
    by_layout c.args.layout.now c.args.image.now (contents c.args.units.now) c.in-Err.error c.in-Err.ensures

pub returns-in-Err-read_image-clause-error : goal.returns-in-Err-read_image-clause-error
returns-in-Err-read_image-clause-error c =
    by_image c.args.layout.now c.args.image.now (contents c.args.units.now) c.in-Ok.layout c.in-Err-read_image.error
    c.in-Ok.ensures c.in-Err-read_image.ensures

pub returns-in-Err-read_units-clause-error : goal.returns-in-Err-read_units-clause-error
returns-in-Err-read_units-clause-error c =
    by_units c.args.layout.now c.args.image.now (contents c.args.units.now) c.in-Ok.layout c.in-Ok-read_image.view c.in-Err-read_units.error
    c.in-Ok.ensures c.in-Ok-read_image.ensures c.in-Err-read_units.ensures.read

pub returns-clause-yes : goal.returns-clause-yes
returns-clause-yes c =
    all_yes c.args.layout.now c.args.image.now (contents c.args.units.now) account_seen
    c.in-Ok.layout c.in-Ok-read_image.view c.deref.result.now c.judge_units.result c.in-Ok.ensures c.in-Ok-read_image.ensures
    (c.in-Ok-read_units.ensures.read ∙ ap Ok (sym c.deref.ensures.value)) c.judge_units.ensures.yes

pub returns-clause-error : goal.returns-clause-error
returns-clause-error c =
    all_no c.args.layout.now c.args.image.now (contents c.args.units.now)
    c.in-Ok.layout c.in-Ok-read_image.view c.deref.result.now c.judge_units.result c.in-Ok.ensures c.in-Ok-read_image.ensures
    (c.in-Ok-read_units.ensures.read ∙ ap Ok (sym c.deref.ensures.value)) c.judge_units.ensures.error

pub returns-clause-faithful : goal.returns-clause-faithful
returns-clause-faithful c =
    all_faithful c.args.layout.now c.args.image.now (contents c.args.units.now)
    c.in-Ok.layout c.in-Ok-read_image.view c.deref.result.now c.judge_units.result c.in-Ok.ensures c.in-Ok-read_image.ensures
    (c.in-Ok-read_units.ensures.read ∙ ap Ok (sym c.deref.ensures.value)) c.judge_units.ensures.faithful
