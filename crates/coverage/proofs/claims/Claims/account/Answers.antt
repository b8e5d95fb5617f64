use Rattle.std.proofs.Common.{map, ◌∙◌}
use Rattle.coverage.specs.Orders.{kept_seen}
use Rattle.coverage.proofs.Added.{rise_from, account_added, covered_added, stray_added}
use Rattle.coverage.proofs.claims.Claims.account.Goals as goal

pub account_of-requires-clause-rise : goal.account_of-requires-clause-rise
account_of-requires-clause-rise c = rise_from c.kept.result.now c.args.self.now c.kept.ensures.seen c.requires.settled

pub returns-clause-account : goal.returns-clause-account
returns-clause-account c = λ cs e apart.
    account_added c.args.image.now c.args.layout.now cs (map kept_seen c.kept.result.now) c.account_of.result
    (c.kept.ensures.seen ∙ e) apart
    c.account_of.ensures.account

pub returns-clause-covered : goal.returns-clause-covered
returns-clause-covered c = λ cs e.
    covered_added c.args.image.now c.args.layout.now cs (map kept_seen c.kept.result.now) c.account_of.result (c.kept.ensures.seen ∙ e)
    c.account_of.ensures.covered

pub returns-clause-stray : goal.returns-clause-stray
returns-clause-stray c = λ cs e.
    stray_added c.args.image.now c.args.layout.now cs (map kept_seen c.kept.result.now) c.account_of.result (c.kept.ensures.seen ∙ e)
    c.account_of.ensures.stray
