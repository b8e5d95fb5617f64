use Rattle.std.proofs.Common.{◌≡◌}
use Rattle.link_model.specs.Candidates.{Inputs}
use Rattle.link_model.specs.Binding.{addresses}
use Rattle.link_model.specs.Account.{program_account}
use Rattle.name_addresses.specs.Given.{given}
use Rattle.coverage.specs.declared.account.Account.{Account}
use Rattle.coverage.specs.Accounts.{account_seen}
use Rattle.image_check.proofs.Laws.{yes_matches, no_is_first}
use Rattle.image_check.proofs.checking.check.Goals as goal

pub returns-clause-yes : goal.returns-clause-yes
returns-clause-yes g c =
    let i : Inputs = given c.args.view.now c.args.layout.now (g.P.KeyedProgram.program c.args.program.now) in
    yes_matches i (c.matches_or_fails.ensures i c.segments-segments.ensures.loadable) Account
    (λ (a : Account). account_seen a ≡ program_account i (addresses i)) c.search.result c.search.ensures.places c.search.ensures.account

pub returns-clause-no : goal.returns-clause-no
returns-clause-no g c =
    let i : Inputs = given c.args.view.now c.args.layout.now (g.P.KeyedProgram.program c.args.program.now) in
    no_is_first i (c.matches_or_fails.ensures i c.segments-segments.ensures.loadable) Account c.search.result c.search.ensures.places
