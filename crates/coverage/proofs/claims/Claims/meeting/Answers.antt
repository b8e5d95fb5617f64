use Rattle.std.proofs.Common.{map, ◌∙◌}
use Rattle.coverage.specs.Orders.{kept_seen}
use Rattle.coverage.proofs.Meetings.{pass_first}
use Rattle.coverage.proofs.claims.Claims.meeting.Goals as goal

pub returns-clause-fault : goal.returns-clause-fault
returns-clause-fault c = λ cs e.
    pass_first cs (map kept_seen c.kept.result.now) (c.kept.ensures.seen ∙ e) ∙ c.lowest_meeting.ensures.fault
