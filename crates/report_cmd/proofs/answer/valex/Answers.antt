use Rattle.report_cmd.proofs.Exact.{answers}
use Rattle.report_cmd.proofs.answer.valex.Goals as goal

pub returns-clause-answers : goal.returns-clause-answers
returns-clause-answers g c =
    answers c.matches_or_fails.ensures c.spans_cover_what_is_loaded.ensures _ _ _ c.write_answer.ensures.ends
