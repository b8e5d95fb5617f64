-- All that an answer of the program says.
use Rattle.std.specs.Prelude.{ℕ, List}
use Rattle.report_cmd.specs.Ends.{Outside, Ends}
use Rattle.report_cmd.specs.Reports.{Tells}
use Rattle.report_cmd.specs.Exactly.{AnswersExactly}

-- `ends`: the cause of the verdict, and what was written; `tells`: what a yes and a no of `check` mean; `exactly`: when each status comes
pub record Answers (o : Outside) (words : List (List ℕ)) (status : ℕ) : Type 0 where
  pub ends : Ends o words status
  pub tells : Tells o words status
  pub exactly : AnswersExactly o words status
