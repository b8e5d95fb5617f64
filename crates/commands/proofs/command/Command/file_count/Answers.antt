use Rattle.std.proofs.Common.{length, sym, ap, ◌∙◌}
use Rattle.commands.specs.Files.{files}
use Rattle.commands.proofs.FileLemmas.{run_count}
use Rattle.commands.proofs.command.Command.file_count.Goals as goal

pub returns-in-Run : goal.returns-in-Run
returns-in-Run c = sym (ap (λ x. length (files x)) c.in-Run.is ∙ run_count c.in-Run.field-0 c.in-Run.units)
