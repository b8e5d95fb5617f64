use Rattle.std.proofs.Common.{length, ap, ◌∙◌, arith}
use Rattle.std.specs.Prelude.{slice_get}
use Rattle.commands.specs.Files.{files}
use Rattle.commands.proofs.FileLemmas.{run_count}
use Rattle.commands.proofs.command.Command.file_at.Goals as goal

pub run_file-requires : goal.run_file-requires
run_file-requires c =
    let count = ap (λ x. length (files x)) c.in-Run.is ∙ run_count c.in-Run.field-0 c.in-Run.units in
    omega (arith, c.requires, count)

pub returns-in-Run : goal.returns-in-Run
returns-in-Run c = ap (λ x. slice_get (files x) c.args.i) c.in-Run.is ∙ c.run_file.ensures c.in-Run.field-0
