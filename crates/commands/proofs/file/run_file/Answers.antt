use Rattle.std.proofs.Common.{Some, sym, ap, ◌∙◌, arith}
use Rattle.commands.proofs.FileLemmas.{run_dump_after}
use Rattle.commands.proofs.file.run_file.Goals as goal

pub returns-in_default : goal.returns-in_default
returns-in_default c = λ steps. run_dump_after steps c.args.units c.args.i (omega arith) c.requires
    ∙ ap Some (sym c.file-in_default.ensures)
