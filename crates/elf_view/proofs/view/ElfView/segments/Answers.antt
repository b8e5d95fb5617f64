use Rattle.elf_view.proofs.Facts.{loadable}
use Rattle.elf_view.proofs.view.ElfView.segments.Goals as goal

pub returns-clause-loadable : goal.returns-clause-loadable
returns-clause-loadable c = loadable c.self.inside.bytes.now c.args.self.now c.self.invariant.readable c.self.view_is
