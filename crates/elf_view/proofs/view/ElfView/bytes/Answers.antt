use Rattle.elf_view.proofs.LentLemmas.{lent_range}
use Rattle.elf_view.proofs.view.ElfView.bytes.Goals as goal

pub returns-clause-lent : goal.returns-clause-lent
returns-clause-lent c = lent_range c.args.self.now c.args.r.now.lo c.args.r.now.hi c.held.result c.args.r.now.ordered c.held.ensures
