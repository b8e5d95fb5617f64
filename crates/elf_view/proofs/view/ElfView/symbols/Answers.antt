use Rattle.std.proofs.Common.{arith}
use Rattle.elf_view.proofs.Facts.{few_symbols}
use Rattle.elf_view.proofs.view.ElfView.symbols.Goals as goal

pub returns-clause-few : goal.returns-clause-few
returns-clause-few c = omega (arith, c.self.invariant.count, few_symbols c.self.inside.bytes.now c.self.invariant.readable)
