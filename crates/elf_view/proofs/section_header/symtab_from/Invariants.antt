use Rattle.std.proofs.Common.{◌≡◌}
use Rattle.elf_view.specs.Left.{symtabs_from}
use Rattle.elf_view.proofs.section_header.symtab_from.Given as goal

-- the sections before i are no symbol tables
abbrev pub invariant-loop-i : goal.invariant-loop-i
invariant-loop-i l = symtabs_from l.b l.start ≡ symtabs_from l.b l.i
