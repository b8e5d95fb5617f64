use Rattle.std.proofs.Common.{◌≡◌}
use Rattle.ordered_tests.specs.Checks.{first_fault, each_check, from_to}
use Rattle.image_model.specs.SymbolTable.{symbol_count}
use Rattle.image_model.specs.Tests.{name_tests, names_tests}
use Rattle.elf_view.proofs.symbol_table.check_names.Given as goal

-- the symbols from i on decide
abbrev pub invariant-loop-i : goal.invariant-loop-i
invariant-loop-i l = first_fault (names_tests l.b) ≡ first_fault (each_check (name_tests l.b) (from_to l.i (symbol_count l.b)))
