-- The numbers of the faults.
use Rattle.std.specs.Prelude.{ℕ}
use Rattle.flat_mem.specs.declared.memory.FaultKind.{FaultKind}
use Rattle.flat_mem.specs.declared.memory.FaultKind.TheVariants.{Unmapped, NotCode, ReadOnly, Opcode, Divide, Trap, Buffer}

abbrev pub number_of : FaultKind → ℕ
number_of Unmapped = 1
number_of NotCode = 2
number_of ReadOnly = 3
number_of Opcode = 4
number_of Divide = 5
number_of Trap = 6
number_of Buffer = 7
