use Rattle.std.proofs.Common.{◌≡◌, ◌++◌, map}
use Rattle.asm_program.specs.Numbered.{numbered, row_seen}
use Rattle.asm_program.proofs.numbers.Numbers.table.Given as goal

abbrev pub invariant-loop-name : goal.invariant-loop-name
invariant-loop-name l = record {
  rows : map row_seen l.rows.items ++ numbered l.name-iterator ≡ l.self;
}
