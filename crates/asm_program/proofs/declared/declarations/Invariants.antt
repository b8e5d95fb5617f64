use Rattle.std.proofs.Common.{◌≡◌, ◌++◌, map}
use Rattle.link_model.specs.Program.{declarations}
use Rattle.asm_program.specs.Seen.{declaration_seen}
use Rattle.asm_program.proofs.Declarations.{declarations_from}
use Rattle.asm_program.proofs.declared.declarations.Given as goal

abbrev pub invariant-loop-u : goal.invariant-loop-u
invariant-loop-u l = record {
  list : map declaration_seen l.list.items ++ declarations_from l.units l.u ≡ declarations l.units;
}
