use Rattle.std.proofs.Common.{◌≡◌, ◌++◌, take}
use Rattle.std.specs.List.{flat_map}
use Rattle.asm_syntax.specs.Instructions.{instr_symbol}
use Rattle.link_model.specs.Program.{names_in}
use Rattle.asm_program.proofs.uses.add_code.Given as goal

abbrev pub invariant-loop-instr : goal.invariant-loop-instr
invariant-loop-instr l = record {
  names : l.names ≡ l.initial.names ++ flat_map (λ x. names_in (instr_symbol x)) (take l.instr-index l.function.code);
}
