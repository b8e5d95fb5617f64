use Rattle.std.proofs.Common.{◌≡◌, ◌++◌, take}
use Rattle.std.specs.List.{flat_map}
use Rattle.asm_syntax.specs.Sizes.{init_symbol}
use Rattle.link_model.specs.Program.{names_in}
use Rattle.asm_program.proofs.uses.add_data.Given as goal

abbrev pub invariant-loop-init : goal.invariant-loop-init
invariant-loop-init l = record {
  names : l.names ≡ l.initial.names ++ flat_map (λ x. names_in (init_symbol x)) (take l.init-index l.variable.init);
}
