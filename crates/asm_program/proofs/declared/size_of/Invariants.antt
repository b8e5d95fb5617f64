use Rattle.std.proofs.Common.{◌≡◌, ◌≤◌, ◌*◌, ◌^◌, ◌+◌, drop}
use Rattle.std.specs.Prelude.{sum_by}
use Rattle.asm_syntax.specs.Sizes.{init_size}
use Rattle.asm_program.proofs.declared.size_of.Given as goal

abbrev pub invariant-loop-init : goal.invariant-loop-init
invariant-loop-init l = record {
  total : l.total + sum_by init_size (drop l.init-index l.items) ≡ sum_by init_size l.items;
  small : l.total ≤ l.init-index * 2 ^ 64;
}
