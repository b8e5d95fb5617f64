use Rattle.std.proofs.Common.{◌≡◌, ℕ, List, take}
use Rattle.std.specs.List.{list_any}
use Rattle.std.specs.Str.{bytes_eq}
use Rattle.asm_program.specs.Texts.{texts}
use Rattle.asm_program.proofs.StandingNames.{are_externals}
use Rattle.asm_program.proofs.standing.add_externals.Given as goal

abbrev pub invariant-loop-name : goal.invariant-loop-name
invariant-loop-name l = record {
  set : (v : List ℕ) → list_any (bytes_eq v) l.referred
      ≡ are_externals (list_any (bytes_eq v) l.initial.referred) v (take l.name-index (texts l.names)) l.declared l.defined;
}
