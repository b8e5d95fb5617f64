use Rattle.std.proofs.Common.{◌≡◌, ℕ, List, take}
use Rattle.std.specs.List.{list_any}
use Rattle.std.specs.Str.{bytes_eq}
use Rattle.asm_program.specs.Standing.{uses_external}
use Rattle.asm_program.proofs.standing.referred_names.Given as goal

abbrev pub invariant-loop-unit : goal.invariant-loop-unit
invariant-loop-unit l = record {
  set : (v : List ℕ) → list_any (bytes_eq v) l.referred ≡ list_any (uses_external v) (take l.unit-index l.units);
}
