use Rattle.std.proofs.Common.{◌≡◌, ◌++◌, map, drop}
use Rattle.std.specs.Prelude.{filter}
use Rattle.link_model.specs.Program.{Declaration, is_external}
use Rattle.asm_program.specs.Seen.{declaration_seen}
use Rattle.asm_program.proofs.repeats.externals_among.Given as goal

abbrev pub invariant-loop-d : goal.invariant-loop-d
invariant-loop-d l = record {
  list : map declaration_seen l.list.items ++ filter (λ (d : Declaration). is_external d.item) (map declaration_seen (drop l.d-index l.all))
      ≡ filter (λ (d : Declaration). is_external d.item) (map declaration_seen l.all);
}
