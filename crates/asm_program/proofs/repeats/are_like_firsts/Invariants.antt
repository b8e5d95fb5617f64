use Rattle.std.proofs.Common.{◌≡◌, ℕ, map, take}
use Rattle.ordered_tests.specs.Checks.{check, first_fault}
use Rattle.link_model.specs.Program.{Declaration}
use Rattle.link_model.specs.LinkTests.{is_like_earlier, repeat_tests}
use Rattle.asm_program.specs.Seen.{declaration_seen}
use Rattle.asm_program.specs.Repeats.{alike_by, fault_by}
use Rattle.asm_program.proofs.Places.{fault_from}
use Rattle.asm_program.proofs.FirstsJoin.{StandFor}
use Rattle.asm_program.proofs.repeats.are_like_firsts.Given as goal

abbrev pub invariant-loop-d : goal.invariant-loop-d
invariant-loop-d l = record {
  firsts : StandFor (alike_by l.rule) l.firsts (take l.d-index (map declaration_seen l.list));
  left : fault_from (λ (d : ℕ × Declaration).
      check (is_like_earlier (alike_by l.rule) (take d.0 (map declaration_seen l.list)) d.1) (fault_by l.rule d.1))
      (map declaration_seen l.list) l.d-index
      ≡ first_fault (repeat_tests (alike_by l.rule) (fault_by l.rule) (map declaration_seen l.list));
}
