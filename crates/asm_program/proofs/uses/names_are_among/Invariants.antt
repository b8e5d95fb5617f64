use Rattle.std.proofs.Common.{◌≡◌, map, drop}
use Rattle.std.specs.List.{list_any}
use Rattle.std.specs.Str.{bytes_eq}
use Rattle.ordered_tests.specs.Checks.{check, first_fault}
use Rattle.link_model.specs.declared.link_error.LinkError.TheVariants.{Undeclared}
use Rattle.asm_program.specs.Texts.{texts}
use Rattle.asm_program.proofs.uses.names_are_among.Given as goal

abbrev pub invariant-loop-name : goal.invariant-loop-name
invariant-loop-name l = record {
  left : first_fault (map (λ n. check (list_any (bytes_eq n) l.known) (Undeclared l.u n)) (texts (drop l.name-index l.names)))
      ≡ first_fault (map (λ n. check (list_any (bytes_eq n) l.known) (Undeclared l.u n)) (texts l.names));
}
