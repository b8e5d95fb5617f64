use Rattle.std.proofs.Common.{◌≡◌, true, List, ap, sym, subst, ◌∙◌}
use Rattle.std.specs.List.{list_all}
use Rattle.asm_syntax.specs.declared.unit.Width.{Width}
use Rattle.asm_shapes.specs.Signatures.{argument_registers, is_argument_register}
use Rattle.call_bytes.specs.Calls.{registers_of_arguments}
use Rattle.asm_step.proofs.Callable.{callable}
use Rattle.asm_step.proofs.executable.Callee.new.Goals as goal

pub new-arguments-requires : goal.new-arguments-requires
new-arguments-requires c =
    let P : List Width → Type 0 = λ ws. list_all is_argument_register (argument_registers ws) ≡ true in
    subst P (sym c.items.ensures) (callable c.args.sig.now c.requires).registers

pub invariant_of-result : goal.invariant_of-result
invariant_of-result c = (c.new-arguments.ensures ∙ ap registers_of_arguments c.items.ensures, callable c.args.sig.now c.requires)
