use Rattle.std.proofs.Common.{◌≡◌, List, ℕ, ap, ◌∙◌}
use Rattle.std.specs.List.{list_all}
use Rattle.asm_mem.specs.declared.value.Val.TheVariants.{Undef}
use Rattle.asm_shapes.specs.Signatures.{argument_registers}
use Rattle.call_bytes.specs.Calls.{ArgumentRegisters, held}
use Rattle.asm_step.specs.Calls.{is_argument}
use Rattle.asm_step.specs.State.{State}
use Rattle.asm_step.proofs.Holding.{held_all}
use Rattle.asm_step.proofs.machine.Machine.has_arguments.Goals as goal

pub returns : goal.returns
returns c =
    let f = c.self.inside.file in
    let live = c.self.inside.blocks.live in
    let registers = argument_registers c.args.c.now.args in
    let words : c.words.result.now ≡ registers = c.words.ensures.value ∙ ap (λ (a : ArgumentRegisters). a.words) c.arguments.ensures in
    c.are_arguments.ensures ∙ held_all f (is_argument live) c.words.result.now
    ∙ ap (λ (rs : List ℕ). list_all (is_argument live) (held Undef f rs)) words
    ∙ ap (λ (s : State). list_all (is_argument s.live) (held Undef s.file registers)) c.self.view_is
