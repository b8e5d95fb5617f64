use Rattle.std.proofs.Common.{◌≡◌, drop}
use Rattle.effect_model.specs.Calls.{put_each, volatile}
use Rattle.asm_step.specs.Calls.{result_value}
use Rattle.asm_step.proofs.buffers.give_results.Given as goal

abbrev pub invariant-loop-p : goal.invariant-loop-p
invariant-loop-p l = put_each (result_value l.width l.r) (drop l.p-index volatile) l.file
    ≡ put_each (result_value l.width l.r) volatile l.initial.file
