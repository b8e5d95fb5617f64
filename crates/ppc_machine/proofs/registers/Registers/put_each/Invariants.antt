use Rattle.std.proofs.Common.{◌≡◌, drop}
use Rattle.effect_model.specs.Calls.{put_each}
use Rattle.ppc_machine.specs.Replies.{reply_word}
use Rattle.ppc_machine.proofs.registers.Registers.put_each.Given as goal

abbrev pub invariant-loop-p : goal.invariant-loop-p
invariant-loop-p l = put_each (reply_word l.r) l.places l.initial.self ≡ put_each (reply_word l.r) (drop l.p-index l.places) l.self
