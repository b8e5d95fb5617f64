use Rattle.std.proofs.Common.{◌≡◌, ◌+◌, List, ℕ, arith, subst}
use Rattle.std.specs.Prelude.{IsTrue}
use Rattle.call_bytes.specs.CallLists.{add_last, has_room}
use Rattle.asm_step.proofs.Reading.{read_more}
use Rattle.asm_step.proofs.buffers.read_list.Goals as goal

pub loop-i-preserved : goal.loop-i-preserved
loop-i-preserved c =
    let P : List (List ℕ) → Type 0 = λ l. IsTrue (has_room l) → c.put.new.self ≡ add_last l c.byte_or_zero.result in
    read_more c.args.bytes.now c.put.new.self c.args.blocks.now.live c.args.b c.args.o c.loop-i.i (c.from.result + c.from-in-loop-i.result)
    c.byte_or_zero.result c.requires.short (omega arith) (omega arith) c.byte_or_zero.ensures
    (subst P c.loop-i.invariant c.put.ensures.kept)
