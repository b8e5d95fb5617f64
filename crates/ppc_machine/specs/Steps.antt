-- One step of the flat machine. Power ISA 2.07, Book I, "Branch Instructions" and "Fixed-Point Facility".
use Rattle.std.specs.Prelude.{ℕ, ◌+◌, ◌-◌, ◌^◌, Bool, not, ◌==◌, if◌then◌else◌, ℤ, Option, Some, None, Result, Ok, Err, List}
use Rattle.std.specs.Int.{cast_unsigned, w32}
use Rattle.isa_model.specs.Word.{wrapped}
use Rattle.image_model.specs.Image.{Segment}
use Rattle.effect_model.specs.declared.Place.{Place}
use Rattle.effect_model.specs.declared.Place.TheVariants.{Gpr, Bit, Lr, Ctr}
use Rattle.effect_model.specs.declared.Action.{Action}
use Rattle.effect_model.specs.declared.Action.TheVariants as does
use Rattle.effect_model.specs.Files.{File, get, put, word_read, flat_all, flat_effect, flat_stops, word_of_bits}
use Rattle.asm_syntax.specs.declared.unit.Reply.{Reply}
use Rattle.ppc_decode.specs.declared.machine.Machine.{Machine}
use Rattle.ppc_decode.specs.declared.machine.Machine.TheVariants.{B, Bl, Bc, Blr, Bctr, Bctrl}
use Rattle.ppc_decode.specs.Decoding.{decoded}
use Rattle.flat_mem.specs.declared.memory.FaultKind.{FaultKind}
use Rattle.flat_mem.specs.declared.memory.FaultKind.TheVariants.{Unmapped, Opcode, Divide, Trap}
use Rattle.flat_mem.specs.Access.{loaded, stored, fetched}
use Rattle.ppc_machine.specs.declared.externals.External.{External}
use Rattle.ppc_machine.specs.Actions.{action_of}
use Rattle.ppc_machine.specs.State.{FlatState, FlatNext, Went, Called, Ended, Starved, Faulted}
use Rattle.ppc_machine.specs.Buffers.{aligned, buffers_fault, event, returned}

-- the address of the next instruction
abbrev pub following : FlatState → ℕ
following t = wrapped (t.pc + 4)

-- at the next instruction with these registers
abbrev pub on : FlatState → File ℕ → List Segment → FlatNext
on t f m = Went (record { file = f; pc = following t; mem = m })

-- elsewhere with these registers
abbrev pub at : FlatState → File ℕ → ℕ → FlatNext
at t f a = Went (record t { file = f; pc = a })

-- after a load
abbrev pub got : FlatState → Place → Option ℕ → FlatNext
got t p None = Faulted Unmapped
got t p (Some x) = on t (put t.file p x) t.mem

-- after a store
abbrev pub kept : FlatState → File ℕ → Result (List Segment) FaultKind → FlatNext
kept t f (Err e) = Faulted e
kept t f (Ok m) = on t f m

-- a displacement away
abbrev pub target : FlatState → ℤ → ℕ
target t d = wrapped (t.pc + cast_unsigned w32 d)

-- one less
abbrev pub counted : ℕ → ℕ
counted n = wrapped (n + (2 ^ 32 - 1))

-- bc with BO 12 goes where the bit is 1, with BO 4 where it is not
abbrev pub goes : ℕ → ℕ → Bool
goes bo b = if bo == 12 then b == 1 else not (b == 1)

-- with BO 16 it goes where the counter, less one, is not 0
abbrev pub branch_place : FlatState → ℕ → ℕ → ℤ → ℕ
branch_place t bo bi d =
    if bo == 16 then (if counted t.file.ctr == 0 then following t else target t d)
    else if goes bo (get 0 t.file (Bit bi)) then target t d
    else following t

-- with BO 16 it counts down
abbrev pub branch_file : ℕ → File ℕ → File ℕ
branch_file bo f = if bo == 16 then put f Ctr (counted f.ctr) else f

-- a branch, or the trap
abbrev pub jumped : FlatState → Machine → FlatNext
jumped t (B d) = at t t.file (target t d)
jumped t (Bl d) = at t (put t.file Lr (following t)) (target t d)
jumped t (Bc bo bi d) = at t (branch_file bo t.file) (branch_place t bo bi d)
jumped t Blr = at t t.file (aligned t.file.lr)
jumped t Bctr = at t t.file (aligned t.file.ctr)
jumped t Bctrl = at t (put t.file Lr (following t)) (aligned t.file.ctr)
jumped t _ = Faulted Trap

abbrev pub performed : FlatState → Machine → Action → FlatNext
performed t i (does.Work es) = on t (flat_all es t.file) t.mem
performed t i (does.Divide e) = if flat_stops e t.file then Faulted Divide else on t (flat_effect e t.file) t.mem
performed t i (does.Load f x y p) = got t p (loaded t.mem f (wrapped (word_read t.file x + word_read t.file y)))
performed t i (does.Store f p x y to) =
    let a = wrapped (word_read t.file x + word_read t.file y) in
    kept t (put t.file to a) (stored t.mem f a (get 0 t.file p))
performed t i (does.MoveFromCr p) = on t (put t.file p (word_of_bits t.file.bits)) t.mem
performed t i does.Jump = jumped t i

abbrev pub decoded_as : FlatState → Option Machine → FlatNext
decoded_as t None = Faulted Opcode
decoded_as t (Some i) = performed t i (action_of i)

abbrev pub fetched_as : FlatState → Result ℕ FaultKind → FlatNext
fetched_as t (Err e) = Faulted e
fetched_as t (Ok w) = decoded_as t (decoded w)

-- ---- at an external function

abbrev pub answered : FlatState → External → Option Reply → FlatNext
answered t x None = Starved
answered t x (Some r) = Called (event x t) (returned x t r)

abbrev pub called : FlatState → External → Option Reply → Option FaultKind → FlatNext
called t x r (Some e) = Faulted e
called t x r None = answered t x r

abbrev pub at_external : FlatState → Option Reply → Option External → FlatNext
at_external t r None = fetched_as t (fetched t.mem t.pc)
at_external t r (Some x) = called t x r (buffers_fault t.mem t.file x.sig x.sig.buffers)

-- where the machine ends at `stop`, and `x` is the external function at its place
unfoldable pub flat_step : ℕ → FlatState → Option External → Option Reply → FlatNext
flat_step stop t x r = if t.pc == stop then Ended (get 0 t.file (Gpr 3)) else at_external t r x
