-- The first state of the flat machine.
use Rattle.std.specs.Prelude.{ℕ, ◌-◌, [], ◌∷◌, replicate, slice_set, List}
use Rattle.image_model.specs.Image.{Segment}
use Rattle.layout_model.specs.Layouts.{Layout}
use Rattle.effect_model.specs.Files.{File, put_bits, bit_of}
use Rattle.flat_mem.specs.Memory.{set_bytes}
use Rattle.ppc_machine.specs.declared.cpu.Junk.{Junk}
use Rattle.ppc_machine.specs.State.{FlatCpu}

-- the root frame: the least that the stack pointer of a function may point to
abbrev pub root_of : Layout → ℕ
root_of layout = layout.stack.hi - 16

-- registers with these words: the condition register and XER are given whole
abbrev pub file_of : List ℕ → ℕ → ℕ → ℕ → ℕ → File ℕ
file_of gprs cr lr ctr xer = put_bits
    (record { gprs = gprs; bits = replicate 32 0; lr = lr; ctr = ctr; ca = bit_of xer 2; so = bit_of xer 0 }) cr 0 32

-- r1 is the root frame, r2 and r13 are the bases of small data, LR is the stop point, all else is left over
abbrev pub first_file : Layout → Junk → File ℕ
first_file layout junk =
    file_of (slice_set (slice_set (slice_set junk.regs 1 (root_of layout)) 2 layout.r2) 13 layout.r13)
    junk.cr layout.stop junk.ctr junk.xer

abbrev pub first_cpu : ℕ → Layout → Junk → FlatCpu
first_cpu entry layout junk =
    record { processor = record { file = first_file layout junk; pc = entry }; stop = layout.stop }

-- the root frame has no caller: its first word is 0
abbrev pub first_memory : Layout → List Segment → List Segment
first_memory layout mem = set_bytes mem (root_of layout) (0 ∷ 0 ∷ 0 ∷ 0 ∷ [])
