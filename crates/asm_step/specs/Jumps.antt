-- Branches, tables and the trap.
use Rattle.std.specs.Prelude.{ℕ, suc, ◌+◌, ◌-◌, ◌^◌, pos, Bool, not, ◌==◌, nat_lt, if◌then◌else◌, List, length, slice_index_or}
use Rattle.isa_model.specs.Word.{wrapped}
use Rattle.effect_model.specs.declared.Place.TheVariants.{Gpr, Lr, Ctr}
use Rattle.effect_model.specs.Files.{put}
use Rattle.asm_syntax.specs.declared.instr.Jump.{Jump}
use Rattle.asm_syntax.specs.declared.instr.Jump.TheVariants as jumps
use Rattle.asm_mem.specs.declared.value.Val.{Val}
use Rattle.asm_mem.specs.declared.value.Val.TheVariants.{Undef, Int, Code}
use Rattle.asm_values.specs.Operands.{symbol_value}
use Rattle.asm_step.specs.declared.answer.Why.TheVariants.{Target, Count, Trap, Table, Bit as NoBit}
use Rattle.asm_step.specs.LinkedCode.{Linked, is_target, place_of_label}
use Rattle.asm_step.specs.State.{State, Next, Went, Undefined}

abbrev pub at_label : Linked → ℕ → ℕ → Val
at_label p f label = Code f (place_of_label p f label)

-- to a value
abbrev pub jump : Linked → Val → State → Next
jump p v s = if is_target p v then Went (record s { place = v }) else Undefined Target

-- with the next instruction in LR
abbrev pub linked : State → ℕ → ℕ → State
linked s f i = record s { file = put s.file Lr (Code f (suc i)) }

-- one less
abbrev pub counted : ℕ → ℕ
counted n = wrapped (n + (2 ^ 32 - 1))

abbrev pub counts : Linked → ℕ → ℕ → State → ℕ → Val → Next
counts p f i s label (Int n) =
    Went (record s {
      file = put s.file Ctr (Int (counted n));
      place = if counted n == 0 then Code f (suc i) else at_label p f label;
    })
counts p f i s label _ = Undefined Count

abbrev pub jumped : Linked → ℕ → ℕ → State → ℕ → Jump → Next
jumped p f i s key (jumps.B label) = Went (record s { place = at_label p f label })
jumped p f i s key (jumps.Bs name) = jump p (symbol_value p.kinds key (pos 0) 0) s
jumped p f i s key (jumps.Bl name) = jump p (symbol_value p.kinds key (pos 0) 0) (linked s f i)
jumped p f i s key (jumps.Bdnz label) = counts p f i s label s.file.ctr
jumped p f i s key jumps.Blr = jump p s.file.lr s
jumped p f i s key jumps.Bctr = jump p s.file.ctr s
jumped p f i s key jumps.Bctrl = jump p s.file.ctr (linked s f i)
jumped p f i s key jumps.Trap = Undefined Trap

-- to a label where a bit is 1, or where it is not
abbrev pub branched : Linked → ℕ → ℕ → State → ℕ → Bool → Val → Next
branched p f i s label wanted (Int n) =
    Went (record s { place = if (if wanted then n == 1 else not (n == 1)) then at_label p f label else Code f (suc i) })
branched p f i s label wanted _ = Undefined NoBit

-- to the label at a place of a list
abbrev pub tabled : Linked → ℕ → State → List ℕ → Val → Next
tabled p f s labels (Int j) =
    if nat_lt j (length labels)
    then Went (record s {
      file = put (put s.file (Gpr 12) Undef) Ctr Undef;
      place = at_label p f (slice_index_or labels j 0);
    })
    else Undefined Table
tabled p f s labels _ = Undefined Table
