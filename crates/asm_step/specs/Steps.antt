-- One step of the assembly machine.
use Rattle.std.specs.Prelude.{ℕ, ◌%◌, Bool, true, false, if◌then◌else◌, Option, Some, None}
use Rattle.isa_model.specs.Word.{wrapped}
use Rattle.effect_model.specs.declared.Form.{Form}
use Rattle.effect_model.specs.declared.Place.{Place}
use Rattle.effect_model.specs.declared.Place.TheVariants.{Gpr, Bit}
use Rattle.effect_model.specs.declared.Action.{Action}
use Rattle.effect_model.specs.declared.Action.TheVariants as does
use Rattle.effect_model.specs.Files.{File, get, put}
use Rattle.asm_syntax.specs.declared.instr.Plain.{Plain}
use Rattle.asm_syntax.specs.declared.instr.Plain.TheVariants as plains
use Rattle.asm_syntax.specs.declared.instr.Instr.{Instr}
use Rattle.asm_syntax.specs.declared.instr.Instr.TheVariants as instrs
use Rattle.asm_syntax.specs.declared.unit.Reply.{Reply}
use Rattle.asm_mem.specs.declared.value.Val.{Val}
use Rattle.asm_mem.specs.declared.value.Val.TheVariants.{Undef, Int, Code, Ext, Stop}
use Rattle.asm_values.specs.Operands.{sum_args}
use Rattle.asm_values.specs.Files.{value_read, asm_all, asm_divided}
use Rattle.asm_values.specs.Accesses.{changed, load_by, may_store_by, stored_by}
use Rattle.asm_values.specs.Actions.{plain_action}
use Rattle.asm_step.specs.declared.answer.Why.TheVariants.{End, Access, Divide, Final, Target}
use Rattle.asm_step.specs.LinkedCode.{Linked, instruction, key_at, sig_of}
use Rattle.asm_step.specs.State.{State, Next, Went, Ended, Undefined, gone}
use Rattle.asm_step.specs.Jumps.{jumped, branched, tabled}
use Rattle.asm_step.specs.Frames.{pushed, popped}
use Rattle.asm_step.specs.Calls.{called}

-- ---- plain instructions

abbrev pub loaded : ℕ → ℕ → State → Place → Option Val → Next
loaded f i s to None = Undefined Access
loaded f i s to (Some v) = Went (gone s f i (put s.file to v))

abbrev pub stored : ℕ → ℕ → State → Form → Val → Val → Next
stored f i s form at v =
    if may_store_by s.live form at then Went (record (gone s f i s.file) { live = stored_by s.live form at v }) else Undefined Access

abbrev pub divided : ℕ → ℕ → State → Option (File Val) → Next
divided f i s None = Undefined Divide
divided f i s (Some file) = Went (gone s f i file)

abbrev pub jumps_by : Linked → ℕ → ℕ → State → ℕ → Plain → Next
jumps_by p f i s key (plains.Jump j) = jumped p f i s key j
jumps_by p f i s key _ = Undefined End

abbrev pub performed : Linked → ℕ → ℕ → State → ℕ → Plain → Action → Next
performed p f i s key x (does.Work es) = Went (gone s f i (asm_all p.kinds s.live es s.file))
performed p f i s key x (does.Divide e) = divided f i s (asm_divided p.kinds s.live e s.file)
performed p f i s key x (does.Load form u v to) =
    loaded f i s to (load_by s.live form (sum_args p.kinds (value_read s.file u) (value_read s.file v)))
performed p f i s key x (does.Store form from u v to) =
    stored f i s form (sum_args p.kinds (value_read s.file u) (value_read s.file v)) (get Undef s.file from)
performed p f i s key x (does.MoveFromCr to) = Undefined End
performed p f i s key x does.Jump = jumps_by p f i s key x

-- ---- instructions

abbrev pub act : Linked → ℕ → ℕ → State → ℕ → Instr → Next
act p f i s key (instrs.Plain x) = performed p f i s key x (plain_action x key)
act p f i s key (instrs.AllocFrame n) = Went (pushed f i s n)
act p f i s key (instrs.FreeFrame n) = popped p f i s n s.live
act p f i s key (instrs.Imm r n) = Went (gone s f i (put s.file (Gpr r) (Int (wrapped n))))
act p f i s key (instrs.Bt bit label) = branched p f i s label true (get Undef s.file (Bit bit))
act p f i s key (instrs.Bf bit label) = branched p f i s label false (get Undef s.file (Bit bit))
act p f i s key (instrs.Btbl r labels) = tabled p f s labels (get Undef s.file (Gpr r))
act p f i s key (instrs.MfcrBit r bit) = Went (gone s f i (put s.file (Gpr r) (changed (λ n. n % 2) (get Undef s.file (Bit bit)))))
act p f i s key (instrs.Label label) = Went (gone s f i s.file)
act p f i s key instrs.Cfi = Went (gone s f i s.file)
act p f i s key instrs.Annot = Went (gone s f i s.file)

abbrev pub at_code : Linked → ℕ → ℕ → State → Option Instr → Next
at_code p f i s None = Undefined End
at_code p f i s (Some x) = act p f i s (key_at p f i) x

-- ---- the step

abbrev pub finish : Val → Next
finish (Int n) = Ended n
finish _ = Undefined Final

abbrev pub at_place : Linked → State → Option Reply → Val → Next
at_place p s reply (Code f i) = at_code p f i s (instruction p f i)
at_place p s reply (Ext key o) = called p key s reply (sig_of p key)
at_place p s reply Stop = finish (get Undef s.file (Gpr 3))
at_place p s reply _ = Undefined Target

unfoldable pub asm_step : Linked → State → Option Reply → Next
asm_step p s reply = at_place p s reply s.place

-- the instruction at a place makes a frame
abbrev pub makes_frame : Option Instr → Bool
makes_frame (Some (instrs.AllocFrame n)) = true
makes_frame _ = false

abbrev pub frame_comes : Linked → Val → Bool
frame_comes p (Code f i) = makes_frame (instruction p f i)
frame_comes p _ = false
