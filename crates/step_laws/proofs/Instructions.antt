-- Each instruction that makes or frees no frame is followed.
use Rattle.std.proofs.Common.{◌≡◌, ℕ, refl}
use Rattle.asm_syntax.specs.declared.instr.Plain.TheVariants as plains
use Rattle.asm_syntax.specs.declared.instr.Instr.{Instr}
use Rattle.asm_syntax.specs.declared.instr.Instr.TheVariants as instrs
use Rattle.code_model.specs.Forms.{instr_length}
use Rattle.machine_model.specs.Worlds.{World}
use Rattle.machine_model.specs.Fits.{Fits}
use Rattle.step_laws.specs.Laws.{IsFrame, IsFollowed, StepsAreFollowed}
use Rattle.step_laws.proofs.PlainSteps.{plain_step}
use Rattle.step_laws.proofs.BranchSteps.{jump_step, mark_step, bt_step, bf_step}
use Rattle.step_laws.proofs.WordsSteps.{imm_step}
use Rattle.step_laws.proofs.BitSteps.{bit_step}
use Rattle.step_laws.proofs.TableSteps.{table_step}

label_len : (n wd : ℕ) → instr_length (instrs.Label n) wd ≡ 0
unfolding instr_length
label_len n wd = refl

cfi_len : (wd : ℕ) → instr_length instrs.Cfi wd ≡ 0
unfolding instr_length
cfi_len wd = refl

annot_len : (wd : ℕ) → instr_length instrs.Annot wd ≡ 0
unfolding instr_length
annot_len wd = refl

pub each_followed : StepsAreFollowed
each_followed w ok (instrs.Plain (plains.Jump j)) n s t r f i h = jump_step w ok s t r f i j h
each_followed w ok (instrs.Plain (plains.AluImm o a b c)) n s t r f i h = plain_step w ok s t r f i _ tt h
each_followed w ok (instrs.Plain (plains.LogImm o a b c)) n s t r f i h = plain_step w ok s t r f i _ tt h
each_followed w ok (instrs.Plain (plains.Alu o a b c)) n s t r f i h = plain_step w ok s t r f i _ tt h
each_followed w ok (instrs.Plain (plains.Alu2 o a b)) n s t r f i h = plain_step w ok s t r f i _ tt h
each_followed w ok (instrs.Plain (plains.Log o a b c)) n s t r f i h = plain_step w ok s t r f i _ tt h
each_followed w ok (instrs.Plain (plains.Log2 o a b)) n s t r f i h = plain_step w ok s t r f i _ tt h
each_followed w ok (instrs.Plain (plains.Srawi a b c)) n s t r f i h = plain_step w ok s t r f i _ tt h
each_followed w ok (instrs.Plain (plains.Rot o a b c d e)) n s t r f i h = plain_step w ok s t r f i _ tt h
each_followed w ok (instrs.Plain (plains.Load o a b c)) n s t r f i h = plain_step w ok s t r f i _ tt h
each_followed w ok (instrs.Plain (plains.LoadX o a b c)) n s t r f i h = plain_step w ok s t r f i _ tt h
each_followed w ok (instrs.Plain (plains.Store o a b c)) n s t r f i h = plain_step w ok s t r f i _ tt h
each_followed w ok (instrs.Plain (plains.StoreX o a b c)) n s t r f i h = plain_step w ok s t r f i _ tt h
each_followed w ok (instrs.Plain (plains.Cmp o a b c)) n s t r f i h = plain_step w ok s t r f i _ tt h
each_followed w ok (instrs.Plain (plains.CmpImm o a b c)) n s t r f i h = plain_step w ok s t r f i _ tt h
each_followed w ok (instrs.Plain (plains.CrBit o a b c)) n s t r f i h = plain_step w ok s t r f i _ tt h
each_followed w ok (instrs.Plain (plains.Move o a)) n s t r f i h = plain_step w ok s t r f i _ tt h
each_followed w ok (instrs.Plain (plains.Bar o)) n s t r f i h = plain_step w ok s t r f i _ tt h
each_followed w ok (instrs.AllocFrame m) n s t r f i h = absurd (n tt)
each_followed w ok (instrs.FreeFrame m) n s t r f i h = absurd (n tt)
each_followed w ok (instrs.Imm d m) n s t r f i h = imm_step w ok s t r f i d m h
each_followed w ok (instrs.Bt bit label) n s t r f i h = bt_step w ok s t r f i bit label h
each_followed w ok (instrs.Bf bit label) n s t r f i h = bf_step w ok s t r f i bit label h
each_followed w ok (instrs.Btbl q labels) n s t r f i h = table_step w ok s t r f i q labels h
each_followed w ok (instrs.MfcrBit d bit) n s t r f i h = bit_step w ok s t r f i d bit h
each_followed w ok (instrs.Label m) n s t r f i h = mark_step w ok s t r f i (instrs.Label m) h (label_len m _)
each_followed w ok instrs.Cfi n s t r f i h = mark_step w ok s t r f i instrs.Cfi h (cfi_len _)
each_followed w ok instrs.Annot n s t r f i h = mark_step w ok s t r f i instrs.Annot h (annot_len _)
