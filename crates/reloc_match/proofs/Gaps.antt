-- Instructions without a small-data constant are judged without a layout.
use Rattle.std.proofs.Common.{◌≡◌, ℕ, false, refl}
use Rattle.asm_syntax.specs.declared.instr.Const.TheVariants as consts
use Rattle.asm_syntax.specs.declared.instr.Jump.TheVariants as jumps
use Rattle.asm_syntax.specs.declared.instr.Plain.{Plain}
use Rattle.asm_syntax.specs.declared.instr.Plain.TheVariants as plains
use Rattle.asm_syntax.specs.Instructions.{has_small_data}
use Rattle.code_model.specs.Forms.{plain_form}
use Rattle.reloc_match.specs.Gaps.{needs_layout}

pub gap_without_layout : (t : ℕ) (p : Plain) → has_small_data p ≡ false → needs_layout (plain_form t p).gap ≡ false
gap_without_layout t (plains.AluImm op d a (consts.Int n)) h = refl
gap_without_layout t (plains.AluImm op d a (consts.Lo n o)) h = refl
gap_without_layout t (plains.AluImm op d a (consts.Ha n o)) h = refl
gap_without_layout t (plains.AluImm op d a (consts.Sda n o)) h = absurd (cc)
gap_without_layout t (plains.Load op d (consts.Int n) a) h = refl
gap_without_layout t (plains.Load op d (consts.Lo n o) a) h = refl
gap_without_layout t (plains.Load op d (consts.Ha n o) a) h = refl
gap_without_layout t (plains.Load op d (consts.Sda n o) a) h = absurd (cc)
gap_without_layout t (plains.Store op s (consts.Int n) a) h = refl
gap_without_layout t (plains.Store op s (consts.Lo n o) a) h = refl
gap_without_layout t (plains.Store op s (consts.Ha n o) a) h = refl
gap_without_layout t (plains.Store op s (consts.Sda n o) a) h = absurd (cc)
gap_without_layout t (plains.LogImm op a s n) h = refl
gap_without_layout t (plains.Alu op d a b) h = refl
gap_without_layout t (plains.Alu2 op d a) h = refl
gap_without_layout t (plains.Log op a s b) h = refl
gap_without_layout t (plains.Log2 op a s) h = refl
gap_without_layout t (plains.Srawi a s n) h = refl
gap_without_layout t (plains.Rot op a s sh mb me) h = refl
gap_without_layout t (plains.LoadX op d a b) h = refl
gap_without_layout t (plains.StoreX op s a b) h = refl
gap_without_layout t (plains.Cmp op f a b) h = refl
gap_without_layout t (plains.CmpImm op f a n) h = refl
gap_without_layout t (plains.CrBit op x a b) h = refl
gap_without_layout t (plains.Move op r) h = refl
gap_without_layout t (plains.Bar op) h = refl
gap_without_layout t (plains.Jump (jumps.B n)) h = refl
gap_without_layout t (plains.Jump (jumps.Bs n)) h = refl
gap_without_layout t (plains.Jump (jumps.Bl n)) h = refl
gap_without_layout t (plains.Jump (jumps.Bdnz n)) h = refl
gap_without_layout t (plains.Jump jumps.Blr) h = refl
gap_without_layout t (plains.Jump jumps.Bctr) h = refl
gap_without_layout t (plains.Jump jumps.Bctrl) h = refl
gap_without_layout t (plains.Jump jumps.Trap) h = refl
