-- The word of an instruction with a small-data constant is judged alike at every address.
use Rattle.std.proofs.Common.{◌≡◌, ℕ, true, refl}
use Rattle.asm_syntax.specs.declared.instr.Const.TheVariants as consts
use Rattle.asm_syntax.specs.declared.instr.Plain.{Plain}
use Rattle.asm_syntax.specs.declared.instr.Plain.TheVariants as plains
use Rattle.asm_syntax.specs.Instructions.{has_small_data}
use Rattle.layout_model.specs.Layouts.{Layout}
use Rattle.code_model.specs.Forms.{plain_form}
use Rattle.code_model.specs.WordChecks.{shape_of, shape_checks}

pub shape_anywhere : (l : Layout) (at t w : ℕ) (p : Plain) → has_small_data p ≡ true →
    shape_checks l 0 0 (shape_of 0 (plain_form t p) w) w ≡ shape_checks l 0 at (shape_of at (plain_form t p) w) w
unfolding shape_checks
shape_anywhere l at t w (plains.AluImm op d a (consts.Int n)) h = absurd (cc)
shape_anywhere l at t w (plains.AluImm op d a (consts.Lo n o)) h = absurd (cc)
shape_anywhere l at t w (plains.AluImm op d a (consts.Ha n o)) h = absurd (cc)
shape_anywhere l at t w (plains.AluImm op d a (consts.Sda n o)) h = refl
shape_anywhere l at t w (plains.Load op d (consts.Int n) a) h = absurd (cc)
shape_anywhere l at t w (plains.Load op d (consts.Lo n o) a) h = absurd (cc)
shape_anywhere l at t w (plains.Load op d (consts.Ha n o) a) h = absurd (cc)
shape_anywhere l at t w (plains.Load op d (consts.Sda n o) a) h = refl
shape_anywhere l at t w (plains.Store op s (consts.Int n) a) h = absurd (cc)
shape_anywhere l at t w (plains.Store op s (consts.Lo n o) a) h = absurd (cc)
shape_anywhere l at t w (plains.Store op s (consts.Ha n o) a) h = absurd (cc)
shape_anywhere l at t w (plains.Store op s (consts.Sda n o) a) h = refl
shape_anywhere l at t w (plains.LogImm op a s n) h = absurd (cc)
shape_anywhere l at t w (plains.Alu op d a b) h = absurd (cc)
shape_anywhere l at t w (plains.Alu2 op d a) h = absurd (cc)
shape_anywhere l at t w (plains.Log op a s b) h = absurd (cc)
shape_anywhere l at t w (plains.Log2 op a s) h = absurd (cc)
shape_anywhere l at t w (plains.Srawi a s n) h = absurd (cc)
shape_anywhere l at t w (plains.Rot op a s sh mb me) h = absurd (cc)
shape_anywhere l at t w (plains.LoadX op d a b) h = absurd (cc)
shape_anywhere l at t w (plains.StoreX op s a b) h = absurd (cc)
shape_anywhere l at t w (plains.Cmp op f a b) h = absurd (cc)
shape_anywhere l at t w (plains.CmpImm op f a n) h = absurd (cc)
shape_anywhere l at t w (plains.CrBit op x a b) h = absurd (cc)
shape_anywhere l at t w (plains.Move op r) h = absurd (cc)
shape_anywhere l at t w (plains.Bar op) h = absurd (cc)
shape_anywhere l at t w (plains.Jump j) h = absurd (cc)
