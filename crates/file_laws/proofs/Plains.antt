-- Each plain instruction that is no jump does alike in the assembly and, by its word, in the image.
use Rattle.std.proofs.Common.{◌≡◌, ℕ, ◌<◌, true, false, List, length, Some, refl, ap, subst, sym, arith}
use Rattle.std.specs.Prelude.{ℤ}
use Rattle.std.specs.Int.{cast_unsigned, w32}
use Rattle.effect_model.specs.declared.Operand.TheVariants.{Number}
use Rattle.effect_model.specs.declared.Effects.TheVariants.{Nothing}
use Rattle.effect_model.specs.declared.Action.{Action}
use Rattle.effect_model.specs.Rows.{register}
use Rattle.asm_syntax.specs.declared.operations.MoveOp.TheVariants as moves
use Rattle.asm_syntax.specs.Places.{alu_imm_place, load_place, store_place, log_imm_place, alu_place, alu2_place, log_place, log2_place}
use Rattle.asm_syntax.specs.Places.{rot_place, load_x_place, store_x_place, cmp_place, cmp_imm_place, cr_bit_place}
use Rattle.asm_syntax.specs.declared.instr.Plain.{Plain}
use Rattle.asm_syntax.specs.declared.instr.Plain.TheVariants as plains
use Rattle.asm_values.specs.Actions.{plain_action}
use Rattle.ppc_decode.specs.declared.machine.Machine.{Machine}
use Rattle.ppc_decode.specs.declared.machine.Machine.TheVariants as machine
use Rattle.ppc_machine.specs.Actions.{action_of}
use Rattle.file_laws.specs.Laws.{ActionsAgree, Alike}
use Rattle.file_laws.proofs.Sums.{with_found}
use Rattle.file_laws.proofs.Alikes.{same_work, alu_imm_alike, log_imm_alike, alu_alike, alu2_alike, log_alike, log2_alike, srawi_alike}
use Rattle.file_laws.proofs.Alikes.{rot_alike, cmp_alike, cr_bit_alike, move_alike, load_alike, store_alike, load_x_alike, store_x_alike}

pub plain_alike : ActionsAgree
plain_alike w ok live next laid (plains.AluImm o d b c) key t at wd n free range agreed keyed =
    let made : ℕ → ℤ → Machine = λ r n. machine.AluImm (alu_imm_place o) d r n in
    subst (λ m. Alike w live next (plain_action (plains.AluImm o d b c) key) (action_of m)) (sym (with_found t b c made wd))
    (alu_imm_alike w ok live next laid o d b c key t at wd made free range agreed keyed)
plain_alike w ok live next laid (plains.LogImm o b c m) key t at wd n free range agreed keyed =
    log_imm_alike w ok live next laid (log_imm_place o) b c m free
plain_alike w ok live next laid (plains.Alu o d b c) key t at wd n free range agreed keyed =
    alu_alike w ok live next laid (alu_place o) d b c free
plain_alike w ok live next laid (plains.Alu2 o d b) key t at wd n free range agreed keyed =
    alu2_alike w ok live next laid (alu2_place o) d b free
plain_alike w ok live next laid (plains.Log o b c d) key t at wd n free range agreed keyed =
    log_alike w ok live next laid (log_place o) b c d free
plain_alike w ok live next laid (plains.Log2 o b c) key t at wd n free range agreed keyed =
    log2_alike w ok live next laid (log2_place o) b c free
plain_alike w ok live next laid (plains.Srawi b c m) key t at wd n free range agreed keyed = srawi_alike w ok live next laid b c m free
plain_alike w ok live next laid (plains.Rot o b c sh mb me) key t at wd n free range agreed keyed =
    rot_alike w ok live next laid (rot_place o) b c sh mb me free
plain_alike w ok live next laid (plains.Load o d c b) key t at wd n free range agreed keyed =
    let made : ℕ → ℤ → Machine = λ r n. machine.Load (load_place o) d n r in
    subst (λ m. Alike w live next (plain_action (plains.Load o d c b) key) (action_of m)) (sym (with_found t b c made wd))
    (load_alike w ok live next laid (load_place o) d b c key t at wd made free range agreed keyed)
plain_alike w ok live next laid (plains.LoadX o d b c) key t at wd n free range agreed keyed =
    load_x_alike w ok live next laid (load_x_place o) d b c free
plain_alike w ok live next laid (plains.Store o d c b) key t at wd n free range agreed keyed =
    let made : ℕ → ℤ → Machine = λ r n. machine.Store (store_place o) d n r in
    subst (λ m. Alike w live next (plain_action (plains.Store o d c b) key) (action_of m)) (sym (with_found t b c made wd))
    (store_alike w ok live next laid (store_place o) d b c key t at wd made range agreed keyed)
plain_alike w ok live next laid (plains.StoreX o d b c) key t at wd n free range agreed keyed =
    store_x_alike w ok live next laid (store_x_place o) d b c
plain_alike w ok live next laid (plains.Cmp o y b c) key t at wd n free range agreed keyed =
    cmp_alike w ok live next laid (cmp_place o) y b (register c) refl
plain_alike w ok live next laid (plains.CmpImm o y b m) key t at wd n free range agreed keyed =
    cmp_alike w ok live next laid (cmp_imm_place o) y b (Number (cast_unsigned w32 m)) refl
plain_alike w ok live next laid (plains.CrBit o b c d) key t at wd n free range agreed keyed =
    cr_bit_alike w ok live next laid (cr_bit_place o) b c d
plain_alike w ok live next laid (plains.Move moves.Mflr d) key t at wd n free range agreed keyed =
    move_alike w ok live next laid 0 d (λ e. free) (λ e. free)
plain_alike w ok live next laid (plains.Move moves.Mfctr d) key t at wd n free range agreed keyed =
    move_alike w ok live next laid 1 d (λ e. free) (λ e. free)
plain_alike w ok live next laid (plains.Move moves.Mtlr d) key t at wd n free range agreed keyed =
    move_alike w ok live next laid 2 d (λ e. absurd (omega arith)) (λ e. absurd (omega arith))
plain_alike w ok live next laid (plains.Move moves.Mtctr d) key t at wd n free range agreed keyed =
    move_alike w ok live next laid 3 d (λ e. absurd (omega arith)) (λ e. absurd (omega arith))
plain_alike w ok live next laid (plains.Bar o) key t at wd n free range agreed keyed = same_work w ok live next laid Nothing tt
plain_alike w ok live next laid (plains.Jump j) key t at wd n free range agreed keyed = absurd n
