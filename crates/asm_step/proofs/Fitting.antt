-- What the shape of a code tells of an instruction that is found in it.
use Rattle.std.proofs.Common.{◌≡◌, ℕ, zero, suc, ◌<◌, true, List, [], ◌∷◌, length, slice_index_or, Some, refl, ap, sym, ◌∙◌, arith}
use Rattle.std.specs.Prelude.{slice_get}
use Rattle.std.proofs.lemmas.Bool.{and_parts, ltb-true}
use Rattle.isa_model.specs.Operands.{is_cr_field}
use Rattle.asm_syntax.specs.declared.instr.Instr.{Instr}
use Rattle.asm_syntax.specs.declared.instr.Instr.TheVariants as instrs
use Rattle.asm_syntax.specs.declared.instr.Plain.{Plain}
use Rattle.asm_syntax.specs.declared.instr.Plain.TheVariants.{Cmp, CmpImm}
use Rattle.asm_shapes.specs.Operands.{plain_in_range, instr_in_range, is_compared}
use Rattle.asm_shapes.specs.Shapes.{HasShape}
use Rattle.asm_values.specs.Actions.{HasField}
use Rattle.asm_step.specs.Callable.{FitsInstr}

plain_fits : (x : Plain) → plain_in_range x ≡ true → HasField x
plain_fits (Cmp o f a b) h = ltb-true f 8 h
plain_fits (CmpImm o f a n) h = ltb-true f 8 (and_parts (is_cr_field f) (is_compared o n) h).0
plain_fits _ h = tt

instr_fits : (x : Instr) → instr_in_range x ≡ true → FitsInstr x
instr_fits (instrs.Plain x) h = plain_fits x h
instr_fits _ h = tt

found_fits : (code : List Instr) (i : ℕ) (x : Instr) → HasShape code → slice_get code i ≡ Some x → FitsInstr x
found_fits code i x s h = instr_fits x (s.each i x h).operands

get_at : (code : List Instr) (i : ℕ) (x : Instr) → i < length code → slice_get code i ≡ Some (slice_index_or code i x)
get_at [] i x h = absurd (omega arith)
get_at (y ∷ code) zero x h = refl
get_at (y ∷ code) (suc i) x h = get_at code i x (omega arith)

pub index_fits : (code : List Instr) (i : ℕ) (x : Instr) → HasShape code → i < length code → x ≡ slice_index_or code i x → FitsInstr x
index_fits code i x s h e = found_fits code i x s (get_at code i x h ∙ ap Some (sym e))
