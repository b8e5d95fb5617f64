-- What a plain instruction does in the assembly is alike to what its word does in the image.
use Rattle.std.proofs.Common.{◌≡◌, ℕ, zero, suc, ◌+◌, ◌*◌, ◌%◌, ◌<◌, Bool, true, false, not, ◌&&◌, List, [], ◌∷◌, length, Option, Some}
use Rattle.std.proofs.Common.{None, refl, sym, ap, ap₂, ◌∙◌, subst, arith, if◌then◌else◌, nat_lt}
use Rattle.std.specs.Prelude.{◌==◌, ℤ, pos, slice_index_or, bit_xor}
use Rattle.std.specs.List.{list_all}
use Rattle.std.proofs.lemmas.Bool.{eqb-true, ltb-true, and_parts, and_from, not-true}
use Rattle.std.specs.Int.{cast_unsigned, w32}
use Rattle.isa_model.specs.Word.{wrapped}
use Rattle.isa_model.specs.Instructions.{or_place, and_dot_place}
use Rattle.effect_model.specs.declared.Place.{Place}
use Rattle.effect_model.specs.declared.Place.TheVariants.{Gpr, Bit, Lr, Ctr, Ca, So, Unused}
use Rattle.effect_model.specs.declared.Operand.{Operand}
use Rattle.effect_model.specs.declared.Operand.TheVariants.{At, Number}
use Rattle.effect_model.specs.declared.Op.{Op}
use Rattle.effect_model.specs.declared.Op.TheVariants as op
use Rattle.effect_model.specs.declared.Effect.{Effect}
use Rattle.effect_model.specs.declared.Effects.{Effects}
use Rattle.effect_model.specs.declared.Effects.TheVariants.{Nothing, One, Two, Three}
use Rattle.effect_model.specs.declared.Row.{Row}
use Rattle.effect_model.specs.declared.Form.{Form}
use Rattle.effect_model.specs.declared.Constant.TheVariants as constant
use Rattle.effect_model.specs.declared.Action.{Action}
use Rattle.effect_model.specs.declared.Action.TheVariants as does
use Rattle.effect_model.specs.Meaning.{results, stops}
use Rattle.effect_model.specs.Files.{File, get, put, word_read, flat_effect, flat_all}
use Rattle.effect_model.specs.Rows.{base, plain, shifted, register, simple, effect, moved, compared, summary, recorded, copy_row, alu_imm}
use Rattle.effect_model.specs.Rows.{alu_rows, alu2_rows, log_rows, log2_rows, log_imm_ops, cmp_ops, cr_bit_rows, log_imm, alu, alu2, log}
use Rattle.effect_model.specs.Rows.{log2, srawi, rot, load, store, load_x, store_x, cmp, cr_bit, move}
use Rattle.asm_syntax.specs.declared.operations.AluImmOp.{AluImmOp}
use Rattle.asm_syntax.specs.declared.operations.AluImmOp.TheVariants.{Mulli, Subfic, Addic, Addi, Addis}
use Rattle.asm_syntax.specs.declared.instr.Const.{Const}
use Rattle.asm_syntax.specs.declared.instr.Const.TheVariants as consts
use Rattle.asm_syntax.specs.Places.{alu_imm_place, alu_place}
use Rattle.asm_shapes.specs.Shapes.{is_reserved}
use Rattle.asm_shapes.specs.Operands.{is_alu_constant, is_address_constant}
use Rattle.asm_syntax.specs.Instructions.{const_symbol}
use Rattle.asm_mem.specs.declared.value.Val.{Val}
use Rattle.asm_mem.specs.declared.value.Val.TheVariants.{Undef, Int, Ptr, Code, Ext, Stop, Ha}
use Rattle.asm_values.specs.declared.operands.OperandValue.TheVariants as operand
use Rattle.asm_values.specs.Operands.{value_results}
use lib.Bits.{or_self, xor_self}
use Rattle.asm_mem.specs.Blocks.{Live}
use Rattle.asm_values.specs.Files.{value_read, asm_effect, asm_all}
use Rattle.asm_values.specs.Actions.{constant_of, value_log, value_cr_bit}
use Rattle.ppc_decode.specs.declared.machine.Machine.{Machine}
use Rattle.ppc_decode.specs.declared.machine.Machine.TheVariants as machine
use Rattle.ppc_machine.specs.Actions.{action_of}
use Rattle.asm_syntax.specs.References.{Reference}
use Rattle.code_model.specs.Forms.{constant_form}
use Rattle.code_model.specs.Spelling.{found_instruction, agrees}
use Rattle.machine_model.specs.Worlds.{World}
use Rattle.machine_model.specs.Fits.{Fits}
use Rattle.machine_model.specs.Relation.{Means, Laid, FilesAgree}
use Rattle.file_laws.specs.Laws.{Alike, Works, Divides, Loads, Stores, SumsAgree, reserved}
use Rattle.value_laws.proofs.OpLaws.{word_is}
use Rattle.value_laws.proofs.ValueLaws.{int_means, undef_means}
use Rattle.file_laws.proofs.FileLaws.{concrete, Fine, AllFine, effect_law, effect_spares, read_law, effects_law, effects_spare}
use Rattle.file_laws.proofs.FileLaws.{outcome_law, outcome_spares, get_law, put_law, put_spares, free_of, spare_of}
use Rattle.file_laws.proofs.Sums.{found_base, found_number, with_found, base_concrete, concrete_sums, const_sums, high_sums, sum_outcome}

-- ---- rows

row_fine : Row → Bool
row_fine r = concrete r.z && not (reserved r.second)

all_get : {X : Type 0} (p : X → Bool) (xs : List X) (d : X) (i : ℕ) → list_all p xs ≡ true → p d ≡ true → p (slice_index_or xs i d) ≡ true
all_get p [] d i h e = e
all_get p (x ∷ xs) d zero h e = (and_parts (p x) (list_all p xs) h).0
all_get p (x ∷ xs) d (suc i) h e = all_get p xs d i (and_parts (p x) (list_all p xs) h).1 e

fine_row : (r : Row) (x y : Operand) (to : Place) → row_fine r ≡ true → concrete x ≡ true → concrete y ≡ true → reserved to ≡ false
    → Fine (effect r x y to)
unfolding row_fine
fine_row r x y to h cx cy e =
    let q = and_parts (concrete r.z) (not (reserved r.second)) h in
    record { x = cx; y = cy; z = q.0; first = e; second = not-true (reserved r.second) q.1; third = refl }

alu_fine : (k : ℕ) → row_fine (slice_index_or alu_rows k copy_row) ≡ true
unfolding row_fine
alu_fine k = all_get row_fine alu_rows copy_row k refl refl

alu2_fine : (k : ℕ) → row_fine (slice_index_or alu2_rows k copy_row) ≡ true
unfolding row_fine
alu2_fine k = all_get row_fine alu2_rows copy_row k refl refl

log_fine : (k : ℕ) → row_fine (slice_index_or log_rows k copy_row) ≡ true
unfolding row_fine
log_fine k = all_get row_fine log_rows copy_row k refl refl

log2_fine : (k : ℕ) → row_fine (slice_index_or log2_rows k copy_row) ≡ true
unfolding row_fine
log2_fine k = all_get row_fine log2_rows copy_row k refl refl

cr_bit_fine : (k : ℕ) → row_fine (slice_index_or cr_bit_rows k copy_row) ≡ true
unfolding row_fine
cr_bit_fine k = all_get row_fine cr_bit_rows copy_row k refl refl

simple_fine : (o : Op) → row_fine (simple o) ≡ true
unfolding row_fine
simple_fine o = refl

fine_compared : (o : Op) (x y : Operand) (f : ℕ) → concrete x ≡ true → concrete y ≡ true → Fine (compared o x y f)
fine_compared o x y f cx cy = record { x = cx; y = cy; z = refl; first = refl; second = refl; third = refl }

fine_summary : (f : ℕ) → Fine (summary f)
fine_summary f = record { x = refl; y = refl; z = refl; first = refl; second = refl; third = refl }

fine_recorded : (e : Effect) (to : Place) → Fine e → AllFine (recorded e to)
fine_recorded e to h = (h, (fine_compared op.Comparison (At to) (Number 0) 0 refl refl, fine_summary 0))

module _ (w : World) (ok : Fits w) (live : List Live) (next : ℕ) (laid : Laid w live next) where
  pub same_work : (es : Effects) → AllFine es → Alike w live next (does.Work es) (does.Work es)
  same_work es c = Works es es (record { files = effects_law w live next ok laid es c; spares = λ f. effects_spare w live es f c })

  divides : (e : Effect) → Fine e → Alike w live next (does.Divide e) (does.Divide e)
  divides e c = Divides e (record {
    stops_alike = λ f g h x y ex ey. ap₂ (λ a b. stops e.op a b)
        (word_is w ok live next laid _ _ _ (read_law w live next f g h e.x c.x) ex)
        (word_is w ok live next laid _ _ _ (read_law w live next f g h e.y c.y) ey);
    files = λ f g h. effect_law w live next ok laid e c f g h;
    spares = λ f. effect_spares w live e f c;
  })

  -- a sum of a base and a constant, to a register
  sum_work : (u v x y : Operand) (d : ℕ) → SumsAgree w live next u v x y → is_reserved d ≡ false
      → Alike w live next (does.Work (One (effect (simple op.Sum) u v (Gpr d)))) (does.Work (One (effect (simple op.Sum) x y (Gpr d))))
  sum_work u v x y d s e =
      Works (One (effect (simple op.Sum) u v (Gpr d))) (One (effect (simple op.Sum) x y (Gpr d)))
      (record {
        files = λ f g h. outcome_law w live next f g h op.Sum u v (Number 0) x y (Number 0) (Gpr d) Unused Unused e refl refl
            (sum_outcome w live next (value_read f u) (value_read f v) 0 (word_read g x) (word_read g y) 0 (s f g h));
        spares = λ f. outcome_spares w live (effect (simple op.Sum) u v (Gpr d)) f e refl refl;
      })

  abbrev pub ConstKeyed : Const → ℕ → ℕ → Type 0
  ConstKeyed c key t = (r : Reference) → const_symbol c ≡ Some r → (key < length w.program.kinds) × (t ≡ w.address key)

  pub alu_imm_alike : (o : AluImmOp) (d a : ℕ) (c : Const) (key t at wd : ℕ) (made : ℕ → ℤ → Machine) → is_reserved d ≡ false
      → is_alu_constant o c a ≡ true → agrees w.layout at (constant_form t a c made).gap wd ≡ true → ConstKeyed c key t
      → Alike w live next (alu_imm (alu_imm_place o) d a (constant_of c key))
      (alu_imm (alu_imm_place o) d (found_base a c wd) (constant.Int (found_number c wd)))
  alu_imm_alike Addi d a c key t at wd made e v g k = sum_work _ _ _ _ d (const_sums w live next ok laid c a key t at wd made v g k) e
  alu_imm_alike Addis d a c key t at wd made e v g k = sum_work _ _ _ _ d (high_sums w live next ok laid c a key t at wd made v g k) e
  alu_imm_alike Mulli d a (consts.Int n) key t at wd made e v g k =
      same_work _ (record { x = refl; y = refl; z = refl; first = e; second = refl; third = refl })
  alu_imm_alike Subfic d a (consts.Int n) key t at wd made e v g k =
      same_work _ (record { x = refl; y = refl; z = refl; first = e; second = refl; third = refl })
  alu_imm_alike Addic d a (consts.Int n) key t at wd made e v g k =
      same_work _ (record { x = refl; y = refl; z = refl; first = e; second = refl; third = refl })
  alu_imm_alike Mulli d a (consts.Lo _ _) key t at wd made e v g k = cc
  alu_imm_alike Mulli d a (consts.Ha _ _) key t at wd made e v g k = cc
  alu_imm_alike Mulli d a (consts.Sda _ _) key t at wd made e v g k = cc
  alu_imm_alike Subfic d a (consts.Lo _ _) key t at wd made e v g k = cc
  alu_imm_alike Subfic d a (consts.Ha _ _) key t at wd made e v g k = cc
  alu_imm_alike Subfic d a (consts.Sda _ _) key t at wd made e v g k = cc
  alu_imm_alike Addic d a (consts.Lo _ _) key t at wd made e v g k = cc
  alu_imm_alike Addic d a (consts.Ha _ _) key t at wd made e v g k = cc
  alu_imm_alike Addic d a (consts.Sda _ _) key t at wd made e v g k = cc

  pub log_imm_alike : (k a s n : ℕ) → is_reserved a ≡ false → Alike w live next (log_imm k a s n) (log_imm k a s n)
  log_imm_alike k a s n e = at (nat_lt k 4) (if k % 2 == 1 then wrapped (n * 65536) else n)
    where
      at : (b : Bool) (m : ℕ)
          → Alike w live next (if b then does.Work
          (One (effect (simple (slice_index_or log_imm_ops k op.Copy)) (register s) (Number m) (Gpr a))) else does.Work
          (recorded (effect (simple (slice_index_or log_imm_ops k op.Copy)) (register s) (Number m) (Gpr a)) (Gpr a)))
          (if b then does.Work (One (effect (simple (slice_index_or log_imm_ops k op.Copy)) (register s) (Number m)
          (Gpr a))) else does.Work (recorded (effect (simple (slice_index_or log_imm_ops k op.Copy)) (register s) (Number m) (Gpr a))
          (Gpr a)))
      at true m = same_work _ (fine_row _ _ _ _ (simple_fine _) refl refl e)
      at false m = same_work _ (fine_recorded _ _ (fine_row _ _ _ _ (simple_fine _) refl refl e))

  pub alu_alike : (k d a b : ℕ) → is_reserved d ≡ false → Alike w live next (alu k d a b) (alu k d a b)
  alu_alike k d a b e = at (nat_lt k 9)
    where
      at : (t : Bool)
          → Alike w live next (if t then does.Work
          (One (effect (slice_index_or alu_rows k copy_row) (register a) (register b) (Gpr d))) else does.Divide
          (effect (slice_index_or alu_rows k copy_row) (register a) (register b) (Gpr d)))
          (if t then does.Work (One (effect (slice_index_or alu_rows k copy_row) (register a) (register b) (Gpr d))) else does.Divide
          (effect (slice_index_or alu_rows k copy_row) (register a) (register b) (Gpr d)))
      at true = same_work _ (fine_row _ _ _ _ (alu_fine k) refl refl e)
      at false = divides _ (fine_row _ _ _ _ (alu_fine k) refl refl e)

  pub alu2_alike : (k d a : ℕ) → is_reserved d ≡ false → Alike w live next (alu2 k d a) (alu2 k d a)
  alu2_alike k d a e = same_work _ (fine_row _ _ _ _ (alu2_fine k) refl refl e)

  log_same : (k a s b : ℕ) → is_reserved a ≡ false → Alike w live next (log k a s b) (log k a s b)
  log_same k a s b e = at (k == and_dot_place)
    where
      at : (t : Bool)
          → Alike w live next (if t then does.Work
          (recorded (effect (slice_index_or log_rows k copy_row) (register s) (register b) (Gpr a)) (Gpr a)) else does.Work
          (One (effect (slice_index_or log_rows k copy_row) (register s) (register b) (Gpr a))))
          (if t then does.Work (recorded (effect (slice_index_or log_rows k copy_row) (register s) (register b) (Gpr a))
          (Gpr a)) else does.Work (One (effect (slice_index_or log_rows k copy_row) (register s) (register b) (Gpr a))))
      at true = same_work _ (fine_recorded _ _ (fine_row _ _ _ _ (log_fine k) refl refl e))
      at false = same_work _ (fine_row _ _ _ _ (log_fine k) refl refl e)

  copy_first : (v : Val) (x y : ℕ) → Means w live next v x → y ≡ x
      → Means w live next (value_results w.program.kinds live op.Copy (operand.Known v) (operand.Known (Int 0))
      (operand.Known (Int 0))).first y
  unfolding value_results results
  copy_first (Int n) x y m e = int_means w live next _ _ (e ∙ m.shows)
  copy_first Undef x y m e = undef_means w live next y
  copy_first (Ptr b o) x y m e = subst (λ z. Means w live next (Ptr b o) z) (sym e) m
  copy_first (Code b o) x y m e = subst (λ z. Means w live next (Code b o) z) (sym e) m
  copy_first (Ext b o) x y m e = subst (λ z. Means w live next (Ext b o) z) (sym e) m
  copy_first Stop x y m e = subst (λ z. Means w live next Stop z) (sym e) m
  copy_first (Ha k b o) x y m e = subst (λ z. Means w live next (Ha k b o) z) (sym e) m

  or_first : (x z : ℕ) → (results op.Or x x z).first ≡ x
  unfolding results
  or_first x z = or_self x

  copy_put : (s a : ℕ) (f : File Val) (g : File ℕ) → FilesAgree w live next f g → is_reserved a ≡ false
      → FilesAgree w live next (asm_effect w.program.kinds live (moved (register s) (Gpr a)) f)
      (flat_effect (effect (simple op.Or) (register s) (register s) (Gpr a)) g)
  unfolding asm_effect flat_effect
  copy_put s a f g h e =
      put_law w live next f g h (Gpr a) _ _ (free_of (Gpr a) e)
      (copy_first _ _ _ (get_law w live next f g h (Gpr s)) (or_first (get 0 g (Gpr s)) 0))

  -- `or` of one register copies any value
  copies : (s a : ℕ) → is_reserved a ≡ false
      → Alike w live next (does.Work (One (moved (register s) (Gpr a))))
      (does.Work (One (effect (simple op.Or) (register s) (register s) (Gpr a))))
  copies s a e =
      Works _ _ (record { files = λ f g h. go f g h; spares = λ f. outcome_spares w live (moved (register s) (Gpr a)) f e refl refl })
    where
      go : (f : File Val) (g : File ℕ) → FilesAgree w live next f g
          → FilesAgree w live next (asm_effect w.program.kinds live (moved (register s) (Gpr a)) f)
          (flat_effect (effect (simple op.Or) (register s) (register s) (Gpr a)) g)
      go f g h = copy_put s a f g h e

  pub log_alike : (k a s b : ℕ) → is_reserved a ≡ false → Alike w live next (value_log k a s b) (log k a s b)
  log_alike k a s b e = at (k == or_place && s == b) refl
    where
      at : (t : Bool) → (k == or_place && s == b) ≡ t
          → Alike w live next (if t then does.Work (One (moved (register s) (Gpr a))) else log k a s b) (log k a s b)
      at true q =
          let p = and_parts (k == or_place) (s == b) q in
          subst (λ n. Alike w live next (does.Work (One (moved (register s) (Gpr a)))) (log n a s b)) (sym (eqb-true k or_place p.0))
          (subst (λ n. Alike w live next (does.Work (One (moved (register s) (Gpr a)))) (log or_place a s n)) (eqb-true s b p.1)
          (copies s a e))
      at false q = log_same k a s b e

  pub log2_alike : (k a s : ℕ) → is_reserved a ≡ false → Alike w live next (log2 k a s) (log2 k a s)
  log2_alike k a s e = same_work _ (fine_row _ _ _ _ (log2_fine k) refl refl e)

  pub srawi_alike : (a s n : ℕ) → is_reserved a ≡ false → Alike w live next (srawi a s n) (srawi a s n)
  srawi_alike a s n e = same_work _ (record { x = refl; y = refl; z = refl; first = e; second = refl; third = refl })

  pub rot_alike : (k a s sh mb me : ℕ) → is_reserved a ≡ false → Alike w live next (rot k a s sh mb me) (rot k a s sh mb me)
  rot_alike k a s sh mb me e = at (k == 0)
    where
      at : (t : Bool)
          → Alike w live next (if t then does.Work
          (One (effect (simple (op.Insertion sh mb me)) (register s) (register a) (Gpr a))) else does.Work
          (One (effect (simple (op.Rotation sh mb me)) (register s) (Number 0) (Gpr a))))
          (if t then does.Work (One (effect (simple (op.Insertion sh mb me)) (register s) (register a) (Gpr a))) else does.Work
          (One (effect (simple (op.Rotation sh mb me)) (register s) (Number 0) (Gpr a))))
      at true = same_work _ (fine_row _ _ _ _ (simple_fine _) refl refl e)
      at false = same_work _ (fine_row _ _ _ _ (simple_fine _) refl refl e)

  pub cmp_alike : (k f a : ℕ) (y : Operand) → concrete y ≡ true → Alike w live next (cmp k f a y) (cmp k f a y)
  cmp_alike k f a y c = same_work _ (fine_compared _ _ _ f refl c, fine_summary f)

  -- crxor and creqv of one bit with itself
  bit_put : (o : Op) (n t a : ℕ) (f : File Val) (g : File ℕ) → FilesAgree w live next f g → ((x : ℕ) → (results o x x 0).first ≡ n)
      → FilesAgree w live next (asm_effect w.program.kinds live (moved (Number n) (Bit t)) f)
      (flat_effect (effect (simple o) (At (Bit a)) (At (Bit a)) (Bit t)) g)
  unfolding asm_effect flat_effect
  bit_put o n t a f g h q = put_law w live next f g h (Bit t) _ _ tt (number_first (q (get 0 g (Bit a))))
    where
      number_first : {y : ℕ} → y ≡ n
          → Means w live next (value_results w.program.kinds live op.Copy (operand.Known (Int n)) (operand.Known (Int 0))
          (operand.Known (Int 0))).first y
      number_first {y = y} e = copy_first (Int n) n y (int_means w live next n n refl) e

  constant_bit : (o : Op) (n t a : ℕ) → ((x : ℕ) → (results o x x 0).first ≡ n)
      → Alike w live next (does.Work (One (moved (Number n) (Bit t))))
      (does.Work (One (effect (simple o) (At (Bit a)) (At (Bit a)) (Bit t))))
  constant_bit o n t a q =
      Works _ _ (record {
        files = λ f g h. bit_put o n t a f g h q;
        spares = λ f. outcome_spares w live (moved (Number n) (Bit t)) f refl refl refl;
      })

  xor_zero : (x : ℕ) → (results op.Xor x x 0).first ≡ 0
  unfolding results
  xor_zero x = xor_self x

  eqv_one : (x : ℕ) → (results op.BitEquivalence x x 0).first ≡ 1
  unfolding results
  eqv_one x = ap (λ z. bit_xor z 1) (xor_self x) ∙ refl

  cr_bit_same : (k t a b : ℕ) → Alike w live next (cr_bit k t a b) (cr_bit k t a b)
  cr_bit_same k t a b = same_work _ (fine_row _ _ _ _ (cr_bit_fine k) refl refl refl)

  own_bit : (k t a : ℕ) → k < 2 → Alike w live next (does.Work (One (moved (Number k) (Bit t)))) (cr_bit k t a a)
  own_bit zero t a h = constant_bit op.Xor 0 t a xor_zero
  own_bit (suc zero) t a h = constant_bit op.BitEquivalence 1 t a eqv_one
  own_bit (suc (suc k)) t a h = absurd (omega arith)

  pub cr_bit_alike : (k t a b : ℕ) → Alike w live next (value_cr_bit k t a b) (cr_bit k t a b)
  cr_bit_alike k t a b = at (a == b && nat_lt k 2) refl
    where
      at : (q : Bool) → (a == b && nat_lt k 2) ≡ q
          → Alike w live next (if q then does.Work (One (moved (Number k) (Bit t))) else cr_bit k t a b) (cr_bit k t a b)
      at true e =
          let p = and_parts (a == b) (nat_lt k 2) e in
          subst (λ n. Alike w live next (does.Work (One (moved (Number k) (Bit t)))) (cr_bit k t a n)) (eqb-true a b p.0)
          (own_bit k t a (ltb-true k 2 p.1))
      at false e = cr_bit_same k t a b

  fine_moved : (x : Operand) (p : Place) → concrete x ≡ true → reserved p ≡ false → Fine (moved x p)
  fine_moved x p c e = record { x = c; y = refl; z = refl; first = e; second = refl; third = refl }

  -- mflr, mfctr write a register, mtlr and mtctr do not
  pub move_alike : (k r : ℕ) → (k ≡ 0 → is_reserved r ≡ false) → (k ≡ 1 → is_reserved r ≡ false) → Alike w live next (move k r) (move k r)
  move_alike k r e0 e1 = at (k == 0) refl
    where
      at : (b : Bool) → (k == 0) ≡ b → let a =
          (if b then does.Work (One (moved (At Lr) (Gpr r))) else if k == 1 then does.Work
          (One (moved (At Ctr) (Gpr r))) else if k == 2 then does.Work (One (moved (register r) Lr)) else does.Work
          (One (moved (register r) Ctr))) in Alike w live next a a
      at true q = same_work _ (fine_moved _ _ refl (e0 (eqb-true k 0 q)))
      at false q = two (k == 1) refl
        where
          two : (b : Bool) → (k == 1) ≡ b → let a =
              (if b then does.Work (One (moved (At Ctr) (Gpr r))) else if k == 2 then does.Work
              (One (moved (register r) Lr)) else does.Work (One (moved (register r) Ctr))) in Alike w live next a a
          two true s = same_work _ (fine_moved _ _ refl (e1 (eqb-true k 1 s)))
          two false s = three (k == 2)
            where
              three : (b : Bool) → let a =
                  (if b then does.Work (One (moved (register r) Lr)) else does.Work (One (moved (register r) Ctr))) in Alike w live next a a
              three true = same_work _ (fine_moved _ _ refl refl)
              three false = same_work _ (fine_moved _ _ refl refl)

  pub load_alike : (k d a : ℕ) (c : Const) (key t at wd : ℕ) (made : ℕ → ℤ → Machine) → is_reserved d ≡ false
      → is_address_constant c a ≡ true → agrees w.layout at (constant_form t a c made).gap wd ≡ true → ConstKeyed c key t
      → Alike w live next (load k d (constant_of c key) a) (load k d (constant.Int (found_number c wd)) (found_base a c wd))
  load_alike k d a c key t at wd made e v g q = Loads _ _ _ _ _ _ (const_sums w live next ok laid c a key t at wd made v g q) e

  pub store_alike : (k s a : ℕ) (c : Const) (key t at wd : ℕ) (made : ℕ → ℤ → Machine) → is_address_constant c a ≡ true
      → agrees w.layout at (constant_form t a c made).gap wd ≡ true → ConstKeyed c key t
      → Alike w live next (store k s (constant_of c key) a) (store k s (constant.Int (found_number c wd)) (found_base a c wd))
  store_alike k s a c key t at wd made v g q = Stores _ _ _ _ _ _ (const_sums w live next ok laid c a key t at wd made v g q)

  pub load_x_alike : (k d a b : ℕ) → is_reserved d ≡ false → Alike w live next (load_x k d a b) (load_x k d a b)
  load_x_alike k d a b e = Loads _ _ _ _ _ _ (concrete_sums w live next ok laid (base a) (register b) (base_concrete a) refl) e

  pub store_x_alike : (k s a b : ℕ) → Alike w live next (store_x k s a b) (store_x k s a b)
  store_x_alike k s a b = Stores _ _ _ _ _ _ (concrete_sums w live next ok laid (base a) (register b) (base_concrete a) refl)
