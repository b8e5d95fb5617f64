-- The step law of a whole word put into a register.
use Rattle.std.proofs.Common.{◌≡◌, ℕ, zero, suc, ◌+◌, ◌*◌, ◌/◌, ◌%◌, ◌<◌, ◌≤◌, Bool, true, false, List, [], ◌∷◌, Option, Some, None, ◌&&◌}
use Rattle.std.proofs.Common.{refl, sym, ap, ◌∙◌, subst, arith, if◌then◌else◌, get_or-set_same, length-set}
use Rattle.std.proofs.lemmas.Grind.{common_steps}
use Rattle.std.proofs.lemmas.Int.{of_z-to_z}
use Rattle.std.proofs.lemmas.Bool.{eqb-true, ltb-true, and_parts}
use Rattle.std.proofs.Math.Seq.{set-set}
use Rattle.std.specs.Prelude.{ℤ, pos, ◌==◌, bit_or, slice_set}
use Rattle.std.specs.Int.{cast_unsigned, w32}
use Rattle.isa_model.specs.Word.{wrapped, hi, lo, sext16, signed_word}
use Rattle.isa_model.specs.Operands.{is_s16, is_register}
use Rattle.isa_model.specs.Instructions.{alu_imm_opcodes}
use Rattle.ppc_decode.specs.declared.machine.Machine.{Machine}
use Rattle.ppc_decode.specs.declared.machine.Machine.TheVariants as machine
use Rattle.ppc_decode.specs.Word.{fits, is_place, word_of}
use Rattle.ppc_decode.specs.Decoding.{decoded}
use Rattle.ppc_decode.proofs.Decoded.{encodes_decoded}
use Rattle.effect_model.specs.declared.Place.TheVariants.{Gpr}
use Rattle.effect_model.specs.declared.Op.TheVariants as op
use Rattle.effect_model.specs.declared.Operand.{Operand}
use Rattle.effect_model.specs.declared.Operand.TheVariants.{At, Number}
use Rattle.effect_model.specs.declared.Effects.TheVariants.{One}
use Rattle.effect_model.specs.Meaning.{results}
use Rattle.effect_model.specs.Rows.{effect, simple}
use Rattle.effect_model.specs.Files.{File, get, put, flat_effect, flat_all}
use Rattle.asm_syntax.specs.declared.instr.Instr.TheVariants as instrs
use Rattle.ppc_machine.specs.State.{FlatState}
use Rattle.ppc_machine.specs.Steps.{on, following, performed}
use Rattle.asm_mem.specs.declared.value.Val.TheVariants.{Undef, Int}
use Rattle.asm_step.specs.State as asm
use Rattle.asm_step.specs.State.{State, gone}
use Rattle.code_model.specs.Fields.{short}
use Rattle.code_model.specs.Forms.{Form, closed, addi, addis, ori, forms, instr_length}
use Rattle.code_model.specs.Addresses.{loaded_word}
use Rattle.machine_model.specs.Worlds.{World, place_at}
use Rattle.machine_model.specs.Fits.{Fits, CodeAt, Spelts}
use Rattle.machine_model.specs.Relation.{Means, FilesAgree, Related}
use Rattle.machine_model.specs.Leads.{Goes}
use Rattle.value_laws.proofs.Halves.{spread, short_word}
use Rattle.value_laws.proofs.ValueLaws.{int_means}
use Rattle.file_laws.proofs.FileLaws.{put_law, put_spares, free_of, spare_of}
use Rattle.step_laws.specs.Laws.{Stands}
use Rattle.step_laws.proofs.Steps.{one, then_is, fetch_law, next_place, moves_on}

pub or_halves : (h l : ℕ) → h < 65536 → l < 65536 → bit_or (wrapped (h * 65536)) l ≡ h * 65536 + l
or_halves h l a b = grind (arith, common_steps)

pub joins : (x : ℕ) → hi x * 65536 + lo x ≡ x
joins x = omega arith

-- the registers after addi or addis with base 0, and after ori
pub set_file : (g : File ℕ) (r n x : ℕ) → wrapped (0 + n) ≡ x
    → flat_all (One (effect (simple op.Sum) (Number 0) (Number n) (Gpr r))) g ≡ put g (Gpr r) x
unfolding flat_effect results
set_file g r n x e = ap (λ z. put g (Gpr r) z) e

pub or_file : (g : File ℕ) (r n : ℕ)
    → flat_all (One (effect (simple op.Or) (At (Gpr r)) (Number n) (Gpr r))) g ≡ put g (Gpr r) (bit_or (get 0 g (Gpr r)) n)
unfolding flat_effect results
or_file g r n = refl

-- a word that decodes has its registers among the 32
pub decoded_fits : (w : ℕ) (m : Machine) → decoded w ≡ Some m → fits m ≡ true
decoded_fits w m e = (encodes_decoded w (Some m) (sym e)).0

register_small : (w k d a : ℕ) (c : ℤ) → decoded w ≡ Some (machine.AluImm k d a c) → d < 32
register_small w k d a c e =
    let f : (is_place k alu_imm_opcodes && is_register d && is_register a && is_s16 c) ≡ true = decoded_fits w (machine.AluImm k d a c) e in
    let p = and_parts (is_place k alu_imm_opcodes && is_register d && is_register a) (is_s16 c) f in
    let q = and_parts (is_place k alu_imm_opcodes && is_register d) (is_register a) p.0 in
    let r = and_parts (is_place k alu_imm_opcodes) (is_register d) q.0 in
    ltb-true d 32 r.1

shifts : (h : ℕ) → h < 65536 → wrapped (0 + wrapped (spread h * 65536)) ≡ wrapped (h * 65536)
shifts h l = omega arith

-- what addis with base 0 gives
pub high : (x : ℕ) → x < 4294967296 → wrapped (0 + wrapped (cast_unsigned w32 (short (hi x)) * 65536)) ≡ wrapped (hi x * 65536)
high x h = ap (λ z. wrapped (0 + wrapped (z * 65536))) (short_word (hi x) (omega arith)) ∙ shifts (hi x) (omega arith)

module _ (w : World) (ok : Fits w) (s : State) (t : FlatState) (r : Related w s t) (f i d n : ℕ) where
  -- two words
  pair_step : Stands w t f i (instrs.Imm d n)
      → Spelts w (place_at w f i) (closed (addis d 0 (short (hi (wrapped n)))) ∷ closed (ori d d (lo (wrapped n))) ∷ [])
      → instr_length (instrs.Imm d n) (loaded_word w.image (place_at w f i)) ≡ 2
      → Goes w t (asm.Went (gone s f i (put s.file (Gpr d) (Int (wrapped n)))))
  pair_step h sp l fits =
      let x1 = wrapped (hi (wrapped n) * 65536) in
      let g1 = put t.file (Gpr d) x1 in
      let b1 = sp.0.code.below in
      let b2 = sp.1.0.code.below in
      let hh = h.here in
      let t1 : FlatState = record { file = g1; pc = following t; mem = t.mem } in
      let p1 : t1.pc ≡ place_at w f i + 4 = omega arith in
      let e1 = then_is w t (fetch_law w t _ _ sp.0.code r.same h.here)
      (ap (λ g. on t g t.mem) (set_file t.file d _ x1 (high (wrapped n) (omega arith)))) in
      let x2 = bit_or (get 0 g1 (Gpr d)) (lo (wrapped n)) in
      let g2 = put g1 (Gpr d) x2 in
      let t2 : FlatState = record { file = g2; pc = following t1; mem = t.mem } in
      let e2 = then_is w t1 (fetch_law w t1 _ _ sp.1.0.code r.same p1) (ap (λ g. on t1 g t.mem) (or_file g1 d (lo (wrapped n)))) in
      let free = free_of (Gpr d) h.facts.shaped.free in
      let f1 = put_law w s.live s.next s.file t.file r.files (Gpr d) Undef x1 free (record { named = tt; shows = tt }) in
      let f2 = put_law w s.live s.next _ _ f1 (Gpr d) (Int (wrapped n)) x2 free (or_means g1 refl) in
      let once : put (put s.file (Gpr d) Undef) (Gpr d) (Int (wrapped n)) ≡ put s.file (Gpr d) (Int (wrapped n)) =
      ap (λ l. record s.file { gprs = l }) (set-set s.file.gprs d Undef (Int (wrapped n))) in (
        2,
        omega arith,
        (
          t2,
          (t1, e1, (t2, e2, refl)),
          record {
            laid = r.laid;
            frame = r.frame;
            pointer = put_spares s.file (Gpr d) _ (spare_of (Gpr d) h.facts.shaped.free) ∙ r.pointer;
            files = subst (λ z. FilesAgree w s.live s.next z g2) once f2;
            cells = r.cells;
            same = r.same;
            place = next_place w s.live s.next f i (instrs.Imm d n) 2 h.known h.is h.facts l (following t1) (omega arith);
          },
        ),
      )
    where
      small : d < 32
      small = register_small _ _ d 0 _ sp.0.code.is

      or_means : (g : File ℕ) → g ≡ put t.file (Gpr d) (wrapped (hi (wrapped n) * 65536))
          → Means w s.live s.next (Int (wrapped n)) (bit_or (get 0 g (Gpr d)) (lo (wrapped n)))
      or_means g e3 =
          let wide = r.files.wide in
          let lt = small in
          let got : get 0 g (Gpr d) ≡ wrapped (hi (wrapped n) * 65536) =
          ap (λ (y : File ℕ). get 0 y (Gpr d)) e3
          ∙ get_or-set_same t.file.gprs d (wrapped (hi (wrapped n) * 65536)) 0 (omega arith) in
          int_means w s.live s.next _ _ (ap (λ y. bit_or y (lo (wrapped n))) got
          ∙ or_halves (hi (wrapped n)) (lo (wrapped n)) (omega arith) (omega arith) ∙ joins (wrapped n))

  pub imm_step : Stands w t f i (instrs.Imm d n) → Goes w t (asm.Went (gone s f i (put s.file (Gpr d) (Int (wrapped n)))))
  unfolding forms instr_length
  imm_step h = at (is_s16 (signed_word (wrapped n))) refl h.facts.spelt refl
    where
      files : (x : ℕ) → x ≡ wrapped n → FilesAgree w s.live s.next (put s.file (Gpr d) (Int (wrapped n))) (put t.file (Gpr d) x)
      files x e =
          put_law w s.live s.next s.file t.file r.files (Gpr d) (Int (wrapped n)) x (free_of (Gpr d) h.facts.shaped.free)
          (int_means w s.live s.next _ _ e)

      at : (b : Bool) → is_s16 (signed_word (wrapped n)) ≡ b
          → Spelts w (place_at w f i) (if b then closed (addi d 0 (signed_word (wrapped n))) ∷ [] else if lo (wrapped n) == 0 then closed
          (addis d 0 (short (hi (wrapped n)))) ∷ [] else closed (addis d 0 (short (hi (wrapped n)))) ∷ closed
          (ori d d (lo (wrapped n))) ∷ [])
          → instr_length (instrs.Imm d n) (loaded_word w.image (place_at w f i)) ≡ (if b then 1 else if lo (wrapped n) == 0 then 1 else 2)
          → Goes w t (asm.Went (gone s f i (put s.file (Gpr d) (Int (wrapped n)))))
      at true e sp l =
          let back : cast_unsigned w32 (signed_word (wrapped n)) ≡ wrapped n = of_z-to_z w32 (wrapped n) (omega arith) in
          let x : wrapped (0 + cast_unsigned w32 (signed_word (wrapped n))) ≡ wrapped n = ap (λ z. wrapped (0 + z)) back ∙ omega arith in
          moves_on w s t r f i (instrs.Imm d n) _ _ (put t.file (Gpr d) (wrapped n)) h sp.0.code l
          (ap (λ g. on t g t.mem) (set_file t.file d _ (wrapped n) x)) (files _ refl)
          (put_spares s.file (Gpr d) _ (spare_of (Gpr d) h.facts.shaped.free))
      at false e sp l = two (lo (wrapped n) == 0) refl sp l
        where
          two : (b : Bool) → (lo (wrapped n) == 0) ≡ b
              → Spelts w (place_at w f i) (if b then closed (addis d 0 (short (hi (wrapped n)))) ∷ [] else closed
              (addis d 0 (short (hi (wrapped n)))) ∷ closed (ori d d (lo (wrapped n))) ∷ [])
              → instr_length (instrs.Imm d n) (loaded_word w.image (place_at w f i)) ≡ (if b then 1 else 2)
              → Goes w t (asm.Went (gone s f i (put s.file (Gpr d) (Int (wrapped n)))))
          two true q sp l =
              let z : lo (wrapped n) ≡ 0 = eqb-true (lo (wrapped n)) 0 q in
              let x = wrapped (hi (wrapped n) * 65536) in
              let xe : x ≡ wrapped n = omega arith in
              moves_on w s t r f i (instrs.Imm d n) _ _ (put t.file (Gpr d) x) h sp.0.code l
              (ap (λ g. on t g t.mem) (set_file t.file d _ x (high (wrapped n) (omega arith)))) (files x xe)
              (put_spares s.file (Gpr d) _ (spare_of (Gpr d) h.facts.shaped.free))
          two false q sp l = pair_step h sp l
