-- The step laws of frames.
use Rattle.std.proofs.Common.{◌≡◌, ℕ, zero, suc, ◌+◌, ◌-◌, ◌*◌, ◌%◌, ◌<◌, ◌≤◌, Bool, true, false, ◌&&◌, nat_le, List, [], ◌∷◌, length}
use Rattle.std.proofs.Common.{replicate, Option, Some, None, option_map, refl, sym, ap, ap₂, ◌∙◌, subst, arith, ⊎_elim, if◌then◌else◌}
use Rattle.std.proofs.Common.{get_or-set_other, get_or-set_same, length-set}
use Rattle.std.proofs.lemmas.List.{length-replicate}
use Rattle.std.proofs.Math.Seq.{set-set}
use Rattle.std.specs.Prelude.{◌==◌, ℤ, pos, slice_index_or, slice_set, bit_or}
use Rattle.std.specs.Int.{cast_unsigned, w32}
use Rattle.std.proofs.lemmas.Bool.{eqb-true, eq-eqb, leb-true, leb-false, and_parts}
use Rattle.isa_model.specs.Word.{wrapped, lo, hi}
use Rattle.effect_model.specs.declared.Place.TheVariants.{Gpr}
use Rattle.effect_model.specs.declared.Form.TheVariants.{Word}
use Rattle.effect_model.specs.Files.{File, get, put, flat_effect, flat_all}
use Rattle.effect_model.specs.Meaning.{results}
use Rattle.effect_model.specs.Rows.{effect, simple}
use Rattle.effect_model.specs.declared.Op.TheVariants as op
use Rattle.effect_model.specs.declared.Operand.TheVariants.{At, Number}
use Rattle.effect_model.specs.declared.Effects.TheVariants.{One}
use Rattle.flat_mem.specs.Access.{stored, loaded}
use Rattle.asm_syntax.specs.declared.instr.Instr.{Instr}
use Rattle.asm_syntax.specs.declared.instr.Instr.TheVariants as instrs
use Rattle.ppc_decode.specs.declared.machine.Machine.{Machine}
use Rattle.ppc_decode.specs.declared.machine.Machine.TheVariants as machine
use Rattle.ppc_machine.specs.Actions.{action_of}
use Rattle.ppc_machine.specs.State as ends
use Rattle.ppc_machine.specs.State.{FlatState}
use Rattle.ppc_machine.specs.Steps as flat
use Rattle.ppc_machine.specs.Steps.{following, performed, kept}
use Rattle.asm_mem.specs.declared.value.Val.{Val}
use Rattle.asm_mem.specs.declared.value.Val.TheVariants.{Undef, Int, Ptr, Code, Ext, Stop, Ha}
use Rattle.asm_mem.specs.declared.cell.Cell.{Cell}
use Rattle.asm_mem.specs.declared.cell.Cell.TheVariants.{Nothing}
use Rattle.asm_mem.specs.Values.{same_val}
use Rattle.asm_mem.specs.Blocks.{Live, has, value_at, update, set_cells, new_block, write_block, top}
use Rattle.asm_values.specs.Accesses.{cells_by}
use Rattle.asm_step.specs.declared.answer.Why.TheVariants as whys
use Rattle.asm_step.specs.State as asm
use Rattle.asm_step.specs.State.{State}
use Rattle.asm_step.specs.Frames.{pushed, popped, is_frame}
use Rattle.code_model.specs.Fields.{short}
use Rattle.code_model.specs.Forms.{Form, closed, negated, alloc_forms, free_forms, is_addi, addi, addis, ori, lwz, forms, instr_length}
use Rattle.code_model.specs.Addresses.{loaded_word}
use Rattle.machine_model.specs.Worlds.{World, home, base, depth, variables_in, place_at}
use Rattle.machine_model.specs.Fits.{Fits, CodeAt, Spelts}
use Rattle.machine_model.specs.Relation.{Means, Shows, Both, FilesAgree, Related, LiveAt, Framed, MemoryAgrees}
use Rattle.machine_model.specs.Leads.{Does, Goes}
use Rattle.value_laws.proofs.Halves.{spread, short_word}
use Rattle.file_laws.proofs.FileLaws.{get_law, put_law}
use Rattle.memory_laws.specs.Laws.{Written, Blank}
use Rattle.memory_laws.proofs.Keep.{means_keep, files_keep}
use Rattle.memory_laws.proofs.MemoryLaws.{set_cells_mild}
use Rattle.memory_laws.proofs.AccessLaws.{store_at, load_at}
use Rattle.memory_laws.proofs.FrameLaws.{push_keeps, push_law, pop_keeps, pop_law, newest, frame_total, frame_base, over_frame}
use Rattle.step_laws.specs.Laws.{Stands}
use Rattle.frame_laws.specs.Laws.{FramesAreFollowed}
use Rattle.step_laws.proofs.Steps.{one, then_is, fetch_law, next_place}
use Rattle.step_laws.proofs.PlainSteps.{memory_of}
use Rattle.step_laws.proofs.WordsSteps.{or_halves, joins, set_file, or_file, high}

blank_replicate : (n : ℕ) → Blank (replicate n Nothing)
blank_replicate zero = tt
blank_replicate (suc n) = (refl, blank_replicate n)

both_forget : {A B : Type 0} (R : A → B → Type 0) (d : A) → ((y : B) → R d y) → (xs : List A) (ys : List B) → Both R xs ys → (i : ℕ)
    → Both R (slice_set xs i d) ys
both_forget R d r [] [] h i = tt
both_forget R d r (x ∷ xs) (y ∷ ys) h zero = (r y, h.1)
both_forget R d r (x ∷ xs) (y ∷ ys) h (suc i) = (h.0, both_forget R d r xs ys h.1 i)
both_forget R d r [] (y ∷ ys) h i = absurd h
both_forget R d r (x ∷ xs) [] h i = absurd h

-- a register that held a pointer is there
put_is : (xs : List Val) (b o : ℕ) (v : Val) → slice_index_or xs 1 Undef ≡ Ptr b o → slice_index_or (slice_set xs 1 v) 1 Undef ≡ v
put_is [] b o v e = cc
put_is (x ∷ []) b o v e = cc
put_is (x ∷ y ∷ r) b o v e = refl

-- the first four cells of the newest block
set_first : (k : Live) (ks : List Live) (v : Val)
    → update k.number (λ j. set_cells j 0 (cells_by Word v)) (k ∷ ks) ≡ write_block k 4 0 v ∷ ks
set_first k ks v = rw (eq-eqb k.number k.number refl) refl

-- the top frame lies at the lowest address
pub top_home : (w : World) (live : List Live) → Framed w live → home w live (top live) ≡ Some (w.layout.stack.hi - depth w live)
top_home w [] h = absurd h
top_home w (k ∷ ks) h = (newest w k ks).home_is ∙ ap Some (frame_base w k ks h)

module _ (w : World) (ok : Fits w) (s : State) (t : FlatState) (r : Related w s t) where
  forget_gpr : (live : List Live) (next : ℕ) (f : File Val) (g : File ℕ) → FilesAgree w live next f g → (n : ℕ)
      → FilesAgree w live next (put f (Gpr n) Undef) g
  forget_gpr live next f g h n =
      record {
        gprs = both_forget (Means w live next) Undef (λ y. record { named = tt; shows = tt }) f.gprs g.gprs h.gprs n;
        wide = h.wide;
        bits = h.bits;
        bits_wide = h.bits_wide;
        lr = h.lr;
        ctr = h.ctr;
        ca = h.ca;
        so = h.so;
        bases = h.bases;
      }

  -- the word in r1
  pub pointer_word : get 0 t.file (Gpr 1) ≡ w.layout.stack.hi - depth w s.live
  pointer_word =
      let m : Means w s.live s.next (Ptr (top s.live) 0) (get 0 t.file (Gpr 1)) =
      subst (λ v. Means w s.live s.next v (get 0 t.file (Gpr 1))) r.pointer (get_law w s.live s.next s.file t.file r.files (Gpr 1)) in
      let q : get 0 t.file (Gpr 1) ≡ wrapped (w.layout.stack.hi - depth w s.live + 0) =
      subst (λ h. Shows (option_map (λ a. wrapped (a + 0)) h) (get 0 t.file (Gpr 1))) (top_home w s.live r.frame) m.shows in
      let st : w.layout.stack.hi ≤ 0xfffffff0 = ok.stack.range.most in
      omega arith

  module _ (f i n : ℕ) where
    -- the block before and after its first word is stored
    k0 : Live
    k0 = new_block s.next n true

    v : Val
    v = get Undef s.file (Gpr 1)

    k1 : Live
    k1 = write_block (new_block s.next n true) 4 0 (get Undef s.file (Gpr 1))

    first_long : length k0.cells ≡ n
    unfolding k0
    first_long = length-replicate n Nothing

    long : length k1.cells ≡ n
    unfolding k1
    long = (set_cells_mild (cells_by Word (get Undef s.file (Gpr 1))) 0).size (new_block s.next n true) ∙ length-replicate n Nothing

    whole : depth w (k1 ∷ s.live) ≡ n + depth w s.live
    unfolding k1
    whole = frame_total w k1 s.live r.laid.given ∙ ap (λ z. z + depth w s.live) long

    -- the memories after a frame is made, and the word of its address
    record Made (y : ℕ) : Type 0 where
      written : Written w (k0 ∷ s.live) (suc s.next) (update s.next (λ j. set_cells j 0 (cells_by Word v)) (k0 ∷ s.live))
          (stored t.mem Word y (get 0 t.file (Gpr 1)))
      agrees : MemoryAgrees w (k1 ∷ s.live) (suc s.next) written.mem
      means : Means w (k1 ∷ s.live) (suc s.next) (Ptr s.next 0) y

    made : (y : ℕ) → 16 ≤ n → n + depth w s.live + w.layout.stack.lo ≤ w.layout.stack.hi → y ≡ w.layout.stack.hi - (n + depth w s.live)
        → Made y
    unfolding k0 k1 v
    made y big fits e =
        let given = r.laid.given in
        let st : w.layout.stack.hi ≤ 0xfffffff0 = ok.stack.range.most in
        let l0 = first_long in
        let g0 = push_law w ok s.live s.next r.laid k0 refl (omega arith) t.mem r.cells r.same (blank_replicate n) in
        let keep0 = push_keeps w ok s.live s.next r.laid k0 refl in
        let a = base w (k0 ∷ s.live) in
        let t0 : depth w (k0 ∷ s.live) ≡ length k0.cells + depth w s.live = frame_total w k0 s.live given in
        let a_is : a ≡ w.layout.stack.hi - depth w (k0 ∷ s.live) = frame_base w k0 s.live (omega arith) in
        let y_is : y ≡ wrapped (a + 0) = omega arith in
        let x = get 0 t.file (Gpr 1) in
        let m = get_law w s.live s.next s.file t.file r.files (Gpr 1) in
        let wr = store_at w ok (k0 ∷ s.live) (suc s.next) t.mem g0 Word s.next a 0 y k0 (get Undef s.file (Gpr 1)) x (newest w k0 s.live)
        (omega arith) refl y_is (means_keep w s.live s.next (k0 ∷ s.live) (suc s.next) keep0 _ _ m) in
        let b_is : base w (k1 ∷ s.live) ≡ w.layout.stack.hi - depth w (k1 ∷ s.live) = frame_base w k1 s.live (omega arith) in
        let t1 = whole in
        let z : y ≡ wrapped (base w (k1 ∷ s.live) + 0) = omega arith in
        record {
          written = wr;
          agrees = subst (λ l. MemoryAgrees w l (suc s.next) wr.mem)
              (set_first (new_block s.next n true) s.live (get Undef s.file (Gpr 1))) wr.agrees;
          means = record {
            named = omega arith;
            shows = subst (λ h. Shows (option_map (λ a. wrapped (a + 0)) h) y) (sym (newest w k1 s.live).home_is) z;
          };
        }

    -- by the registers before r1 is set
    alloc_done : (y c : ℕ) (g : File ℕ) (m : Made y) → Stands w t f i (instrs.AllocFrame n)
        → instr_length (instrs.AllocFrame n) (loaded_word w.image (place_at w f i)) ≡ c → (pc : ℕ) → pc ≡ place_at w f i + 4 * c
        → FilesAgree w s.live s.next (put (put s.file (Gpr 0) Undef) (Gpr 12) Undef) g
        → Related w (pushed f i s n) (record { file = put g (Gpr 1) y; pc = pc; mem = m.written.mem })
    unfolding k0 k1 v
    alloc_done y c g m h l pc e files =
        let keep = push_keeps w ok s.live s.next r.laid k1 refl in
        let live1 = k1 ∷ s.live in
        let f1 = files_keep w s.live s.next live1 (suc s.next) keep _ _ files in
        let gone_one = get_or-set_other s.file.gprs 0 1 Undef Undef (λ e. omega arith) in
        let gone_two = get_or-set_other (slice_set s.file.gprs 0 Undef) 12 1 Undef Undef (λ e. omega arith) in
        record {
          laid = m.agrees.laid;
          frame = m.agrees.frame;
          cells = m.agrees.cells;
          same = m.agrees.same;
          pointer = put_is _ (top s.live) 0 (Ptr s.next 0) (gone_two ∙ gone_one ∙ r.pointer);
          files = put_law w live1 (suc s.next) _ _ f1 (Gpr 1) _ _ ((λ e. omega arith), (λ e. omega arith)) m.means;
          place = next_place w live1 (suc s.next) f i (instrs.AllocFrame n) c h.known h.is h.facts l pc e;
        }

    -- stwu
    small_alloc : Stands w t f i (instrs.AllocFrame n) → CodeAt w (place_at w f i) (machine.Stwu 1 (short (lo (negated n))) 1)
        → instr_length (instrs.AllocFrame n) (loaded_word w.image (place_at w f i)) ≡ 1 → 16 ≤ n → n ≤ 32768
        → Goes w t (asm.Went (pushed f i s n))
    unfolding k0 k1 v
    small_alloc h c l big small fits =
        let st : w.layout.stack.hi ≤ 0xfffffff0 = ok.stack.range.most in
        let given = r.laid.given in
        let px = pointer_word in
        let l0 = long in
        let w0 = whole in
        let x = get 0 t.file (Gpr 1) in
        let sw : cast_unsigned w32 (short (lo (negated n))) ≡ spread (lo (negated n)) = short_word (lo (negated n)) (omega arith) in
        let y = wrapped (x + cast_unsigned w32 (short (lo (negated n)))) in
        let room : n + depth w s.live + w.layout.stack.lo ≤ w.layout.stack.hi = omega arith in
        let y_is : y ≡ w.layout.stack.hi - (n + depth w s.live) = ap (λ z. wrapped (x + z)) sw ∙ omega arith in
        let m = made y big room y_is in
        let b = c.below in
        let hh = h.here in
        let f2 = forget_gpr s.live s.next _ _ (forget_gpr s.live s.next s.file t.file r.files 0) 12 in
        one w s t r _ (record { file = put t.file (Gpr 1) y; pc = following t; mem = m.written.mem })
        (then_is w t (fetch_law w t _ _ c r.same h.here) (ap (kept t (put t.file (Gpr 1) y)) m.written.is))
        (alloc_done y 1 t.file m h l (following t) (omega arith) f2) fits

    -- addis, ori, stwux
    large_alloc : Stands w t f i (instrs.AllocFrame n)
        → Spelts w (place_at w f i) (closed (addis 12 0 (short (hi (negated n)))) ∷ closed (ori 12 12 (lo (negated n))) ∷ closed
        (machine.Stwux 1 1 12) ∷ [])
        → instr_length (instrs.AllocFrame n) (loaded_word w.image (place_at w f i)) ≡ 3 → 16 ≤ n → n ≤ 1048576
        → Goes w t (asm.Went (pushed f i s n))
    unfolding k0 k1 v
    large_alloc h sp l big small fits =
        let st : w.layout.stack.hi ≤ 0xfffffff0 = ok.stack.range.most in
        let given = r.laid.given in
        let px = pointer_word in
        let l0 = long in
        let w0 = whole in
        let wide = r.files.wide in
        let x = get 0 t.file (Gpr 1) in
        let m = negated n in
        let x1 = wrapped (hi m * 65536) in
        let g1 = put t.file (Gpr 12) x1 in
        let t1 : FlatState = record { file = g1; pc = following t; mem = t.mem } in
        let b1 = sp.0.code.below in let b2 = sp.1.0.code.below in let b3 = sp.1.1.0.code.below in
        let hh = h.here in
        let p1 : t1.pc ≡ place_at w f i + 4 = omega arith in
        let e1 = then_is w t (fetch_law w t _ _ sp.0.code r.same h.here)
        (ap (λ g. flat.on t g t.mem) (set_file t.file 12 _ x1 (high m (omega arith)))) in
        let x2 = bit_or (get 0 g1 (Gpr 12)) (lo m) in
        let g2 = put g1 (Gpr 12) x2 in
        let t2 : FlatState = record { file = g2; pc = following t1; mem = t.mem } in
        let e2 = then_is w t1 (fetch_law w t1 _ _ sp.1.0.code r.same p1) (ap (λ g. flat.on t1 g t.mem) (or_file g1 12 (lo m))) in
        let p2 : t2.pc ≡ place_at w f i + 4 + 4 = omega arith in
        let r1 : get 0 g1 (Gpr 12) ≡ x1 = get_or-set_same t.file.gprs 12 x1 0 (omega arith) in
        let wide1 = length-set t.file.gprs 12 x1 in
        let r2 : get 0 g2 (Gpr 12) ≡ x2 = get_or-set_same g1.gprs 12 x2 0 (omega arith) in
        let x2_is : x2 ≡ m = ap (λ z. bit_or z (lo m)) r1 ∙ or_halves (hi m) (lo m) (omega arith) (omega arith) ∙ joins m in
        let q1 : get 0 g2 (Gpr 1) ≡ x = get_or-set_other g1.gprs 12 1 x2 0 (λ e. omega arith)
        ∙ get_or-set_other t.file.gprs 12 1 x1 0 (λ e. omega arith) in
        let y = wrapped (get 0 g2 (Gpr 1) + get 0 g2 (Gpr 12)) in
        let room : n + depth w s.live + w.layout.stack.lo ≤ w.layout.stack.hi = omega arith in
        let y_is : y ≡ w.layout.stack.hi - (n + depth w s.live) = ap₂ (λ a b. wrapped (a + b)) q1 (r2 ∙ x2_is) ∙ omega arith in
        let md = made y big room y_is in
        let e3 = then_is w t2 (fetch_law w t2 _ _ sp.1.1.0.code r.same p2)
        (ap (λ v. kept t2 (put g2 (Gpr 1) y) (stored t.mem Word y v)) q1 ∙ ap (kept t2 (put g2 (Gpr 1) y)) md.written.is) in
        let f0 = forget_gpr s.live s.next s.file t.file r.files 0 in
        let f1 = put_law w s.live s.next _ _ f0 (Gpr 12) Undef x1 (
          (λ e. omega arith),
          (λ e. omega arith),
        ) (record { named = tt; shows = tt }) in
        let f2 = put_law w s.live s.next _ _ f1 (Gpr 12) Undef x2 (
          (λ e. omega arith),
          (λ e. omega arith),
        ) (record { named = tt; shows = tt }) in
        let s0 = put s.file (Gpr 0) Undef in
        let once : put (put s0 (Gpr 12) Undef) (Gpr 12) Undef ≡ put s0 (Gpr 12) Undef =
        ap (λ l. record s0 { gprs = l }) (set-set s0.gprs 12 Undef Undef) in
        let f3 = subst (λ z. FilesAgree w s.live s.next z g2) once f2 in
        let t3 : FlatState = record { file = put g2 (Gpr 1) y; pc = following t2; mem = md.written.mem } in
        (3, omega arith, (t3, (t1, e1, (t2, e2, (t3, e3, refl))), alloc_done y 3 g2 md h l (following t2) (omega arith) f3))

    pub alloc_step : Stands w t f i (instrs.AllocFrame n) → Goes w t (asm.Went (pushed f i s n))
    unfolding forms instr_length
    alloc_step h = at (nat_le n 32768) refl h.facts.spelt refl
      where
        shape : ((nat_le 16 n && nat_le n 1048576) ≡ true) × ((n % 8 == 0) ≡ true)
        shape = and_parts (nat_le 16 n && nat_le n 1048576) (n % 8 == 0) h.facts.shaped.frame

        at : (b : Bool) → nat_le n 32768 ≡ b
            → Spelts w (place_at w f i) (if b then closed (machine.Stwu 1 (short (lo (negated n))) 1) ∷ [] else closed
            (addis 12 0 (short (hi (negated n)))) ∷ closed (ori 12 12 (lo (negated n))) ∷ closed (machine.Stwux 1 1 12) ∷ [])
            → instr_length (instrs.AllocFrame n) (loaded_word w.image (place_at w f i)) ≡ (if b then 1 else 3)
            → Goes w t (asm.Went (pushed f i s n))
        at true e sp l =
            small_alloc h sp.0.code l (leb-true 16 n (and_parts (nat_le 16 n) (nat_le n 1048576) shape.0).0) (leb-true n 32768 e)
        at false e sp l =
            large_alloc h sp l (leb-true 16 n (and_parts (nat_le 16 n) (nat_le n 1048576) shape.0).0)
            (leb-true n 1048576 (and_parts (nat_le 16 n) (nat_le n 1048576) shape.0).1)

-- ---- a frame is given back

-- pointers that are the same
pointer_is : (v : Val) (b o : ℕ) → same_val v (Ptr b o) ≡ true → v ≡ Ptr b o
pointer_is (Ptr a c) b o h = let p = and_parts (a == b) (c == o) h in ap₂ Ptr (eqb-true a b p.0) (eqb-true c o p.1)
pointer_is Undef b o h = cc
pointer_is (Int _) b o h = cc
pointer_is (Code _ _) b o h = cc
pointer_is (Ext _ _) b o h = cc
pointer_is Stop b o h = cc
pointer_is (Ha _ _ _) b o h = cc

-- the registers after addi 1,1,n
add_file : (g : File ℕ) (n : ℕ)
    → flat_all (One (effect (simple op.Sum) (At (Gpr 1)) (Number n) (Gpr 1))) g ≡ put g (Gpr 1) (wrapped (get 0 g (Gpr 1) + n))
unfolding flat_effect results
add_file g n = refl

free_len : (n wd : ℕ) → instr_length (instrs.FreeFrame n) wd ≡ 1
unfolding instr_length
free_len n wd = refl

module _ (w : World) (ok : Fits w) (s : State) (t : FlatState) (r : Related w s t) (f i n : ℕ) where
  free_at : (k j : Live) (ks : List Live) → s.live ≡ k ∷ j ∷ ks → Stands w t f i (instrs.FreeFrame n)
      → Spelts w (place_at w f i) (free_forms n (loaded_word w.image (place_at w f i))) → 16 ≤ n → n ≤ 1048576 → variables_in w ≤ j.number
      → length k.cells ≡ n → value_at k 4 0 ≡ Ptr j.number 0
      → Goes w t (asm.Went (record s { file = put s.file (Gpr 1) (Ptr j.number 0); place = Code f (suc i); live = j ∷ ks }))
  free_at k j ks e h sp big small frame size value =
      let st : w.layout.stack.hi ≤ 0xfffffff0 = ok.stack.range.most in
      let g : MemoryAgrees w (k ∷ j ∷ ks) s.next t.mem = subst (λ l. MemoryAgrees w l s.next t.mem) e (memory_of w s t r) in
      let files : FilesAgree w (k ∷ j ∷ ks) s.next s.file t.file = subst (λ l. FilesAgree w l s.next s.file t.file) e r.files in
      let x = get 0 t.file (Gpr 1) in
      let px : x ≡ w.layout.stack.hi - depth w (k ∷ j ∷ ks) = pointer_word w ok s t r ∙ ap (λ l. w.layout.stack.hi - depth w l) e in
      let framed : variables_in w ≤ k.number = g.frame in
      let whole = frame_total w k (j ∷ ks) (over_frame w k.number (j ∷ ks) frame g.laid.ordered.1) in
      let g1 = pop_law w k (j ∷ ks) s.next t.mem g frame in
      let keep = pop_keeps w k (j ∷ ks) s.next t.mem g frame in
      let f1 = files_keep w (k ∷ j ∷ ks) s.next (j ∷ ks) s.next keep s.file t.file files in
      let fit0 = g.laid.fits in
      let fit1 = g1.laid.fits in
      let hh = h.here in
      let done : (y : ℕ) → Means w (j ∷ ks) s.next (Ptr j.number 0) y → place_at w f i + 4 ≤ 0xfffffff0
      → Does w t (ends.Went (record { file = put t.file (Gpr 1) y; pc = following t; mem = t.mem }))
      → Goes w t (asm.Went (record s { file = put s.file (Gpr 1) (Ptr j.number 0); place = Code f (suc i); live = j ∷ ks })) =
      λ y m below step. one w s t r _ (record { file = put t.file (Gpr 1) y; pc = following t; mem = t.mem }) step (record {
        laid = g1.laid;
        frame = g1.frame;
        cells = g1.cells;
        same = g1.same;
        pointer = put_is s.file.gprs (top s.live) 0 (Ptr j.number 0) r.pointer;
        files = put_law w (j ∷ ks) s.next s.file t.file f1 (Gpr 1) _ _ ((λ e. omega arith), (λ e. omega arith)) m;
        place = next_place w (j ∷ ks) s.next f i (instrs.FreeFrame n) 1 h.known h.is h.facts (free_len n _) (following t) (omega arith);
      }) in
      let a = base w (k ∷ j ∷ ks) in
      let a_is : a ≡ w.layout.stack.hi - depth w (k ∷ j ∷ ks) = frame_base w k (j ∷ ks) framed in
      let z : x + 0 ≡ x = omega arith in
      let y = wrapped (x + 0) in
      let y_is : y ≡ wrapped (a + 0) = omega arith in
      let ld = load_at w ok (k ∷ j ∷ ks) s.next t.mem g k.number a k (newest w k (j ∷ ks)) Word 0 y (omega arith) y_is in
      let loaded_means : Means w (k ∷ j ∷ ks) s.next (Ptr j.number 0) ld.0 = subst (λ v. Means w (k ∷ j ∷ ks) s.next v ld.0) value ld.2 in
      let m1 = means_keep w (k ∷ j ∷ ks) s.next (j ∷ ks) s.next keep _ _ loaded_means in
      by done (is_addi (loaded_word w.image (place_at w f i)) && nat_le n 32767) refl sp ld.0 ld.1 m1 (top_home w (j ∷ ks) frame)
      (omega arith)
    where
      by : ((y : ℕ) → Means w (j ∷ ks) s.next (Ptr j.number 0) y → place_at w f i + 4 ≤ 0xfffffff0
          → Does w t (ends.Went (record { file = put t.file (Gpr 1) y; pc = following t; mem = t.mem }))
          → Goes w t (asm.Went (record s { file = put s.file (Gpr 1) (Ptr j.number 0); place = Code f (suc i); live = j ∷ ks })))
          → (b : Bool) → (is_addi (loaded_word w.image (place_at w f i)) && nat_le n 32767) ≡ b
          → Spelts w (place_at w f i) (if b then closed (addi 1 1 (pos n)) ∷ [] else closed (lwz 1 (pos 0) 1) ∷ [])
          → (q : ℕ) → loaded t.mem Word (wrapped (get 0 t.file (Gpr 1) + 0)) ≡ Some q → Means w (j ∷ ks) s.next (Ptr j.number 0) q
          → home w (j ∷ ks) j.number ≡ Some (w.layout.stack.hi - depth w (j ∷ ks))
          → wrapped (get 0 t.file (Gpr 1) + n) ≡ w.layout.stack.hi - depth w (j ∷ ks)
          → Goes w t (asm.Went (record s { file = put s.file (Gpr 1) (Ptr j.number 0); place = Code f (suc i); live = j ∷ ks }))
      by done false e2 sp q lq mq th sum =
          done q mq sp.0.code.below (then_is w t (fetch_law w t _ _ sp.0.code r.same h.here) (ap (flat.got t (Gpr 1)) lq))
      by done true e2 sp q lq mq th sum =
          let st : w.layout.stack.hi ≤ 0xfffffff0 = ok.stack.range.most in
          done (wrapped (get 0 t.file (Gpr 1) + n)) (record {
            named = mq.named;
            shows = subst (λ z. Shows (option_map (λ a. wrapped (a + 0)) z) (wrapped (get 0 t.file (Gpr 1) + n))) (sym th)
                (omega arith);
          }) sp.0.code.below
          (then_is w t (fetch_law w t _ _ sp.0.code r.same h.here) (ap (λ g. flat.on t g t.mem) (add_file t.file n)))

  pub free_step : Stands w t f i (instrs.FreeFrame n) → Goes w t (popped w.program f i s n s.live)
  unfolding forms
  free_step h = at s.live refl
    where
      at : (l : List Live) → s.live ≡ l → Goes w t (popped w.program f i s n l)
      at [] e = tt
      at (k ∷ []) e = tt
      at (k ∷ j ∷ ks) e =
          test (nat_le w.program.variables j.number) (length k.cells == n) (same_val (value_at k 4 0) (Ptr j.number 0)) refl refl refl
        where
          shape : ((nat_le 16 n && nat_le n 1048576) ≡ true) × ((n % 8 == 0) ≡ true)
          shape = and_parts (nat_le 16 n && nat_le n 1048576) (n % 8 == 0) h.facts.shaped.frame

          test : (p q u : Bool) → nat_le w.program.variables j.number ≡ p → (length k.cells == n) ≡ q
              → same_val (value_at k 4 0) (Ptr j.number 0) ≡ u
              → Goes w t (if p && (q && u) then asm.Went (record s {
                file = put s.file (Gpr 1) (Ptr j.number 0);
                place = Code f (suc i);
                live = j ∷ ks;
              }) else asm.Undefined whys.Frame)
          test true true true p q u =
              let sh = and_parts (nat_le 16 n) (nat_le n 1048576) shape.0 in
              free_at k j ks e h h.facts.spelt (leb-true 16 n sh.0) (leb-true n 1048576 sh.1) (leb-true w.program.variables j.number p)
              (eqb-true (length k.cells) n q) (pointer_is _ _ _ u)
          test true true false p q u = tt
          test true false u1 p q u = tt
          test false q1 u1 p q u = tt

pub frames_followed : FramesAreFollowed
frames_followed w ok (instrs.AllocFrame n) k s t r f i h = alloc_step w ok s t r f i n h
frames_followed w ok (instrs.FreeFrame n) k s t r f i h = free_step w ok s t r f i n h
frames_followed w ok (instrs.Plain x) k s t r f i h = absurd k
frames_followed w ok (instrs.Imm d n) k s t r f i h = absurd k
frames_followed w ok (instrs.Bt b n) k s t r f i h = absurd k
frames_followed w ok (instrs.Bf b n) k s t r f i h = absurd k
frames_followed w ok (instrs.Btbl b n) k s t r f i h = absurd k
frames_followed w ok (instrs.MfcrBit b n) k s t r f i h = absurd k
frames_followed w ok (instrs.Label n) k s t r f i h = absurd k
frames_followed w ok instrs.Cfi k s t r f i h = absurd k
frames_followed w ok instrs.Annot k s t r f i h = absurd k
