-- The step law of a jump by a table: five words.
use Rattle.std.proofs.Common.{◌≡◌, ℕ, zero, suc, ◌+◌, ◌*◌, ◌/◌, ◌%◌, ◌<◌, ◌≤◌, Bool, true, false, ◌&&◌, nat_lt, List, [], ◌∷◌, length}
use Rattle.std.proofs.Common.{Option, Some, None, refl, sym, ap, ap₂, ◌∙◌, subst, arith, if◌then◌else◌, get_or-set_same, length-set}
use Rattle.std.proofs.Common.{bit_and}
use Rattle.std.proofs.lemmas.Grind.{and_high_numeral}
use Rattle.std.proofs.lemmas.Bool.{ltb-true, and_parts}
use Rattle.std.proofs.lemmas.Option.{slice_get-get_or}
use Rattle.std.proofs.Math.Seq.{set-set}
use Rattle.std.specs.Prelude.{slice_get, slice_index_or}
use Rattle.std.specs.List.{list_all}
use Rattle.std.specs.Int.{cast_unsigned, w32}
use Rattle.isa_model.specs.Word.{wrapped, lo, sext16}
use Rattle.effect_model.specs.declared.Place.TheVariants.{Gpr, Ctr}
use Rattle.effect_model.specs.declared.Form.TheVariants.{Word}
use Rattle.effect_model.specs.declared.Op.TheVariants as op
use Rattle.effect_model.specs.declared.Operand.TheVariants.{At, Number}
use Rattle.effect_model.specs.declared.Effects.TheVariants.{One}
use Rattle.effect_model.specs.Meaning.{results}
use Rattle.effect_model.specs.Rows.{effect, simple, moved, register}
use Rattle.effect_model.specs.Files.{File, get, put, flat_effect, flat_all}
use Rattle.flat_mem.specs.Memory.{is_mapped, each_from, byte_of}
use Rattle.flat_mem.specs.Access.{loaded, word_of}
use Rattle.asm_syntax.specs.Instructions.{has_label}
use Rattle.asm_syntax.specs.declared.instr.Instr.TheVariants as instrs
use Rattle.ppc_machine.specs.Buffers.{aligned}
use Rattle.ppc_machine.specs.State.{FlatState}
use Rattle.ppc_machine.specs.Steps.{following, on, got}
use Rattle.asm_mem.specs.declared.value.Val.{Val}
use Rattle.asm_mem.specs.declared.value.Val.TheVariants.{Undef, Int, Ptr, Code, Ext, Stop, Ha}
use Rattle.asm_step.specs.declared.answer.Why.TheVariants as whys
use Rattle.asm_step.specs.State as asm
use Rattle.asm_step.specs.State.{State}
use Rattle.asm_step.specs.Jumps.{tabled, at_label}
use Rattle.code_model.specs.Fields.{half_field}
use Rattle.code_model.specs.Forms.{table_forms, forms, instr_length}
use Rattle.code_model.specs.Addresses.{loaded_word, label_address}
use Rattle.code_model.specs.Code.{table_address}
use Rattle.machine_model.specs.Worlds.{World, code_of, place_at}
use Rattle.machine_model.specs.Fits.{Fits, Spelts, TableWord}
use Rattle.machine_model.specs.Relation.{Means, FilesAgree, Same, Related}
use Rattle.machine_model.specs.Leads.{Goes}
use Rattle.value_laws.proofs.Halves.{spread, sext16_is, short_word}
use Rattle.file_laws.proofs.FileLaws.{get_law, put_law, put_spares}
use Rattle.memory_laws.proofs.SegmentLaws.{each_law, word_law, same_mapped}
use Rattle.step_laws.specs.Laws.{Stands}
use Rattle.step_laws.proofs.Steps.{then_is, fetch_law}
use Rattle.step_laws.proofs.Targets.{label_at, label_agrees}

and_shift : (x : ℕ) → x < 1073741824 → bit_and (wrapped (x * 4) + x / 1073741824) 4294967292 ≡ 4 * x
and_shift x h =
    let e : wrapped (x * 4) + x / 1073741824 ≡ 4 * x = omega arith in
    let a = and_high_numeral (4 * x) 4294967291 refl (omega arith) in
    let z : (4 * x) % 4 ≡ 0 = omega arith in
    ap (λ y. bit_and y 4294967292) e ∙ omega arith

rotate_file : (g : File ℕ) (q : ℕ)
    → flat_all (One (effect (simple (op.Rotation 2 0 29)) (register q) (Number 0) (Gpr 12))) g
    ≡ put g (Gpr 12) (bit_and (wrapped (get 0 g (Gpr q) * 4) + get 0 g (Gpr q) / 1073741824) 4294967292)
unfolding flat_effect results
rotate_file g q = refl

sum_file : (g : File ℕ) (n : ℕ)
    → flat_all (One (effect (simple op.Sum) (At (Gpr 12)) (Number n) (Gpr 12))) g ≡ put g (Gpr 12) (wrapped (get 0 g (Gpr 12) + n))
unfolding flat_effect results
sum_file g n = refl

count_file : (g : File ℕ) → flat_all (One (moved (register 12) Ctr)) g ≡ put g Ctr (get 0 g (Gpr 12))
unfolding flat_effect results
count_file g = refl

table_len : (q : ℕ) (labels : List ℕ) (wd : ℕ) → instr_length (instrs.Btbl q labels) wd ≡ 5
unfolding instr_length
table_len q labels wd = refl

each_at : (p : ℕ → Bool) (xs : List ℕ) (i x : ℕ) → list_all p xs ≡ true → slice_get xs i ≡ Some x → p x ≡ true
each_at p [] i x h e = cc
each_at p (y ∷ ys) zero x h e = let q : y ≡ x = cc in subst (λ z. p z ≡ true) q (and_parts (p y) (list_all p ys) h).0
each_at p (y ∷ ys) (suc i) x h e = each_at p ys i x (and_parts (p y) (list_all p ys) h).1 e

-- the loaded word of a table
table_load : (w : World) (t : FlatState) → Same w t.mem → (a x : ℕ) → TableWord w a x → loaded t.mem Word a ≡ Some x
table_load w t s a x h =
    let maps = each_law (is_mapped t.mem) 4 a h.below (λ i l. same_mapped w t.mem s (a + i) ∙ h.loaded i l) in
    let word = word_law t.mem w.memory a h.below (λ i l. s.bytes (a + i) (h.apart i l)) in
    ap (λ b. if b then Some (word_of t.mem a) else None) maps ∙ ap Some (word ∙ h.is)

eight : (a : ℕ) → a + 8 ≡ a + 4 + 4
eight a = omega arith

twice : (g : File Val) → put (put g (Gpr 12) Undef) (Gpr 12) Undef ≡ put g (Gpr 12) Undef
twice g = ap (λ l. record g { gprs = l }) (set-set g.gprs 12 Undef Undef)

-- the address of an entry, from the halves of two words
places : (v1 wd1 wd2 v2 j y n1 n2 z : ℕ) → y ≡ 4 * j → n1 ≡ spread (lo wd1) → n2 ≡ spread (lo wd2)
    → z ≡ wrapped (y + wrapped (n1 * 65536)) → v1 ≡ wd1 → v2 ≡ wd2
    → wrapped (lo v1 * 65536 + sext16 v2) + 4 * j + 4 ≤ 0xfffffff0 → wrapped (z + n2) ≡ wrapped (lo v1 * 65536 + sext16 v2) + 4 * j
places v1 wd1 wd2 v2 j y n1 n2 z e1 e2 e3 e4 e5 e6 l = let s = sext16_is v2 in omega arith

module _ (w : World) (ok : Fits w) (s : State) (t : FlatState) (r : Related w s t) (f i q : ℕ) (labels : List ℕ) where
  -- r12 behind the first word, which multiplies by four, and behind the second, which adds the high half of the table's address
  abbrev offset_file : File ℕ
  offset_file = put t.file (Gpr 12) (bit_and (wrapped (get 0 t.file (Gpr q) * 4) + get 0 t.file (Gpr q) / 1073741824) 4294967292)

  abbrev high_file : File ℕ
  high_file =
      put offset_file (Gpr 12)
      (wrapped (get 0 offset_file (Gpr 12) + wrapped (cast_unsigned w32 (half_field (loaded_word w.image (place_at w f i + 4))) * 65536)))

  is_wide : (x y : ℕ) → 12 < length (put (put t.file (Gpr 12) x) (Gpr 12) y).gprs
  is_wide x y =
      let wide = r.files.wide in
      let one = length-set t.file.gprs 12 x in
      let two = length-set (put t.file (Gpr 12) x).gprs 12 y in omega arith

  -- what the third word loads
  table_loads : (j d : ℕ) → get 0 t.file (Gpr q) ≡ j → TableWord w (table_address w.image (place_at w f i) + 4 * j) d
      → loaded t.mem Word
      (wrapped (get 0 high_file (Gpr 12) + cast_unsigned w32 (half_field (loaded_word w.image (place_at w f i + 4 + 4)))))
      ≡ Some d
  table_loads j d ej table =
      let wide = r.files.wide in
      let tb = table.below in
      let wd1 = loaded_word w.image (place_at w f i + 4) in
      let wd2 = loaded_word w.image (place_at w f i + 4 + 4) in
      let v = get 0 t.file (Gpr q) in
      let x1 = bit_and (wrapped (v * 4) + v / 1073741824) 4294967292 in
      let x1_is : x1 ≡ 4 * v = and_shift v (omega arith) in
      let r1 : get 0 offset_file (Gpr 12) ≡ x1 = get_or-set_same t.file.gprs 12 x1 0 (omega arith) in
      let x2 = wrapped (get 0 offset_file (Gpr 12) + wrapped (cast_unsigned w32 (half_field wd1) * 65536)) in
      let wide1 = length-set t.file.gprs 12 x1 in
      let r2 : get 0 high_file (Gpr 12) ≡ x2 = get_or-set_same offset_file.gprs 12 x2 0 (omega arith) in
      let c1 : cast_unsigned w32 (half_field wd1) ≡ spread (lo wd1) = short_word (lo wd1) (omega arith) in
      let c2 : cast_unsigned w32 (half_field wd2) ≡ spread (lo wd2) = short_word (lo wd2) (omega arith) in
      let a_is =
      places wd1 wd1 wd2 (loaded_word w.image (place_at w f i + 8)) j (get 0 offset_file (Gpr 12)) _ _ _
      (r1 ∙ x1_is ∙ ap (λ z. 4 * z) ej) c1 c2 r2 refl (ap (loaded_word w.image) (eight (place_at w f i))) tb in
      ap (loaded t.mem Word) a_is ∙ table_load w t r.same _ _ table

  table_files : (x y d n : ℕ)
      → FilesAgree w s.live s.next (put (put s.file (Gpr 12) Undef) Ctr Undef)
      (put (put (put (put t.file (Gpr 12) x) (Gpr 12) y) (Gpr 12) d) Ctr n)
  table_files x y d n =
      let m : (x : ℕ) → Means w s.live s.next Undef x = λ x. record { named = tt; shows = tt } in
      let f1 = put_law w s.live s.next s.file t.file r.files (Gpr 12) Undef x ((λ e. omega arith), (λ e. omega arith)) (m x) in
      let f2 = put_law w s.live s.next _ _ f1 (Gpr 12) Undef y ((λ e. omega arith), (λ e. omega arith)) (m y) in
      let f3 = put_law w s.live s.next _ _ f2 (Gpr 12) Undef d ((λ e. omega arith), (λ e. omega arith)) (m d) in
      let f4 = put_law w s.live s.next _ _ f3 Ctr Undef n tt (m n) in
      let once : put (put (put s.file (Gpr 12) Undef) (Gpr 12) Undef) (Gpr 12) Undef ≡ put s.file (Gpr 12) Undef =
      twice (put s.file (Gpr 12) Undef) ∙ twice s.file in
      subst (λ z. FilesAgree w s.live s.next (put z Ctr Undef) (put (put (put (put t.file (Gpr 12) x) (Gpr 12) y) (Gpr 12) d) Ctr n)) once f4

  table_case : (j : ℕ) → get 0 t.file (Gpr q) ≡ j → j < length labels → Stands w t f i (instrs.Btbl q labels)
      → Spelts w (place_at w f i) (table_forms q)
      → Goes w t (asm.Went (record s {
        file = put (put s.file (Gpr 12) Undef) Ctr Undef;
        place = at_label w.program f (slice_index_or labels j 0);
      }))
  table_case j ej hj h sp fits =
      let at = place_at w f i in
      let hh = h.here in
      let wide = r.files.wide in
      let lb : (l : ℕ) × (slice_get labels j ≡ Some l) = (slice_index_or labels j 0, slice_get-get_or labels j 0 hj) in
      let le : slice_index_or labels j 0 ≡ lb.0 = refl in
      let table = ok.tables f i q labels j lb.0 h.known h.is lb.1 in
      let has = each_at (has_label (code_of w.program f)) labels j lb.0 h.facts.shaped.labels lb.1 in
      let la = label_at w.image (w.function_at f) (code_of w.program f) lb.0 has in
      let within = la.within in
      let pl = ok.places f la.place h.known (omega arith) in
      let below = pl.below in let al = pl.aligned in let is = la.is in
      let d = label_address w.image (w.function_at f) (code_of w.program f) lb.0 in
      let b1 = sp.0.code.below in let b2 = sp.1.0.code.below in let b3 = sp.1.1.0.code.below in let b4 = sp.1.1.1.0.code.below in
      let b5 = sp.1.1.1.1.0.code.below in
      let t1 : FlatState = record { file = offset_file; pc = following t; mem = t.mem } in
      let e1 = then_is w t (fetch_law w t _ _ sp.0.code r.same h.here) (ap (λ g. on t g t.mem) (rotate_file t.file q)) in
      let p1 : t1.pc ≡ at + 4 = omega arith in
      let t2 : FlatState = record { file = high_file; pc = following t1; mem = t.mem } in
      let e2 = then_is w t1 (fetch_law w t1 _ _ sp.1.0.code r.same p1) (ap (λ g. on t1 g t.mem) (sum_file offset_file _)) in
      let p2 : t2.pc ≡ at + 4 + 4 = omega arith in
      let g3 = put high_file (Gpr 12) d in
      let t3 : FlatState = record { file = g3; pc = following t2; mem = t.mem } in
      let e3 = then_is w t2 (fetch_law w t2 _ _ sp.1.1.0.code r.same p2) (ap (got t2 (Gpr 12)) (table_loads j d ej table)) in
      let r3 : get 0 g3 (Gpr 12) ≡ d = get_or-set_same high_file.gprs 12 d 0 (is_wide _ _) in
      let p3 : t3.pc ≡ at + 4 + 4 + 4 = omega arith in
      let t4 : FlatState = record { file = put g3 Ctr (get 0 g3 (Gpr 12)); pc = following t3; mem = t.mem } in
      let e4 = then_is w t3 (fetch_law w t3 _ _ sp.1.1.1.0.code r.same p3) (ap (λ g. on t3 g t.mem) (count_file g3)) in
      let p4 : t4.pc ≡ at + 4 + 4 + 4 + 4 = omega arith in
      let t5 : FlatState = record { file = t4.file; pc = aligned (get 0 g3 (Gpr 12)); mem = t.mem } in
      let e5 = fetch_law w t4 _ _ sp.1.1.1.1.0.code r.same p4 in
      let goes : aligned (get 0 g3 (Gpr 12)) ≡ wrapped d = omega arith in (
        5,
        omega arith,
        (
          t5,
          (t1, e1, (t2, e2, (t3, e3, (t4, e4, (t5, e5, refl))))),
          record {
            laid = r.laid;
            frame = r.frame;
            pointer = put_spares s.file (Gpr 12) Undef (λ e. omega arith) ∙ r.pointer;
            files = table_files _ _ d _;
            cells = r.cells;
            same = r.same;
            place = label_agrees w ok s.live s.next f (slice_index_or labels j 0) _ h.known
                (subst (λ n. has_label (code_of w.program f) n ≡ true) (sym le) has) (goes
                ∙ ap (λ n. wrapped (label_address w.image (w.function_at f) (code_of w.program f) n)) (sym le));
          },
        ),
      )

  pub table_step : Stands w t f i (instrs.Btbl q labels) → Goes w t (tabled w.program f s labels (get Undef s.file (Gpr q)))
  unfolding forms
  table_step h = at (get Undef s.file (Gpr q)) (get_law w s.live s.next s.file t.file r.files (Gpr q))
    where
      at : (v : Val) → Means w s.live s.next v (get 0 t.file (Gpr q)) → Goes w t (tabled w.program f s labels v)
      at (Int j) m = test (nat_lt j (length labels)) refl
        where
          test : (b : Bool) → nat_lt j (length labels) ≡ b
              → Goes w t (if b then asm.Went (record s {
                file = put (put s.file (Gpr 12) Undef) Ctr Undef;
                place = at_label w.program f (slice_index_or labels j 0);
              }) else asm.Undefined whys.Table)
          test true e = table_case j m.shows (ltb-true j (length labels) e) h h.facts.spelt
          test false e = tt
      at Undef m = tt
      at (Ptr _ _) m = tt
      at (Code _ _) m = tt
      at (Ext _ _) m = tt
      at Stop m = tt
      at (Ha _ _ _) m = tt
