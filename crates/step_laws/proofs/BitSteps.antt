-- The step law of a bit of the condition register put into a register: mfcr and a rotation.
use Rattle.std.proofs.Common.{◌≡◌, ℕ, zero, suc, ◌+◌, ◌-◌, ◌*◌, ◌/◌, ◌%◌, ◌^◌, ◌<◌, ◌≤◌, Bool, true, false, ◌&&◌, List, [], ◌∷◌, length}
use Rattle.std.proofs.Common.{map, Option, Some, None, refl, sym, ap, ◌∙◌, subst, arith, ⊎_elim, pow-suc, mul_comm, bit_and}
use Rattle.std.proofs.Common.{get_or-set_same, length-set}
use Rattle.std.specs.Prelude.{fold, slice_index_or}
use Rattle.std.specs.Int.{bit_at}
use Rattle.std.proofs.Math.Seq.{set-set}
use Rattle.std.proofs.lemmas.Bool.{ltb-true, cases_lt}
use Rattle.std.proofs.lemmas.Nat.Bits.{bit_at_cat_high, bit_at_cat_low, bit_at_lowest, and_pow}
use Rattle.isa_model.specs.Word.{wrapped, rotl, mask}
use Rattle.isa_model.specs.Operands.{is_register, is_bit_number}
use Rattle.ppc_decode.specs.declared.machine.Machine.{Machine}
use Rattle.ppc_decode.specs.declared.machine.Machine.TheVariants as machine
use Rattle.ppc_decode.specs.Word.{fits}
use Rattle.ppc_decode.specs.Decoding.{decoded}
use Rattle.effect_model.specs.declared.Place.TheVariants.{Gpr, Bit}
use Rattle.effect_model.specs.declared.Op.TheVariants as op
use Rattle.effect_model.specs.declared.Operand.TheVariants.{Number}
use Rattle.effect_model.specs.declared.Effects.TheVariants.{One}
use Rattle.effect_model.specs.Meaning.{results}
use Rattle.effect_model.specs.Rows.{effect, simple, register}
use Rattle.effect_model.specs.Files.{File, get, put, flat_effect, flat_all, word_of_bits}
use Rattle.asm_syntax.specs.declared.instr.Instr.TheVariants as instrs
use Rattle.ppc_machine.specs.State.{FlatState}
use Rattle.ppc_machine.specs.Steps.{on, following, performed}
use Rattle.asm_mem.specs.declared.value.Val.{Val}
use Rattle.asm_mem.specs.declared.value.Val.TheVariants.{Undef, Int, Ptr, Code, Ext, Stop, Ha}
use Rattle.asm_values.specs.Accesses.{changed}
use Rattle.asm_step.specs.State as asm
use Rattle.asm_step.specs.State.{State, gone}
use Rattle.code_model.specs.Forms.{closed, rlwinm, bit_forms, forms, instr_length}
use Rattle.code_model.specs.Addresses.{loaded_word}
use Rattle.machine_model.specs.Worlds.{World, place_at}
use Rattle.machine_model.specs.Fits.{Fits, Spelts}
use Rattle.machine_model.specs.Relation.{Means, FilesAgree, Related}
use Rattle.machine_model.specs.Leads.{Goes}
use Rattle.value_laws.proofs.ValueLaws.{int_means, undef_means}
use Rattle.file_laws.proofs.FileLaws.{get_law, put_law, put_spares, free_of, spare_of}
use Rattle.step_laws.specs.Laws.{Stands}
use Rattle.step_laws.proofs.Steps.{then_is, fetch_law, next_place}
use Rattle.step_laws.proofs.WordsSteps.{decoded_fits}

-- ---- the condition register as a word

abbrev low_bits : List ℕ → List ℕ
low_bits bs = map (λ b. b % 2) bs

-- the bits of a list whose members are bits, the highest first
abbrev cr_word : List ℕ → ℕ
cr_word [] = 0
cr_word (b ∷ bs) = b % 2 * 2 ^ length bs + cr_word bs

one_more : (b p r : ℕ) → r < p → b % 2 * p + r < 2 * p
one_more b p r h = by (b % 2) (omega arith)
  where
    by : (c : ℕ) → c < 2 → c * p + r < 2 * p
    by zero l = omega arith
    by (suc zero) l = omega arith
    by (suc (suc c)) l = absurd (omega arith)

cr_below : (bs : List ℕ) → cr_word bs < 2 ^ length bs
cr_below [] = omega arith
cr_below (b ∷ bs) =
    let p : 2 ^ suc (length bs) ≡ 2 * 2 ^ length bs = pow-suc 2 (length bs) ∙ mul_comm _ _ in
    rw p (one_more b (2 ^ length bs) (cr_word bs) (cr_below bs))

cr_bit : (bs : List ℕ) (i j : ℕ) → i < length bs → j + suc i ≡ length bs → bit_at (cr_word bs) j ≡ slice_index_or bs i 0 % 2
cr_bit [] i j l e = absurd (omega arith)
cr_bit (b ∷ bs) zero j l e =
    let q : j ≡ length bs = omega arith in
    let z : j - length bs ≡ 0 = omega arith in
    let m : b % 2 % 2 ≡ b % 2 = omega arith in
    bit_at_cat_high (b % 2) (length bs) (cr_word bs) j (cr_below bs) (omega arith) ∙ ap (bit_at (b % 2)) z ∙ bit_at_lowest (b % 2) ∙ m
cr_bit (b ∷ bs) (suc i) j l e = bit_at_cat_low (b % 2) (length bs) (cr_word bs) j (omega arith) ∙ cr_bit bs i j (omega arith) (omega arith)

abbrev with_bit : ℕ → ℕ → ℕ
with_bit w b = wrapped (2 * w + b % 2)

-- bits behind a word that has room for them
joined_bits : (bs : List ℕ) (w : ℕ) → (w + 1) * 2 ^ length bs ≤ 4294967296 → fold with_bit w bs ≡ w * 2 ^ length bs + cr_word bs
joined_bits [] w h = let q : w * 1 + 0 ≡ w = omega arith in sym q
joined_bits (b ∷ bs) w h =
    let p : 2 ^ suc (length bs) ≡ 2 * 2 ^ length bs = pow-suc 2 (length bs) ∙ mul_comm _ _ in
    let h1 : (w + 1) * (2 * 2 ^ length bs) ≤ 4294967296 = rw p at h in
    step b (2 ^ length bs) (cr_word bs) (some (length bs)) h1 (λ u l. joined_bits bs u l)
    ∙ ap (λ z. w * z + (b % 2 * 2 ^ length bs + cr_word bs)) (sym p)
  where
    some : (n : ℕ) → 1 ≤ 2 ^ n
    some zero = omega arith
    some (suc n) = let q = some n in rw (pow-suc 2 n) (omega arith)

    step : (b q c : ℕ) → 1 ≤ q → (w + 1) * (2 * q) ≤ 4294967296 → ((u : ℕ) → (u + 1) * q ≤ 4294967296 → fold with_bit u bs ≡ u * q + c)
        → fold with_bit (with_bit w b) bs ≡ w * (2 * q) + (b % 2 * q + c)
    step b q c s h go = by (b % 2) (omega arith)
      where
        wide : (w q : ℕ) → 1 ≤ q → (w + 1) * (2 * q) ≤ 4294967296 → 2 * w + 2 ≤ 4294967296
        wide w zero s h = absurd (omega arith)
        wide w (suc q) s h = grind arith

        room : 2 * w + 2 ≤ 4294967296
        room = wide w q s h

        by : (d : ℕ) → d < 2 → fold with_bit (wrapped (2 * w + d)) bs ≡ w * (2 * q) + (d * q + c)
        by d l =
            let r = room in
            let e : wrapped (2 * w + d) ≡ 2 * w + d = omega arith in
            let m : (2 * w + d + 1) * q ≤ 4294967296 = grind arith in
            ap (λ z. fold with_bit z bs) e ∙ go (2 * w + d) m ∙ grind arith

-- ---- one of its bits moved to the end

low_of_rotl : (x m k : ℕ) → bit_and ((x * 2 ^ suc m) % 4294967296 + x / 2 ^ k) 1 ≡ bit_at x k
low_of_rotl x m k =
    let p : x * 2 ^ suc m ≡ 2 * (x * 2 ^ m) = ap (λ z. x * z) (pow-suc 2 m) ∙ grind arith in
    let e : bit_and ((x * 2 ^ suc m) % 4294967296 + x / 2 ^ k) (2 ^ 0) ≡ bit_at ((x * 2 ^ suc m) % 4294967296 + x / 2 ^ k) 0 * 2 ^ 0 =
    and_pow _ 0 in
    let f = bit_at_lowest ((x * 2 ^ suc m) % 4294967296 + x / 2 ^ k) in
    let g : ((x * 2 ^ suc m) % 4294967296 + x / 2 ^ k) % 2 ≡ x / 2 ^ k % 2 = omega arith in
    e ∙ omega arith

whole : (x : ℕ) → x < 4294967296 → bit_and ((x * 2 ^ 0) % 4294967296 + x / 2 ^ 32) 1 ≡ bit_at x 0
whole x h =
    let q : (x * 2 ^ 0) % 4294967296 + x / 2 ^ 32 ≡ x = omega arith in
    let e : bit_and x (2 ^ 0) ≡ bit_at x 0 * 2 ^ 0 = and_pow x 0 in
    ap (λ z. bit_and z 1) q ∙ e ∙ omega arith

rotated : (x bit : ℕ) → x < 4294967296 → bit < 32 → bit_and (rotl x ((bit + 1) % 32)) 1 ≡ bit_at x (31 - bit)
rotated x bit h l = ⊎_elim inner last (cases_lt bit 31)
  where
    inner : bit < 31 → bit_and (rotl x ((bit + 1) % 32)) 1 ≡ bit_at x (31 - bit)
    inner s =
        let e : (bit + 1) % 32 % 32 ≡ suc bit = omega arith in
        let q : 32 - suc bit ≡ 31 - bit = omega arith in
        ap (λ k. bit_and ((x * 2 ^ k) % 4294967296 + x / 2 ^ (32 - k)) 1) e
        ∙ ap (λ k. bit_and ((x * 2 ^ suc bit) % 4294967296 + x / 2 ^ k) 1) q
        ∙ low_of_rotl x bit (31 - bit)

    last : 31 ≤ bit → bit_and (rotl x ((bit + 1) % 32)) 1 ≡ bit_at x (31 - bit)
    last s =
        let e : (bit + 1) % 32 % 32 ≡ 0 = omega arith in
        let q : 31 - bit ≡ 0 = omega arith in
        ap (λ k. bit_and ((x * 2 ^ k) % 4294967296 + x / 2 ^ (32 - k)) 1) e ∙ whole x h ∙ ap (bit_at x) (sym q)

none_before : (p c : ℕ) → 0 * p + c ≡ c
none_before p c = omega arith

-- bit i of a list of 32, by the word that they are
bit_found : (bs : List ℕ) (bit : ℕ) → length bs ≡ 32 → bit < 32
    → bit_and (rotl (word_of_bits bs) ((bit + 1) % 32)) 1 ≡ slice_index_or bs bit 0 % 2
bit_found bs bit wide l =
    let room : (0 + 1) * 2 ^ length bs ≤ 4294967296 = rw wide (omega arith) in
    let is : word_of_bits bs ≡ cr_word bs = joined_bits bs 0 room ∙ none_before (2 ^ length bs) (cr_word bs) in
    let below : cr_word bs < 4294967296 = rw wide at (cr_below bs) in
    ap (λ x. bit_and (rotl x ((bit + 1) % 32)) 1) is ∙ rotated (cr_word bs) bit below l
    ∙ cr_bit bs bit (31 - bit) (omega arith) (omega arith)

-- ---- the step

rotate_file : (g : File ℕ) (r n : ℕ)
    → flat_all (One (effect (simple (op.Rotation n 31 31)) (register r) (Number 0) (Gpr r))) g
    ≡ put g (Gpr r) (bit_and (rotl (get 0 g (Gpr r)) n) 1)
unfolding flat_effect results
rotate_file g r n = refl

low_means : (w : World) (s : State) (v : Val) (x : ℕ) → Means w s.live s.next v x → Means w s.live s.next (changed (λ n. n % 2) v) (x % 2)
low_means w s (Int n) x m = int_means w s.live s.next _ _ (ap (λ z. z % 2) m.shows)
low_means w s Undef x m = undef_means w s.live s.next _
low_means w s (Ptr _ _) x m = undef_means w s.live s.next _
low_means w s (Code _ _) x m = undef_means w s.live s.next _
low_means w s (Ext _ _) x m = undef_means w s.live s.next _
low_means w s Stop x m = undef_means w s.live s.next _
low_means w s (Ha _ _ _) x m = undef_means w s.live s.next _

module _ (w : World) (ok : Fits w) (s : State) (t : FlatState) (r : Related w s t) (f i d bit : ℕ) where
  bit_case : Stands w t f i (instrs.MfcrBit d bit) → Spelts w (place_at w f i) (bit_forms d bit)
      → instr_length (instrs.MfcrBit d bit) (loaded_word w.image (place_at w f i)) ≡ 2
      → Goes w t (asm.Went (gone s f i (put s.file (Gpr d) (changed (λ n. n % 2) (get Undef s.file (Bit bit))))))
  bit_case h sp l fits =
      let b1 = sp.0.code.below in
      let b2 = sp.1.0.code.below in
      let hh = h.here in
      let small : d < 32 = ltb-true d 32 (decoded_fits _ (machine.Mfcr d) sp.0.code.is) in
      let known : bit < 32 = ltb-true bit 32 h.facts.shaped.range in
      let x1 = word_of_bits t.file.bits in
      let g1 = put t.file (Gpr d) x1 in
      let t1 : FlatState = record { file = g1; pc = following t; mem = t.mem } in
      let e1 = fetch_law w t _ _ sp.0.code r.same h.here in
      let p1 : t1.pc ≡ place_at w f i + 4 = omega arith in
      let x2 = bit_and (rotl (get 0 g1 (Gpr d)) ((bit + 1) % 32)) 1 in
      let g2 = put g1 (Gpr d) x2 in
      let t2 : FlatState = record { file = g2; pc = following t1; mem = t.mem } in
      let e2 = then_is w t1 (fetch_law w t1 _ _ sp.1.0.code r.same p1) (ap (λ g. on t1 g t.mem) (rotate_file g1 d ((bit + 1) % 32))) in
      let wide = r.files.wide in
      let got : get 0 g1 (Gpr d) ≡ x1 = get_or-set_same t.file.gprs d x1 0 (omega arith) in
      let x2_is : x2 ≡ get 0 t.file (Bit bit) % 2 = ap (λ x. bit_and (rotl x ((bit + 1) % 32)) 1) got
      ∙ bit_found t.file.bits bit r.files.bits_wide known in
      let free = free_of (Gpr d) h.facts.shaped.free in
      let v = changed (λ n. n % 2) (get Undef s.file (Bit bit)) in
      let m = low_means w s (get Undef s.file (Bit bit)) (get 0 t.file (Bit bit))
      (get_law w s.live s.next s.file t.file r.files (Bit bit)) in
      let f1 = put_law w s.live s.next s.file t.file r.files (Gpr d) Undef x1 free (record { named = tt; shows = tt }) in
      let f2 = put_law w s.live s.next _ _ f1 (Gpr d) v x2 free (subst (λ x. Means w s.live s.next v x) (sym x2_is) m) in
      let once : put (put s.file (Gpr d) Undef) (Gpr d) v ≡ put s.file (Gpr d) v =
      ap (λ l. record s.file { gprs = l }) (set-set s.file.gprs d Undef v) in (
        2,
        omega arith,
        (
          t2,
          (t1, e1, (t2, e2, refl)),
          record {
            laid = r.laid;
            frame = r.frame;
            pointer = put_spares s.file (Gpr d) _ (spare_of (Gpr d) h.facts.shaped.free) ∙ r.pointer;
            files = subst (λ z. FilesAgree w s.live s.next z g2) once f2;
            cells = r.cells;
            same = r.same;
            place = next_place w s.live s.next f i (instrs.MfcrBit d bit) 2 h.known h.is h.facts l (following t1) (omega arith);
          },
        ),
      )

  pub bit_step : Stands w t f i (instrs.MfcrBit d bit)
      → Goes w t (asm.Went (gone s f i (put s.file (Gpr d) (changed (λ n. n % 2) (get Undef s.file (Bit bit))))))
  unfolding forms instr_length
  bit_step h = bit_case h h.facts.spelt refl
