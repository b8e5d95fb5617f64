-- The step laws of jumps, branches, and of instructions of one or two words that are no plain ones.
use Rattle.std.proofs.Common.{◌≡◌, ℕ, zero, suc, ◌+◌, ◌*◌, ◌%◌, ◌<◌, ◌≤◌, Bool, true, false, not, List, [], ◌∷◌, length, Option, Some}
use Rattle.std.proofs.Common.{None, refl, sym, ap, ap₂, ◌∙◌, subst, arith, if◌then◌else◌}
use Rattle.std.specs.Prelude.{ℤ, pos, ◌==◌}
use Rattle.std.specs.Int.{cast_unsigned, w32}
use Rattle.std.proofs.lemmas.Bool.{eqb-true}
use Rattle.isa_model.specs.Word.{wrapped}
use Rattle.isa_model.specs.Forms.{displacement_in}
use Rattle.effect_model.specs.declared.Place.TheVariants.{Gpr, Bit, Lr, Ctr}
use Rattle.effect_model.specs.Files.{File, get, put}
use Rattle.asm_syntax.specs.Instructions.{has_label}
use Rattle.asm_syntax.specs.declared.instr.Jump.{Jump}
use Rattle.asm_syntax.specs.declared.instr.Jump.TheVariants as jumps
use Rattle.asm_syntax.specs.declared.instr.Plain.TheVariants as plains
use Rattle.asm_syntax.specs.declared.instr.Instr.{Instr}
use Rattle.asm_syntax.specs.declared.instr.Instr.TheVariants as instrs
use Rattle.ppc_decode.specs.declared.machine.Machine.{Machine}
use Rattle.ppc_decode.specs.declared.machine.Machine.TheVariants as machine
use Rattle.ppc_machine.specs.Actions.{action_of}
use Rattle.ppc_machine.specs.Buffers.{aligned}
use Rattle.ppc_machine.specs.State.{FlatState, Went}
use Rattle.ppc_machine.specs.Steps as flat
use Rattle.ppc_machine.specs.Steps.{performed, following, target, goes, branch_place, branch_file}
use Rattle.asm_mem.specs.declared.value.Val.{Val}
use Rattle.asm_mem.specs.declared.value.Val.TheVariants.{Undef, Int, Ptr, Code, Ext, Stop, Ha}
use Rattle.asm_mem.specs.Blocks.{Live}
use Rattle.asm_values.specs.Operands.{symbol_value}
use Rattle.asm_step.specs.declared.answer.Why.TheVariants as whys
use Rattle.asm_step.specs.LinkedCode.{key_at, is_target}
use Rattle.asm_step.specs.State as asm
use Rattle.asm_step.specs.State.{State, Next, gone}
use Rattle.asm_step.specs.Jumps as leaps
use Rattle.asm_step.specs.Jumps.{jump, at_label, linked, counts, branched}
use Rattle.asm_step.specs.Steps.{act}
use Rattle.code_model.specs.Forms.{Form, closed, near, far, plain_form, jump_form, branch_forms, forms, instr_length, is_bc}
use Rattle.code_model.specs.Fields.{address_plus}
use Rattle.code_model.specs.Spelling.{found_instruction, agrees}
use Rattle.code_model.specs.Addresses.{loaded_word, label_address}
use Rattle.machine_model.specs.Worlds.{World, code_of, place_at, target_in}
use Rattle.machine_model.specs.Fits.{Fits, CodeAt, Spelt, Spelts}
use Rattle.machine_model.specs.Relation.{Means, PlacesAgree, Related}
use Rattle.machine_model.specs.Leads.{Goes}
use Rattle.value_laws.proofs.ValueLaws.{symbol_law, int_means}
use Rattle.file_laws.proofs.FileLaws.{get_law, put_law, put_spares, free_of, spare_of}
use Rattle.step_laws.specs.Laws.{Stands}
use Rattle.step_laws.proofs.Steps.{one, none, then_is, fetch_law, next_place, moves_on}
use Rattle.step_laws.proofs.Targets.{label_agrees as agrees_at, first_stands, target_law}
use Rattle.step_laws.proofs.PlainSteps.{plain_len, plain_spelt}

module _ (w : World) (ok : Fits w) (s : State) (t : FlatState) (r : Related w s t) (f i : ℕ) where
  -- the place alone changes
  pub goes_to : (v : Val) (a : ℕ) (m : Machine) (at : ℕ) → CodeAt w at m → t.pc ≡ at → performed t m (action_of m) ≡ flat.at t t.file a
      → PlacesAgree w s.live s.next v a → Goes w t (asm.Went (record s { place = v }))
  goes_to v a m at c e ha p =
      one w s t r _ (record t { pc = a }) (then_is w t (fetch_law w t at m c r.same e) ha) (record {
        laid = r.laid;
        frame = r.frame;
        pointer = r.pointer;
        files = r.files;
        cells = r.cells;
        same = r.same;
        place = p;
      })

  label_agrees : (label a : ℕ) → f < length w.program.routines → has_label (code_of w.program f) label ≡ true
      → a ≡ wrapped (label_address w.image (w.function_at f) (code_of w.program f) label)
      → PlacesAgree w s.live s.next (at_label w.program f label) a
  label_agrees label a known h e = agrees_at w ok s.live s.next f label a known h e

  -- where the displacement of a word leads
  near_leads : (a x pc : ℕ) (made : ℤ → Machine) → Spelt w a (near x made) → pc ≡ a
      → wrapped (pc + cast_unsigned w32 (displacement_in 16 (loaded_word w.image a))) ≡ wrapped x
  near_leads a x pc made sp e =
      ap (λ z. address_plus z (displacement_in 16 (loaded_word w.image a))) e
      ∙ eqb-true (address_plus a (displacement_in 16 (loaded_word w.image a))) (wrapped x) sp.agreed

  far_leads : (a x pc : ℕ) (made : ℤ → Machine) → Spelt w a (far x made) → pc ≡ a
      → wrapped (pc + cast_unsigned w32 (displacement_in 26 (loaded_word w.image a))) ≡ wrapped x
  far_leads a x pc made sp e =
      ap (λ z. address_plus z (displacement_in 26 (loaded_word w.image a))) e
      ∙ eqb-true (address_plus a (displacement_in 26 (loaded_word w.image a))) (wrapped x) sp.agreed

  -- a symbol as a target
  symbol_place : (key x : ℕ) → key < length w.program.kinds → x ≡ wrapped (w.address key)
      → Means w s.live s.next (symbol_value w.program.kinds key (pos 0) 0) x
  symbol_place key x h e = let q : x ≡ wrapped (wrapped (w.address key + 0) + 0) = omega arith in
      symbol_law w ok s.live s.next r.laid key (pos 0) 0 x h q

  here : ℕ
  here = place_at w f i

  linked_files : (x : Instr) → Stands w t f i x → instr_length x (loaded_word w.image (place_at w f i)) ≡ 1
      → place_at w f i + 4 ≤ 0xfffffff0 → Means w s.live s.next (Code f (suc i)) (following t)
  linked_files x h l b = let hh = h.here in (next_place w s.live s.next f i x 1 h.known h.is h.facts l (following t) (omega arith)).means

  bs_step : (name : List ℕ) → Stands w t f i (instrs.Plain (plains.Jump (jumps.Bs name)))
      → Goes w t (act w.program f i s (key_at w.program f i) (instrs.Plain (plains.Jump (jumps.Bs name))))
  bs_step name h = at (is_target w.program (symbol_value w.program.kinds key (pos 0) 0)) refl
    where
      key : ℕ
      key = key_at w.program f i

      at : (b : Bool) → is_target w.program (symbol_value w.program.kinds (key_at w.program f i) (pos 0) 0) ≡ b
          → Goes w t (if b then asm.Went
          (record s { place = symbol_value w.program.kinds (key_at w.program f i) (pos 0) 0 }) else asm.Undefined whys.Target)
      at false e = tt
      at true e =
          let sp = plain_spelt w (place_at w f i) (target_in w f i (instrs.Plain (plains.Jump (jumps.Bs name))))
          (plains.Jump (jumps.Bs name)) (loaded_word w.image (place_at w f i)) h.facts.spelt in
          goes_to (symbol_value w.program.kinds (key_at w.program f i) (pos 0) 0)
          (target t (displacement_in 26 (loaded_word w.image (place_at w f i)))) _ _ sp.code h.here refl
          (record {
            target = e;
            means = symbol_place (key_at w.program f i)
                (target t (displacement_in 26 (loaded_word w.image (place_at w f i)))) (h.facts.names _ refl)
                (far_leads (place_at w f i) (w.address (key_at w.program f i)) t.pc machine.B sp h.here);
          })

  bl_step : (name : List ℕ) → Stands w t f i (instrs.Plain (plains.Jump (jumps.Bl name)))
      → Goes w t (act w.program f i s (key_at w.program f i) (instrs.Plain (plains.Jump (jumps.Bl name))))
  bl_step name h = at (is_target w.program (symbol_value w.program.kinds (key_at w.program f i) (pos 0) 0)) refl
    where
      at : (b : Bool) → is_target w.program (symbol_value w.program.kinds (key_at w.program f i) (pos 0) 0) ≡ b
          → Goes w t (if b then asm.Went
          (record (linked s f i) {
            place = symbol_value w.program.kinds (key_at w.program f i)
                (pos 0) 0;
          }) else asm.Undefined whys.Target)
      at false e = tt
      at true e =
          let sp = plain_spelt w (place_at w f i) (target_in w f i (instrs.Plain (plains.Jump (jumps.Bl name))))
          (plains.Jump (jumps.Bl name)) (loaded_word w.image (place_at w f i)) h.facts.spelt in
          let b = sp.code.below in
          let back = linked_files (instrs.Plain (plains.Jump (jumps.Bl name))) h
          (plain_len (plains.Jump (jumps.Bl name)) (loaded_word w.image (place_at w f i))) b in
          one w s t r _ (record {
            file = put t.file Lr (following t);
            pc = target t (displacement_in 26 (loaded_word w.image (place_at w f i)));
            mem = t.mem;
          })
          (fetch_law w t _ _ sp.code r.same h.here) (record {
            laid = r.laid;
            frame = r.frame;
            pointer = r.pointer;
            files = put_law w s.live s.next s.file t.file r.files Lr _ _ tt back;
            cells = r.cells;
            same = r.same;
            place = record {
              target = e;
              means = symbol_place (key_at w.program f i)
                  (target t (displacement_in 26 (loaded_word w.image (place_at w f i)))) (h.facts.names _ refl)
                  (far_leads (place_at w f i) (w.address (key_at w.program f i)) t.pc machine.Bl sp h.here);
            };
          })

  bdnz_step : (label : ℕ) → Stands w t f i (instrs.Plain (plains.Jump (jumps.Bdnz label)))
      → Goes w t (act w.program f i s (key_at w.program f i) (instrs.Plain (plains.Jump (jumps.Bdnz label))))
  bdnz_step label h = at s.file.ctr r.files.ctr
    where
      at : (v : Val) → Means w s.live s.next v t.file.ctr → Goes w t (counts w.program f i s label v)
      at (Int n) m = test (flat.counted n == 0) refl
        where
          test : (q : Bool) → (flat.counted n == 0) ≡ q
              → Goes w t (asm.Went (record s {
                file = put s.file Ctr (Int (leaps.counted n));
                place = if q then Code f (suc i) else at_label w.program f label;
              }))
          test q e =
              let sp = plain_spelt w (place_at w f i) (target_in w f i (instrs.Plain (plains.Jump (jumps.Bdnz label))))
              (plains.Jump (jumps.Bdnz label)) (loaded_word w.image (place_at w f i)) h.facts.spelt in
              let b = sp.code.below in
              let d = displacement_in 16 (loaded_word w.image (place_at w f i)) in
              let e1 : (flat.counted t.file.ctr == 0) ≡ q = ap (λ z. flat.counted z == 0) m.shows ∙ e in
              let hh = h.here in
              one w s t r _ (record {
                file = put t.file Ctr (flat.counted t.file.ctr);
                pc = if q then following t else target t d;
                mem = t.mem;
              })
              (then_is w t (fetch_law w t _ _ sp.code r.same h.here) (ap
              (λ z. Went (record {
                file = put t.file Ctr (flat.counted t.file.ctr);
                pc = if z then following t else target t d;
                mem = t.mem;
              })) e1)) (record {
                laid = r.laid;
                frame = r.frame;
                pointer = r.pointer;
                files = put_law w s.live s.next s.file t.file r.files Ctr _ _ tt (int_means w s.live s.next _ _ (ap flat.counted m.shows));
                cells = r.cells;
                same = r.same;
                place = by q (next_place w s.live s.next f i (instrs.Plain (plains.Jump (jumps.Bdnz label))) 1 h.known h.is h.facts
                    (plain_len (plains.Jump (jumps.Bdnz label)) (loaded_word w.image (place_at w f i))) (following t) (omega arith))
                    (label_agrees label _ h.known (first_stands (has_label (code_of w.program f)) label [] h.facts.shaped.labels)
                    (near_leads (place_at w f i) _ t.pc (machine.Bc 16 0) sp h.here));
              })
            where
              by : (q : Bool) → PlacesAgree w s.live s.next (Code f (suc i)) (following t)
                  → PlacesAgree w s.live s.next (at_label w.program f label)
                  (target t (displacement_in 16 (loaded_word w.image (place_at w f i))))
                  → PlacesAgree w s.live s.next (if q then Code f (suc i) else at_label w.program f label)
                  (if q then following t else target t (displacement_in 16 (loaded_word w.image (place_at w f i))))
              by true a b = a
              by false a b = b
      at Undef m = tt
      at (Ptr _ _) m = tt
      at (Code _ _) m = tt
      at (Ext _ _) m = tt
      at Stop m = tt
      at (Ha _ _ _) m = tt

  bctrl_step : Stands w t f i (instrs.Plain (plains.Jump jumps.Bctrl))
      → Goes w t (act w.program f i s (key_at w.program f i) (instrs.Plain (plains.Jump jumps.Bctrl)))
  bctrl_step h = at (is_target w.program s.file.ctr) refl
    where
      at : (b : Bool) → is_target w.program s.file.ctr ≡ b
          → Goes w t (if b then asm.Went (record (linked s f i) { place = s.file.ctr }) else asm.Undefined whys.Target)
      at false e = tt
      at true e =
          let sp = plain_spelt w (place_at w f i) (target_in w f i (instrs.Plain (plains.Jump jumps.Bctrl))) (plains.Jump jumps.Bctrl)
          (loaded_word w.image (place_at w f i)) h.facts.spelt in
          let b = sp.code.below in
          let back = linked_files (instrs.Plain (plains.Jump jumps.Bctrl)) h
          (plain_len (plains.Jump jumps.Bctrl) (loaded_word w.image (place_at w f i))) b in
          one w s t r _ (record { file = put t.file Lr (following t); pc = aligned t.file.ctr; mem = t.mem })
          (fetch_law w t _ _ sp.code r.same h.here) (record {
            laid = r.laid;
            frame = r.frame;
            pointer = r.pointer;
            files = put_law w s.live s.next s.file t.file r.files Lr _ _ tt back;
            cells = r.cells;
            same = r.same;
            place = target_law w ok s.live s.next s.file.ctr t.file.ctr e r.files.ctr;
          })

  pub jump_step : (j : Jump) → Stands w t f i (instrs.Plain (plains.Jump j))
      → Goes w t (act w.program f i s (key_at w.program f i) (instrs.Plain (plains.Jump j)))
  jump_step (jumps.B label) h =
      let sp = plain_spelt w (place_at w f i) _ (plains.Jump (jumps.B label)) _ h.facts.spelt in
      goes_to _ (target t (displacement_in 26 (loaded_word w.image (place_at w f i)))) _ _ sp.code h.here refl
      (label_agrees label _ h.known (first_stands (has_label (code_of w.program f)) label [] h.facts.shaped.labels)
      (far_leads (place_at w f i) _ t.pc machine.B sp h.here))
  jump_step (jumps.Bs name) h = bs_step name h
  jump_step (jumps.Bl name) h = bl_step name h
  jump_step (jumps.Bdnz label) h = bdnz_step label h
  jump_step jumps.Blr h = at (is_target w.program s.file.lr) refl
    where
      at : (b : Bool) → is_target w.program s.file.lr ≡ b
          → Goes w t (if b then asm.Went (record s { place = s.file.lr }) else asm.Undefined whys.Target)
      at false e = tt
      at true e =
          let sp = plain_spelt w (place_at w f i) (target_in w f i (instrs.Plain (plains.Jump jumps.Blr))) (plains.Jump jumps.Blr)
          (loaded_word w.image (place_at w f i)) h.facts.spelt in
          goes_to s.file.lr (aligned t.file.lr) _ _ sp.code h.here refl (target_law w ok s.live s.next s.file.lr t.file.lr e r.files.lr)
  jump_step jumps.Bctr h = at (is_target w.program s.file.ctr) refl
    where
      at : (b : Bool) → is_target w.program s.file.ctr ≡ b
          → Goes w t (if b then asm.Went (record s { place = s.file.ctr }) else asm.Undefined whys.Target)
      at false e = tt
      at true e =
          let sp = plain_spelt w (place_at w f i) (target_in w f i (instrs.Plain (plains.Jump jumps.Bctr))) (plains.Jump jumps.Bctr)
          (loaded_word w.image (place_at w f i)) h.facts.spelt in
          goes_to s.file.ctr (aligned t.file.ctr) _ _ sp.code h.here refl
          (target_law w ok s.live s.next s.file.ctr t.file.ctr e r.files.ctr)
  jump_step jumps.Bctrl h = bctrl_step h
  jump_step jumps.Trap h = tt

  -- ---- marks

  pub mark_step : (x : Instr) → Stands w t f i x → instr_length x (loaded_word w.image (place_at w f i)) ≡ 0
      → Goes w t (asm.Went (gone s f i s.file))
  mark_step x h l =
      let hh = h.here in
      none w s t r _ (record {
        laid = r.laid;
        frame = r.frame;
        pointer = r.pointer;
        files = r.files;
        cells = r.cells;
        same = r.same;
        place = next_place w s.live s.next f i x 0 h.known h.is h.facts l t.pc (omega arith);
      })

  -- ---- branches on a bit

  -- near, with BO `bo`, whose test of the bit is q; or far, over a jump
  branch_at : (x : Instr) (bo over bit label n : ℕ) (q : Bool) → Stands w t f i x → has_label (code_of w.program f) label ≡ true
      → (b : Bool) → is_bc over (loaded_word w.image (place_at w f i)) ≡ b
      → instr_length x (loaded_word w.image (place_at w f i)) ≡ (if b then 2 else 1)
      → branch_file bo t.file ≡ t.file → branch_file over t.file ≡ t.file
      → ((d : ℤ) (u : FlatState) → u.file ≡ t.file → branch_place u bo bit d ≡ (if q then target u d else following u))
      → ((d : ℤ) (u : FlatState) → u.file ≡ t.file → branch_place u over bit d ≡ (if q then following u else target u d))
      → Spelts w (place_at w f i) (if b then closed (machine.Bc over bit (pos 8)) ∷ far
      (label_address w.image (w.function_at f) (code_of w.program f) label) machine.B ∷ [] else near
      (label_address w.image (w.function_at f) (code_of w.program f) label) (machine.Bc bo bit) ∷ [])
      → Goes w t (asm.Went (record s { place = if q then at_label w.program f label else Code f (suc i) }))
  branch_at x bo over bit label n true h lab false e l f1 f2 near far sp =
      goes_to _ (target t (displacement_in 16 (loaded_word w.image (place_at w f i)))) _ _ sp.0.code h.here
      (ap₂ (λ a b. flat.at t a b) f1 (near (displacement_in 16 (loaded_word w.image (place_at w f i))) t refl))
      (label_agrees label _ h.known lab (near_leads (place_at w f i) _ t.pc (machine.Bc bo bit) sp.0 h.here))
  branch_at x bo over bit label n false h lab false e l f1 f2 near far sp =
      let b = sp.0.code.below in let hh = h.here in
      goes_to _ (following t) _ _ sp.0.code h.here (ap₂ (λ a b. flat.at t a b) f1
      (near (displacement_in 16 (loaded_word w.image (place_at w f i))) t refl))
      (next_place w s.live s.next f i x 1 h.known h.is h.facts l (following t) (omega arith))
  branch_at x bo over bit label n false h lab true e l f1 f2 near far sp =
      let b = sp.0.code.below in let b2 = sp.1.0.code.below in let hh = h.here in
      goes_to _ (target t (pos 8)) _ _ sp.0.code h.here (ap₂ (λ a b. flat.at t a b) f2 (far (pos 8) t refl))
      (next_place w s.live s.next f i x 2 h.known h.is h.facts l (target t (pos 8)) (omega arith))
  branch_at x bo over bit label n true h lab true e l f1 f2 near far sp = λ fits.
      let b = sp.0.code.below in let b2 = sp.1.0.code.below in let hh = h.here in
      let p4 : following t ≡ place_at w f i + 4 = omega arith in
      let t1 : FlatState = record t { pc = following t } in
      let t2 : FlatState = record t { pc = target t1 (displacement_in 26 (loaded_word w.image (place_at w f i + 4))) } in
      let e1 = then_is w t (fetch_law w t _ _ sp.0.code r.same h.here) (ap₂ (λ a b. flat.at t a b) f2 (far (pos 8) t refl)) in
      let e2 = fetch_law w t1 _ _ sp.1.0.code r.same p4 in (
        2,
        omega arith,
        (
          t2,
          (t1, e1, (t2, e2, refl)),
          record {
            laid = r.laid;
            frame = r.frame;
            pointer = r.pointer;
            files = r.files;
            cells = r.cells;
            same = r.same;
            place = label_agrees label _ h.known lab (far_leads (place_at w f i + 4) _ (following t) machine.B sp.1.0 p4);
          },
        ),
      )

  -- what one word and a half have of BO
  pub bt_step : (bit label : ℕ) → Stands w t f i (instrs.Bt bit label)
      → Goes w t (branched w.program f i s label true (get Undef s.file (Bit bit)))
  unfolding forms instr_length
  bt_step bit label h = at (get Undef s.file (Bit bit)) (get_law w s.live s.next s.file t.file r.files (Bit bit))
    where
      at : (v : Val) → Means w s.live s.next v (get 0 t.file (Bit bit)) → Goes w t (branched w.program f i s label true v)
      at (Int n) m =
          let e : (get 0 t.file (Bit bit) == 1) ≡ (n == 1) = ap (λ z. z == 1) m.shows in
          branch_at (instrs.Bt bit label) 12 4 bit label n (n == 1) h
          (first_stands (has_label (code_of w.program f)) label [] h.facts.shaped.labels)
          (is_bc 4 (loaded_word w.image (place_at w f i))) refl refl refl refl
          (λ d u q. ap (λ g. if get 0 g (Bit bit) == 1 then target u d else following u) q
          ∙ ap (λ b. if b then target u d else following u) e)
          (λ d u q. ap (λ g. if not (get 0 g (Bit bit) == 1) then target u d else following u) q
          ∙ ap (λ b. if not b then target u d else following u) e ∙ turn (n == 1) (target u d) (following u))
          h.facts.spelt
        where
          turn : (b : Bool) (x y : ℕ) → (if not b then x else y) ≡ (if b then y else x)
          turn true x y = refl
          turn false x y = refl
      at Undef m = tt
      at (Ptr _ _) m = tt
      at (Code _ _) m = tt
      at (Ext _ _) m = tt
      at Stop m = tt
      at (Ha _ _ _) m = tt

  pub bf_step : (bit label : ℕ) → Stands w t f i (instrs.Bf bit label)
      → Goes w t (branched w.program f i s label false (get Undef s.file (Bit bit)))
  unfolding forms instr_length
  bf_step bit label h = at (get Undef s.file (Bit bit)) (get_law w s.live s.next s.file t.file r.files (Bit bit))
    where
      at : (v : Val) → Means w s.live s.next v (get 0 t.file (Bit bit)) → Goes w t (branched w.program f i s label false v)
      at (Int n) m =
          let e : (get 0 t.file (Bit bit) == 1) ≡ (n == 1) = ap (λ z. z == 1) m.shows in
          branch_at (instrs.Bf bit label) 4 12 bit label n (not (n == 1)) h
          (first_stands (has_label (code_of w.program f)) label [] h.facts.shaped.labels)
          (is_bc 12 (loaded_word w.image (place_at w f i))) refl refl refl refl
          (λ d u q. ap (λ g. if not (get 0 g (Bit bit) == 1) then target u d else following u) q
          ∙ ap (λ b. if not b then target u d else following u) e)
          (λ d u q. ap (λ g. if get 0 g (Bit bit) == 1 then target u d else following u) q
          ∙ ap (λ b. if b then target u d else following u) e ∙ turn (n == 1) (target u d) (following u))
          h.facts.spelt
        where
          turn : (b : Bool) (x y : ℕ) → (if b then x else y) ≡ (if not b then y else x)
          turn true x y = refl
          turn false x y = refl
      at Undef m = tt
      at (Ptr _ _) m = tt
      at (Code _ _) m = tt
      at (Ext _ _) m = tt
      at Stop m = tt
      at (Ha _ _ _) m = tt
