-- What every step law rests on: places, the fetch, and a step to the next instruction.
use Rattle.std.proofs.Common.{◌≡◌, ℕ, zero, suc, ◌+◌, ◌*◌, ◌%◌, ◌<◌, ◌≤◌, Bool, true, false, ◌&&◌, List, [], ◌∷◌, length, Option, Some}
use Rattle.std.proofs.Common.{None, refl, sym, ap, ap₂, ◌∙◌, subst, arith, if◌then◌else◌}
use Rattle.std.specs.Prelude.{slice_get, ◌==◌, find, is_some, not, Result, Ok, Err}
use Rattle.std.proofs.lemmas.Bool.{eq-eqb, ne_eqb, and_from}
use Rattle.std.proofs.lemmas.Option.{slice_get_within}
use Rattle.isa_model.specs.Word.{wrapped}
use Rattle.image_model.specs.Image.{Segment}
use Rattle.image_model.specs.Loaded.{is_executable}
use Rattle.std.specs.Option.{option_map_or}
use Rattle.effect_model.specs.declared.Place.TheVariants.{Gpr}
use Rattle.effect_model.specs.Files.{File, get}
use Rattle.asm_syntax.specs.declared.instr.Plain.{Plain}
use Rattle.asm_syntax.specs.declared.instr.Instr.{Instr}
use Rattle.asm_syntax.specs.declared.instr.Instr.TheVariants as instrs
use Rattle.ppc_decode.specs.declared.machine.Machine.{Machine}
use Rattle.ppc_decode.specs.Decoding.{decoded}
use Rattle.flat_mem.specs.declared.memory.FaultKind.{FaultKind}
use Rattle.flat_mem.specs.declared.memory.FaultKind.TheVariants.{Unmapped, NotCode}
use Rattle.flat_mem.specs.Memory.{byte_of, flags_in, is_mapped, may_run, each_from}
use Rattle.flat_mem.specs.Access.{fetched, word_of}
use Rattle.ppc_machine.specs.Actions.{action_of}
use Rattle.ppc_machine.specs.State.{FlatState, FlatNext, Went, Ended, Faulted}
use Rattle.ppc_machine.specs.Steps.{flat_step, at_external, fetched_as, decoded_as, performed, on}
use Rattle.asm_mem.specs.declared.value.Val.{Val}
use Rattle.asm_mem.specs.declared.value.Val.TheVariants.{Undef, Code}
use Rattle.asm_mem.specs.Blocks.{Live}
use Rattle.asm_step.specs.State as asm
use Rattle.asm_step.specs.State.{State, gone}
use Rattle.code_model.specs.Forms.{instr_length}
use Rattle.code_model.specs.Addresses.{loaded_word, address_after}
use Rattle.machine_model.specs.Worlds.{World, code_of, place_at}
use Rattle.machine_model.specs.Fits.{Fits, CodeAt, InstrIs}
use Rattle.machine_model.specs.Relation.{FilesAgree, Same, PlacesAgree, Means, Related}
use Rattle.machine_model.specs.Leads.{Does, Goes}
use Rattle.memory_laws.proofs.SegmentLaws.{each_law, word_law, same_run, same_mapped}
use Rattle.step_laws.specs.Laws.{Stands}

mapped_of : (o : Option ℕ) → option_map_or is_executable o false ≡ true → is_some o ≡ true
mapped_of None h = cc
mapped_of (Some s) h = refl

module _ (w : World) where
  pub then_is : (t : FlatState) {x y : FlatNext} → Does w t x → x ≡ y → Does w t y
  then_is t d e r = d r ∙ e

  -- the code that is loaded is the code that runs
  pub fetch_law : (t : FlatState) (a : ℕ) (m : Machine) → CodeAt w a m → Same w t.mem → t.pc ≡ a → Does w t (performed t m (action_of m))
  unfolding flat_step
  fetch_law t a m c s e r =
      let b = c.below in
      let runs : (i : ℕ) → i < 4 → may_run t.mem (a + i) ≡ true = λ i h. same_run w t.mem s (a + i) ∙ c.runs i h in
      let x1 = each_law (may_run t.mem) 4 a b runs in
      let x0 = each_law (is_mapped t.mem) 4 a b (λ i h. mapped_of (flags_in t.mem (a + i)) (runs i h)) in
      let word = word_law t.mem w.memory a b (λ i h. s.bytes (a + i) (c.apart i h)) in
      let fetch : fetched t.mem a ≡ Ok (word_of w.memory a) =
      ap (λ q. if not q then Err Unmapped else if not (each_from (may_run t.mem) 4 a) then Err NotCode else if not
      (a % 4 == 0) then Err NotCode else Ok (word_of t.mem a)) x0
      ∙ ap (λ q. if not q then Err NotCode else if not (a % 4 == 0) then Err NotCode else Ok (word_of t.mem a)) x1
      ∙ ap (λ q. if not q then Err NotCode else Ok (word_of t.mem a)) (eq-eqb (a % 4) 0 c.multiple)
      ∙ ap Ok word in
      ap (λ z. if z == w.layout.stop then Ended (get 0 t.file (Gpr 3)) else at_external t r (w.outside z)) e
      ∙ ap (λ q. if q then Ended (get 0 t.file (Gpr 3)) else at_external t r (w.outside a)) (ne_eqb a w.layout.stop c.not_stop)
      ∙ ap (at_external t r) c.not_called
      ∙ ap (λ z. fetched_as t (fetched t.mem z)) e
      ∙ ap (fetched_as t) fetch
      ∙ ap (decoded_as t) c.is

  -- the place address_after an instruction of n words
  pub next_place : (live : List Live) (next f i : ℕ) (x : Instr) (n : ℕ) → f < length w.program.routines
      → slice_get (code_of w.program f) i ≡ Some x → InstrIs w f i x → instr_length x (loaded_word w.image (place_at w f i)) ≡ n → (a : ℕ)
      → a ≡ place_at w f i + 4 * n → PlacesAgree w live next (Code f (suc i)) a
  unfolding address_after
  next_place live next f i x n known is facts l a e =
      let lt = slice_get_within (code_of w.program f) i x is in
      record {
        target = refl;
        means = record {
          named = (known, omega arith);
          shows = e ∙ ap (λ z. place_at w f i + 4 * z) (sym l)
              ∙ sym facts.next;
        };
      }

  module _ (s : State) (t : FlatState) (r : Related w s t) where
    -- one step of the flat machine
    pub one : (s' : State) (t' : FlatState) → Does w t (Went t') → Related w s' t' → Goes w t (asm.Went s')
    one s' t' e h fits = (1, omega arith, (t', (t', e, refl), h))

    pub none : (s' : State) → Related w s' t → Goes w t (asm.Went s')
    none s' h fits = (0, omega arith, (t, refl, h))

    -- registers change, and the place is the next one
    pub moves_on : (f i : ℕ) (x : Instr) (m : Machine) (file : File Val) (g : File ℕ) → Stands w t f i x → CodeAt w (place_at w f i) m
        → instr_length x (loaded_word w.image (place_at w f i)) ≡ 1 → performed t m (action_of m) ≡ on t g t.mem
        → FilesAgree w s.live s.next file g → get Undef file (Gpr 1) ≡ get Undef s.file (Gpr 1) → Goes w t (asm.Went (gone s f i file))
    moves_on f i x m file g h hm hl ha hf p =
        let b = hm.below in
        let hh = h.here in
        one _ (record { file = g; pc = wrapped (t.pc + 4); mem = t.mem }) (then_is t (fetch_law t _ m hm r.same h.here) ha) (record {
          laid = r.laid;
          frame = r.frame;
          pointer = p ∙ r.pointer;
          files = hf;
          cells = r.cells;
          same = r.same;
          place = next_place s.live s.next f i x 1 h.known h.is h.facts hl (wrapped (t.pc + 4)) (omega arith);
        })
