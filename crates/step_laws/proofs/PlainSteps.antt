-- The step laws of plain instructions that are no jumps.
use Rattle.std.proofs.Common.{◌≡◌, ℕ, zero, suc, ◌+◌, ◌*◌, ◌<◌, Bool, true, false, List, [], ◌∷◌, length, Option, Some, None, refl, sym}
use Rattle.std.proofs.Common.{ap, ap₂, ◌∙◌, subst, arith, if◌then◌else◌}
use Rattle.isa_model.specs.Word.{wrapped}
use Rattle.effect_model.specs.declared.Place.{Place}
use Rattle.effect_model.specs.declared.Place.TheVariants.{Gpr, Unused}
use Rattle.effect_model.specs.declared.Operand.{Operand}
use Rattle.effect_model.specs.declared.Effect.{Effect}
use Rattle.effect_model.specs.declared.Form.{Form}
use Rattle.effect_model.specs.declared.Action.{Action}
use Rattle.effect_model.specs.declared.Action.TheVariants as does
use Rattle.effect_model.specs.Forms.{width}
use Rattle.effect_model.specs.Meaning.{stops}
use Rattle.effect_model.specs.Files.{File, get, put, word_read, flat_stops, flat_effect}
use Rattle.flat_mem.specs.declared.memory.FaultKind.TheVariants as faults
use Rattle.flat_mem.specs.Access.{loaded, stored}
use Rattle.asm_syntax.specs.declared.instr.Plain.{Plain}
use Rattle.asm_syntax.specs.declared.instr.Instr.TheVariants as instrs
use Rattle.asm_syntax.specs.Instructions.{plain_symbol, instr_symbol, labels_named}
use Rattle.asm_syntax.specs.References.{Reference}
use Rattle.std.specs.Option.{option_map_or}
use Rattle.ppc_decode.specs.declared.machine.Machine.{Machine}
use Rattle.ppc_machine.specs.Actions.{action_of}
use Rattle.ppc_machine.specs.State.{FlatState, Faulted}
use Rattle.ppc_machine.specs.Steps.{performed, on, got, kept}
use Rattle.asm_mem.specs.declared.value.Val.{Val}
use Rattle.asm_mem.specs.declared.value.Val.TheVariants.{Undef, Ptr}
use Rattle.asm_mem.specs.Blocks.{Live, may_store}
use Rattle.asm_values.specs.Operands.{word_in, sum_args}
use Rattle.asm_values.specs.Files as values
use Rattle.asm_values.specs.Files.{value_read, asm_effect}
use Rattle.asm_values.specs.Accesses.{load_by, may_store_by, stored_by}
use Rattle.asm_step.specs.declared.answer.Why as why
use Rattle.asm_step.specs.declared.answer.Why.TheVariants as whys
use Rattle.asm_step.specs.LinkedCode.{key_at}
use Rattle.asm_step.specs.State as asm
use Rattle.asm_step.specs.State.{State, gone}
use Rattle.asm_step.specs.Steps as steps
use Rattle.asm_step.specs.Steps.{act}
use Rattle.code_model.specs.Forms.{plain_form, forms, instr_length}
use Rattle.code_model.specs.Spelling.{found_instruction}
use Rattle.code_model.specs.Addresses.{loaded_word, label_address}
use Rattle.code_model.specs.Code.{first_label}
use Rattle.machine_model.specs.Worlds.{World, code_of, place_at, target_in}
use Rattle.machine_model.specs.Fits.{Fits, Spelt, Spelts, CodeAt, IsShaped}
use Rattle.machine_model.specs.Relation.{Means, Related, MemoryAgrees}
use Rattle.machine_model.specs.Leads.{Goes}
use Rattle.file_laws.specs.Laws.{Alike, Works, Divides, Loads, Stores, DividesAlike, SumsAgree, Keyed, IsNoJump}
use Rattle.file_laws.proofs.FileLaws.{get_law, put_law, put_spares, free_of, spare_of}
use Rattle.file_laws.proofs.Plains.{plain_alike}
use Rattle.memory_laws.specs.Laws.{Written, LoadAgrees}
use Rattle.memory_laws.proofs.Keep.{same_homes, files_keep}
use Rattle.memory_laws.proofs.AccessLaws.{store_law, load_law}
use Rattle.step_laws.specs.Laws.{Stands, IsFollowed}
use Rattle.step_laws.proofs.Steps.{moves_on, one, then_is, fetch_law, next_place}

pub plain_len : (x : Plain) (wd : ℕ) → instr_length (instrs.Plain x) wd ≡ 1
unfolding instr_length
plain_len x wd = refl

pub plain_spelt : (w : World) (a t : ℕ) (x : Plain) (wd : ℕ) → Spelts w a (forms t (instrs.Plain x) wd) → Spelt w a (plain_form t x)
unfolding forms
plain_spelt w a t x wd h = h.0

pub memory_of : (w : World) (s : State) (t : FlatState) → Related w s t → MemoryAgrees w s.live s.next t.mem
memory_of w s t r = record { laid = r.laid; frame = r.frame; cells = r.cells; same = r.same }

module _ (w : World) (ok : Fits w) (s : State) (t : FlatState) (r : Related w s t) (f i : ℕ) where
  store_step : (x : Plain) (key : ℕ) (m : Machine) → Stands w t f i (instrs.Plain x) → CodeAt w (place_at w f i) m
      → (form : Form) (from : Place) (u v y z : Operand) → action_of m ≡ does.Store form from y z Unused → SumsAgree w s.live s.next u v y z
      → Goes w t (steps.performed w.program f i s key x (does.Store form from u v Unused))
  store_step x key m h c form from u v y z e sums =
      at (may_store_by s.live form (sum_args w.program.kinds (value_read s.file u) (value_read s.file v))) refl
    where
      at : (b : Bool) → may_store_by s.live form (sum_args w.program.kinds (value_read s.file u) (value_read s.file v)) ≡ b
          → Goes w t (if b then asm.Went
          (record (gone s f i s.file) {
            live = stored_by s.live form
                (sum_args w.program.kinds (value_read s.file u) (value_read s.file v))
                (get Undef s.file from);
          }) else asm.Undefined whys.Access)
      at false q = tt
      at true q =
          let l = store_law w ok s.live s.next t.mem (memory_of w s t r) form _ (get Undef s.file from) _ (get 0 t.file from)
          (sums s.file t.file r.files) (get_law w s.live s.next s.file t.file r.files from) q in
          let live = stored_by s.live form (sum_args w.program.kinds (value_read s.file u) (value_read s.file v)) (get Undef s.file from) in
          let keep = same_homes w s.live live s.next l.homes in
          let b = c.below in
          let hh = h.here in
          one w s t r _ (record { file = t.file; pc = wrapped (t.pc + 4); mem = l.mem })
          (then_is w t (fetch_law w t _ m c r.same h.here) (ap (performed t m) e ∙ ap (kept t t.file) l.is)) (record {
            laid = l.agrees.laid;
            frame = l.agrees.frame;
            cells = l.agrees.cells;
            same = l.agrees.same;
            pointer = r.pointer ∙ ap (λ n. Ptr n 0) (sym l.top_stays);
            files = files_keep w s.live s.next live s.next keep s.file t.file r.files;
            place = next_place w live s.next f i _ 1 h.known h.is h.facts (plain_len x _) (wrapped (t.pc + 4)) (omega arith);
          })

  alike_step : (x : Plain) (key : ℕ) (a b : Action) (m : Machine) → Stands w t f i (instrs.Plain x) → CodeAt w (place_at w f i) m
      → action_of m ≡ b → Alike w s.live s.next a b → Goes w t (steps.performed w.program f i s key x a)
  alike_step x key _ _ m h c e (Works es ds law) =
      moves_on w s t r f i (instrs.Plain x) m _ _ h c (plain_len x _) (ap (performed t m) e) (law.files s.file t.file r.files)
      (law.spares s.file)
  alike_step x key _ _ m h c e (Divides d law) = at (word_in (value_read s.file d.x)) (word_in (value_read s.file d.y)) refl refl
    where
      at : (p q : Option ℕ) → word_in (value_read s.file d.x) ≡ p → word_in (value_read s.file d.y) ≡ q
          → Goes w t (steps.divided f i s (values.divided w.program.kinds s.live d s.file p q))
      at (Some p) (Some q) e1 e2 = test (stops d.op p q) refl
        where
          same : flat_stops d t.file ≡ stops d.op p q
          same = law.stops_alike s.file t.file r.files p q e1 e2

          test : (b : Bool) → stops d.op p q ≡ b
              → Goes w t (steps.divided f i s (if b then None else Some (asm_effect w.program.kinds s.live d s.file)))
          test true z = tt
          test false z =
              moves_on w s t r f i (instrs.Plain x) m _ (flat_effect d t.file) h c (plain_len x _)
              (ap (performed t m) e ∙ ap (λ b. if b then Faulted faults.Divide else on t (flat_effect d t.file) t.mem) (same ∙ z))
              (law.files s.file t.file r.files) (law.spares s.file)
      at (Some p) None e1 e2 = tt
      at None q e1 e2 = tt
  alike_step x key _ _ m h c e (Loads form u v y z to sums free) =
      at (load_by s.live form (sum_args w.program.kinds (value_read s.file u) (value_read s.file v)))
      (load_law w ok s.live s.next t.mem (memory_of w s t r) form _ _ (sums s.file t.file r.files))
    where
      at : (o : Option Val) → LoadAgrees w s.live s.next o (loaded t.mem form (wrapped (word_read t.file y + word_read t.file z)))
          → Goes w t (steps.loaded f i s to o)
      at None l = tt
      at (Some v1) l =
          moves_on w s t r f i (instrs.Plain x) m _ (put t.file to l.0) h c (plain_len x _) (ap (performed t m) e ∙ ap (got t to) l.1)
          (put_law w s.live s.next s.file t.file r.files to v1 l.0 (free_of to free) l.2) (put_spares s.file to v1 (spare_of to free))
  alike_step x key _ _ m h c e (Stores form from u v y z sums) = store_step x key m h c form from u v y z e sums

  keyed : (x : Plain) → Stands w t f i (instrs.Plain x) → Keyed w x (key_at w.program f i) (target_in w f i (instrs.Plain x))
  keyed x h r q = (
    h.facts.names r q,
    ap (λ o. option_map_or (λ (r : Reference). w.address (key_at w.program f i)) o
        (first_label (label_address w.image (w.function_at f) (code_of w.program f)) (labels_named (instrs.Plain x)))) q,
  )

  -- all plain instructions but jumps
  pub plain_step : (x : Plain) → IsNoJump x → Stands w t f i (instrs.Plain x)
      → Goes w t (act w.program f i s (key_at w.program f i) (instrs.Plain x))
  plain_step x n h =
      let sp = plain_spelt w (place_at w f i) (target_in w f i (instrs.Plain x)) x _ h.facts.spelt in
      alike_step x (key_at w.program f i) _ _ _ h sp.code refl
      (plain_alike w ok s.live s.next r.laid x (key_at w.program f i) (target_in w f i (instrs.Plain x)) (place_at w f i)
      (loaded_word w.image (place_at w f i)) n h.facts.shaped.free h.facts.shaped.range sp.agreed (keyed x h))
