-- Every step of the assembly is followed.
use Rattle.std.proofs.Common.{◌≡◌, ℕ, List, [], Option, Some, None, refl, sym, ap, ◌∙◌, subst}
use Rattle.std.specs.Prelude.{slice_get, option_and_then}
use Rattle.std.specs.Option.{option_map_or}
use Rattle.asm_syntax.specs.declared.unit.Sig.{Sig}
use Rattle.asm_syntax.specs.declared.unit.Reply.{Reply}
use Rattle.asm_syntax.specs.declared.instr.Instr.{Instr}
use Rattle.asm_syntax.specs.declared.instr.Instr.TheVariants as instrs
use Rattle.asm_mem.specs.declared.value.Val.{Val}
use Rattle.asm_mem.specs.declared.value.Val.TheVariants.{Undef, Int, Ptr, Code, Ext, Stop, Ha}
use Rattle.asm_step.specs.LinkedCode.{Linked, Routine, instruction, key_at, sig_of}
use Rattle.asm_step.specs.State.{State, Next, Went, Called, Ended, Starved, Undefined}
use Rattle.asm_step.specs.Calls.{called}
use Rattle.asm_step.specs.Steps.{act, at_code, at_place, asm_step}
use Rattle.ppc_machine.specs.State.{FlatState}
use Rattle.machine_model.specs.Worlds.{World, code_of}
use Rattle.machine_model.specs.Fits.{Fits}
use Rattle.machine_model.specs.Relation.{Means, Related}
use Rattle.machine_model.specs.Leads.{Goes, Leads}
use Rattle.step_laws.specs.Laws.{IsFollowed}
use Rattle.step_laws.proofs.Instructions.{each_followed}
use Rattle.frame_laws.proofs.FrameSteps.{frames_followed}
use Rattle.call_laws.proofs.CallSteps.{call_step, stop_step}
use Rattle.run_laws.specs.Laws.{EachStepLeads}

-- an instruction by the code of its function
instruction_is : (p : Linked) (f i : ℕ) → instruction p f i ≡ slice_get (code_of p f) i
instruction_is p f i = at (slice_get p.routines f) i
  where
    at : (o : Option Routine) (i : ℕ) → option_and_then (λ r. slice_get r.code i) o ≡ slice_get (option_map_or (λ r. r.code) o []) i
    at None i = refl
    at (Some r) i = refl

act_law : (w : World) → Fits w → (x : Instr) → IsFollowed w x
act_law w ok (instrs.AllocFrame n) s t r f i h = frames_followed w ok (instrs.AllocFrame n) tt s t r f i h
act_law w ok (instrs.FreeFrame n) s t r f i h = frames_followed w ok (instrs.FreeFrame n) tt s t r f i h
act_law w ok (instrs.Plain x) s t r f i h = each_followed w ok (instrs.Plain x) (λ n. n) s t r f i h
act_law w ok (instrs.Imm d n) s t r f i h = each_followed w ok (instrs.Imm d n) (λ n. n) s t r f i h
act_law w ok (instrs.Bt b n) s t r f i h = each_followed w ok (instrs.Bt b n) (λ n. n) s t r f i h
act_law w ok (instrs.Bf b n) s t r f i h = each_followed w ok (instrs.Bf b n) (λ n. n) s t r f i h
act_law w ok (instrs.Btbl b n) s t r f i h = each_followed w ok (instrs.Btbl b n) (λ n. n) s t r f i h
act_law w ok (instrs.MfcrBit b n) s t r f i h = each_followed w ok (instrs.MfcrBit b n) (λ n. n) s t r f i h
act_law w ok (instrs.Label n) s t r f i h = each_followed w ok (instrs.Label n) (λ n. n) s t r f i h
act_law w ok instrs.Cfi s t r f i h = each_followed w ok instrs.Cfi (λ n. n) s t r f i h
act_law w ok instrs.Annot s t r f i h = each_followed w ok instrs.Annot (λ n. n) s t r f i h

goes_leads : (w : World) (s : State) (t : FlatState) (p : Option Reply) (x : Next) → Goes w t x → Leads w s t p x
goes_leads w s t p (Went s') g = g
goes_leads w s t p (Undefined why) g = tt
goes_leads w s t p (Called c s') g = absurd g
goes_leads w s t p (Ended r) g = absurd g
goes_leads w s t p Starved g = absurd g

pub step_law : EachStepLeads
unfolding asm_step
step_law w ok s t p r = at s.place refl
  where
    code : (f i : ℕ) → s.place ≡ Code f i → (o : Option Instr) → instruction w.program f i ≡ o → Leads w s t p (at_code w.program f i s o)
    code f i e None h = tt
    code f i e (Some x) h =
        let m : Means w s.live s.next (Code f i) t.pc = subst (λ v. Means w s.live s.next v t.pc) e r.place.means in
        let is : slice_get (code_of w.program f) i ≡ Some x = sym (instruction_is w.program f i) ∙ h in
        goes_leads w s t p _ (act_law w ok x s t r f i (record {
          known = m.named.0;
          here = m.shows;
          is = is;
          facts = ok.instructions f i x m.named.0 is;
        }))

    outer : (k o : ℕ) → s.place ≡ Ext k o → (sig : Option Sig) → sig_of w.program k ≡ sig → Leads w s t p (called w.program k s p sig)
    outer k o e None h = tt
    outer k o e (Some sig) h = call_step w ok s t r k o sig e h p

    at : (v : Val) → s.place ≡ v → Leads w s t p (at_place w.program s p v)
    at (Code f i) e = code f i e (instruction w.program f i) refl
    at (Ext k o) e = outer k o e (sig_of w.program k) refl
    at Stop e = stop_step w s t r e p
    at Undef e = tt
    at (Int n) e = tt
    at (Ptr b o) e = tt
    at (Ha k o n) e = tt
