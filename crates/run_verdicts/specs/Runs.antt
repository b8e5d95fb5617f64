-- The verdict on a run.
use Rattle.std.specs.Prelude.{◌≡◌, ℕ, ◌+◌, ◌*◌, Bool, true, false, List, replicate, Some, None, Result, Ok, Err, ⊤}
use Rattle.limits.specs.declared.TheConstants.{IMAGE_STEPS_A_STEP}
use Rattle.ordered_tests.specs.Checks.{first_fault}
use Rattle.asm_syntax.specs.declared.unit.Reply.{Reply}
use Rattle.asm_syntax.specs.declared.unit.Unit.{Unit}
use Rattle.link_model.specs.Binding.{addresses}
use Rattle.link_model.specs.Candidates.{Inputs}
use Rattle.link_model.specs.Parts.{Matches}
use Rattle.link_model.specs.declared.fault.Fault.{Fault}
use Rattle.image_check.specs.Places.{bound_places}
use Rattle.judge_model.specs.Refused.{Refused, told}
use Rattle.judge_model.specs.declared.refusal.Refusal.{Refusal}
use Rattle.judge_model.specs.declared.refusal.Refusal.TheVariants as refusals
use Rattle.ppc_machine.specs.declared.cpu.Junk.{Junk}
use Rattle.machine_model.specs.AsmRuns.{program_run}
use Rattle.machine_model.specs.FlatRuns.{image_run}
use Rattle.machine_runs.specs.declared.trace.Trace.{Trace}
use Rattle.machine_runs.specs.Traces.{asm_trace, flat_trace, stack_size}
use Rattle.run_text.specs.Agreement.{is_same}
use Rattle.run_text.specs.Texts.{run_text}
use Rattle.report_text.specs.declared.verdict.Verdict.{Verdict}
use Rattle.report_text.specs.declared.verdict.Verdict.TheVariants.{Refused as Refuses, No, Done, Differs}
use Rattle.simulation.specs.declared.judge.JudgeError.{JudgeError}
use Rattle.simulation.specs.declared.judge.JudgeError.TheVariants as errors
use Rattle.simulation.specs.Judged.{Tells}
use Rattle.run_verdicts.specs.declared.TheConstants.{FREE_BYTE, FREE_WORD}
use Rattle.run_verdicts.specs.Files.{RunInputs, run_inputs}

-- ---- both machines

abbrev pub free_junk : Junk
free_junk = record { regs = replicate 32 FREE_WORD; cr = FREE_WORD; ctr = FREE_WORD; xer = FREE_WORD }

-- where the keys have these addresses
abbrev pub asm_trace_of : Inputs → List ℕ → List Reply → ℕ → Trace
asm_trace_of g bs replies steps = asm_trace g bs (program_run g.program replies) steps

-- of five steps for each of the assembly
abbrev pub image_trace_of : Inputs → List ℕ → List Reply → ℕ → Trace
image_trace_of g bs replies steps =
    flat_trace (image_run g bs free_junk (replicate (stack_size g.layout) FREE_BYTE) replies) (IMAGE_STEPS_A_STEP * steps)

abbrev pub agrees_on : Inputs → List ℕ → List Reply → ℕ → Bool
agrees_on g bs replies steps = is_same (asm_trace_of g bs replies steps) (image_trace_of g bs replies steps)

-- the text of two traces, by whether they agree
abbrev pub Compares : List Unit → Trace → Trace → Verdict → Type 0
Compares units asm image (Done text) = (is_same asm image ≡ true) × (text ≡ run_text units asm image)
Compares units asm image (Differs text) = (is_same asm image ≡ false) × (text ≡ run_text units asm image)
Compares units asm image _ = ⊥

abbrev pub IsRunAt : Inputs → List ℕ → List Reply → ℕ → Verdict → Type 0
IsRunAt g bs replies steps v = Compares g.program.units (asm_trace_of g bs replies steps) (image_trace_of g bs replies steps) v

-- each key has an address, and each external key is where it may be
abbrev pub IsBound : Inputs → Type 0
IsBound g = first_fault (bound_places g) ≡ None

-- the same, where the image gives the keys their addresses; where the image matches, the traces agree
pub record IsRunOf (g : Inputs) (replies : List Reply) (steps : ℕ) (v : Verdict) : Type 0 where
  pub bound : IsBound g
  pub run : IsRunAt g (addresses g) replies steps v
  pub matching : Matches g → agrees_on g (addresses g) replies steps ≡ true

-- the first place of the keys' addresses that fails; then the image does not match
abbrev pub IsUnboundAt : Inputs → Fault → Type 0
IsUnboundAt g f = (first_fault (bound_places g) ≡ Some f) × (Matches g → ⊥)

-- the same, or want of memory
abbrev pub IsFaultOf : Inputs → JudgeError → Type 0
IsFaultOf g (errors.No f) = IsUnboundAt g f
IsFaultOf g errors.Memory = ⊤
IsFaultOf g _ = ⊥

-- ---- by what is due of the files

abbrev pub IsRunAfter : Result RunInputs Refused → ℕ → Verdict → Type 0
IsRunAfter due steps v = (r : RunInputs) × (due ≡ Ok r) × IsRunOf r.inputs r.replies steps v

abbrev pub IsStopAfter : Result RunInputs Refused → JudgeError → Type 0
IsStopAfter due (errors.Refused r) = Tells (told r) due
IsStopAfter due (errors.No f) = (r : RunInputs) × (due ≡ Ok r) × IsUnboundAt r.inputs f
IsStopAfter due errors.Memory = ⊤

abbrev pub IsVerdict : List ℕ → List ℕ → List ℕ → ℕ → List (List ℕ) → Verdict → Type 0
IsVerdict layout image replies steps units v = IsRunAfter (run_inputs layout image replies units) steps v

abbrev pub IsStopBy : List ℕ → List ℕ → List ℕ → List (List ℕ) → JudgeError → Type 0
IsStopBy layout image replies units e = IsStopAfter (run_inputs layout image replies units) e

-- ---- the verdict

-- the place among the words of the file that a refusal is of; the steps stand before the units
abbrev pub refused_place : Refusal → ℕ
refused_place (refusals.Layout e) = 1
refused_place (refusals.Image e) = 2
refused_place (refusals.Unit u e) = u + 5
refused_place (refusals.Replies e) = 3
refused_place (refusals.Link u name e) = u + 5
refused_place (refusals.Entry name) = 1

-- the traces and whether they agree, the first place of the keys' addresses that fails, or the first thing that is refused
abbrev pub Runs : List ℕ → List ℕ → List ℕ → ℕ → List (List ℕ) → Verdict → Type 0
Runs layout image replies steps units (Done text) = IsVerdict layout image replies steps units (Done text)
Runs layout image replies steps units (Differs text) = IsVerdict layout image replies steps units (Differs text)
Runs layout image replies steps units (No f) =
    (r : RunInputs) × (run_inputs layout image replies units ≡ Ok r) × IsUnboundAt r.inputs f
Runs layout image replies steps units (Refuses place e) =
    (place ≡ refused_place e) × (x : Refused) × (told e ≡ Some x) × (run_inputs layout image replies units ≡ Err x)
Runs layout image replies steps units _ = ⊥
