-- Where an image matches, its keys have addresses, and the traces of a run agree.
use Rattle.std.proofs.Common.{◌≡◌, ℕ, ◌+◌, ◌-◌, ◌++◌, true, List, length, replicate, Some, None, Option, Err, refl, sym, ◌∙◌, arith}
use Rattle.std.proofs.lemmas.List.{length-replicate}
use Rattle.ordered_tests.specs.Checks.{Check, first_fault}
use Rattle.ordered_tests.proofs.Faults.{first_fault_after, front_passes, rest_passes}
use Rattle.image_model.specs.Segments.{IsLoadable}
use Rattle.layout_model.specs.Facts.{IsLayout}
use Rattle.asm_syntax.specs.declared.unit.Reply.{Reply}
use Rattle.link_model.specs.declared.fault.Fault.{Fault}
use Rattle.link_model.specs.Binding.{addresses}
use Rattle.link_model.specs.Candidates.{Inputs}
use Rattle.link_model.specs.Claims.{claims}
use Rattle.link_model.specs.LinkTests.{IsLinked}
use Rattle.link_model.specs.Parts.{Matches}
use Rattle.link_model.specs.Passes.{bound_pass, entry_pass, external_pass, key_passes, passes, stray_pass}
use Rattle.link_laws.specs.Laws.{MatchesOrFails}
use Rattle.key_passes.specs.declared.fault.CheckFault.{CheckFault}
use Rattle.key_passes.specs.declared.fault.CheckFault.TheVariants.{No}
use Rattle.key_passes.specs.Answers.{Decides}
use Rattle.image_check.specs.Places.{bound_places}
use Rattle.machine_runs.specs.Traces.{stack_size}
use Rattle.trace_laws.specs.Laws.{MatchingTracesAgree}
use Rattle.run_verdicts.specs.declared.TheConstants.{FREE_BYTE}
use Rattle.run_verdicts.specs.Runs.{agrees_on, free_junk}

abbrev NonePasses : List (Check Fault) → Type 0
NonePasses cs = let none : Option Fault = None in first_fault cs ≡ none

-- the tests of all places pass, so those of the keys' addresses do
front_two : (xs ys zs : List (Check Fault)) → NonePasses (xs ++ (ys ++ zs)) → NonePasses (xs ++ ys)
front_two xs ys zs h =
    first_fault_after xs ys (front_passes xs (ys ++ zs) h) ∙ front_passes ys zs (rest_passes xs (ys ++ zs) h)

bound_pass_all : (g : Inputs) → NonePasses (passes g (addresses g)) → NonePasses (bound_places g)
unfolding passes key_passes bound_places
bound_pass_all g h =
    let bs = addresses g in
    let keys = front_passes (key_passes g bs) (stray_pass g.image g.layout (claims g bs)) h in
    front_two (bound_pass g) (external_pass g bs) _ (rest_passes (entry_pass g.image) _ keys)

pub unmatched : MatchesOrFails → (g : Inputs) → IsLoadable g.image → (f : Fault) → first_fault (bound_places g) ≡ Some f → Matches g → ⊥
unmatched law g loadable f e m =
    let none = bound_pass_all g ((law g loadable).none.1 m) in let q : None ≡ Some f = sym none ∙ e in cc

pub agrees : MatchingTracesAgree → (g : Inputs) → IsLoadable g.image → IsLayout g.layout → IsLinked g.program → (replies : List Reply)
    (steps : ℕ) → Matches g → agrees_on g (addresses g) replies steps ≡ true
agrees law g loadable layout linked replies steps m =
    let size = length-replicate (stack_size g.layout) FREE_BYTE in
    let ordered = layout.parts.stack.range.ordered in
    let long : length (replicate (stack_size g.layout) FREE_BYTE) + g.layout.stack.lo ≡ g.layout.stack.hi = omega arith in
    law g loadable layout linked m (replicate (stack_size g.layout) FREE_BYTE) long free_junk refl replies steps

-- what is decided of an error that is a fault
pub told_fault : (T : Type 0) (first : Option Fault) (e : CheckFault) (f : Fault) → e ≡ No f → Decides {T = T} first (Err e) →
    first ≡ Some f
told_fault T first e f q h = (rw q at h)
