-- From what is due of one file to what is due of all, for a run.
use Rattle.std.proofs.Common.{◌≡◌, ℕ, List, Ok, Err, Result, Option, Some, None, refl, sym, subst}
use Rattle.std.specs.Prelude.{IfErr, IfOk}
use Rattle.ordered_tests.specs.Steps.{◌>>=◌, ◌>>◌}
use Rattle.image_model.specs.Image.{Image}
use Rattle.layout_model.specs.Layouts.{Layout}
use Rattle.asm_syntax.specs.declared.unit.Reply.{Reply}
use Rattle.asm_syntax.specs.declared.unit.Unit.{Unit as CompilationUnit}
use Rattle.name_addresses.specs.Given.{given}
use Rattle.judge_model.specs.Refused.{Refused, told}
use Rattle.judge_model.specs.Judge.{image_in, layout_in, linked, units_in}
use Rattle.report_text.specs.declared.verdict.Verdict.{Verdict}
use Rattle.simulation.specs.declared.judge.JudgeError.{JudgeError}
use Rattle.simulation.specs.declared.judge.JudgeError.TheVariants.{Refused as Refusing, No, Memory}
use Rattle.simulation.specs.Judged.{Tells, IsRefusedBy}
use Rattle.run_verdicts.specs.Files.{RunInputs, after_files, replies_in, run_inputs}
use Rattle.run_verdicts.specs.Runs.{IsFaultOf, IsRunAfter, IsRunOf, IsStopAfter}

tells_on : {A B : Type 0} (o : Option Refused) (due : Result A Refused) (next : A → Result B Refused) → Tells o due → Tells o (due >>= next)
tells_on None due next h = absurd h
tells_on (Some x) due next h = rw h refl

-- what comes first decides
stopped : {A : Type 0} (due : Result A Refused) (next : A → Result RunInputs Refused) (e : JudgeError) → IsRefusedBy due e
    → IsStopAfter (due >>= next) e
stopped due next (Refusing r) h = tells_on (told r) due next h
stopped due next (No f) h = absurd h
stopped due next Memory h = tt

module _ (layout image replies : List ℕ) (units : List (List ℕ)) where
  pub by_layout : (e : JudgeError) → IsRefusedBy (layout_in layout) e → IsStopAfter (run_inputs layout image replies units) e
  unfolding run_inputs
  by_layout e h = stopped (layout_in layout) _ e h

  pub by_image : (l : Layout) (e : JudgeError) → layout_in layout ≡ Ok l → IsRefusedBy (image_in image) e
      → IsStopAfter (run_inputs layout image replies units) e
  unfolding run_inputs
  by_image l e a h = rw a (stopped (image_in image) _ e h)

  pub by_units : (l : Layout) (v : Image) (e : JudgeError) → layout_in layout ≡ Ok l → image_in image ≡ Ok v
      → IsRefusedBy (units_in 0 units) e
      → IsStopAfter (run_inputs layout image replies units) e
  unfolding run_inputs
  by_units l v e a b h = rw (a, b) (stopped (units_in 0 units) _ e h)

  pub by_replies : (l : Layout) (v : Image) (us : List CompilationUnit) (e : JudgeError) → layout_in layout ≡ Ok l → image_in image ≡ Ok v
      → units_in 0 units ≡ Ok us → IsRefusedBy (replies_in replies) e → IsStopAfter (run_inputs layout image replies units) e
  unfolding run_inputs
  by_replies l v us e a b c h = rw (a, b, c) (stopped (replies_in replies) _ e h)

  pub all_read : (l : Layout) (v : Image) (us : List CompilationUnit) (rs : List Reply) → layout_in layout ≡ Ok l → image_in image ≡ Ok v
      → units_in 0 units ≡ Ok us → replies_in replies ≡ Ok rs → run_inputs layout image replies units ≡ after_files v l us rs
  unfolding run_inputs
  all_read l v us rs a b c d = rw (a, b, c, d) refl

  all_run : (l : Layout) (v : Image) (us : List CompilationUnit) (rs : List Reply) (steps : ℕ) (verdict : Verdict) → layout_in layout ≡ Ok l
      → image_in image ≡ Ok v → units_in 0 units ≡ Ok us → replies_in replies ≡ Ok rs
      → IsRunAfter (after_files v l us rs) steps verdict → IsRunAfter (run_inputs layout image replies units) steps verdict
  all_run l v us rs steps verdict a b c d h =
      let P : Result RunInputs Refused → Type 0 = λ due. IsRunAfter due steps verdict in subst P (sym (all_read l v us rs a b c d)) h

  all_stop : (l : Layout) (v : Image) (us : List CompilationUnit) (rs : List Reply) (e : JudgeError) → layout_in layout ≡ Ok l
      → image_in image ≡ Ok v → units_in 0 units ≡ Ok us → replies_in replies ≡ Ok rs
      → IsStopAfter (after_files v l us rs) e → IsStopAfter (run_inputs layout image replies units) e
  all_stop l v us rs e a b c d h =
      let P : Result RunInputs Refused → Type 0 = λ due. IsStopAfter due e in subst P (sym (all_read l v us rs a b c d)) h

  pub all_yes : (l : Layout) (v : Image) (us : List CompilationUnit) (rs : List Reply) (steps : ℕ) (r : Result Verdict JudgeError)
      → layout_in layout ≡ Ok l → image_in image ≡ Ok v → units_in 0 units ≡ Ok us → replies_in replies ≡ Ok rs
      → IfOk r (λ x. IsRunAfter (after_files v l us rs) steps x) → IfOk r (λ x. IsRunAfter (run_inputs layout image replies units) steps x)
  all_yes l v us rs steps (Ok x) a b c d h = all_run l v us rs steps x a b c d h
  all_yes l v us rs steps (Err e) a b c d h = tt

  pub all_no : (l : Layout) (v : Image) (us : List CompilationUnit) (rs : List Reply) (r : Result Verdict JudgeError)
      → layout_in layout ≡ Ok l → image_in image ≡ Ok v → units_in 0 units ≡ Ok us → replies_in replies ≡ Ok rs
      → IfErr r (λ e. IsStopAfter (after_files v l us rs) e) → IfErr r (λ e. IsStopAfter (run_inputs layout image replies units) e)
  all_no l v us rs (Ok x) a b c d h = tt
  all_no l v us rs (Err e) a b c d h = all_stop l v us rs e a b c d h

-- ---- behind linking

unlinked_by : {A : Type 0} (due : Result A Refused) (r : RunInputs) (e : JudgeError) → IsRefusedBy due e → IsStopAfter (due >> Ok r) e
unlinked_by due r (Refusing x) h = at (told x) h
  where
    at : (o : Option Refused) → Tells o due → Tells o (due >> Ok r)
    at None g = absurd g
    at (Some y) g = rw g refl
unlinked_by due r (No f) h = absurd h
unlinked_by due r Memory h = tt

abbrev inputs_of : Image → Layout → List CompilationUnit → List Reply → RunInputs
inputs_of v l us rs = record { inputs = given v l (record { units = us; entry = l.entry }); replies = rs }

pub unlinked : (v : Image) (l : Layout) (us : List CompilationUnit) (rs : List Reply) (e : JudgeError) → IsRefusedBy (linked us l.entry) e
    → IsStopAfter (after_files v l us rs) e
unlinked v l us rs e h = unlinked_by (linked us l.entry) (inputs_of v l us rs) e h

after_linking : (v : Image) (l : Layout) (us : List CompilationUnit) (rs : List Reply) → linked us l.entry ≡ Ok tt
    → after_files v l us rs ≡ Ok (inputs_of v l us rs)
after_linking v l us rs h = rw h refl

linked_run : (v : Image) (l : Layout) (us : List CompilationUnit) (rs : List Reply) (steps : ℕ) (verdict : Verdict)
    → linked us l.entry ≡ Ok tt → IsRunOf (given v l (record { units = us; entry = l.entry })) rs steps verdict
    → IsRunAfter (after_files v l us rs) steps verdict
linked_run v l us rs steps verdict h run = (inputs_of v l us rs, after_linking v l us rs h, run)

linked_stop : (v : Image) (l : Layout) (us : List CompilationUnit) (rs : List Reply) (e : JudgeError) → linked us l.entry ≡ Ok tt
    → IsFaultOf (given v l (record { units = us; entry = l.entry })) e → IsStopAfter (after_files v l us rs) e
linked_stop v l us rs (Refusing r) h fault = absurd fault
linked_stop v l us rs (No f) h fault = (inputs_of v l us rs, after_linking v l us rs h, fault)
linked_stop v l us rs Memory h fault = tt

pub linked_yes : (v : Image) (l : Layout) (us : List CompilationUnit) (rs : List Reply) (steps : ℕ) (r : Result Verdict JudgeError)
    → linked us l.entry ≡ Ok tt → IfOk r (λ x. IsRunOf (given v l (record { units = us; entry = l.entry })) rs steps x)
    → IfOk r (λ x. IsRunAfter (after_files v l us rs) steps x)
linked_yes v l us rs steps (Ok x) h run = linked_run v l us rs steps x h run
linked_yes v l us rs steps (Err e) h run = tt

pub linked_no : (v : Image) (l : Layout) (us : List CompilationUnit) (rs : List Reply) (r : Result Verdict JudgeError)
    → linked us l.entry ≡ Ok tt → IfErr r (λ e. IsFaultOf (given v l (record { units = us; entry = l.entry })) e)
    → IfErr r (λ e. IsStopAfter (after_files v l us rs) e)
linked_no v l us rs (Ok x) h stop = tt
linked_no v l us rs (Err e) h stop = linked_stop v l us rs e h stop
