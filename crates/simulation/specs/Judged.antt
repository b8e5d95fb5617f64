-- What a judgement answers of the bytes of a layout, an image and units.
use Rattle.std.specs.Prelude.{◌≡◌, ℕ, List, Result, Ok, Err, Option, Some, None, ⊤, Vec, map}
use Rattle.std.specs.Global.{Global}
use Rattle.ordered_tests.specs.Steps.{◌>>◌}
use Rattle.asm_syntax.specs.declared.unit.Unit.{Unit}
use Rattle.image_model.specs.Image.{Image}
use Rattle.layout_model.specs.Layouts.{Layout}
use Rattle.link_model.specs.Candidates.{Inputs}
use Rattle.link_model.specs.Account.{Account, program_account}
use Rattle.link_model.specs.Binding.{addresses}
use Rattle.link_model.specs.Parts.{Matches}
use Rattle.link_model.specs.Passes.{First}
use Rattle.judge_model.specs.Refused.{Refused, told}
use Rattle.judge_model.specs.Judge.{inputs_of, linked, IsFirstFault, IsFirstRefusal}
use Rattle.machine_model.specs.Faithful.{Faithful}
use Rattle.simulation.specs.declared.judge.JudgeError.{JudgeError}
use Rattle.simulation.specs.declared.judge.JudgeError.TheVariants.{Refused as Refusing, No, Memory}

abbrev pub contents : List (Vec ℕ Global) → List (List ℕ)
contents units = map (λ (unit : Vec ℕ Global). unit.items) units

-- the first thing that is refused, the first place that fails, or want of memory
abbrev pub IsJudgedBy : List ℕ → List ℕ → List (List ℕ) → JudgeError → Type 0
IsJudgedBy layout image units (Refusing r) = IsFirstRefusal layout image units r
IsJudgedBy layout image units (No f) = IsFirstFault layout image units f
IsJudgedBy layout image units Memory = ⊤

-- ---- one step

-- what is due is this refusal
abbrev pub Tells : {T : Type 0} → Option Refused → Result T Refused → Type 0
Tells None due = ⊥
Tells (Some x) due = due ≡ Err x

-- the error tells the refusal that is due, or want of memory
abbrev pub IsRefusedBy : {T : Type 0} → Result T Refused → JudgeError → Type 0
IsRefusedBy due (Refusing r) = Tells (told r) due
IsRefusedBy due (No f) = ⊥
IsRefusedBy due Memory = ⊤

-- the error tells this refusal, or want of memory
abbrev pub Refuses : Refused → JudgeError → Type 0
Refuses x (Refusing r) = told r ≡ Some x
Refuses x (No f) = ⊥
Refuses x Memory = ⊤

-- the value that is due, or the refusal
abbrev pub Gives : {X T : Type 0} → (X → T) → Result X JudgeError → Result T Refused → Type 0
Gives view (Ok x) due = due ≡ Ok (view x)
Gives view (Err e) due = IsRefusedBy due e

-- ---- the last steps, by what the others gave

-- what is due of an image, a layout and units that were read
abbrev pub after_reading : Image → Layout → List Unit → Result Inputs Refused
after_reading v l us =
    linked us l.entry >> Ok (record { image = v; layout = l; program = record { units = us; entry = l.entry } })

abbrev pub IsAccountOf : Result Inputs Refused → Account → Type 0
IsAccountOf due a = (g : Inputs) × (due ≡ Ok g) × Matches g × (a ≡ program_account g (addresses g))

abbrev pub IsJudgedOf : Result Inputs Refused → JudgeError → Type 0
IsJudgedOf due (Refusing r) = Tells (told r) due
IsJudgedOf due (No f) = (g : Inputs) × (due ≡ Ok g) × First g f
IsJudgedOf due Memory = ⊤

-- ---- what a yes implies

-- of inputs that are due, the image does what the assembly does
abbrev pub IsFaithfulOf : Result Inputs Refused → Type 0
IsFaithfulOf due = (g : Inputs) × (due ≡ Ok g) × Faithful g

abbrev pub IsFaithful : List ℕ → List ℕ → List (List ℕ) → Type 0
IsFaithful layout image units = IsFaithfulOf (inputs_of layout image units)
