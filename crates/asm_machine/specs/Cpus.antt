-- The assembly machine with what it counts.
use Rattle.std.specs.Prelude.{◌≡◌, ◌<◌, ◌≤◌, ℕ, Bool, true, false, length, ⊤}
use Rattle.std.specs.List.{list_all}
use Rattle.limits.specs.declared.TheConstants.{MOST_FRAMES}
use Rattle.link_model.specs.Numbers.{variables}
use Rattle.link_model.specs.Program.{Program}
use Rattle.asm_step.specs.declared.answer.Asm as asm
use Rattle.asm_step.specs.declared.answer.Asm.TheVariants as answers
use Rattle.asm_step.specs.Answers.{Answers}
use Rattle.asm_step.specs.Calls.{is_argument}
use Rattle.asm_step.specs.State.{State, Next, Called}
use Rattle.asm_machine.specs.Starts.{first_state}
use Rattle.asm_machine.specs.Stacks.{IsStack, frame_cells, home}

-- the state, how many variables stand, and the most cells that the frames have had together
pub record Cpu : Type 0 where
  pub state : State
  pub variables : ℕ
  pub deepest : ℕ

abbrev pub first_cpu : Program → Cpu
first_cpu p = record { state = first_state p; variables = length (variables p.units); deepest = 0 }

-- the answer of a step, and the states before and after. Memory may be wanting where a frame is made
abbrev pub Stepped : Next → Bool → asm.Asm → State → State → Type 0
Stepped n frame answers.Memory old new = (frame ≡ true) × (new ≡ old)
Stepped n frame answer old new = Answers n answer old new

-- the machine goes on
abbrev pub goes_on : asm.Asm → Bool
goes_on answers.Went = true
goes_on (answers.Called e) = true
goes_on _ = false

-- a call hands over arguments alone, and leaves each block where it is
abbrev pub Hands : ℕ → State → Next → Type 0
Hands variables s (Called c t) =
    (list_all (is_argument s.live) c.values ≡ true) × ((b : ℕ) → home variables b t.live ≡ home variables b s.live)
Hands variables s _ = ⊤

-- what is counted is so
pub record IsCounted (s : State) (variables base deepest : ℕ) : Type 0 where
  pub stack : IsStack variables base s.live
  pub next : variables < s.next
  pub few : variables < MOST_FRAMES
  pub deep : frame_cells variables s.live ≤ deepest
