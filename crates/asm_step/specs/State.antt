-- The state of the assembly machine, and what a step leads to.
use Rattle.std.specs.Prelude.{ℕ, suc, List}
use Rattle.effect_model.specs.Files.{File}
use Rattle.asm_mem.specs.declared.value.Val.{Val}
use Rattle.asm_mem.specs.declared.value.Val.TheVariants.{Code}
use Rattle.asm_mem.specs.Blocks.{Live}
use Rattle.asm_step.specs.declared.answer.Why.{Why}

-- registers, the place, the live blocks (the newest first: frames, the root, the variables), and the number of the next
pub record State : Type 0 where
  pub file : File Val
  pub place : Val
  pub live : List Live
  pub next : ℕ

-- a call of an external function: its key, the values of its arguments, and the bytes of the buffers that it reads
pub record Call : Type 0 where
  pub key : ℕ
  pub values : List Val
  pub reads : List (List ℕ)

pub data Next : Type 0 where
  Went : State → Next
  Called : Call → State → Next
  Ended : ℕ → Next
  Starved : Next
  Undefined : Why → Next

-- at the next instruction, with these registers
abbrev pub gone : State → ℕ → ℕ → File Val → State
gone s f i file = record s { file = file; place = Code f (suc i) }
