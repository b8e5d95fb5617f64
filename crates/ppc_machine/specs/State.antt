-- The states of the flat machine, the events of its calls, and what a step leads to.
use Rattle.std.specs.Prelude.{ℕ, List}
use Rattle.image_model.specs.Image.{Segment}
use Rattle.effect_model.specs.Files.{File}
use Rattle.flat_mem.specs.declared.memory.FaultKind.{FaultKind}

-- the registers, and the address of the instruction that comes next (CIA of the Power ISA)
pub record Processor : Type 0 where
  pub file : File ℕ
  pub pc : ℕ

-- a processor, and the address at which it has ended
pub record FlatCpu : Type 0 where
  pub processor : Processor
  pub stop : ℕ

pub record FlatState : Type 0 where
  pub file : File ℕ
  pub pc : ℕ
  pub mem : List Segment

abbrev pub state : Processor → List Segment → FlatState
state c m = record { file = c.file; pc = c.pc; mem = m }

-- a call: the external's number, the words of its arguments, and the bytes of the buffers that it reads
pub record FlatEvent : Type 0 where
  pub number : ℕ
  pub words : List ℕ
  pub reads : List (List ℕ)

pub data FlatNext : Type 0 where
  Went : FlatState → FlatNext
  Called : FlatEvent → FlatState → FlatNext
  Ended : ℕ → FlatNext
  Starved : FlatNext
  Faulted : FaultKind → FlatNext
