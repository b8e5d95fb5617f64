-- The event of an image that a call of the assembly stands for.
use Rattle.std.specs.Prelude.{ℕ, List, map, unwrap_or}
use Rattle.asm_mem.specs.declared.value.Val.{Val}
use Rattle.asm_mem.specs.Blocks.{Live}
use Rattle.ppc_machine.specs.State.{FlatEvent}
use Rattle.machine_model.specs.AsmRuns.{AsmEvent}
use Rattle.machine_model.specs.Worlds.{World, shown}

-- 0 for a value for which every word may stand; no call hands one over
abbrev pub shown_word : World → List Live → Val → ℕ
shown_word w live v = unwrap_or (shown w live v) 0

-- each argument by its word in the state before the call
abbrev pub shown_event : World → AsmEvent → FlatEvent
shown_event w e = record {
  number = e.call.key;
  words = map (shown_word w e.before.live) e.call.values;
  reads = e.call.reads;
}
