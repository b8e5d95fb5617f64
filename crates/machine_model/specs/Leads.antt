-- One step of the assembly machine, and the steps of the flat machine that follow it.
use Rattle.std.specs.Prelude.{◌≡◌, ℕ, zero, suc, ◌+◌, ◌≤◌, List, Option, Some}
use Rattle.asm_syntax.specs.declared.unit.Reply.{Reply}
use Rattle.asm_mem.specs.declared.value.Val.{Val}
use Rattle.asm_mem.specs.Blocks.{Live}
use Rattle.asm_step.specs.State as asm
use Rattle.asm_step.specs.State.{State, Call, Next}
use Rattle.ppc_machine.specs.State.{FlatState, FlatEvent, FlatNext, Went, Called, Ended, Starved}
use Rattle.ppc_machine.specs.Steps.{flat_step}
use Rattle.machine_model.specs.Worlds.{World, depth, shown}
use Rattle.machine_model.specs.Relation.{Both, Related}

-- the event of a call where these blocks are live: each value has a word, which is that of the event
pub record EventShows (w : World) (live : List Live) (call : Call) (e : FlatEvent) : Type 0 where
  pub number : e.number ≡ call.key
  pub words : Both (λ (v : Val) (x : ℕ). shown w live v ≡ Some x) call.values e.words
  pub reads : e.reads ≡ call.reads

abbrev pub step_of : World → FlatState → Option Reply → FlatNext
step_of w t r = flat_step w.layout.stop t (w.outside t.pc) r

-- the flat machine's next step, whatever the reply
abbrev pub Does : World → FlatState → FlatNext → Type 0
Does w t x = (r : Option Reply) → step_of w t r ≡ x

-- k steps of the flat machine, none of which ends it or gives an event
abbrev pub Reaches : World → ℕ → FlatState → FlatState → Type 0
Reaches w zero t t' = t ≡ t'
Reaches w (suc k) t t' = (u : FlatState) × Does w t (Went u) × Reaches w k u t'

-- a step inside the code, followed by up to five of the image
abbrev pub Goes : World → FlatState → Next → Type 0
Goes w t (asm.Went s') =
    depth w s'.live + w.layout.stack.lo ≤ w.layout.stack.hi → (k : ℕ) × (k ≤ 5) × ((t' : FlatState) × Reaches w k t t' × Related w s' t')
Goes w t (asm.Undefined why) = Unit {0}
Goes w t _ = ⊥

-- any step from a state
abbrev pub Leads : World → State → FlatState → Option Reply → Next → Type 0
Leads w s t r (asm.Went s') = Goes w t (asm.Went s')
Leads w s t r (asm.Called c s') =
    (e : FlatEvent) × (t' : FlatState) × (step_of w t r ≡ Called e t') × EventShows w s.live c e × Related w s' t'
Leads w s t r (asm.Ended n) = step_of w t r ≡ Ended n
Leads w s t r asm.Starved = step_of w t r ≡ Starved
Leads w s t r (asm.Undefined why) = Unit {0}
