-- The memories agree: loads, stores, and frames that are made and freed, in the assembly and in the image.
use Rattle.std.specs.Prelude.{◌≡◌, ◌+◌, ◌≤◌, ℕ, suc, true, List, [], ◌∷◌, length, Option, Some, None, Result, Ok}
use Rattle.image_model.specs.Image.{Segment}
use Rattle.effect_model.specs.declared.Form.{Form}
use Rattle.effect_model.specs.Forms.{width}
use Rattle.flat_mem.specs.declared.memory.FaultKind.{FaultKind}
use Rattle.flat_mem.specs.Access.{loaded, stored}
use Rattle.asm_mem.specs.declared.value.Val.{Val}
use Rattle.asm_mem.specs.declared.cell.Cell.{Cell}
use Rattle.asm_mem.specs.declared.cell.Cell.TheVariants.{Nothing}
use Rattle.asm_mem.specs.Blocks.{Live, may_store, top}
use Rattle.asm_values.specs.Accesses.{load_by, stored_by}
use Rattle.machine_model.specs.Worlds.{World, depth, home}
use Rattle.machine_model.specs.Fits.{Fits}
use Rattle.machine_model.specs.Relation.{Means, MemoryAgrees, Framed}

-- ---- loads and stores

-- what a store leaves: the blocks stay where they are
pub record Written (w : World) (live : List Live) (next : ℕ) (live' : List Live) (r : Result (List Segment) FaultKind) : Type 0 where
  pub mem : List Segment
  pub is : r ≡ Ok mem
  pub agrees : MemoryAgrees w live' next mem
  pub homes : (d : ℕ) → home w live' d ≡ home w live d
  pub top_stays : top live' ≡ top live

abbrev pub LoadAgrees : World → List Live → ℕ → Option Val → Option ℕ → Type 0
LoadAgrees w live next None r = Unit {0}
LoadAgrees w live next (Some v) r = (x : ℕ) × (r ≡ Some x) × Means w live next v x

abbrev pub StoresAgree : Type 0
StoresAgree = (w : World) → Fits w → (live : List Live) (next : ℕ) (mem : List Segment) → MemoryAgrees w live next mem →
    (form : Form) (at v : Val) (y x : ℕ) → Means w live next at y → Means w live next v x →
    may_store live (width form) at ≡ true → Written w live next (stored_by live form at v) (stored mem form y x)

abbrev pub LoadsAgree : Type 0
LoadsAgree = (w : World) → Fits w → (live : List Live) (next : ℕ) (mem : List Segment) → MemoryAgrees w live next mem →
    (form : Form) (at : Val) (y : ℕ) → Means w live next at y → LoadAgrees w live next (load_by live form at) (loaded mem form y)

-- ---- frames

-- cells that say nothing
abbrev pub Blank : List Cell → Type 0
Blank [] = Unit {0}
Blank (c ∷ cs) = (c ≡ Nothing) × Blank cs

-- a block that is made, where it fits the stack
abbrev pub BlocksAreMade : Type 0
BlocksAreMade = (w : World) → Fits w → (live : List Live) (next : ℕ) (mem : List Segment) → MemoryAgrees w live next mem →
    (k : Live) → k.number ≡ next → length k.cells + depth w live + w.layout.stack.lo ≤ w.layout.stack.hi → Blank k.cells →
    MemoryAgrees w (k ∷ live) (suc next) mem

-- the newest block goes, where a frame is below
abbrev pub BlocksAreFreed : Type 0
BlocksAreFreed = (w : World) (k : Live) (live : List Live) (next : ℕ) (mem : List Segment) → MemoryAgrees w (k ∷ live) next mem →
    Framed w live → MemoryAgrees w live next mem
