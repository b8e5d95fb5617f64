-- Frames: the blocks above the root. PowerPC EABI, "The Stack Frame": a frame begins with the pointer to the one below.
use Rattle.std.specs.Prelude.{ℕ, suc, Bool, true, false, Option, Some, None, ◌&&◌, ◌==◌, nat_le, if◌then◌else◌, List, ◌∷◌, length, drop}
use Rattle.effect_model.specs.declared.Place.TheVariants.{Gpr}
use Rattle.effect_model.specs.Files.{get, put}
use Rattle.asm_mem.specs.declared.value.Val.{Val}
use Rattle.asm_mem.specs.declared.value.Val.TheVariants.{Undef, Ptr, Code}
use Rattle.asm_mem.specs.Values.{same_val}
use Rattle.asm_mem.specs.Blocks.{Live, load, new_block, room, value_at, write_block}
use Rattle.asm_step.specs.declared.answer.Why.TheVariants.{Frame}
use Rattle.asm_step.specs.LinkedCode.{Linked}
use Rattle.asm_step.specs.State.{State, Next, Went, Undefined}

-- a new block with the old r1 in its first four cells
abbrev pub pushed : ℕ → ℕ → State → ℕ → State
pushed f i s n = record {
  file = put (put (put s.file (Gpr 0) Undef) (Gpr 12) Undef) (Gpr 1) (Ptr s.next 0);
  place = Code f (suc i);
  live = write_block (new_block s.next n true) 4 0 (get Undef s.file (Gpr 1)) ∷ s.live;
  next = suc s.next;
}

-- the newest block is a frame above the root, has this size, and its first four cells are the parts of the pointer to the frame below
abbrev pub is_frame : Linked → ℕ → Live → Live → Bool
is_frame p n k j = nat_le p.variables j.number && (length k.cells == n && same_val (value_at k 4 0) (Ptr j.number 0))

abbrev pub popped : Linked → ℕ → ℕ → State → ℕ → List Live → Next
popped p f i s n (k ∷ j ∷ ks) =
    if is_frame p n k j
    then Went (record s { file = put s.file (Gpr 1) (Ptr j.number 0); place = Code f (suc i); live = j ∷ ks })
    else Undefined Frame
popped p f i s n _ = Undefined Frame

-- ---- the same by numbers of blocks

abbrev pub has_size : Option (ℕ × Bool) → ℕ → Bool
has_size None n = false
has_size (Some r) n = r.0 == n

abbrev pub holds : Option Val → Val → Bool
holds None v = false
holds (Some u) v = same_val u v

-- what is freed, where the newest block and the next are told by number
abbrev pub popped_by : Linked → ℕ → ℕ → State → ℕ → List Live → Option ℕ → Option ℕ → Next
popped_by p f i s n live (Some k) (Some j) =
    if nat_le p.variables j && (has_size (room live k) n && holds (load live 4 (Ptr k 0)) (Ptr j 0))
    then Went (record s { file = put s.file (Gpr 1) (Ptr j 0); place = Code f (suc i); live = drop 1 live })
    else Undefined Frame
popped_by p f i s n live _ _ = Undefined Frame
