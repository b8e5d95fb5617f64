-- The frames among the live blocks: those above the root, which is the block behind the variables.
use Rattle.std.specs.Prelude.{◌≡◌, ◌<◌, ◌+◌, ℕ, nat_lt, if◌then◌else◌, List, [], ◌∷◌, length, filter, Option, Some, None, find, is_some}
use Rattle.asm_mem.specs.Blocks.{Live, has, total}
use Rattle.asm_mem.specs.Order.{Below}
use Rattle.asm_machine.specs.declared.machine.Home.{Home}
use Rattle.asm_machine.specs.declared.machine.Home.TheVariants as homes

-- where so many variables stand
abbrev pub frames : ℕ → List Live → List Live
frames variables live = filter (λ (k : Live). nat_lt variables k.number) live

-- how many cells they have together
abbrev pub frame_cells : ℕ → List Live → ℕ
frame_cells variables live = total (frames variables live)

-- a live block and all older ones
abbrev pub from_block : ℕ → List Live → List Live
from_block b [] = []
from_block b (k ∷ ks) = if has b k then k ∷ ks else from_block b ks

abbrev pub home_in : ℕ → ℕ → List Live → Home
home_in variables b live = if nat_lt b variables then homes.Variable b else homes.Frame (frame_cells variables (from_block b live))

-- the variable that a live block is, or the cells of the frames from the first above the root up to it
abbrev pub home : ℕ → ℕ → List Live → Option Home
home variables b live = if is_some (find (has b) live) then Some (home_in variables b live) else None

-- frames on the root on the variables, where the root and the variables have so many cells together
pub data IsStack (variables base : ℕ) : List Live → Type 0 where
  Root : (k : Live) (ks : List Live) → k.number ≡ variables → Below variables ks → length k.cells + total ks ≡ base
      → IsStack variables base (k ∷ ks)
  Frame : (k : Live) (ks : List Live) → variables < k.number → IsStack variables base ks → IsStack variables base (k ∷ ks)
