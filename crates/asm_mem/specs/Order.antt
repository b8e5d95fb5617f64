-- How blocks are kept: the oldest first, in rising numbers, with the count of all cells.
use Rattle.std.specs.Prelude.{◌≡◌, ◌≤◌, ◌<◌, ◌*◌, ◌^◌, ℕ, List, [], ◌∷◌}
use Rattle.limits.specs.declared.TheConstants.{MOST_BLOCKS}
use Rattle.asm_mem.specs.Blocks.{Live, total}

abbrev pub Above : ℕ → List Live → Type 0
Above n [] = Unit {0}
Above n (k ∷ rest) = (n < k.number) × Above n rest

abbrev pub Rising : List Live → Type 0
Rising [] = Unit {0}
Rising (k ∷ rest) = Above k.number rest × Rising rest

abbrev pub Below : ℕ → List Live → Type 0
Below n [] = Unit {0}
Below n (k ∷ rest) = (k.number < n) × Below n rest

pub record AreBlocks (blocks : List Live) (next : ℕ) : Type 0 where
  pub rising : Rising blocks
  pub below : Below next blocks

pub record HasCells (blocks : List Live) (next cells : ℕ) : Type 0 where
  pub sum : cells ≡ total blocks
  pub bounded : total blocks ≤ next * 2 ^ 32
  pub within : next ≤ MOST_BLOCKS
