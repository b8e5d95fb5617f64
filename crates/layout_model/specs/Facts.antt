-- What is true of each layout that was read.
use Rattle.std.specs.Prelude.{◌≡◌, ℕ, ◌+◌, ◌%◌, ◌<◌, ◌≤◌, false, List, length}
use Rattle.word_ops.specs.Ranges.{Extent, meets}
use Rattle.ordered_tests.specs.Lists.{EachOf, Pairwise}
use Rattle.limits.specs.declared.TheConstants.{LEAST_STACK_BYTES, MOST_STACK_BYTES, MOST_RANGE_END, MOST_AREAS, MOST_FOREIGN_RANGES}
use Rattle.limits.specs.declared.TheConstants.{MOST_PINS}
use Rattle.layout_model.specs.Layouts.{Area, Layout, ranges}

-- a range of a layout has an address, and neither address 0 nor the last ones
pub record IsRange (range : Extent) : Type 0 where
  pub some : 1 ≤ range.lo
  pub ordered : range.lo < range.hi
  pub most : range.hi ≤ MOST_RANGE_END

-- the stack pointer stands at multiples of 16. System V ABI, PowerPC supplement, "The Stack Frame"
pub record IsStack (stack : Extent) : Type 0 where
  pub range : IsRange stack
  pub least_size : stack.lo + LEAST_STACK_BYTES ≤ stack.hi
  pub most_size : stack.hi ≤ stack.lo + MOST_STACK_BYTES
  pub aligned : stack.hi % 16 ≡ 0

-- the stop point is an address of an instruction
pub record IsStop (stop : ℕ) : Type 0 where
  pub some : 1 ≤ stop
  pub most : stop + 4 ≤ MOST_RANGE_END
  pub aligned : stop % 4 ≡ 0

abbrev pub IsAreaRange : Area → Type 0
IsAreaRange area = IsRange area.range

-- no address is in both
abbrev pub AreApart : Extent → Extent → Type 0
AreApart p q = meets p q ≡ false

-- no address is in two of the ranges
abbrev pub ArePairwiseApart : List Extent → Type 0
ArePairwiseApart ranges = Pairwise AreApart ranges

-- what each part of a layout is by itself
pub record AreParts (layout : Layout) : Type 0 where
  pub stack : IsStack layout.stack
  pub stop : IsStop layout.stop
  pub areas : EachOf IsAreaRange layout.areas
  pub foreign : EachOf IsRange layout.foreign
  pub few_areas : length layout.areas ≤ MOST_AREAS
  pub few_foreign : length layout.foreign ≤ MOST_FOREIGN_RANGES
  pub few_pins : length layout.pins ≤ MOST_PINS

pub record IsLayout (layout : Layout) : Type 0 where
  pub parts : AreParts layout
  pub apart : ArePairwiseApart (ranges layout)
