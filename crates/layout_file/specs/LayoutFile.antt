-- What the bytes of a layout file are: a layout, or the first thing that is wrong.
use Rattle.std.specs.Prelude.{ℕ, List, [], ◌∷◌, length, Option, Some, None, Result, Ok, Err, not, slice_index_or}
use Rattle.serde_json.specs.Data.{Data}
use Rattle.word_ops.specs.Ranges.{Extent, extent, meets}
use Rattle.ordered_tests.specs.Checks.{Check, check, each_check, from_to}
use Rattle.ordered_tests.specs.Steps.{◌>>=◌, ◌>>◌, all_pass}
use Rattle.json_tree.specs.declared.fault.Fault.{Fault}
use Rattle.json_tree.specs.Profile.{tree_of}
use Rattle.layout_model.specs.Layouts.{Layout, ranges}
use Rattle.layout_file.specs.LayoutTree.{layout}

-- the bytes are no JSON; a place of the tree is at fault; two ranges meet, by their numbers
pub data Refusal : Type 0 where
  NoTree : Refusal
  At : Fault → Refusal
  Meet : ℕ → ℕ → Refusal

abbrev pub tree_in : Option Data → Result Data Refusal
tree_in None = Err NoTree
tree_in (Some d) = Ok d

abbrev pub placed : {T : Type 0} → Result T Fault → Result T Refusal
placed (Ok x) = Ok x
placed (Err fault) = Err (At fault)

abbrev pub range_at : List Extent → ℕ → Extent
range_at ranges i = slice_index_or ranges i (extent 0 0)

abbrev pub pair_test : List Extent → ℕ → ℕ → List (Check Refusal)
pair_test ranges j i = check (not (meets (range_at ranges i) (range_at ranges j))) (Meet i j) ∷ []

-- the range j with each earlier one
abbrev pub earlier_tests : List Extent → ℕ → List (Check Refusal)
earlier_tests ranges j = each_check (pair_test ranges j) (from_to 0 j)

-- no two ranges meet: of two that do, the least later one is told, and then the least earlier one
abbrev pub apart_tests : List Extent → List (Check Refusal)
apart_tests ranges = each_check (earlier_tests ranges) (from_to 0 (length ranges))

abbrev pub apart : Layout → Result Layout Refusal
apart layout = all_pass (apart_tests (ranges layout)) >> Ok layout

-- the layout that bytes are, or the first thing that is wrong
unfoldable pub layout_file : List ℕ → Result Layout Refusal
layout_file bytes = do
  d ← tree_in (tree_of bytes)
  read ← placed (layout d)
  apart read
