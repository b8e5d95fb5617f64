-- Sets of pins: those of no unit first, then by unit, then by name.
use Rattle.std.specs.Prelude.{ℕ, Bool, List, Option}
use Rattle.std.specs.declared.cmp.Ordering.{Ordering}
use Rattle.std.specs.Ordering.{nat_cmp, ordering_then}
use Rattle.std.specs.Cmp.Lexicographic.{slice_cmp}
use Rattle.std.specs.Option.{option_cmp}
use Rattle.std.specs.BTreeSet.{replace_key}
use Rattle.std.specs.List.{list_any}
use Rattle.layout_model.specs.Layouts.{Pin, is_pin_of}

abbrev pub bytes_cmp : List ℕ → List ℕ → Ordering
bytes_cmp = slice_cmp nat_cmp

abbrev pub pin_cmp : Pin → Pin → Ordering
pin_cmp p q = ordering_then (option_cmp bytes_cmp p.unit q.unit) (bytes_cmp p.name q.name)

-- a pin of these names
abbrev pub sought : Option (List ℕ) → List ℕ → Pin
sought unit name = record { unit = unit; name = name; address = 0 }

unfoldable pub is_pinned : List Pin → Option (List ℕ) → List ℕ → Bool
is_pinned pins unit name = list_any (is_pin_of unit name) pins

unfoldable pub with_pin : List Pin → Pin → List Pin
with_pin pins pin = replace_key pin_cmp pins pin
