-- The grammar of layouts. The keys are read in this order, and the first fault ends it.
use Rattle.std.specs.Prelude.{ℕ, ◌+◌, List, [], ◌∷◌, length, codes, Option, Result, Ok, nat_le, ◌&&◌, if◌then◌else◌}
use Rattle.std.specs.List.{list_all}
use Rattle.asm_syntax.specs.Names.{is_name_byte}
use Rattle.asm_syntax.specs.declared.path.Step.TheVariants.{Key, Index}
use Rattle.serde_json.specs.Data.{Data}
use Rattle.json_tree.specs.declared.fault.Cause.TheVariants.{OutOfRange}
use Rattle.json_tree.specs.declared.fault.Fault.{Fault}
use Rattle.ordered_tests.specs.Steps.{◌>>=◌, ◌>>◌, all_pass}
use Rattle.json_tree.specs.Reading.{fail, under, object, field, text, or_null, name, word_of}
use Rattle.json_tree.specs.Arrays.{items, limited, list, tuple, nth}
use Rattle.json_tree.specs.Addresses.{address}
use Rattle.json_tree.specs.Profile.{header}
use Rattle.word_ops.specs.Ranges.{Extent, extent}
use Rattle.limits.specs.declared.TheConstants.{MOST_AREAS, MOST_FOREIGN_RANGES, MOST_PINS}
use Rattle.layout_model.specs.declared.kind.AreaKind.{AreaKind}
use Rattle.layout_model.specs.declared.kind.AreaKind.TheVariants.{Code, Fixed, Writable, Sda13, Sda2, Sda0}
use Rattle.layout_model.specs.Layouts.{Area, Pin, Layout}
use Rattle.layout_file.specs.Pins.{is_pinned, with_pin}
use Rattle.layout_file.specs.RangeTests.{range_tests, stack_tests, stop_tests}

-- ---- ranges

unfoldable pub ends : Data → Result Extent Fault
ends d = do
  ds ← tuple 2 d
  lo ← nth 0 address ds
  hi ← nth 1 address ds
  Ok (extent lo hi)

unfoldable pub range : Data → Result Extent Fault
range d = do
  range ← ends d
  all_pass (range_tests range)
  Ok range

unfoldable pub stack : Data → Result Extent Fault
stack d = do
  stack ← ends d
  all_pass (stack_tests stack)
  Ok stack

unfoldable pub stop : Data → Result ℕ Fault
stop d = do
  stop ← address d
  all_pass (stop_tests stop)
  Ok stop

-- ---- areas

-- what an area is called, which is tested and forgotten
unfoldable pub label : Data → Result (Unit {0}) Fault
label d = do
  bytes ← text d
  if nat_le 1 (length bytes) && nat_le (length bytes) 63 && list_all is_name_byte bytes then Ok tt else fail OutOfRange

abbrev pub kinds : List (List ℕ × AreaKind)
kinds =
    (codes "code", Code) ∷
    (codes "const", Fixed) ∷
    (codes "data", Writable) ∷
    (codes "sda13", Sda13) ∷
    (codes "sda2", Sda2) ∷
    (codes "sda0", Sda0) ∷ []

unfoldable pub area : Data → Result Area Fault
area d = do
  object d
  field (codes "name") label d
  range ← field (codes "range") range d
  kind ← field (codes "kind") (word_of kinds) d
  Ok (record { range = range; kind = kind })

-- ---- pins, each of which is read knowing those before it

unfoldable pub unpinned : List Pin → Option (List ℕ) → List ℕ → Result (Unit {0}) Fault
unpinned pins unit name = if is_pinned pins unit name then fail OutOfRange else Ok tt

-- a second pin of one name is told at its `name`, before its `address` is read
unfoldable pub pin : List Pin → Data → Result Pin Fault
pin pins d = do
  object d
  unit ← field (codes "unit") (or_null name) d
  name ← field (codes "name") name d
  under (Key (codes "name")) (unpinned pins unit name)
  address ← field (codes "address") address d
  Ok (record { unit = unit; name = name; address = address })

-- the pins with those of the items, the first of which is the item number i
unfoldable pub pins_from : List Pin → ℕ → List Data → Result (List Pin) Fault
pins_from pins i [] = Ok pins
pins_from pins i (d ∷ ds) = do
  one ← under (Index i) (pin pins d)
  pins_from (with_pin pins one) (i + 1) ds

unfoldable pub pins : Data → Result (List Pin) Fault
pins d = do
  ds ← items d
  limited MOST_PINS ds
  pins_from [] 0 ds

-- ---- layouts

unfoldable pub layout : Data → Result Layout Fault
layout d = do
  header (codes "layout") 1 d
  entry ← field (codes "entry") name d
  stop ← field (codes "stop") stop d
  stack ← field (codes "stack") stack d
  r13 ← field (codes "r13") address d
  r2 ← field (codes "r2") address d
  areas ← field (codes "areas") (list MOST_AREAS area) d
  foreign ← field (codes "foreign") (list MOST_FOREIGN_RANGES range) d
  pins ← field (codes "pins") pins d
  Ok (record { entry = entry; stop = stop; stack = stack; r13 = r13; r2 = r2; areas = areas; foreign = foreign; pins = pins })
