-- Entries of a map of pins, as pins.
use Rattle.std.specs.Prelude.{ℕ, string_bytes, option_map}
use Rattle.std.specs.declared.cmp.Ordering.{Ordering}
use Rattle.std.specs.Ordering.{ordering_then}
use Rattle.std.specs.Option.{option_cmp}
use Rattle.std.specs.String.{string_cmp}
use Rattle.layout_file.specs.declared.pins.PinKey.{PinKey}
use Rattle.layout_file.specs.declared.pins.Sought.{Sought}
use Rattle.layout_model.specs.Layouts.{Pin}
use Rattle.layout_file.specs.Pins.{sought}

abbrev pub pin_of_entry : PinKey × ℕ → Pin
pin_of_entry entry = record { unit = option_map string_bytes entry.0.unit; name = string_bytes entry.0.name; address = entry.1 }

abbrev pub key_cmp : PinKey → PinKey → Ordering
key_cmp a b = ordering_then (option_cmp string_cmp a.unit b.unit) (string_cmp a.name b.name)

abbrev pub pin_sought : Sought → Pin
pin_sought s = sought (option_map (λ unit. unit.now) s.unit) s.name.now
