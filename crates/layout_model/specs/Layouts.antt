-- What a layout says of a program's address space, and what it answers.
use Rattle.std.specs.Prelude.{ℕ, ◌+◌, Bool, List, [], ◌∷◌, ◌++◌, map, Option, ◌&&◌, option_map, position}
use Rattle.std.specs.List.{find, list_any}
use Rattle.std.specs.Option.{option_eq}
use Rattle.std.specs.Str.{bytes_eq}
use Rattle.word_ops.specs.Ranges.{Extent, extent, holds}
use Rattle.layout_model.specs.declared.kind.AreaKind.{AreaKind}

pub record Area : Type 0 where
  pub range : Extent
  pub kind : AreaKind

-- where a name stands: the unit's own, or a global one where there is no unit
pub record Pin : Type 0 where
  pub unit : Option (List ℕ)
  pub name : List ℕ
  pub address : ℕ

-- the pins are a set: its members in ascending order of their names
pub record Layout : Type 0 where
  pub entry : List ℕ
  pub stop : ℕ
  pub stack : Extent
  pub r13 : ℕ
  pub r2 : ℕ
  pub areas : List Area
  pub foreign : List Extent
  pub pins : List Pin

-- ---- what it answers

abbrev pub area_holds : ℕ → Area → Bool
area_holds a area = holds a area.range

-- the number of the area that holds an address
abbrev pub area_of : Layout → ℕ → Option ℕ
area_of layout a = position (area_holds a) layout.areas

abbrev pub is_foreign : Layout → ℕ → Bool
is_foreign layout a = list_any (holds a) layout.foreign

abbrev pub is_pin_of : Option (List ℕ) → List ℕ → Pin → Bool
is_pin_of unit name pin = option_eq bytes_eq pin.unit unit && bytes_eq pin.name name

abbrev pub pin_in : List Pin → Option (List ℕ) → List ℕ → Option ℕ
pin_in pins unit name = option_map (λ pin. pin.address) (find (is_pin_of unit name) pins)

-- the address that a name is pinned to
abbrev pub pin_of : Layout → Option (List ℕ) → List ℕ → Option ℕ
pin_of layout unit name = pin_in layout.pins unit name

-- ---- its ranges, in the order of their numbers

abbrev pub area_range : Area → Extent
area_range area = area.range

-- the four bytes of the stop point
abbrev pub stop_range : ℕ → Extent
stop_range stop = extent stop (stop + 4)

-- the stack, the areas, the foreign ranges, the stop point
abbrev pub ranges : Layout → List Extent
ranges layout = layout.stack ∷ (map area_range layout.areas ++ (layout.foreign ++ stop_range layout.stop ∷ []))
