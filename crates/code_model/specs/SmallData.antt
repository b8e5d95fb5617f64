-- Small data: the bases that registers stand for, and the areas that they reach. PowerPC EABI, "Small Data Areas".
use Rattle.std.specs.Prelude.{ℕ, ◌+◌, Bool, false, ◌&&◌, ◌==◌, if◌then◌else◌, Option, Some, None, option_map}
use Rattle.std.specs.List.{list_any, find}
use Rattle.std.specs.Option.{option_map_or}
use Rattle.isa_model.specs.Word.{wrapped, sext16}
use Rattle.word_ops.specs.Ranges.{holds}
use Rattle.layout_model.specs.declared.kind.AreaKind.{AreaKind}
use Rattle.layout_model.specs.declared.kind.AreaKind.TheVariants.{Sda13, Sda2, Sda0}
use Rattle.layout_model.specs.Layouts.{Area, Layout}

-- the base of a register: _SDA_BASE_ in r13, _SDA2_BASE_ in r2, and zero for the register number 0
abbrev pub small_data_base : Layout → ℕ → Option ℕ
small_data_base l r = if r == 13 then Some l.r13 else if r == 2 then Some l.r2 else if r == 0 then Some 0 else None

-- the address that a register and a half lead to, where the register has a base
abbrev pub small_data_address : Layout → ℕ → ℕ → Option ℕ
small_data_address l r half = option_map (λ base. wrapped (base + sext16 half)) (small_data_base l r)

-- the register and the half lead to the address
abbrev pub reaches : Layout → ℕ → ℕ → ℕ → Bool
reaches l r half a = option_map_or (λ reached. reached == a) (small_data_address l r half) false

-- the register by which an area of a kind is reached
abbrev pub area_register : AreaKind → Option ℕ
area_register Sda13 = Some 13
area_register Sda2 = Some 2
area_register Sda0 = Some 0
area_register _ = None

abbrev pub is_register_of : ℕ → AreaKind → Bool
is_register_of r kind = option_map_or (λ s. s == r) (area_register kind) false

-- an area of the register's kind holds the address
abbrev pub is_in_small_data : Layout → ℕ → ℕ → Bool
is_in_small_data l r a = list_any (λ (area : Area). is_register_of r area.kind && holds a area.range) l.areas

-- stands for the register of an area that is not small data, or of no area
abbrev pub no_register : ℕ
no_register = 0xffffffff

-- the register of the area that holds an address
abbrev pub register_at : Layout → ℕ → ℕ
register_at l a =
    option_map_or (λ (area : Area). option_map_or (λ r. r) (area_register area.kind) no_register)
    (find (λ (area : Area). holds a area.range) l.areas) no_register
