-- The addresses that the symbols of an image offer for a key. System V gABI, "Symbol Table".
use Rattle.std.specs.Prelude.{ℕ, Bool, not, ◌&&◌, ◌||◌, ◌==◌, List, map, filter, Option, Some, None, if◌then◌else◌}
use Rattle.std.specs.Option.{option_or}
use Rattle.std.specs.Str.{bytes_eq}
use Rattle.image_model.specs.Image.{Image, Symbol}
use Rattle.layout_model.specs.Layouts.{Layout, pin_of}
use Rattle.link_model.specs.Sets.{set_of, only_member}
use Rattle.link_model.specs.Program.{Declaration, Program, name_of, is_static}
use Rattle.link_model.specs.Numbers.{unit_name}

-- what a match is judged by
pub record Inputs : Type 0 where
  pub image : Image
  pub layout : Layout
  pub program : Program

-- a symbol stands for an address: not SHN_UNDEF and not SHN_COMMON; of STT_NOTYPE, STT_OBJECT or STT_FUNC
abbrev pub is_candidate : Symbol → Bool
is_candidate s = not (s.shndx == 0) && not (s.shndx == 0xfff2) && (s.kind == 0 || s.kind == 1 || s.kind == 2)

-- STB_LOCAL symbols serve static keys, STB_GLOBAL and STB_WEAK ones the others
abbrev pub serves : Bool → Symbol → Bool
serves static s = if static then s.binding == 0 else s.binding == 1 || s.binding == 2

abbrev pub is_candidate_for : List ℕ → Bool → Symbol → Bool
is_candidate_for name static s = is_candidate s && bytes_eq s.name name && serves static s

-- the set of the values of the symbols that serve a key under its name
unfoldable pub candidates : Image → Declaration → List ℕ
candidates v d = set_of (map (λ (s : Symbol). s.value) (filter (is_candidate_for (name_of d) (is_static d)) v.symbols))

-- the address that the layout gives a key: a static one by its unit's name
abbrev pub pin : Inputs → Declaration → Option ℕ
pin g d = pin_of g.layout (if is_static d then Some (unit_name g.program.units d.unit) else None) (name_of d)

-- the address that a key has whatever uses it: its pin, or its only candidate
unfoldable pub known_address : Inputs → Declaration → Option ℕ
known_address g d = option_or (pin g d) (only_member (candidates g.image d))
