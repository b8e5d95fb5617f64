-- The kind of each loaded address.
use Rattle.std.specs.Prelude.{◌≢◌, ℕ, ◌+◌, ◌-◌, ◌%◌, Bool, false, not, ◌&&◌, ◌||◌, ◌==◌, List, position, if◌then◌else◌, Option, Some}
use Rattle.std.specs.Prelude.{option_map}
use Rattle.std.specs.List.{list_any}
use Rattle.std.specs.Option.{option_map_or}
use Rattle.isa_model.specs.Instructions.{nop_word}
use Rattle.word_ops.specs.Ranges.{extent, holds, meets}
use Rattle.image_model.specs.Image.{Image}
use Rattle.image_model.specs.Loaded.{byte_at, word_at}
use Rattle.layout_model.specs.Layouts.{Layout, area_holds, is_foreign}
use Rattle.code_model.specs.Areas.{is_code_kind, is_in_one_area}
use Rattle.link_model.specs.Claims.{Claim}

-- claimed, with the place of the claim in its list; in a foreign range; padding; none of these
pub data Kind : Type 0 where
  Claimed : ℕ → Kind
  Foreign : Kind
  Padding : Kind
  Stray : Kind

abbrev pub claim_holds : ℕ → Claim → Bool
claim_holds a c = holds a c.range

-- an area holds the address
abbrev pub is_in_area : Layout → ℕ → Bool
is_in_area l a = list_any (area_holds a) l.areas

-- the word at x is a nop in one area of code, and none of its four bytes is claimed
unfoldable pub is_free_nop : Image → Layout → List Claim → ℕ → Bool
is_free_nop v l cs x =
    option_map_or (λ w. w == nop_word) (word_at v x) false
    && is_in_one_area l is_code_kind (extent x (x + 4))
    && not (list_any (λ (c : Claim). meets (extent x (x + 4)) c.range) cs)

-- of an unclaimed byte: a zero in an area, or a part of an aligned nop
abbrev pub is_padding : Image → Layout → List Claim → ℕ → ℕ → Bool
is_padding v l cs a byte = (byte == 0) && is_in_area l a || is_free_nop v l cs (a - a % 4)

abbrev pub kind_of_byte : Image → Layout → List Claim → ℕ → ℕ → Kind
kind_of_byte v l cs a byte =
    option_map_or Claimed (position (claim_holds a) cs)
    (if is_foreign l a then Foreign else if is_padding v l cs a byte then Padding else Stray)

-- the kind of an address, where it is loaded
unfoldable pub kind_at : Image → Layout → List Claim → ℕ → Option Kind
kind_at v l cs a = option_map (kind_of_byte v l cs a) (byte_at v a)

-- no loaded address is stray
abbrev pub NoneStray : Image → Layout → List Claim → Type 0
NoneStray v l cs = (a : ℕ) → kind_at v l cs a ≢ Some Stray
