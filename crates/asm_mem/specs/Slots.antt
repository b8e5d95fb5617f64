-- Four cells that are kept together, and what cells they are.
use Rattle.std.specs.Prelude.{ℕ, ◌/◌, ◌%◌, ℤ, pos, ◌==◌, if◌then◌else◌, List, [], ◌∷◌, Option, Some, None}
use Rattle.asm_mem.specs.declared.value.Val.{Val}
use Rattle.asm_mem.specs.declared.value.Val.TheVariants as val
use Rattle.asm_mem.specs.declared.cell.Cell.{Cell}
use Rattle.asm_mem.specs.declared.cell.Cell.TheVariants as cell
use Rattle.asm_mem.specs.declared.slot.Kind.{Kind}
use Rattle.asm_mem.specs.declared.slot.Kind.TheVariants.{Undef, Ptr, Code, Ext, Stop, Ha}
use Rattle.asm_mem.specs.declared.slot.Content.{Content}
use Rattle.asm_mem.specs.declared.slot.Content.TheVariants.{Nothing, Byte, Part}
use Rattle.asm_mem.specs.declared.slot.Slot.{Slot}

-- the value of a kind with these numbers
abbrev pub kind_value : Kind → ℕ → ℤ → ℕ → Val
kind_value Undef first offset last = val.Undef
kind_value Ptr first offset last = val.Ptr first last
kind_value Code first offset last = val.Code first last
kind_value Ext first offset last = val.Ext first last
kind_value Stop first offset last = val.Stop
kind_value Ha first offset last = val.Ha first offset last

-- the content at place j of a slot, as a cell
abbrev pub content_cell : Slot → Content → ℕ → Cell
content_cell s Nothing j = cell.Nothing
content_cell s (Byte x) j = cell.Byte x
content_cell s (Part kind) j = cell.Part (kind_value kind s.first s.offset s.last) j

abbrev pub slot_cell : Slot → ℕ → Cell
slot_cell s j =
    if j == 0 then content_cell s s.a 0
    else if j == 1 then content_cell s s.b 1
    else if j == 2 then content_cell s s.c 2
    else content_cell s s.d 3

abbrev pub byte_content : Option ℕ → Content
byte_content (Some x) = Byte x
byte_content None = Nothing

abbrev pub slot_set : Slot → ℕ → Content → Slot
slot_set s j content =
    if j == 0 then record s { a = content }
    else if j == 1 then record s { b = content }
    else if j == 2 then record s { c = content }
    else record s { d = content }

-- all four parts of a value of a kind
abbrev pub slot_filled : Kind → ℕ → ℤ → ℕ → Slot
slot_filled kind first offset last = record {
  a = Part kind;
  b = Part kind;
  c = Part kind;
  d = Part kind;
  first = first;
  offset = offset;
  last = last;
}

abbrev pub slot_of : Val → Slot
slot_of (val.Int n) = record {
  a = Byte (n / 16777216 % 256);
  b = Byte (n / 65536 % 256);
  c = Byte (n / 256 % 256);
  d = Byte (n % 256);
  first = 0;
  offset = pos 0;
  last = 0;
}
slot_of val.Undef = slot_filled Undef 0 (pos 0) 0
slot_of (val.Ptr b o) = slot_filled Ptr b (pos 0) o
slot_of (val.Code f i) = slot_filled Code f (pos 0) i
slot_of (val.Ext k o) = slot_filled Ext k (pos 0) o
slot_of val.Stop = slot_filled Stop 0 (pos 0) 0
slot_of (val.Ha k o n) = slot_filled Ha k o n

abbrev pub empty_slot : Slot
empty_slot = record { a = Nothing; b = Nothing; c = Nothing; d = Nothing; first = 0; offset = pos 0; last = 0 }

-- the cells of slots, one after another
abbrev pub flat : List Slot → List Cell
flat [] = []
flat (s ∷ ss) = content_cell s s.a 0 ∷ content_cell s s.b 1 ∷ content_cell s s.c 2 ∷ content_cell s s.d 3 ∷ flat ss
