-- Calls of external functions: arguments, buffers, and what a call leaves.
use Rattle.std.specs.Prelude.{ℕ, zero, suc, ◌+◌, Bool, true, false, not, ◌&&◌, ◌==◌, nat_le, if◌then◌else◌, List, [], ◌∷◌, length, map}
use Rattle.std.specs.Prelude.{take, slice_index_or, Option, Some, None, is_some, find, unwrap_or}
use Rattle.std.specs.List.{list_all}
use Rattle.std.specs.Option.{option_map_or}
use Rattle.limits.specs.declared.TheConstants.{MOST_BUFFER_BYTES}
use Rattle.effect_model.specs.declared.Place.{Place}
use Rattle.effect_model.specs.declared.Place.TheVariants.{Gpr}
use Rattle.effect_model.specs.Files.{File, get}
use Rattle.effect_model.specs.Calls.{volatile, put_each}
use Rattle.asm_syntax.specs.declared.unit.Width.{Width}
use Rattle.asm_syntax.specs.declared.unit.Width.TheVariants as widths
use Rattle.asm_syntax.specs.declared.unit.Sig.{Sig}
use Rattle.asm_syntax.specs.declared.unit.Buffer.{Buffer}
use Rattle.asm_syntax.specs.declared.unit.Reply.{Reply}
use Rattle.call_bytes.specs.Calls.{arguments, register_at, size_of, first_fill, rest_fills}
use Rattle.asm_mem.specs.declared.value.Val.{Val}
use Rattle.asm_mem.specs.declared.value.Val.TheVariants.{Undef, Int, Ptr, Code, Ext}
use Rattle.asm_mem.specs.declared.cell.Cell.TheVariants.{Byte}
use Rattle.asm_mem.specs.Cells.{byte_in}
use Rattle.asm_mem.specs.Blocks.{Live, has, cell, set_cells, update, forget}
use Rattle.asm_mem.specs.Comparison.{is_valid}
use Rattle.asm_step.specs.declared.answer.Why.TheVariants.{Argument, Target, Buffer as NoBuffer}
use Rattle.asm_step.specs.LinkedCode.{Linked, is_target}
use Rattle.asm_step.specs.State.{State, Call, Next, Called, Starved, Undefined}

-- a value that may be handed to an external function
abbrev pub is_argument : List Live → Val → Bool
is_argument live (Int n) = true
is_argument live (Ptr b o) = is_valid live b 0
is_argument live (Code f i) = i == 0
is_argument live (Ext key o) = true
is_argument live _ = false

-- ---- buffers

-- so many cells from an offset on are bytes
abbrev pub are_bytes : Live → ℕ → ℕ → Bool
are_bytes k o zero = true
are_bytes k o (suc n) = is_some (byte_in (cell k o)) && are_bytes k (o + 1) n

abbrev pub bytes_in : Live → ℕ → ℕ → List ℕ
bytes_in k o zero = []
bytes_in k o (suc n) = unwrap_or (byte_in (cell k o)) 0 ∷ bytes_in k (o + 1) n

-- a block has so many bytes from an offset on, to be filled or to be read
abbrev pub has_room : Bool → ℕ → ℕ → Live → Bool
has_room fills n o k = nat_le (o + n) (length k.cells) && (if fills then k.writable else are_bytes k o n)

abbrev pub is_room : List Live → Bool → ℕ → Val → Bool
is_room live fills n (Ptr b o) = option_map_or (has_room fills n o) (find (has b) live) false
is_room live fills n _ = false

-- a size is a word and not too long, and there is room for it at a value
abbrev pub fits_size : List Live → Bool → Val → Val → Bool
fits_size live fills at (Int n) = nat_le n MOST_BUFFER_BYTES && (if n == 0 then true else is_room live fills n at)
fits_size live fills at _ = false

-- where a buffer is, and its size
abbrev pub buffer_at : File Val → Sig → Buffer → Val
buffer_at f sig b = get Undef f (Gpr (register_at sig b.arg))

abbrev pub buffer_size : File Val → Sig → Buffer → Val
buffer_size f sig b = size_of Undef Int f sig b.size

abbrev pub buffer_fits : List Live → File Val → Sig → Buffer → Bool
buffer_fits live f sig b = fits_size live b.fills (buffer_at f sig b) (buffer_size f sig b)

abbrev pub read_at : List Live → Val → Val → List ℕ
read_at live (Ptr b o) (Int n) = option_map_or (λ k. bytes_in k o n) (find (has b) live) []
read_at live _ _ = []

-- the bytes of the buffers that are read, in their order
abbrev pub reads : List Live → File Val → Sig → List Buffer → List (List ℕ)
reads live f sig [] = []
reads live f sig (b ∷ bs) =
    if b.fills then reads live f sig bs else read_at live (buffer_at f sig b) (buffer_size f sig b) ∷ reads live f sig bs

-- the first bytes at a value become those of a fill, as many as the size allows
abbrev pub fill_at : List Live → Val → Val → List ℕ → List Live
fill_at live (Ptr b o) (Int n) xs = update b (λ k. set_cells k o (map Byte (take n xs))) live
fill_at live _ _ xs = live

-- each buffer that is filled takes the next fill
abbrev pub filled : List Live → File Val → Sig → List Buffer → List (List ℕ) → List Live
filled live f sig [] fills = live
filled live f sig (b ∷ bs) fills =
    if b.fills then filled (fill_at live (buffer_at f sig b) (buffer_size f sig b) (first_fill fills)) f sig bs (rest_fills fills)
    else filled live f sig bs fills

-- ---- what a call leaves

-- the result in r3, or in r3 and r4; the other registers that a call may change hold no value
abbrev pub result_gprs : Option Width → Reply → List Val
result_gprs None r = []
result_gprs (Some widths.Word) r = Undef ∷ Undef ∷ Undef ∷ Int r.r3 ∷ []
result_gprs (Some widths.Long) r = Undef ∷ Undef ∷ Undef ∷ Int r.r3 ∷ Int r.r4 ∷ []

abbrev pub result_value : Option Width → Reply → Place → Val
result_value width r (Gpr n) = slice_index_or (result_gprs width r) n Undef
result_value width r _ = Undef

abbrev pub returned : State → Sig → Reply → State
returned s sig r =
    record s {
      file = put_each (result_value sig.result r) volatile s.file;
      place = s.file.lr;
      live = forget (filled s.live s.file sig sig.buffers r.fills);
    }

abbrev pub call_of : ℕ → State → Sig → Call
call_of key s sig = record { key = key; values = arguments Undef s.file sig; reads = reads s.live s.file sig sig.buffers }

abbrev pub answered : ℕ → State → Sig → Option Reply → Next
answered key s sig None = Starved
answered key s sig (Some r) = Called (call_of key s sig) (returned s sig r)

-- the arguments, then LR, then the buffers, then the reply
abbrev pub called_sig : Linked → ℕ → State → Option Reply → Sig → Next
called_sig p key s reply sig =
    if not (list_all (is_argument s.live) (arguments Undef s.file sig)) then Undefined Argument
    else if not (is_target p s.file.lr) then Undefined Target
    else if not (list_all (buffer_fits s.live s.file sig) sig.buffers) then Undefined NoBuffer
    else answered key s sig reply

abbrev pub called : Linked → ℕ → State → Option Reply → Option Sig → Next
called p key s reply None = Undefined Target
called p key s reply (Some sig) = called_sig p key s reply sig
