-- The buffers of a call of an external function, its event, and what it leaves.
use Rattle.std.specs.Prelude.{ℕ, zero, suc, ◌-◌, ◌%◌, Bool, not, nat_lt, if◌then◌else◌, List, [], ◌∷◌, take, Option, Some, None}
use Rattle.image_model.specs.Image.{Segment}
use Rattle.effect_model.specs.declared.Place.TheVariants.{Gpr}
use Rattle.effect_model.specs.Files.{File, get}
use Rattle.effect_model.specs.Calls.{volatile, put_each}
use Rattle.limits.specs.declared.TheConstants.{MOST_BUFFER_BYTES}
use Rattle.asm_syntax.specs.declared.unit.Sig.{Sig}
use Rattle.asm_syntax.specs.declared.unit.Buffer.{Buffer}
use Rattle.asm_syntax.specs.declared.unit.Reply.{Reply}
use Rattle.flat_mem.specs.declared.memory.FaultKind.{FaultKind}
use Rattle.flat_mem.specs.declared.memory.FaultKind.TheVariants.{Unmapped, ReadOnly}
use Rattle.flat_mem.specs.declared.memory.FaultKind.TheVariants as faults
use Rattle.flat_mem.specs.Memory.{byte_of, is_mapped, may_write, set_bytes, each_from}
use Rattle.flat_mem.specs.Access.{next}
use Rattle.ppc_machine.specs.declared.externals.External.{External}
use Rattle.call_bytes.specs.Calls.{register_at, arguments, size_of, first_fill, rest_fills}
use Rattle.ppc_machine.specs.Replies.{reply_word}
use Rattle.ppc_machine.specs.State.{FlatState, FlatEvent}

-- the low two bits cleared
abbrev pub aligned : ℕ → ℕ
aligned a = a - a % 4

-- where a buffer begins: what its argument's register holds
abbrev pub buffer_at : File ℕ → Sig → Buffer → ℕ
buffer_at f sig b = get 0 f (Gpr (register_at sig b.arg))

-- how long it is
abbrev pub buffer_size : File ℕ → Sig → Buffer → ℕ
buffer_size f sig b = size_of 0 (λ n. n) f sig b.size

-- what a buffer lacks: too long, a byte that is not mapped, a byte of one that is filled that cannot be stored to
abbrev pub buffer_fault : List Segment → Bool → ℕ → ℕ → Option FaultKind
buffer_fault m fills a n =
    if nat_lt MOST_BUFFER_BYTES n then Some faults.Buffer
    else if not (each_from (is_mapped m) n a) then Some Unmapped
    else if fills then (if each_from (may_write m) n a then None else Some ReadOnly)
    else None

-- the first of two that is there
abbrev pub or_else : Option FaultKind → Option FaultKind → Option FaultKind
or_else (Some e) o = Some e
or_else None o = o

-- the first fault of the buffers, in their order
abbrev pub buffers_fault : List Segment → File ℕ → Sig → List Buffer → Option FaultKind
buffers_fault m f sig [] = None
buffers_fault m f sig (b ∷ bs) =
    or_else (buffer_fault m b.fills (buffer_at f sig b) (buffer_size f sig b)) (buffers_fault m f sig bs)

-- so many bytes from an address on
abbrev pub bytes_at : List Segment → ℕ → ℕ → List ℕ
bytes_at m a zero = []
bytes_at m a (suc n) = byte_of m a ∷ bytes_at m (next a) n

-- the bytes of the buffers that are read, a list for each
abbrev pub reads : List Segment → File ℕ → Sig → List Buffer → List (List ℕ)
reads m f sig [] = []
reads m f sig (b ∷ bs) =
    if b.fills then reads m f sig bs else bytes_at m (buffer_at f sig b) (buffer_size f sig b) ∷ reads m f sig bs

-- memory after the fills: each buffer that is filled takes the next, as many of its bytes as it is long
abbrev pub filled : List Segment → File ℕ → Sig → List Buffer → List (List ℕ) → List Segment
filled m f sig [] fills = m
filled m f sig (b ∷ bs) fills =
    if b.fills then filled (set_bytes m (buffer_at f sig b) (take (buffer_size f sig b) (first_fill fills))) f sig bs (rest_fills fills)
    else filled m f sig bs fills

-- what is seen of a call
abbrev pub event : External → FlatState → FlatEvent
event x t = record { number = x.number; words = arguments 0 t.file x.sig; reads = reads t.mem t.file x.sig x.sig.buffers }

-- the state behind a call: LR is read before the reply changes it
abbrev pub returned : External → FlatState → Reply → FlatState
returned x t r = record {
  file = put_each (reply_word r) volatile t.file;
  pc = aligned t.file.lr;
  mem = filled t.mem t.file x.sig x.sig.buffers r.fills;
}
