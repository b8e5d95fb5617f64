-- When a state of the assembly machine and a state of the flat machine belong together, part by part.
use Rattle.std.specs.Prelude.{◌≡◌, ℕ, zero, suc, ◌+◌, ◌<◌, ◌≤◌, ◌/◌, ◌%◌, ◌^◌, true, ◌⊎◌, List, [], ◌∷◌, length, Option, Some, None}
use Rattle.std.specs.Prelude.{MatchOption, find}
use Rattle.ordered_tests.specs.Lists.{EachOf}
use Rattle.image_model.specs.Image.{Segment}
use Rattle.image_model.specs.Loaded.{is_writable}
use Rattle.effect_model.specs.declared.Place.TheVariants.{Gpr}
use Rattle.effect_model.specs.Files.{File, get}
use Rattle.flat_mem.specs.Memory.{flags_in, byte_of, is_mapped, may_write}
use Rattle.asm_mem.specs.declared.value.Val.{Val}
use Rattle.asm_mem.specs.declared.value.Val.TheVariants.{Undef, Ptr, Code, Ext, Ha}
use Rattle.asm_mem.specs.declared.cell.Cell.{Cell}
use Rattle.asm_mem.specs.declared.cell.Cell.TheVariants as cells
use Rattle.asm_mem.specs.Blocks.{Live, has, cell, top}
use Rattle.asm_step.specs.LinkedCode.{is_target}
use Rattle.asm_step.specs.State.{State}
use Rattle.ppc_machine.specs.State.{FlatState}
use Rattle.machine_model.specs.Worlds.{World, code_of, variables_in, depth, home, shown}
use Rattle.machine_model.specs.Fits.{Data, InStack}

-- ---- values

-- what a value names exists
abbrev pub Named : World → ℕ → Val → Type 0
Named w next (Ptr b o) = b < next
Named w next (Code f i) = (f < length w.program.routines) × (i ≤ length (code_of w.program f))
Named w next (Ext k o) = k < length w.program.kinds
Named w next (Ha k o n) = k < length w.program.kinds
Named w next _ = Unit {0}

abbrev pub Shows : Option ℕ → ℕ → Type 0
Shows o x = MatchOption o (Unit {0}) (λ y. x ≡ y)

-- the value stands for the word
pub record Means (w : World) (live : List Live) (next : ℕ) (v : Val) (x : ℕ) : Type 0 where
  pub named : Named w next v
  pub shows : Shows (shown w live v) x

-- two lists of one length, in step
abbrev pub Both : {A B : Type 0} → (A → B → Type 0) → List A → List B → Type 0
Both R [] [] = Unit {0}
Both R (x ∷ xs) (y ∷ ys) = R x y × Both R xs ys
Both R _ _ = ⊥

-- ---- registers

pub record FilesAgree (w : World) (live : List Live) (next : ℕ) (f : File Val) (g : File ℕ) : Type 0 where
  pub gprs : Both (Means w live next) f.gprs g.gprs
  pub wide : length g.gprs ≡ 32
  pub bits : Both (Means w live next) f.bits g.bits
  pub bits_wide : length g.bits ≡ 32
  pub lr : Means w live next f.lr g.lr
  pub ctr : Means w live next f.ctr g.ctr
  pub ca : Means w live next f.ca g.ca
  pub so : Means w live next f.so g.so
  pub bases : (get 0 g (Gpr 2) ≡ w.layout.r2) × (get 0 g (Gpr 13) ≡ w.layout.r13)

-- ---- memory

-- byte j of a word, the highest first
abbrev pub byte_of_word : ℕ → ℕ → ℕ
byte_of_word x zero = x / 16777216 % 256
byte_of_word x (suc zero) = x / 65536 % 256
byte_of_word x (suc (suc zero)) = x / 256 % 256
byte_of_word x (suc (suc (suc j))) = x % 256

abbrev pub PartShows : Option ℕ → ℕ → ℕ → Type 0
PartShows o j x = MatchOption o (Unit {0}) (λ y. (y < 2 ^ 32) × (x ≡ byte_of_word y j))

-- the cell stands for the byte
abbrev pub CellMeans : World → List Live → ℕ → Cell → ℕ → Type 0
CellMeans w live next cells.Nothing x = Unit {0}
CellMeans w live next (cells.Byte y) x = x ≡ y
CellMeans w live next (cells.Part v j) x = Named w next v × PartShows (shown w live v) j x

-- a live block: its address and what it has
pub record LiveAt (w : World) (live : List Live) (b a : ℕ) (k : Live) : Type 0 where
  pub home_is : home w live b ≡ Some a
  pub block : find (has b) live ≡ Some k

pub record CellsAgree (w : World) (live : List Live) (next : ℕ) (mem : List Segment) : Type 0 where
  pub at : (b a o : ℕ) (k : Live) → LiveAt w live b a k → o < length k.cells → CellMeans w live next (cell k o) (byte_of mem (a + o))

-- no byte of a live block lies in the stack below the frames
pub record Above (w : World) (live : List Live) : Type 0 where
  pub at : (b a o : ℕ) (k : Live) → LiveAt w live b a k → o < length k.cells →
      (w.layout.stack.hi ≤ a + o + depth w live) ⊎ (InStack w (a + o) → ⊥)

-- the newest block has a number below n
abbrev pub Under : ℕ → List Live → Type 0
Under n [] = Unit {0}
Under n (k ∷ ks) = k.number < n

-- numbers rise, and each block lies below the older ones
abbrev pub Ordered : World → List Live → Type 0
Ordered w [] = Unit {0}
Ordered w (k ∷ ks) = (home w ks k.number ≡ None) × Under k.number ks × Above w ks × Ordered w ks

-- the newest block is a frame, or the root
abbrev pub Framed : World → List Live → Type 0
Framed w [] = ⊥
Framed w (k ∷ ks) = variables_in w ≤ k.number

-- where the live blocks lie
pub record Laid (w : World) (live : List Live) (next : ℕ) : Type 0 where
  pub fits : depth w live + w.layout.stack.lo ≤ w.layout.stack.hi
  pub given : variables_in w < next
  pub young : (b : ℕ) → next ≤ b → home w live b ≡ None
  pub ordered : Ordered w live
  pub variables_live : (v : ℕ) → v < variables_in w → home w live v ≡ Some (w.variable_at v)
  pub apart : (b c a d o p : ℕ) (k l : Live) → LiveAt w live b a k → LiveAt w live c d l → (b ≡ c → ⊥) →
      o < length k.cells → p < length l.cells → a + o ≡ d + p → ⊥
  pub low : (b a : ℕ) → home w live b ≡ Some a → 1 ≤ a
  pub high : (b a : ℕ) (k : Live) → LiveAt w live b a k → a + length k.cells ≤ 0xfffffff0
  pub data_at : (b a o : ℕ) (k : Live) → LiveAt w live b a k → o < length k.cells → Data w (a + o)
  pub mapped : (b a o : ℕ) (k : Live) → LiveAt w live b a k → o < length k.cells → is_mapped w.memory (a + o) ≡ true
  pub open_at : (b a o : ℕ) (k : Live) → LiveAt w live b a k → o < length k.cells → k.writable ≡ true → may_write w.memory (a + o) ≡ true
  pub above : Above w live

-- a segment that can be stored to has all its bytes
abbrev pub IsFull : Segment → Type 0
IsFull s = is_writable s.flags ≡ true → length s.held ≡ s.memsz

-- what no step changes: flags, and the bytes outside the stack and the variables
pub record Same (w : World) (mem : List Segment) : Type 0 where
  pub flags : (a : ℕ) → flags_in mem a ≡ flags_in w.memory a
  pub bytes : (a : ℕ) → (Data w a → ⊥) → byte_of mem a ≡ byte_of w.memory a
  pub full : EachOf IsFull mem

-- ---- places

pub record PlacesAgree (w : World) (live : List Live) (next : ℕ) (place : Val) (pc : ℕ) : Type 0 where
  pub target : is_target w.program place ≡ true
  pub means : Means w live next place pc

-- ---- the whole

-- the parts that speak of memory
pub record MemoryAgrees (w : World) (live : List Live) (next : ℕ) (mem : List Segment) : Type 0 where
  pub laid : Laid w live next
  pub frame : Framed w live
  pub cells : CellsAgree w live next mem
  pub same : Same w mem

pub record Related (w : World) (s : State) (t : FlatState) : Type 0 where
  pub laid : Laid w s.live s.next
  pub frame : Framed w s.live
  pub pointer : get Undef s.file (Gpr 1) ≡ Ptr (top s.live) 0
  pub files : FilesAgree w s.live s.next s.file t.file
  pub cells : CellsAgree w s.live s.next t.mem
  pub same : Same w t.mem
  pub place : PlacesAgree w s.live s.next s.place t.pc
