-- Where a block stands depends on the numbers and the sizes of the live blocks alone, and a call keeps both.
use Rattle.std.proofs.Common.{◌≡◌, ℕ, ◌+◌, Bool, true, false, List, [], ◌∷◌, length, map, take, Option, Some, None, refl, ap, sym, ◌∙◌}
use Rattle.std.proofs.Common.{cond, if◌then◌else◌}
use Rattle.std.specs.Prelude.{◌==◌, nat_lt, find, is_some}
use Rattle.effect_model.specs.Files.{File}
use Rattle.asm_syntax.specs.declared.unit.Buffer.{Buffer}
use Rattle.asm_syntax.specs.declared.unit.Reply.{Reply}
use Rattle.asm_syntax.specs.declared.unit.Sig.{Sig}
use Rattle.call_bytes.specs.Calls.{first_fill, rest_fills}
use Rattle.asm_mem.specs.declared.cell.Cell.{Cell}
use Rattle.asm_mem.specs.declared.cell.Cell.TheVariants.{Byte}
use Rattle.asm_mem.specs.declared.value.Val.{Val}
use Rattle.asm_mem.specs.declared.value.Val.TheVariants.{Int, Ptr}
use Rattle.asm_mem.specs.Blocks.{Live, has, set_cells, top, total, update}
use Rattle.asm_mem.specs.Cells.{empty_word}
use Rattle.asm_mem.proofs.Counting.{set_cells_length, set_cells_number}
use Rattle.asm_step.specs.Calls.{buffer_at, buffer_size, fill_at, filled, returned}
use Rattle.asm_step.specs.State.{State}
use Rattle.asm_machine.specs.declared.machine.Home.{Home}
use Rattle.asm_machine.specs.declared.machine.Home.TheVariants as homes
use Rattle.asm_machine.specs.Stacks.{frames, frame_cells, from_block, home, home_in}

-- the number and the size of a block
abbrev pair : Live → ℕ × ℕ
pair k = (k.number, length k.cells)

abbrev shape : List Live → List (ℕ × ℕ)
shape live = map pair live

-- ---- where a block stands, by the shape

abbrev is_in : ℕ → List (ℕ × ℕ) → Bool
is_in b [] = false
is_in b (x ∷ xs) = if x.0 == b then true else is_in b xs

abbrev from_pair : ℕ → List (ℕ × ℕ) → List (ℕ × ℕ)
from_pair b [] = []
from_pair b (x ∷ xs) = if x.0 == b then x ∷ xs else from_pair b xs

abbrev frame_sum : ℕ → List (ℕ × ℕ) → ℕ
frame_sum v [] = 0
frame_sum v (x ∷ xs) = if nat_lt v x.0 then x.1 + frame_sum v xs else frame_sum v xs

abbrev home_by : ℕ → ℕ → List (ℕ × ℕ) → Option Home
home_by v b xs =
    if is_in b xs then Some (if nat_lt b v then homes.Variable b else homes.Frame (frame_sum v (from_pair b xs))) else None

found_by : (b : ℕ) (live : List Live) → is_some (find (has b) live) ≡ is_in b (shape live)
found_by b [] = refl
found_by b (k ∷ ks) = at (has b k) (found_by b ks)
  where
    at : (t : Bool) → is_some (find (has b) ks) ≡ is_in b (shape ks)
        → is_some (cond t (Some k) (find (has b) ks)) ≡ (if t then true else is_in b (shape ks))
    at true r = refl
    at false r = r

from_by : (b : ℕ) (live : List Live) → shape (from_block b live) ≡ from_pair b (shape live)
from_by b [] = refl
from_by b (k ∷ ks) = at (has b k) (from_by b ks)
  where
    at : (t : Bool) → shape (from_block b ks) ≡ from_pair b (shape ks)
        → shape (if t then k ∷ ks else from_block b ks) ≡ (if t then shape (k ∷ ks) else from_pair b (shape ks))
    at true r = refl
    at false r = r

cells_by : (v : ℕ) (live : List Live) → frame_cells v live ≡ frame_sum v (shape live)
cells_by v [] = refl
cells_by v (k ∷ ks) = at (nat_lt v k.number) (cells_by v ks)
  where
    at : (t : Bool) → frame_cells v ks ≡ frame_sum v (shape ks)
        → total (cond t (k ∷ frames v ks) (frames v ks)) ≡ (if t then length k.cells + frame_sum v (shape ks) else frame_sum v (shape ks))
    at true r = ap (λ (n : ℕ). length k.cells + n) r
    at false r = r

home_is : (v b : ℕ) (live : List Live) → home v b live ≡ home_by v b (shape live)
home_is v b live =
    let sum = cells_by v (from_block b live) ∙ ap (frame_sum v) (from_by b live) in
    ap (λ (t : Bool). if t then Some (home_in v b live) else None) (found_by b live)
    ∙ ap (λ (n : ℕ). if is_in b (shape live) then Some (if nat_lt b v then homes.Variable b else homes.Frame n) else None) sum

home_kept : (v b : ℕ) (live after : List Live) → shape after ≡ shape live → home v b after ≡ home v b live
home_kept v b live after e = home_is v b after ∙ (ap (home_by v b) e ∙ sym (home_is v b live))

-- ---- what a call changes

shape_update : (b : ℕ) (f : Live → Live) (live : List Live) → ((k : Live) → pair (f k) ≡ pair k) → shape (update b f live) ≡ shape live
shape_update b f [] h = refl
shape_update b f (k ∷ ks) h = at (has b k) (shape_update b f ks h)
  where
    at : (t : Bool) → shape (update b f ks) ≡ shape ks → shape (if t then f k ∷ ks else k ∷ update b f ks) ≡ pair k ∷ shape ks
    at true r = ap (λ (x : ℕ × ℕ). x ∷ shape ks) (h k)
    at false r = ap (λ (xs : List (ℕ × ℕ)). pair k ∷ xs) r

pair_set : (o : ℕ) (cs : List Cell) (k : Live) → pair (set_cells k o cs) ≡ pair k
pair_set o cs k =
    let made : ℕ → ℕ → ℕ × ℕ = λ m n. (m, n) in
    ap (λ (n : ℕ). made n (length (set_cells k o cs).cells)) (set_cells_number k o cs)
    ∙ ap (λ (n : ℕ). made k.number n) (set_cells_length k o cs)

shape_set : (b o : ℕ) (cs : List Cell) (live : List Live) → shape (update b (λ k. set_cells k o cs) live) ≡ shape live
shape_set b o cs live = shape_update b (λ k. set_cells k o cs) live (pair_set o cs)

shape_fill : (at size : Val) (xs : List ℕ) (live : List Live) → shape (fill_at live at size xs) ≡ shape live
shape_fill (Ptr b o) (Int n) xs live = shape_set b o (map Byte (take n xs)) live
shape_fill _ _ xs live = refl

shape_filled : (f : File Val) (sig : Sig) (bs : List Buffer) (fills : List (List ℕ)) (live : List Live)
    → shape (filled live f sig bs fills) ≡ shape live
shape_filled f sig [] fills live = refl
shape_filled f sig (b ∷ bs) fills live = at b.fills (shape_filled f sig bs)
  where
    at : (t : Bool) → ((fills : List (List ℕ)) (live : List Live) → shape (filled live f sig bs fills) ≡ shape live)
        → shape (if t then filled (fill_at live (buffer_at f sig b) (buffer_size f sig b) (first_fill fills)) f sig bs (rest_fills fills)
        else filled live f sig bs fills)
        ≡ shape live
    at true r =
        r (rest_fills fills) (fill_at live (buffer_at f sig b) (buffer_size f sig b) (first_fill fills))
        ∙ shape_fill (buffer_at f sig b) (buffer_size f sig b) (first_fill fills) live
    at false r = r fills live

pub home_returned : (v b : ℕ) (s : State) (sig : Sig) (r : Reply) → home v b (returned s sig r).live ≡ home v b s.live
home_returned v b s sig r =
    let after = filled s.live s.file sig sig.buffers r.fills in
    home_kept v b s.live (returned s sig r).live
    (shape_set (top after) 4 empty_word after ∙ shape_filled s.file sig sig.buffers r.fills s.live)
