-- The first cells of a variable stand for the bytes that its data asks for, and the root's word changes no other byte.
use Rattle.std.proofs.Common.{◌≡◌, ℕ, zero, suc, ◌+◌, ◌-◌, ◌/◌, ◌%◌, ◌<◌, ◌≤◌, Bool, true, false, List, [], ◌∷◌, ◌++◌, map, replicate}
use Rattle.std.proofs.Common.{length, Option, Some, None, refl, sym, ap, ◌∙◌, subst, arith, if◌then◌else◌, length-append}
use Rattle.std.specs.Prelude.{◌==◌, ℤ, flat_map, sum_by, unwrap_or, slice_get, slice_index_or}
use Rattle.std.specs.Option.{option_map_or}
use Rattle.std.proofs.lemmas.List.{length-replicate, length-map}
use Rattle.std.proofs.lemmas.List.Sums.{sum_by-cons}
use Rattle.isa_model.specs.Word.{wrapped}
use Rattle.image_model.specs.Image.{Segment}
use Rattle.effect_model.specs.declared.Form.TheVariants.{Word}
use Rattle.asm_syntax.specs.declared.unit.Init.{Init}
use Rattle.asm_syntax.specs.declared.unit.Init.TheVariants as inits
use Rattle.asm_syntax.specs.References.{Reference, reference}
use Rattle.asm_syntax.specs.Sizes.{init_size, init_symbol, variable_size}
use Rattle.flat_mem.specs.Memory.{byte_of, set_byte, set_bytes}
use Rattle.asm_mem.specs.declared.value.Val.{Val}
use Rattle.asm_mem.specs.declared.cell.Cell.{Cell}
use Rattle.asm_mem.specs.declared.cell.Cell.TheVariants.{Nothing, Byte}
use Rattle.asm_mem.specs.Blocks.{Live}
use Rattle.asm_mem.specs.Cells.{cells_of, empty_word}
use Rattle.asm_values.specs.Operands.{symbol_value}
use Rattle.code_model.specs.Fields.{address_plus}
use Rattle.code_model.specs.Variables.{word_bytes, init_bytes}
use Rattle.link_model.specs.Program.{keys, resolve}
use Rattle.link_model.specs.Binding.{key_address, symbol_address}
use Rattle.link_model.specs.Candidates.{Inputs}
use Rattle.asm_machine.specs.Executables.{key_kinds, key_meant}
use Rattle.asm_machine.specs.Variables.{address_cells, init_cells, cells_from, named_value}
use Rattle.machine_model.specs.Worlds.{World, world_of}
use Rattle.machine_model.specs.Fits.{Fits, Data}
use Rattle.machine_model.specs.Relation.{Means, Both, CellMeans, Laid, Same}
use Rattle.value_laws.proofs.ValueLaws.{symbol_law}
use Rattle.memory_laws.proofs.AccessLaws.{word_cells}
use Rattle.memory_laws.proofs.SegmentLaws.{byte_other}
use Rattle.memory_laws.proofs.MemoryLaws.{same_set}
use Rattle.world_laws.proofs.Numbers.{kinds_long, resolve_below}

-- ---- sizes

address_long : (o : ℕ) (v : Val) → length (address_cells o v) ≡ 4
address_long o v = at (o % 4 == 0)
  where
    at : (t : Bool) → length (if t then cells_of 4 v else empty_word) ≡ 4
    at true = refl
    at false = refl

init_long : (f : List ℕ → ℤ → Val) (o : ℕ) (x : Init) → length (init_cells f o x) ≡ init_size x
init_long f o (inits.Int8 n) = refl
init_long f o (inits.Int16 n) = refl
init_long f o (inits.Int32 n) = refl
init_long f o (inits.Bytes bytes) = length-map bytes Byte
init_long f o (inits.Space n) = let zeros : List ℕ = replicate n 0 in length-map zeros Byte ∙ length-replicate n 0
init_long f o (inits.Addr name offset) = address_long o (f name offset)

size_cons : (x : Init) (xs : List Init) → variable_size (x ∷ xs) ≡ init_size x + variable_size xs
size_cons x xs = sum_by-cons init_size x xs

pub cells_long : (f : List ℕ → ℤ → Val) (o : ℕ) (xs : List Init) → length (cells_from f o xs) ≡ variable_size xs
cells_long f o [] = refl
cells_long f o (x ∷ xs) =
    let a = length-append (init_cells f o x) (cells_from f (o + init_size x) xs) in
    let b = init_long f o x in
    let c = cells_long f (o + init_size x) xs in
    let d = size_cons x xs in
    omega arith

-- ---- two lists in step

both_append : {A B : Type 0} (R : A → B → Type 0) (xs us : List A) (ys vs : List B) → Both R xs ys → Both R us vs
    → Both R (xs ++ us) (ys ++ vs)
both_append R [] us [] vs h k = k
both_append R (x ∷ xs) us (y ∷ ys) vs h k = (h.0, both_append R xs us ys vs h.1 k)
both_append R [] us (y ∷ ys) vs h k = absurd h
both_append R (x ∷ xs) us [] vs h k = absurd h

pub both_long : {A B : Type 0} (R : A → B → Type 0) (xs : List A) (ys : List B) → Both R xs ys → length xs ≡ length ys
both_long R [] [] h = refl
both_long R (x ∷ xs) (y ∷ ys) h = ap suc (both_long R xs ys h.1)
both_long R [] (y ∷ ys) h = absurd h
both_long R (x ∷ xs) [] h = absurd h

-- ---- cells and bytes

module _ (g : Inputs) (bs stack : List ℕ) (ok : Fits (world_of g bs stack)) (live : List Live) (next : ℕ)
    (laid : Laid (world_of g bs stack) live next) where
  abbrev V : World
  V = world_of g bs stack

  bytes_law : (xs : List ℕ) → Both (CellMeans V live next) (map Byte xs) xs
  bytes_law [] = tt
  bytes_law (x ∷ xs) = (refl, bytes_law xs)

  -- the name of an item means a key
  abbrev pub Names : ℕ → Init → Type 0
  Names u x = (r : Reference) → init_symbol x ≡ Some r → (j : ℕ) × (resolve g.program.units u r.name ≡ Some j)

  address_law : (o : ℕ) (v : Val) (x : ℕ) → Means V live next v x → Both (CellMeans V live next) (address_cells o v) (word_bytes x)
  address_law o v x m = at (o % 4 == 0)
    where
      at : (t : Bool) → Both (CellMeans V live next) (if t then cells_of 4 v else empty_word) (word_bytes x)
      at true = word_cells V ok live next laid v x m
      at false = (tt, (tt, (tt, (tt, tt))))

  init_law : (u o : ℕ) (x : Init) → Names u x
      → Both (CellMeans V live next) (init_cells (named_value g.program.units u) o x) (init_bytes (symbol_address g bs u) x)
  init_law u o (inits.Int8 n) h = bytes_law (n ∷ [])
  init_law u o (inits.Int16 n) h = bytes_law (n / 256 ∷ n % 256 ∷ [])
  init_law u o (inits.Int32 n) h = bytes_law (word_bytes n)
  init_law u o (inits.Bytes xs) h = bytes_law xs
  init_law u o (inits.Space n) h = bytes_law (replicate n 0)
  init_law u o (inits.Addr name offset) h =
      let q = h (reference name offset) refl in
      let key : key_meant g.program.units u name ≡ q.0 = ap (λ z. unwrap_or z 0) q.1 in
      let at : symbol_address g bs u name ≡ key_address bs q.0 = ap (λ z. option_map_or (key_address bs) z 0) q.1 in
      let x = address_plus (key_address bs q.0) offset in
      let l = kinds_long g.program.units in
      let b = resolve_below g.program.units u name q.0 q.1 in
      let again : x ≡ wrapped (x + 0) = omega arith in
      let m = symbol_law V ok live next laid q.0 offset 0 x (omega arith) again in
      subst (λ k. Both (CellMeans V live next) (address_cells o (symbol_value (key_kinds g.program.units) k offset 0))
      (word_bytes (address_plus (symbol_address g bs u name) offset))) (sym key)
      (subst (λ a. Both (CellMeans V live next) (address_cells o (symbol_value (key_kinds g.program.units) q.0 offset 0))
      (word_bytes (address_plus a offset))) (sym at)
      (address_law o (symbol_value (key_kinds g.program.units) q.0 offset 0) x m))

  -- all items, from an offset on
  pub data_law : (u o : ℕ) (xs : List Init) → ((i : ℕ) (x : Init) → slice_get xs i ≡ Some x → Names u x)
      → Both (CellMeans V live next) (cells_from (named_value g.program.units u) o xs) (flat_map (init_bytes (symbol_address g bs u)) xs)
  data_law u o [] h = tt
  data_law u o (x ∷ xs) h =
      both_append (CellMeans V live next) (init_cells (named_value g.program.units u) o x)
      (cells_from (named_value g.program.units u) (o + init_size x) xs)
      (init_bytes (symbol_address g bs u) x) (flat_map (init_bytes (symbol_address g bs u)) xs)
      (init_law u o x (h 0 x refl)) (data_law u (o + init_size x) xs (λ i y e. h (suc i) y e))

-- ---- bytes that are written into the stack

pub set_same : (w : World) (next : ℕ) (xs : List ℕ) (mem : List Segment) (a : ℕ) → a + length xs ≤ 0xfffffff0
    → ((i : ℕ) → i < length xs → Data w (a + i))
    → Same w mem → Same w (set_bytes mem a xs)
set_same w next [] mem a l h s = s
set_same w next (x ∷ xs) mem a l h s =
    let z : a + 0 ≡ a = omega arith in
    let e : wrapped (a + 1) ≡ a + 1 = omega arith in
    let r = set_same w next xs (set_byte mem a x) (a + 1) (omega arith) (λ i k. let q : a + suc i ≡ a + 1 + i = omega arith in
    subst (Data w) q (h (suc i) (omega arith)))
    (same_set w next mem a x (subst (Data w) z (h 0 (omega arith))) s) in
    subst (λ b. Same w (set_bytes (set_byte mem a x) b xs)) (sym e) r

pub set_other : (xs : List ℕ) (mem : List Segment) (a d : ℕ) → a + length xs ≤ 0xfffffff0 → ((i : ℕ) → i < length xs → a + i ≡ d → ⊥)
    → byte_of (set_bytes mem a xs) d ≡ byte_of mem d
set_other [] mem a d l h = refl
set_other (x ∷ xs) mem a d l h =
    let z : a + 0 ≡ a = omega arith in
    let e : wrapped (a + 1) ≡ a + 1 = omega arith in
    let r = set_other xs (set_byte mem a x) (a + 1) d (omega arith) (λ i k q. h (suc i) (omega arith) (omega arith)) in
    ap (λ b. byte_of (set_bytes (set_byte mem a x) b xs) d) e ∙ r ∙ byte_other a x mem d (λ q. h 0 (omega arith) (omega arith))
