-- Bytes of blocks, one more at a time.
use Rattle.std.proofs.Common.{◌≡◌, ℕ, zero, suc, ◌+◌, ◌-◌, ◌<◌, ◌≤◌, Bool, true, false, List, [], ◌∷◌, ◌++◌, length, drop, slice_index_or}
use Rattle.std.proofs.Common.{Option, Some, None, refl, ap, sym, ◌∙◌, arith, if◌then◌else◌}
use Rattle.std.specs.Prelude.{◌&&◌, ◌==◌, IsTrue, unwrap_or, nat_le, is_some, is_none, find, slice_get}
use Rattle.std.specs.Option.{option_map_or}
use Rattle.std.specs.List.{list_all}
use Rattle.std.proofs.lemmas.List.{drop_more, length-append}
use Rattle.std.proofs.lemmas.Bool.{and_parts, le-leb, leb-true, leb-false, lt-ltb}
use Rattle.limits.specs.declared.TheConstants.{MOST_BUFFER_BYTES}
use Rattle.call_bytes.specs.CallLists.{add_last, has_room as has_room_lists}
use Rattle.effect_model.specs.Files.{File}
use Rattle.asm_syntax.specs.declared.unit.Sig.{Sig}
use Rattle.asm_syntax.specs.declared.unit.Buffer.{Buffer}
use Rattle.asm_mem.specs.declared.value.Val.{Val}
use Rattle.asm_mem.specs.declared.value.Val.TheVariants.{Int, Ptr}
use Rattle.asm_mem.specs.Comparison.{is_valid}
use Rattle.asm_mem.specs.Cells.{byte_in}
use Rattle.asm_mem.specs.Blocks.{Live, byte_at, cell, has, room}
use Rattle.asm_step.specs.Calls.{are_bytes, buffer_at, buffer_fits, buffer_size, bytes_in, fits_size, has_room, is_room, read_at, reads}
use Rattle.asm_step.specs.Bytes.{are_bytes_at, bytes_at, is_short, read_one}

bytes_step : (live : List Live) (b o n i : ℕ) → i < n
    → are_bytes_at live b (o + i) (n - i) ≡ (is_some (byte_at live b (o + i)) && are_bytes_at live b (o + (i + 1)) (n - (i + 1)))
bytes_step live b o n i h =
    let more : n - i ≡ suc (n - (i + 1)) = omega arith in
    let next : o + (i + 1) ≡ o + i + 1 = omega arith in
    rw (more, next) refl

-- where the block is found
found_bytes : (k : Live) (live : List Live) (b o n : ℕ) → find (has b) live ≡ Some k → are_bytes_at live b o n ≡ are_bytes k o n
found_bytes k live b o zero e = refl
found_bytes k live b o (suc n) e =
    let here : byte_at live b o ≡ byte_in (cell k o) = rw e refl in
    rw (here, found_bytes k live b (o + 1) n e) refl

some_of : {A : Type 0} → (o : Option A) → is_none o ≡ false → is_some o ≡ true
some_of None h = cc
some_of (Some x) h = refl

pub next_byte : (live : List Live) (b o n i a : ℕ) → i < n → a ≡ o + i → is_none (byte_at live b a) ≡ false
    → are_bytes_at live b (o + i) (n - i) ≡ are_bytes_at live b (o + (i + 1)) (n - (i + 1))
next_byte live b o n i a h e f =
    let s : is_some (byte_at live b (o + i)) ≡ true = rw (← e) (some_of (byte_at live b a) f) in
    bytes_step live b o n i h ∙ (rw s refl)

pub absent_register : (xs : List ℕ) (i d : ℕ) → slice_get xs i ≡ None → d ≡ slice_index_or xs i d
absent_register [] i d h = refl
absent_register (x ∷ xs) zero d h = cc
absent_register (x ∷ xs) (suc i) d h = absent_register xs i d h

none_some : {A : Type 0} (x : A) → None ≡ Some x → ⊥
none_some x h = cc

-- a block with room for bytes that are read
pub room_reads : (live : List Live) (b n o size : ℕ) (w fills : Bool) → room live b ≡ Some (size, w) → o + n ≤ size → fills ≡ false
    → are_bytes_at live b o n ≡ option_map_or (has_room fills n o) (find (has b) live) false
room_reads live b n o size w fills r l f = at (find (has b) live) refl
  where
    at : (k : Option Live) → find (has b) live ≡ k → are_bytes_at live b o n ≡ option_map_or (has_room fills n o) k false
    at None e = absurd (none_some (size, w) (rw e at r))
    at (Some k) e =
        let q : Some (length k.cells, k.writable) ≡ Some (size, w) = rw e at r in
        let s : length k.cells ≡ size = ap (λ (x : Option (ℕ × Bool)). option_map_or (λ (y : ℕ × Bool). y.0) x 0) q in
        rw (f, le-leb (o + n) (length k.cells) (omega arith)) (found_bytes k live b o n e)

-- ---- lists of bytes

bytes_more : (live : List Live) (b o i : ℕ) → bytes_at live b o (suc i) ≡ bytes_at live b o i ++ unwrap_or (byte_at live b (o + i)) 0 ∷ []
bytes_more live b o zero = let e : o + 0 ≡ o = omega arith in rw e refl
bytes_more live b o (suc i) =
    let e : o + 1 + i ≡ o + suc i = omega arith in
    ap (λ (xs : List ℕ). unwrap_or (byte_at live b o) 0 ∷ xs)
    (bytes_more live b (o + 1) i ∙ ap (λ (n : ℕ). bytes_at live b (o + 1) i ++ unwrap_or (byte_at live b n) 0 ∷ []) e)

pub bytes_length : (live : List Live) (b o n : ℕ) → length (bytes_at live b o n) ≡ n
bytes_length live b o zero = refl
bytes_length live b o (suc n) = ap suc (bytes_length live b (o + 1) n)

room_last : (ls : List (List ℕ)) (v : List ℕ) → list_all is_short ls ≡ true → length v < MOST_BUFFER_BYTES
    → has_room_lists (ls ++ v ∷ []) ≡ true
room_last [] v h l = lt-ltb (length v) MOST_BUFFER_BYTES l
room_last (x ∷ []) v h l =
    let p = and_parts (is_short x) true h in
    rw (p.0, lt-ltb (length v) MOST_BUFFER_BYTES l) refl
room_last (x ∷ y ∷ ls) v h l =
    let p = and_parts (is_short x) (list_all is_short (y ∷ ls)) h in
    rw (p.0, room_last (y ∷ ls) v p.1 l) refl

add_last_at : (ls : List (List ℕ)) (v : List ℕ) (x : ℕ) → add_last (ls ++ v ∷ []) x ≡ ls ++ (v ++ x ∷ []) ∷ []
add_last_at [] v x = refl
add_last_at (y ∷ []) v x = refl
add_last_at (y ∷ z ∷ ls) v x = ap (λ (l : List (List ℕ)). y ∷ l) (add_last_at (z ∷ ls) v x)

-- a byte more of the list that is read
pub read_more : (ls new : List (List ℕ)) (live : List Live) (b o i a : ℕ) (x : ℕ) → list_all is_short ls ≡ true → i < MOST_BUFFER_BYTES
    → a ≡ o + i → x ≡ unwrap_or (byte_at live b a) 0
    → (IsTrue (has_room_lists (ls ++ bytes_at live b o i ∷ [])) → new ≡ add_last (ls ++ bytes_at live b o i ∷ []) x)
    → new ≡ ls ++ bytes_at live b o (i + 1) ∷ []
read_more ls new live b o i a x short l e is put =
    let v = bytes_at live b o i in
    let room : has_room_lists (ls ++ v ∷ []) ≡ true = room_last ls v short (omega (arith, bytes_length live b o i)) in
    let more : v ++ x ∷ [] ≡ bytes_at live b o (suc i) =
    ap (λ (y : ℕ). v ++ y ∷ []) (is ∙ ap (λ (n : ℕ). unwrap_or (byte_at live b n) 0) e) ∙ sym (bytes_more live b o i) in
    let one : suc i ≡ i + 1 = omega arith in
    put room ∙ add_last_at ls v x ∙ ap (λ (y : List ℕ). ls ++ y ∷ []) (more ∙ ap (λ (n : ℕ). bytes_at live b o n) one)

found_in : (k : Live) (live : List Live) (b o n : ℕ) → find (has b) live ≡ Some k → bytes_at live b o n ≡ bytes_in k o n
found_in k live b o zero e = refl
found_in k live b o (suc n) e =
    let here : byte_at live b o ≡ byte_in (cell k o) = rw e refl in
    rw (here, found_in k live b (o + 1) n e) refl

pub live_reads : (live : List Live) (b o n : ℕ) → is_valid live b 0 ≡ true → bytes_at live b o n ≡ read_at live (Ptr b o) (Int n)
live_reads live b o n h = at (find (has b) live) refl
  where
    at : (k : Option Live) → find (has b) live ≡ k → bytes_at live b o n ≡ option_map_or (λ (j : Live). bytes_in j o n) k []
    at None e = let q : false ≡ true = rw e at h in cc
    at (Some k) e = found_in k live b o n e

pub dead_reads : (live : List Live) (b o n : ℕ) → is_valid live b 0 ≡ false → [] ≡ read_at live (Ptr b o) (Int n)
dead_reads live b o n h = at (find (has b) live) refl
  where
    at : (k : Option Live) → find (has b) live ≡ k → [] ≡ option_map_or (λ (j : Live). bytes_in j o n) k []
    at None e = refl
    at (Some k) e = let q : nat_le 0 (length k.cells) ≡ false = rw e at h in let z = leb-false 0 (length k.cells) q in absurd (omega arith)

pub short_size : (live : List Live) (fills : Bool) (at : Val) (n : ℕ) → fits_size live fills at (Int n) ≡ true → n ≤ MOST_BUFFER_BYTES
short_size live fills at n h =
    leb-true n MOST_BUFFER_BYTES (and_parts (nat_le n MOST_BUFFER_BYTES) (if n == 0 then true else is_room live fills n at) h).0

-- ---- buffers that are read, one after another

append_one : {A : Type 0} (xs : List A) (x : A) (ys : List A) → (xs ++ x ∷ []) ++ ys ≡ xs ++ (x ∷ ys)
append_one [] x ys = refl
append_one (z ∷ xs) x ys = ap (λ l. z ∷ l) (append_one xs x ys)

append_none : {A : Type 0} (xs ys : List A) → (xs ++ []) ++ ys ≡ xs ++ ys
append_none [] ys = refl
append_none (z ∷ xs) ys = ap (λ l. z ∷ l) (append_none xs ys)

module _ (live : List Live) (f : File Val) (sig : Sig) where
  one_then : (b : Buffer) (bs : List Buffer) (ls : List (List ℕ)) → (ls ++ read_one live f sig b) ++ reads live f sig bs ≡ ls
      ++ reads live f sig (b ∷ bs)
  one_then b bs ls = at b.fills
    where
      at : (t : Bool)
          → (ls ++ (if t then [] else read_at live (buffer_at f sig b) (buffer_size f sig b) ∷ [])) ++ reads live f sig bs
          ≡ ls ++ (if t then reads live f sig bs else read_at live (buffer_at f sig b) (buffer_size f sig b) ∷ reads live f sig bs)
      at true = append_none ls (reads live f sig bs)
      at false = append_one ls (read_at live (buffer_at f sig b) (buffer_size f sig b)) (reads live f sig bs)

  reads_step : (bs : List Buffer) (i : ℕ) (d : Buffer) (ls new all : List (List ℕ)) → i < length bs
      → new ≡ ls ++ read_one live f sig (slice_index_or bs i d) → ls ++ reads live f sig (drop i bs) ≡ all
      → new ++ reads live f sig (drop (i + 1) bs) ≡ all
  reads_step bs i d ls new all h e w =
      ap (λ (l : List (List ℕ)). l ++ reads live f sig (drop (i + 1) bs)) e
      ∙ one_then (slice_index_or bs i d) (drop (i + 1) bs) ls
      ∙ ap (λ (l : List Buffer). ls ++ reads live f sig l) (sym (drop_more bs i d h))
      ∙ w

  fits_parts : (bs : List Buffer) (i : ℕ) (d : Buffer) → i < length bs → list_all (buffer_fits live f sig) (drop i bs) ≡ true
      → (buffer_fits live f sig (slice_index_or bs i d) ≡ true) × (list_all (buffer_fits live f sig) (drop (i + 1) bs) ≡ true)
  fits_parts bs i d h a =
      let q : list_all (buffer_fits live f sig) (slice_index_or bs i d ∷ drop (i + 1) bs) ≡ true =
      ap (λ (l : List Buffer). list_all (buffer_fits live f sig) l) (sym (drop_more bs i d h)) ∙ a in
      and_parts (buffer_fits live f sig (slice_index_or bs i d)) (list_all (buffer_fits live f sig) (drop (i + 1) bs)) q

  fits_first : (bs : List Buffer) (i : ℕ) (d : Buffer) → i < length bs → list_all (buffer_fits live f sig) (drop i bs) ≡ true
      → buffer_fits live f sig (slice_index_or bs i d) ≡ true
  fits_first bs i d h a = (fits_parts bs i d h a).0

  fits_rest : (bs : List Buffer) (i : ℕ) (d : Buffer) → i < length bs → list_all (buffer_fits live f sig) (drop i bs) ≡ true
      → list_all (buffer_fits live f sig) (drop (i + 1) bs) ≡ true
  fits_rest bs i d h a = (fits_parts bs i d h a).1

  short_in : (k : Live) (o n : ℕ) → length (bytes_in k o n) ≡ n
  short_in k o zero = refl
  short_in k o (suc n) = ap suc (short_in k (o + 1) n)

  short_read : (at size : Val) (fills : Bool) → fits_size live fills at size ≡ true → is_short (read_at live at size) ≡ true
  short_read (Ptr b o) (Int n) fills h = found (find (has b) live)
    where
      found : (k : Option Live) → is_short (option_map_or (λ (j : Live). bytes_in j o n) k []) ≡ true
      found None = refl
      found (Some k) = let l = short_size live fills (Ptr b o) n h in
          le-leb (length (bytes_in k o n)) MOST_BUFFER_BYTES (omega (arith, short_in k o n))
  short_read _ _ fills h = refl

  all_append : (ls ms : List (List ℕ)) → list_all is_short ls ≡ true → list_all is_short ms ≡ true → list_all is_short (ls ++ ms) ≡ true
  all_append [] ms a b = b
  all_append (x ∷ ls) ms a b =
      let p = and_parts (is_short x) (list_all is_short ls) a in
      rw (p.0, all_append ls ms p.1 b) refl

  still_short : (b : Buffer) (ls : List (List ℕ)) → buffer_fits live f sig b ≡ true → list_all is_short ls ≡ true
      → list_all is_short (ls ++ read_one live f sig b) ≡ true
  still_short b ls h a = all_append ls (read_one live f sig b) a (one b.fills refl)
    where
      one : (t : Bool) → b.fills ≡ t → list_all is_short (if t then [] else read_at live (buffer_at f sig b) (buffer_size f sig b) ∷ [])
          ≡ true
      one true e = refl
      one false e = rw (short_read (buffer_at f sig b) (buffer_size f sig b) b.fills h) refl

  one_more : (b : Buffer) (ls : List (List ℕ)) → length (ls ++ read_one live f sig b) ≤ length ls + 1
  one_more b ls = at b.fills
    where
      at : (t : Bool) → length (ls ++ (if t then [] else read_at live (buffer_at f sig b) (buffer_size f sig b) ∷ [])) ≤ length ls + 1
      at true = let none : List (List ℕ) = [] in omega (arith, length-append ls none)
      at false = omega (arith, length-append ls (read_at live (buffer_at f sig b) (buffer_size f sig b) ∷ []))

  -- what holds behind one buffer more
  pub record Behind (bs : List Buffer) (i : ℕ) (new all : List (List ℕ)) : Type 0 where
    pub count : length new ≤ i + 1
    pub short : list_all is_short new ≡ true
    pub fits : list_all (buffer_fits live f sig) (drop (i + 1) bs) ≡ true
    pub work : new ++ reads live f sig (drop (i + 1) bs) ≡ all

  pub behind : (bs : List Buffer) (i : ℕ) (d : Buffer) (ls new all : List (List ℕ)) → i < length bs
      → new ≡ ls ++ read_one live f sig (slice_index_or bs i d) → length ls ≤ i → list_all is_short ls ≡ true
      → list_all (buffer_fits live f sig) (drop i bs) ≡ true → ls ++ reads live f sig (drop i bs) ≡ all → Behind bs i new all
  behind bs i d ls new all h e n s a w =
      let b = slice_index_or bs i d in
      record {
        count = rw e (omega (arith, one_more b ls));
        short = rw e (still_short b ls (fits_first bs i d h a) s);
        fits = fits_rest bs i d h a;
        work = reads_step bs i d ls new all h e w;
      }
