-- No byte is lost that a valid call reads: its lists are at most eight, of at most 65,536 bytes each.
use Rattle.std.proofs.Common.{◌≡◌, ℕ, zero, suc, ◌+◌, ◌*◌, ◌<◌, ◌≤◌, Bool, true, false, List, [], ◌∷◌, ◌++◌, length, nat_lt, Option, Some}
use Rattle.std.proofs.Common.{None, refl, ap, sym, ◌∙◌, arith, length-append}
use Rattle.std.proofs.lemmas.Bool.{lt-ltb, ltb-false}
use Rattle.std.proofs.lemmas.List.{append-nil, append_assoc}
use Rattle.image_model.specs.Image.{Segment}
use Rattle.effect_model.specs.Files.{File}
use Rattle.asm_syntax.specs.declared.unit.Sig.{Sig}
use Rattle.asm_syntax.specs.declared.unit.Buffer.{Buffer}
use Rattle.flat_mem.specs.declared.memory.FaultKind.{FaultKind}
use Rattle.flat_mem.specs.declared.memory.FaultKind.TheVariants as faults
use Rattle.flat_mem.specs.Access.{next}
use Rattle.call_bytes.specs.CallLists.{bytes_in, add_last, more}
use Rattle.ppc_machine.specs.Buffers.{buffer_at, buffer_size, buffer_fault, buffers_fault, or_else, bytes_at, reads}
use Rattle.ppc_machine.specs.Kept.{more_bytes, kept_list, kept_lists}

-- ---- lists as they are kept

add_end : (ls : List (List ℕ)) (l : List ℕ) (b : ℕ) → add_last (ls ++ l ∷ []) b ≡ ls ++ (l ++ b ∷ []) ∷ []
add_end [] l b = refl
add_end (m ∷ []) l b = refl
add_end (m ∷ n ∷ ls) l b = ap (λ (x : List (List ℕ)). m ∷ x) (add_end (n ∷ ls) l b)

bytes_end : (ls : List (List ℕ)) (l : List ℕ) → bytes_in (ls ++ l ∷ []) ≡ bytes_in ls + length l
bytes_end [] l = omega arith
bytes_end (m ∷ ls) l = omega (arith, bytes_end ls l)

more_end : (ls : List (List ℕ)) (l : List ℕ) (b : ℕ) → bytes_in ls + length l < 524288
    → more (ls ++ l ∷ []) b ≡ ls ++ (l ++ b ∷ []) ∷ []
more_end ls l b h =
    let some : nat_lt 0 (length (ls ++ l ∷ [])) ≡ true = lt-ltb _ _ (omega (arith, length-append ls (l ∷ []))) in
    let room : nat_lt (bytes_in (ls ++ l ∷ [])) 524288 ≡ true = lt-ltb _ _ (omega (arith, bytes_end ls l)) in
    rw (some, room) (add_end ls l b)

bytes_kept : (ls : List (List ℕ)) (l bs : List ℕ) → bytes_in ls + length l + length bs ≤ 524288
    → more_bytes (ls ++ l ∷ []) bs ≡ ls ++ (l ++ bs) ∷ []
bytes_kept ls l [] h = ap (λ (x : List ℕ). ls ++ x ∷ []) (sym (append-nil l))
bytes_kept ls l (b ∷ bs) h =
    rw (more_end ls l b (omega arith))
    (bytes_kept ls (l ++ b ∷ []) bs (omega (arith, length-append l (b ∷ [])))
    ∙ ap (λ (x : List ℕ). ls ++ x ∷ []) (append_assoc l (b ∷ []) bs))

list_kept : (ls : List (List ℕ)) (bs : List ℕ) → length ls < 8 → bytes_in ls + length bs ≤ 524288
    → kept_list ls bs ≡ ls ++ bs ∷ []
list_kept ls bs few h = let room : nat_lt (length ls) 8 ≡ true = lt-ltb _ _ few in rw room (bytes_kept ls [] bs (omega arith))

lists_kept : (ls bss : List (List ℕ)) → length ls + length bss ≤ 8 → bytes_in ls + bytes_in bss ≤ 524288
    → kept_lists ls bss ≡ ls ++ bss
lists_kept ls [] few h = sym (append-nil ls)
lists_kept ls (bs ∷ bss) few h =
    rw (list_kept ls bs (omega arith) (omega arith))
    (lists_kept (ls ++ bs ∷ []) bss (omega (arith, length-append ls (bs ∷ []))) (omega (arith, bytes_end ls bs))
    ∙ append_assoc ls (bs ∷ []) bss)

-- ---- buffers without a fault

length_bytes : (m : List Segment) (n a : ℕ) → length (bytes_at m a n) ≡ n
length_bytes m zero a = refl
length_bytes m (suc n) a = ap suc (length_bytes m n (next a))

both : (o p : Option FaultKind) → or_else o p ≡ None → (o ≡ None) × (p ≡ None)
both (Some e) p h = cc
both None p h = (refl, h)

small : (m : List Segment) (fills : Bool) (a n : ℕ) → buffer_fault m fills a n ≡ None → n ≤ 65536
small m fills a n h = at (nat_lt 65536 n) refl
  where
    at : (t : Bool) → nat_lt 65536 n ≡ t → n ≤ 65536
    at true e = (let q : Some faults.Buffer ≡ None = rw e at h in cc)
    at false e = ltb-false _ _ e

more_fits : (m : List Segment) (f : File ℕ) (sig : Sig) (b : Buffer) (bs : List Buffer) → buffer_size f sig b ≤ 65536
    → (length (reads m f sig bs) ≤ length bs) × (bytes_in (reads m f sig bs) ≤ 65536 * length bs)
    → (length (reads m f sig (b ∷ bs)) ≤ length (b ∷ bs)) × (bytes_in (reads m f sig (b ∷ bs)) ≤ 65536 * length (b ∷ bs))
more_fits m f sig b bs size rest = at b.fills refl
  where
    at : (t : Bool) → b.fills ≡ t
        → (length (reads m f sig (b ∷ bs)) ≤ length (b ∷ bs)) × (bytes_in (reads m f sig (b ∷ bs)) ≤ 65536 * length (b ∷ bs))
    at true e = rw e (omega (arith, rest.0), omega (arith, rest.1))
    at false e =
        rw e (omega (arith, rest.0), omega (arith, rest.1, size, length_bytes m (buffer_size f sig b) (buffer_at f sig b)))

reads_fit : (m : List Segment) (f : File ℕ) (sig : Sig) (bs : List Buffer) → buffers_fault m f sig bs ≡ None
    → (length (reads m f sig bs) ≤ length bs) × (bytes_in (reads m f sig bs) ≤ 65536 * length bs)
reads_fit m f sig [] h = (omega arith, omega arith)
reads_fit m f sig (b ∷ bs) h =
    let parts = both (buffer_fault m b.fills (buffer_at f sig b) (buffer_size f sig b)) (buffers_fault m f sig bs) h in
    more_fits m f sig b bs (small m b.fills (buffer_at f sig b) (buffer_size f sig b) parts.0) (reads_fit m f sig bs parts.1)

-- the lists that a call without a fault of its buffers reads are kept whole
pub reads_kept : (m : List Segment) (f : File ℕ) (sig : Sig) (bs : List Buffer) → length bs ≤ 8 → buffers_fault m f sig bs ≡ None
    → kept_lists [] (reads m f sig bs) ≡ reads m f sig bs
reads_kept m f sig bs few h =
    let r = reads_fit m f sig bs h in
    lists_kept [] (reads m f sig bs) (omega arith) (omega arith)
