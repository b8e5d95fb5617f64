-- What a change of one byte does to each look-up in flat memory.
use Rattle.std.proofs.Common.{◌≡◌, ℕ, zero, suc, ◌+◌, ◌-◌, ◌<◌, ◌≤◌, Bool, true, false, ◌&&◌, nat_lt, nat_le, List, [], ◌∷◌, length}
use Rattle.std.proofs.Common.{slice_index, Option, Some, None, refl, sym, ap, ap₂, ◌∙◌, subst, arith, if◌then◌else◌, get_or-set_other}
use Rattle.std.proofs.Common.{get_or-set_same, length-set}
use Rattle.std.specs.Prelude.{find, slice_get, slice_set, is_some, option_map}
use Rattle.std.specs.Option.{option_map_or}
use Rattle.std.proofs.lemmas.Bool.{and_parts, and_from, leb-true, ltb-true, ltb-false}
use Rattle.image_model.specs.Image.{Segment}
use Rattle.image_model.specs.Loaded.{covers, segment_byte, is_writable, is_executable}
use Rattle.isa_model.specs.Word.{wrapped}
use Rattle.flat_mem.specs.Memory.{byte_of, flags_in, is_mapped, may_write, may_run, each_from, written, set_byte}
use Rattle.flat_mem.specs.Access.{word_of, word, next}
use Rattle.flat_mem.proofs.ImageLaw.{plain_byte}
use Rattle.machine_model.specs.Worlds.{World}
use Rattle.machine_model.specs.Relation.{IsFull, Same}
use Rattle.ordered_tests.specs.Lists.{EachOf}

-- of a segment that is found
abbrev byte_or : Option Segment → ℕ → ℕ
byte_or o a = option_map_or (λ n. n) (option_map (λ (s : Segment). segment_byte s (a - s.vaddr)) o) 0

abbrev flags_or : Option Segment → Option ℕ
flags_or o = option_map (λ (s : Segment). s.flags) o

module _ (a x : ℕ) where
  same_range : (s : Segment) (d : ℕ) → covers d (written s a x) ≡ covers d s
  same_range s d = at (is_writable s.flags)
    where
      at : (t : Bool) → covers d (if t then record s { held = slice_set s.held (a - s.vaddr) x } else s) ≡ covers d s
      at true = refl
      at false = refl

  same_flags : (s : Segment) → (written s a x).flags ≡ s.flags
  same_flags s = at (is_writable s.flags)
    where
      at : (t : Bool) → (if t then record s { held = slice_set s.held (a - s.vaddr) x } else s).flags ≡ s.flags
      at true = refl
      at false = refl

  -- the list after a change at its head, or address_after it
  abbrev split : Bool → Segment → List Segment → List Segment → List Segment
  split t s rest changed = if t then written s a x ∷ rest else s ∷ changed

  pub flags_set : (m : List Segment) (d : ℕ) → flags_in (set_byte m a x) d ≡ flags_in m d
  flags_set [] d = refl
  flags_set (s ∷ rest) d = at (flags_set rest d) (covers a s)
    where
      at : flags_or (find (covers d) (set_byte rest a x)) ≡ flags_or (find (covers d) rest) → (t : Bool)
          → flags_or (find (covers d) (split t s rest (set_byte rest a x))) ≡ flags_or (find (covers d) (s ∷ rest))
      at h true = ap (λ t. flags_or (if t then Some (written s a x) else find (covers d) rest)) (same_range s d) ∙ here (covers d s)
        where
          here : (t : Bool)
              → flags_or (if t then Some (written s a x) else find (covers d) rest) ≡ flags_or (if t then Some s else find (covers d) rest)
          here true = ap Some (same_flags s)
          here false = refl
      at h false = here (covers d s)
        where
          here : (t : Bool)
              → flags_or (if t then Some s else find (covers d) (set_byte rest a x)) ≡ flags_or (if t then Some s else find (covers d) rest)
          here true = refl
          here false = h

  full_one : (s : Segment) → IsFull s → IsFull (written s a x)
  full_one s f = at (is_writable s.flags) f
    where
      at : (t : Bool) → IsFull s → IsFull (if t then record s { held = slice_set s.held (a - s.vaddr) x } else s)
      at true g h = length-set s.held (a - s.vaddr) x ∙ g h
      at false g h = g h

  pub full_set : (m : List Segment) → EachOf IsFull m → EachOf IsFull (set_byte m a x)
  full_set [] h = tt
  full_set (s ∷ rest) h = at (full_set rest h.1) (covers a s)
    where
      at : EachOf IsFull (set_byte rest a x) → (t : Bool) → EachOf IsFull (split t s rest (set_byte rest a x))
      at r true = (full_one s h.0, h.1)
      at r false = (h.0, r)

  written_same : (s : Segment) → covers a s ≡ true → is_writable s.flags ≡ true → IsFull s → segment_byte (written s a x) (a - s.vaddr) ≡ x
  written_same s c wr f =
      let p = and_parts (nat_le s.vaddr a) (nat_lt a (s.vaddr + s.memsz)) c in
      let p0 = leb-true s.vaddr a p.0 in
      let p1 = ltb-true a (s.vaddr + s.memsz) p.1 in
      let l = f wr in
      plain_byte (written s a x) (a - s.vaddr)
      ∙ ap (λ t. slice_index (if t then record s { held = slice_set s.held (a - s.vaddr) x } else s).held (a - s.vaddr)) wr
      ∙ get_or-set_same s.held (a - s.vaddr) x 0 (omega arith)

  vaddr_same : (s : Segment) → (written s a x).vaddr ≡ s.vaddr
  vaddr_same s = at (is_writable s.flags)
    where
      at : (t : Bool) → (if t then record s { held = slice_set s.held (a - s.vaddr) x } else s).vaddr ≡ s.vaddr
      at true = refl
      at false = refl

  pub byte_same : (m : List Segment) → EachOf IsFull m → may_write m a ≡ true → byte_of (set_byte m a x) a ≡ x
  byte_same [] f h = cc
  byte_same (s ∷ rest) f h = at (byte_same rest f.1) (covers a s) refl
    where
      at : (may_write rest a ≡ true → byte_of (set_byte rest a x) a ≡ x) → (t : Bool) → covers a s ≡ t
          → byte_of (split t s rest (set_byte rest a x)) a ≡ x
      at r true e =
          let wr : is_writable s.flags ≡ true = rw e at h in
          rw (same_range s a ∙ e) (ap (λ v. segment_byte (written s a x) (a - v)) (vaddr_same s) ∙ written_same s e wr f.0)
      at r false e = let q : may_write rest a ≡ true = rw e at h in rw e (r q)

  written_other : (s : Segment) (d : ℕ) → covers a s ≡ true → covers d s ≡ true → (a ≡ d → ⊥)
      → segment_byte (written s a x) (d - (written s a x).vaddr) ≡ segment_byte s (d - s.vaddr)
  written_other s d c e n =
      let p = leb-true s.vaddr a (and_parts (nat_le s.vaddr a) (nat_lt a (s.vaddr + s.memsz)) c).0 in
      let q = leb-true s.vaddr d (and_parts (nat_le s.vaddr d) (nat_lt d (s.vaddr + s.memsz)) e).0 in
      ap (λ v. segment_byte (written s a x) (d - v)) (vaddr_same s) ∙ plain_byte (written s a x) (d - s.vaddr)
      ∙ at (is_writable s.flags) (λ z. n (omega arith)) ∙ sym (plain_byte s (d - s.vaddr))
    where
      at : (t : Bool) → (d - s.vaddr ≡ a - s.vaddr → ⊥)
          → slice_index (if t then record s { held = slice_set s.held (a - s.vaddr) x } else s).held (d - s.vaddr)
          ≡ slice_index s.held (d - s.vaddr)
      at true z = get_or-set_other s.held (a - s.vaddr) (d - s.vaddr) x 0 z
      at false z = refl

  pub byte_other : (m : List Segment) (d : ℕ) → (a ≡ d → ⊥) → byte_of (set_byte m a x) d ≡ byte_of m d
  byte_other [] d h = refl
  byte_other (s ∷ rest) d h = at (byte_other rest d h) (covers a s) refl
    where
      at : byte_of (set_byte rest a x) d ≡ byte_of rest d → (t : Bool) → covers a s ≡ t
          → byte_of (split t s rest (set_byte rest a x)) d ≡ byte_of (s ∷ rest) d
      at r true e = ap (λ t. byte_or (if t then Some (written s a x) else find (covers d) rest) d) (same_range s d) ∙ here (covers d s) refl
        where
          here : (t : Bool) → covers d s ≡ t
              → byte_or (if t then Some (written s a x) else find (covers d) rest) d
              ≡ byte_or (if t then Some s else find (covers d) rest) d
          here true f = written_other s d e f h
          here false f = refl
      at r false e = here (covers d s)
        where
          here : (t : Bool)
              → byte_or (if t then Some s else find (covers d) (set_byte rest a x)) d
              ≡ byte_or (if t then Some s else find (covers d) rest) d
          here true = refl
          here false = r

-- ---- what does not change

pub same_mapped : (w : World) (mem : List Segment) → Same w mem → (a : ℕ) → is_mapped mem a ≡ is_mapped w.memory a
same_mapped w mem s a = ap (λ f. is_some f) (s.flags a)

pub same_write : (w : World) (mem : List Segment) → Same w mem → (a : ℕ) → may_write mem a ≡ may_write w.memory a
same_write w mem s a = ap (λ f. option_map_or is_writable f false) (s.flags a)

pub same_run : (w : World) (mem : List Segment) → Same w mem → (a : ℕ) → may_run mem a ≡ may_run w.memory a
same_run w mem s a = ap (λ f. option_map_or is_executable f false) (s.flags a)

-- ---- several addresses

pub each_law : (p : ℕ → Bool) (n a : ℕ) → a + n ≤ 0xfffffff0 → ((i : ℕ) → i < n → p (a + i) ≡ true) → each_from p n a ≡ true
each_law p zero a l h = refl
each_law p (suc n) a l h =
    let z : a + 0 ≡ a = omega arith in
    let h0 : p a ≡ true = subst (λ b. p b ≡ true) z (h 0 (omega arith)) in
    let e : wrapped (a + 1) ≡ a + 1 = omega arith in
    let r = each_law p n (a + 1) (omega arith) (λ i k. let q : a + suc i ≡ a + 1 + i = omega arith in
    subst (λ b. p b ≡ true) q (h (suc i) (omega arith))) in
    and_from (p a) _ h0 (subst (λ b. each_from p n b ≡ true) (sym e) r)

-- the word at an address, where its bytes are as they were
pub word_law : (m n : List Segment) (a : ℕ) → a + 4 ≤ 0xfffffff0 → ((i : ℕ) → i < 4 → byte_of m (a + i) ≡ byte_of n (a + i))
    → word_of m a ≡ word_of n a
word_law m n a l h =
    let z : a + 0 ≡ a = omega arith in
    let b0 : byte_of m a ≡ byte_of n a = subst (λ b. byte_of m b ≡ byte_of n b) z (h 0 (omega arith)) in
    let e1 : next a ≡ a + 1 = omega arith in
    let e2 : next (next a) ≡ a + 2 = omega arith in
    let e3 : next (next (next a)) ≡ a + 3 = omega arith in
    let b1 : byte_of m (next a) ≡ byte_of n (next a) = subst (λ b. byte_of m b ≡ byte_of n b) (sym e1) (h 1 (omega arith)) in
    let b2 : byte_of m (next (next a)) ≡ byte_of n (next (next a)) = subst (λ b. byte_of m b ≡ byte_of n b) (sym e2) (h 2 (omega arith)) in
    let b3 : byte_of m (next (next (next a))) ≡ byte_of n (next (next (next a))) =
    subst (λ b. byte_of m b ≡ byte_of n b) (sym e3) (h 3 (omega arith)) in
    ap (λ x. word x (byte_of m (next a)) (byte_of m (next (next a))) (byte_of m (next (next (next a))))) b0
    ∙ ap (λ x. word (byte_of n a) x (byte_of m (next (next a))) (byte_of m (next (next (next a))))) b1
    ∙ ap (λ x. word (byte_of n a) (byte_of n (next a)) x (byte_of m (next (next (next a))))) b2
    ∙ ap (λ x. word (byte_of n a) (byte_of n (next a)) (byte_of n (next (next a))) x) b3
