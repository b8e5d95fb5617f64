-- What the tests of an executable tell of the segments that it loads.
use Rattle.std.proofs.Common.{◌≡◌, ℕ, zero, suc, ◌+◌, ◌-◌, ◌^◌, ◌<◌, ◌≤◌, inl, inr, Bool, true, false, not, ◌&&◌, ◌||◌, nat_lt, nat_le}
use Rattle.std.proofs.Common.{List, [], ◌∷◌, ◌++◌, length, map, drop, None, refl, sym, subst, arith, if◌then◌else◌, cond}
use Rattle.std.specs.Prelude.{◌==◌, filter}
use Rattle.std.specs.List.{range_with_len, list_all}
use Rattle.std.proofs.lemmas.Bool.{and_parts, leb-true, ltb-true, cases_lt, cases_Bool}
use Rattle.std.proofs.lemmas.Bool.Decides.{nat_tests}
use Rattle.std.proofs.lemmas.List.{length-take}
use Rattle.std.proofs.lemmas.List.Elements.{All-take, All-drop}
use Rattle.limits.specs.declared.TheConstants.{MOST_LOADED_BYTES, MOST_PROGRAM_HEADERS}
use Rattle.ordered_tests.specs.Checks.{check, first_fault}
use Rattle.ordered_tests.proofs.Faults.{head_passes, rest_passes, front_passes, number_passes}
use Rattle.image_model.specs.declared.error.ElfError.TheVariants.{Dynamic, SegRange, SegOverlap, Limit}
use Rattle.image_model.specs.Bytes.{AreBytes, lies_in}
use Rattle.image_model.specs.FileHeader.{e_phnum}
use Rattle.ordered_tests.specs.Lists.{EachOf, Pairwise}
use Rattle.image_model.specs.ProgramHeader.{program_header, program_headers, p_offset, p_vaddr, p_filesz, p_memsz, is_load, is_loaded}
use Rattle.image_model.specs.ProgramHeader.{loads_before}
use Rattle.image_model.specs.Image.{Image, Segment, segment_at, image_of}
use Rattle.image_model.specs.Loaded.{HasRange}
use Rattle.image_model.specs.Segments.{AreSeparate, IsLoadable}
use Rattle.image_model.specs.Tests.{IsImage, elf_tests, header_tests, kind_tests, size_tests, ident_tests, place_tests, segments_tests}
use Rattle.image_model.specs.Tests.{numbered_segment_tests, symtab_tests, table_tests, names_tests, has_range, is_dynamic, total_memsz}
use Rattle.image_model.specs.Tests.{are_apart}
use Rattle.image_model.proofs.Loads.{total_more, loaded_total}

-- ---- the tests of one header

headers_hold : (b : List ℕ) → first_fault (elf_tests b) ≡ None → first_fault (header_tests b) ≡ None
unfolding elf_tests
headers_hold b h = front_passes (header_tests b) (segments_tests b ++ (symtab_tests b ++ (table_tests b ++ names_tests b))) h

segments_hold : (b : List ℕ) → first_fault (elf_tests b) ≡ None → first_fault (segments_tests b) ≡ None
unfolding elf_tests
segments_hold b h =
    front_passes (segments_tests b) (symtab_tests b ++ (table_tests b ++ names_tests b))
    (rest_passes (header_tests b) (segments_tests b ++ (symtab_tests b ++ (table_tests b ++ names_tests b))) h)

few_headers : (b : List ℕ) → first_fault (elf_tests b) ≡ None → e_phnum b ≤ MOST_PROGRAM_HEADERS
few_headers b h =
    let kinds : first_fault (kind_tests b) ≡ None =
    front_passes (kind_tests b) (place_tests b)
    (rest_passes (ident_tests b) (kind_tests b ++ place_tests b)
    (rest_passes (size_tests b) (ident_tests b ++ (kind_tests b ++ place_tests b)) (headers_hold b h))) in
    grind (arith, nat_tests, kinds)

record HeaderHolds (b : List ℕ) (i : ℕ) : Type 0 where
  range : has_range b (program_header b i) ≡ true
  total : nat_le (total_memsz b (loads_before b i) + p_memsz b (program_header b i)) MOST_LOADED_BYTES ≡ true
  apart : list_all (are_apart b (program_header b i)) (loads_before b i) ≡ true

header_holds : (b : List ℕ) → first_fault (segments_tests b) ≡ None → (i : ℕ) → i < e_phnum b → is_load b (program_header b i) ≡ true →
    HeaderHolds b i
header_holds b h i lt load = at (is_load b (program_header b i)) load (number_passes (numbered_segment_tests b) (e_phnum b) i h lt)
  where
    at : (x : Bool) → x ≡ true → first_fault (check (not (is_dynamic b (program_header b i))) (Dynamic (program_header b i)) ∷ (if x then
        check (has_range b (program_header b i)) (SegRange (program_header b i))
        ∷ check (nat_le (total_memsz b (loads_before b i) + p_memsz b (program_header b i)) MOST_LOADED_BYTES) (Limit
        (program_header b i) MOST_LOADED_BYTES)
        ∷ check (list_all (are_apart b (program_header b i)) (loads_before b i)) (SegOverlap (program_header b i))
        ∷ [] else [])) ≡ None → HeaderHolds b i
    at false e q = absurd (cc)
    at true e q =
        let a = program_header b i in
        let c0 = check (not (is_dynamic b a)) (Dynamic a) in
        let c1 = check (has_range b a) (SegRange a) in
        let c2 = check (nat_le (total_memsz b (loads_before b i) + p_memsz b a) MOST_LOADED_BYTES) (Limit a MOST_LOADED_BYTES) in
        let c3 = check (list_all (are_apart b a) (loads_before b i)) (SegOverlap a) in
        let r1 = rest_passes (c0 ∷ []) (c1 ∷ c2 ∷ c3 ∷ []) q in
        let r2 = rest_passes (c1 ∷ []) (c2 ∷ c3 ∷ []) r1 in
        let r3 = rest_passes (c2 ∷ []) (c3 ∷ []) r2 in
        record { range = head_passes c1 (c2 ∷ c3 ∷ []) r1; total = head_passes c2 (c3 ∷ []) r2; apart = head_passes c3 [] r3 }

range_of : (b : List ℕ) (at : ℕ) → is_loaded b at ≡ true → has_range b at ≡ true → HasRange (segment_at b at)
range_of b at l h =
    let one = and_parts (nat_le (p_filesz b at) (p_memsz b at) && (p_filesz b at == 0 || lies_in b (p_offset b at) (p_filesz b at)))
    (nat_le (p_vaddr b at + p_memsz b at) (2 ^ 32)) h in
    let two = and_parts (nat_le (p_filesz b at) (p_memsz b at)) (p_filesz b at == 0 || lies_in b (p_offset b at) (p_filesz b at)) one.0 in
    let less = leb-true (p_filesz b at) (p_memsz b at) two.0 in
    let some = ltb-true 0 (p_memsz b at) (and_parts (is_load b at) (nat_lt 0 (p_memsz b at)) l).1 in
    let most = leb-true (p_vaddr b at + p_memsz b at) (2 ^ 32) one.1 in
    record { some = some; held = omega (arith, length-take (p_filesz b at) (drop (p_offset b at) b)); below = most }

-- ---- lists of those that are loaded

-- the places of those among m headers from header i on
abbrev loaded_among : List ℕ → ℕ → ℕ → List ℕ
loaded_among b i m = filter (is_loaded b) (map (program_header b) (range_with_len i m))

each_loaded : (b : List ℕ) (Q : Segment → Type 0) (i m : ℕ) →
    ((k : ℕ) → i ≤ k → k < i + m → is_loaded b (program_header b k) ≡ true → Q (segment_at b (program_header b k))) →
    EachOf Q (map (segment_at b) (loaded_among b i m))
each_loaded b Q i zero h = tt
each_loaded b Q i (suc m) h = at (is_loaded b (program_header b i)) refl (each_loaded b Q (i + 1) m (λ k low high l. h k (omega arith)
    (omega arith) l))
  where
    at : (x : Bool) → is_loaded b (program_header b i) ≡ x → EachOf Q (map (segment_at b) (loaded_among b (i + 1) m)) →
        EachOf Q (map (segment_at b) (cond x (program_header b i ∷ loaded_among b (i + 1) m) (loaded_among b (i + 1) m)))
    at true e k = (h i (omega arith) (omega arith) e, k)
    at false e k = k

pairs_loaded : (b : List ℕ) (R : Segment → Segment → Type 0) (i m : ℕ) →
    ((j k : ℕ) → i ≤ j → j < k → k < i + m → is_loaded b (program_header b j) ≡ true → is_loaded b (program_header b k) ≡ true →
    R (segment_at b (program_header b j)) (segment_at b (program_header b k))) →
    Pairwise R (map (segment_at b) (loaded_among b i m))
pairs_loaded b R i zero h = tt
pairs_loaded b R i (suc m) h =
    at (is_loaded b (program_header b i)) refl (pairs_loaded b R (i + 1) m (λ j k low lt high l n. h j k (omega arith) lt
    (omega arith) l n))
  where
    at : (x : Bool) → is_loaded b (program_header b i) ≡ x → Pairwise R (map (segment_at b) (loaded_among b (i + 1) m)) →
        Pairwise R (map (segment_at b) (cond x (program_header b i ∷ loaded_among b (i + 1) m) (loaded_among b (i + 1) m)))
    at true e k = (
      each_loaded b (R (segment_at b (program_header b i))) (i + 1) m (λ j low high l. h i j (omega arith) (omega arith)
          (omega arith) e l),
      k,
    )
    at false e k = k

-- an earlier load is among those before
abbrev loads_among : List ℕ → ℕ → ℕ → List ℕ
loads_among b i m = filter (is_load b) (map (program_header b) (range_with_len i m))

apart_from : (b : List ℕ) (at i m j : ℕ) → list_all (are_apart b at) (loads_among b i m) ≡ true → i ≤ j → j < i + m →
    is_load b (program_header b j) ≡ true →
    are_apart b at (program_header b j) ≡ true
apart_from b at i zero j h low high l = absurd (omega arith)
apart_from b at i (suc m) j h low high l = elim (cases_lt i j) [
  | inl lt ↦ apart_from b at (i + 1) m j (later (is_load b (program_header b i)) h) (omega arith) (omega arith) l
  | inr le ↦ (let s : i ≡ j = omega arith in here (is_load b (program_header b i)) (subst (λ k. is_load b (program_header b k)
      ≡ true) (sym s) l) s h)
]
  where
    later : (x : Bool) → list_all (are_apart b at) (cond x (program_header b i ∷ loads_among b (i + 1) m) (loads_among b (i + 1) m))
        ≡ true →
        list_all (are_apart b at) (loads_among b (i + 1) m) ≡ true
    later true q = (and_parts (are_apart b at (program_header b i)) _ q).1
    later false q = q

    here : (x : Bool) → x ≡ true → i ≡ j → list_all (are_apart b at) (cond x (program_header b i ∷ loads_among b (i + 1) m)
        (loads_among b (i + 1) m)) ≡ true →
        are_apart b at (program_header b j) ≡ true
    here true e s q = subst (λ k. are_apart b at (program_header b k) ≡ true) s (and_parts (are_apart b at (program_header b i)) _ q).0
    here false e s q = absurd (cc)

few_loaded : (b : List ℕ) (i m : ℕ) → length (map (segment_at b) (loaded_among b i m)) ≤ m
few_loaded b i zero = omega arith
few_loaded b i (suc m) = at (is_loaded b (program_header b i)) (few_loaded b (i + 1) m)
  where
    at : (x : Bool) → length (map (segment_at b) (loaded_among b (i + 1) m)) ≤ m →
        length (map (segment_at b) (cond x (program_header b i ∷ loaded_among b (i + 1) m) (loaded_among b (i + 1) m))) ≤ suc m
    at true h = omega arith
    at false h = omega arith

-- the sizes of the PT_LOAD headers before header i
total_before : (b : List ℕ) → first_fault (segments_tests b) ≡ None → (i : ℕ) → i ≤ e_phnum b →
    total_memsz b (loads_before b i) ≤ MOST_LOADED_BYTES
total_before b h zero le = omega arith
total_before b h (suc i) le =
    let next : suc i ≡ i + 1 = omega arith in
    let before = total_before b h i (omega arith) in
    rw next (rw (total_more b i) (elim (cases_Bool (is_load b (program_header b i))) [
      | inl load ↦ rw load (leb-true _ _ (header_holds b h i (omega arith) load).total)
      | inr other ↦ rw other (omega arith)
    ]))

-- ---- an image

separate_from : (b : List ℕ) (j k : ℕ) → are_apart b (program_header b k) (program_header b j) ≡ true →
    AreSeparate (segment_at b (program_header b j)) (segment_at b (program_header b k))
separate_from b j k h a c d = grind (arith, nat_tests)

loaded_load : (b : List ℕ) (at : ℕ) → is_loaded b at ≡ true → is_load b at ≡ true
loaded_load b at h = (and_parts (is_load b at) (nat_lt 0 (p_memsz b at)) h).0

loadable : (b : List ℕ) → AreBytes b → first_fault (elf_tests b) ≡ None → IsLoadable (image_of b)
unfolding image_of
loadable b bytes h =
    let tests = segments_hold b h in
    let load = λ (k : ℕ) (l : is_loaded b (program_header b k) ≡ true). loaded_load b (program_header b k) l in
    let most = few_loaded b 0 (e_phnum b - 0) in
    let few = few_headers b h in
    let total = total_before b tests (e_phnum b) (omega arith) in
    let less = loaded_total b (program_headers b) in
    record {
      most = omega arith;
      ranges = each_loaded b HasRange 0 (e_phnum b - 0)
          (λ k low high l. range_of b (program_header b k) l (header_holds b tests k (omega arith) (load k l)).range);
      separate = pairs_loaded b AreSeparate 0 (e_phnum b - 0) (λ j k low lt high l n. separate_from b j k
          (apart_from b (program_header b k) 0 (k - 0) j (header_holds b tests k (omega arith) (load k n)).apart (omega arith)
          (omega arith) (load j l)));
      total = omega arith;
      bytes = each_loaded b (λ (s : Segment). AreBytes s.held) 0 (e_phnum b - 0)
          (λ k low high l. All-take (λ n. n < 256) (p_filesz b (program_header b k)) _ (All-drop (λ n. n < 256) (p_offset b
          (program_header b k)) b bytes));
    }

pub image_loadable : (v : Image) → IsImage v → IsLoadable v
image_loadable v (b, e) = subst IsLoadable (sym e.image) (loadable b e.bytes e.passes)
