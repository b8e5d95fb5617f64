-- Lent bytes are where the headers and the symbols say.
use Rattle.std.proofs.Common.{◌≡◌, ℕ, inl, inr, suc, ◌+◌, ◌-◌, ◌<◌, ◌≤◌, Bool, true, false, List, [], ◌∷◌, length, map, take, drop, get_or}
use Rattle.std.proofs.Common.{Option, Some, None, refl, arith, sym, ap, subst, ◌++◌, ◌∙◌, length-drop, Bor}
use Rattle.std.specs.Prelude.{if◌then◌else◌, find, not, ◌==◌, slice_get, option_map, Contains, IfSome}
use Rattle.std.specs.List.{prefix_len}
use Rattle.std.specs.Option.{option_map_or}
use Rattle.std.proofs.lemmas.Bool.{cases_lt}
use Rattle.std.proofs.lemmas.Bool.Decides.{nat_tests}
use Rattle.std.proofs.lemmas.List.{take-take, take_all, drop-drop, drop-take, length-take, length-map}
use Rattle.std.proofs.lemmas.List.Sums.{prefix_len-le-length}
use Rattle.std.proofs.lemmas.List.Folds.{length-prefix_len}
use Rattle.std.proofs.lemmas.Option.{slice_get-map, slice_get-get_or, slice_get_within}
use Rattle.ordered_tests.specs.Checks.{first_fault}
use Rattle.ordered_tests.proofs.Faults.{rest_passes}
use Rattle.image_model.specs.Bytes.{part}
use Rattle.image_model.specs.ProgramHeader.{p_offset, p_vaddr, p_filesz, loaded_headers}
use Rattle.image_model.specs.SectionHeader.{sh_offset, sh_size, strtab, section_bytes}
use Rattle.image_model.specs.SymbolTable.{symbol_count, symbol_place, st_name, text_at}
use Rattle.image_model.specs.Image.{Image, Segment, Symbol, segment_at, segments_of, symbol_at, symbols_of, image_of}
use Rattle.image_model.specs.declared.symbol.TheConstants.{NAME_START_BYTES}
use Rattle.image_model.specs.Names.{name_start, name_start_at}
use Rattle.image_model.specs.Loaded.{holds_range, held_bytes}
use Rattle.image_model.specs.Tests.{elf_tests, header_tests, segments_tests, symtab_tests, table_tests, names_tests}
use Rattle.elf_view.specs.Lent.{IsPartOfSegment, IsPartOfTexts, StandsAt, IsPartOfRange}
use Rattle.elf_view.proofs.Facts.{named}
use Rattle.elf_view.proofs.Symbols.{symbol_total, symbol_get}

drop_part : (l : List ℕ) (n off k : ℕ) → n ≡ off + k → drop off (take n l) ≡ take k (drop off l)
drop_part l n off k e = rw e (drop-take off k l)

-- a part of a part
part_of_part : (b : List ℕ) (at n off m : ℕ) → off + m ≤ n → part (part b at n) off m ≡ part b (at + off) m
part_of_part b at n off m h =
    let k = n - off in
    ap (take m) (drop_part (drop at b) n off k (omega arith) ∙ ap (take k) (drop-drop off at b))
    ∙ take-take m k (drop (at + off) b) (omega arith)

length_part : (b : List ℕ) (at n : ℕ) → length (part b at n) ≤ n
length_part b at n = omega (arith, length-take n (drop at b))

image_segments : (b : List ℕ) (v : Image) → v ≡ image_of b → v.segments ≡ segments_of b
unfolding image_of
image_segments b v e = ap (λ (i : Image). i.segments) e

image_symbols : (b : List ℕ) (v : Image) → v ≡ image_of b → v.symbols ≡ symbols_of b
unfolding image_of
image_symbols b v e = ap (λ (i : Image). i.symbols) e

pub segment_part : (v : Image) (i : ℕ) (s : Segment) → slice_get v.segments i ≡ Some s → IsPartOfSegment v i s.held
segment_part v i s h b e =
    let same = image_segments b v e.image in
    let here : slice_get (segments_of b) i ≡ Some s = ap (λ l. slice_get l i) (sym same) ∙ h in
    let within : i < length (loaded_headers b) = omega (
      arith,
      slice_get_within (segments_of b) i s here,
      length-map
          (loaded_headers b) (segment_at b),
    ) in
    let found : slice_get (segments_of b) i ≡ Some (segment_at b (get_or (loaded_headers b) i 0)) =
    slice_get-map (segment_at b) (loaded_headers b) i ∙ ap (option_map (segment_at b)) (slice_get-get_or (loaded_headers b) i 0 within) in
    let both : Some s ≡ Some (segment_at b (get_or (loaded_headers b) i 0)) = sym here ∙ found in
    let one : s ≡ segment_at b (get_or (loaded_headers b) i 0) = cc in
    ap (λ (x : Segment). x.held) one

-- the bytes up to a zero byte are the first of what is left of the table
text_part : (b : List ℕ) (at n off : ℕ) → off ≤ n → text_at (part b at n) off ≡ part b (at + off) (length (text_at (part b at n) off))
text_part b at n off h =
    let l = drop off (part b at n) in
    let k = prefix_len (λ c. not (c == 0)) l in
    let count : length (text_at (part b at n) off) ≡ k = length-prefix_len (λ c. not (c == 0)) l in
    let most : k ≤ length l = prefix_len-le-length (λ c. not (c == 0)) l in
    let size : off + k ≤ n = omega (arith, length-drop off (part b at n), length_part b at n) in
    rw count (part_of_part b at n off k size)

names_pass : (b : List ℕ) → first_fault (elf_tests b) ≡ None → first_fault (names_tests b) ≡ None
unfolding elf_tests
names_pass b h =
    rest_passes (table_tests b) (names_tests b)
    (rest_passes (symtab_tests b) (table_tests b ++ names_tests b)
    (rest_passes (segments_tests b) (symtab_tests b ++ (table_tests b ++ names_tests b))
    (rest_passes (header_tests b) (segments_tests b ++ (symtab_tests b ++ (table_tests b ++ names_tests b))) h)))

pub name_part : (v : Image) (i : ℕ) (s : Symbol) → slice_get v.symbols i ≡ Some s → IsPartOfTexts v i s.name
name_part v i s h b e =
    let same = image_symbols b v e.image in
    let here : slice_get (symbols_of b) i ≡ Some s = ap (λ l. slice_get l i) (sym same) ∙ h in
    let within : i < symbol_count b = omega (arith, slice_get_within (symbols_of b) i s here, symbol_total b) in
    let both : Some s ≡ Some (symbol_at b (symbol_place b i)) = sym here ∙ symbol_get b i within in
    let one : s ≡ symbol_at b (symbol_place b i) = cc in
    let name : s.name ≡ text_at (section_bytes b (strtab b)) (st_name b (symbol_place b i)) = ap (λ (x : Symbol). x.name) one in
    let in_table : st_name b (symbol_place b i) ≤ sh_size b (strtab b) = grind (
      arith,
      nat_tests,
      named b
          (names_pass b e.passes) i within,
    ) in
    rw name (text_part b (sh_offset b (strtab b)) (sh_size b (strtab b)) (st_name b (symbol_place b i)) in_table)

no_symbol : Symbol
no_symbol = record { name = []; value = 0; size = 0; binding = 0; kind = 0; shndx = 0 }

-- the first m of the first ones of a list
start_of_part : (m : ℕ) (l xs : List ℕ) → xs ≡ take (length xs) l → take m xs ≡ take (length (take m xs)) l
start_of_part m l xs h = elim (cases_lt m (length xs)) [
  | inl less ↦ (
      let count : length (take m xs) ≡ m = omega (arith, length-take m xs) in
      rw count (ap (take m) h ∙ take-take m (length xs) l (omega arith))
      )
  | inr most ↦ (let all : take m xs ≡ xs = take_all m xs most in rw all h)
]

pub start_part : (v : Image) (i : ℕ) (start : List ℕ) → start ≡ name_start_at v.symbols i → i < length v.symbols → IsPartOfTexts v i start
start_part v i start h within b e =
    let s = get_or v.symbols i no_symbol in
    let here : slice_get v.symbols i ≡ Some s = slice_get-get_or v.symbols i no_symbol within in
    let is : start ≡ name_start s = h ∙ ap (λ (o : Option Symbol). option_map_or name_start o []) here in
    rw is (start_of_part NAME_START_BYTES (drop (sh_offset b (strtab b) + st_name b (symbol_place b i)) b) s.name
    (name_part v i s here b e))

-- a segment that is found is that of a header that passes
record IsFound (f : ℕ → Segment) (p : Segment → Bool) (xs : List ℕ) (s : Segment) (at : ℕ) : Type 0 where
  header : Contains xs at
  same : s ≡ f at
  passes : p s ≡ true

found_here : (f : ℕ → Segment) (p : Segment → Bool) (x : ℕ) (xs : List ℕ) (s : Segment) → p (f x) ≡ true → Some (f x) ≡ Some s →
    IsFound f p (x ∷ xs) s x
found_here f p x xs s t e =
    let same : s ≡ f x = cc in
    record { header = (0, omega arith, refl); same = same; passes = ap p same ∙ t }

found_behind : (f : ℕ → Segment) (p : Segment → Bool) (x : ℕ) (xs : List ℕ) (s : Segment) (at : ℕ) → IsFound f p xs s at →
    IsFound f p (x ∷ xs) s at
found_behind f p x xs s at r = record { header = (suc r.header.0, omega (arith, r.header.1), r.header.2); same = r.same; passes = r.passes }

found_header : (f : ℕ → Segment) (p : Segment → Bool) (xs : List ℕ) (s : Segment) → find p (map f xs) ≡ Some s →
    (at : ℕ) × IsFound f p xs s at
found_header f p [] s h = absurd (cc)
found_header f p (x ∷ xs) s h =
    (elim (p (f x)) as (λ t. p (f x) ≡ t → (if t then Some (f x) else find p (map f xs)) ≡ Some s → (at : ℕ) × IsFound f p (x ∷ xs) s at) [
      | true ↦ (λ t k. (x, found_here f p x xs s t k))
      | false ↦ (λ t k. let r = found_header f p xs s k in (r.0, found_behind f p x xs s r.0 r.1))
    ]) refl h

stands : (b : List ℕ) (lo hi at : ℕ) (s : Segment) → lo ≤ hi → IsFound (segment_at b) (holds_range lo hi) (loaded_headers b) s at
    → StandsAt b lo hi (part s.held (lo - s.vaddr) (hi - lo)) at
stands b lo hi at s order r =
    let held : s.held ≡ part b (p_offset b at) (p_filesz b at) = ap (λ (x : Segment). x.held) r.same in
    let start : s.vaddr ≡ p_vaddr b at = ap (λ (x : Segment). x.vaddr) r.same in
    let low : s.vaddr ≤ lo = grind (arith, nat_tests, r.passes) in
    let high : hi ≤ s.vaddr + length s.held = grind (arith, nat_tests, r.passes) in
    let most : length s.held ≤ p_filesz b at = rw held (length_part b (p_offset b at) (p_filesz b at)) in
    let inside : lo - p_vaddr b at + (hi - lo) ≤ p_filesz b at = omega arith in
    record {
      header = r.header;
      start = omega arith;
      end = omega arith;
      same = rw (held, start) (part_of_part b (p_offset b at) (p_filesz b at) (lo - p_vaddr b at) (hi - lo) inside);
    }

range_found : (v : Image) (lo hi : ℕ) (bytes : List ℕ) (o : Option Segment) → lo ≤ hi → find (holds_range lo hi) v.segments ≡ o
    → option_map (λ (s : Segment). part s.held (lo - s.vaddr) (hi - lo)) o ≡ Some bytes → IsPartOfRange v lo hi bytes
range_found v lo hi bytes None order f h b e = absurd (cc)
range_found v lo hi bytes (Some s) order f h b e =
    let here : find (holds_range lo hi) (segments_of b) ≡ Some s = ap (find (holds_range lo hi)) (sym (image_segments b v e.image)) ∙ f in
    let r = found_header (segment_at b) (holds_range lo hi) (loaded_headers b) s here in
    let same : part s.held (lo - s.vaddr) (hi - lo) ≡ bytes = cc in
    (r.0, subst (λ (x : List ℕ). StandsAt b lo hi x r.0) same (stands b lo hi r.0 s order r.1))

pub range_part : (v : Image) (lo hi : ℕ) (bytes : List ℕ) → lo ≤ hi → held_bytes v lo hi ≡ Some bytes → IsPartOfRange v lo hi bytes
range_part v lo hi bytes order h = range_found v lo hi bytes (find (holds_range lo hi) v.segments) order refl h

pub lent_range : (v : Image) (lo hi : ℕ) (r : Option (Bor (List ℕ))) → lo ≤ hi →
    option_map (λ (x : Bor (List ℕ)). x.now) r ≡ held_bytes v lo hi
    → IfSome r (λ x. IsPartOfRange v lo hi x.now)
lent_range v lo hi None order h = tt
lent_range v lo hi (Some x) order h = range_part v lo hi x.now order (sym h)
