-- One PT_LOAD header more.
use Rattle.std.proofs.Common.{◌≡◌, ℕ, ◌+◌, ◌-◌, ◌≤◌, Bool, true, false, List, [], ◌∷◌, ◌++◌, map, filter, refl, arith, ap, ◌∙◌, cond}
use Rattle.std.specs.Prelude.{◌&&◌, nat_lt, if◌then◌else◌}
use Rattle.std.specs.List.{sum_by}
use Rattle.std.proofs.lemmas.List.FromFn.{filter_of_map_range_with_len_more}
use Rattle.std.proofs.lemmas.List.Sums.{sum_by-append, sum_by-cons}
use Rattle.image_model.specs.ProgramHeader.{is_load, is_loaded, loads_before, program_header, p_memsz}
use Rattle.image_model.specs.Image.{Segment, segment_at}
use Rattle.image_model.specs.Tests.{total_memsz}

total_of_one : (b : List ℕ) (h : ℕ) (t : Bool) → total_memsz b (if t then h ∷ [] else []) ≡ (if t then p_memsz b h else 0)
total_of_one b h t = elim t as (λ t. total_memsz b (if t then h ∷ [] else [])
    ≡ (if t then p_memsz b h else 0)) [ true ↦ omega arith | false ↦ refl ]

loads_more : (b : List ℕ) (i : ℕ) → loads_before b (i + 1) ≡ loads_before b i ++ (if is_load b
    (program_header b i) then program_header b i ∷ [] else [])
loads_more b i =
    let next : i + 1 - 0 ≡ i + 1 = omega arith in
    let now : i - 0 ≡ i = omega arith in
    rw (next, now) (filter_of_map_range_with_len_more (is_load b) (program_header b) 0 i i (omega arith))

pub total_more : (b : List ℕ) (i : ℕ) → total_memsz b (loads_before b (i + 1))
    ≡ total_memsz b (loads_before b i) + (if is_load b (program_header b i) then p_memsz b (program_header b i) else 0)
total_more b i =
    ap (total_memsz b) (loads_more b i)
    ∙ sum_by-append (p_memsz b) (loads_before b i) (if is_load b (program_header b i) then program_header b i ∷ [] else [])
    ∙ ap (λ n. total_memsz b (loads_before b i) + n) (total_of_one b (program_header b i) (is_load b (program_header b i)))

-- the segments that are loaded have no more bytes than all PT_LOAD headers
pub loaded_total : (b : List ℕ) (xs : List ℕ) → sum_by (λ (s : Segment). s.memsz) (map (segment_at b) (filter
    (is_loaded b) xs)) ≤ total_memsz b (filter (is_load b) xs)
loaded_total b [] = omega arith
loaded_total b (x ∷ xs) = at (is_load b x) (nat_lt 0 (p_memsz b x)) (loaded_total b xs)
  where
    at : (l s : Bool) → sum_by (λ (s : Segment). s.memsz) (map (segment_at b) (filter (is_loaded b) xs)) ≤ total_memsz b (filter
        (is_load b) xs) →
        sum_by (λ (s : Segment). s.memsz) (map (segment_at b) (cond (l && s) (x ∷ filter (is_loaded b) xs) (filter (is_loaded b) xs)))
        ≤ total_memsz b (cond l (x ∷ filter (is_load b) xs) (filter (is_load b) xs))
    at true true h =
        rw (
          sum_by-cons (λ (s : Segment). s.memsz) (segment_at b x) (map (segment_at b) (filter (is_loaded b) xs)),
          sum_by-cons
              (p_memsz b) x (filter (is_load b) xs),
        ) (omega arith)
    at true false h = rw (sum_by-cons (p_memsz b) x (filter (is_load b) xs)) (omega arith)
    at false s h = h
