-- One segment more, and what of a segment lies in the file.
use Rattle.std.proofs.Common.{◌≡◌, ◌≢◌, ℕ, ◌+◌, ◌<◌, ◌≤◌, true, false, List, [], ◌∷◌, map, filter, drop, refl, arith, ap, length, ◌∙◌}
use Rattle.std.specs.Prelude.{if◌then◌else◌}
use Rattle.std.proofs.lemmas.Bool.Decides.{nat_tests}
use Rattle.std.proofs.lemmas.List.{length-take}
use Rattle.image_model.specs.Bytes.{part}
use Rattle.image_model.specs.Loaded.{HasRange}
use Rattle.image_model.specs.Tests.{has_range}
use Rattle.ordered_tests.specs.Checks.{from_to}
use Rattle.ordered_tests.proofs.Faults.{from_to_step, from_to_end}
use Rattle.image_model.specs.FileHeader.{e_phnum}
use Rattle.image_model.specs.ProgramHeader.{program_header, p_offset, p_filesz, p_memsz, is_load, is_loaded}
use Rattle.image_model.specs.Image.{segment_at, segments_of}
use Rattle.elf_view.specs.Facts.{IsReadable}
use Rattle.elf_view.specs.Left.{segments_from}

segments_step : (b : List ℕ) (i : ℕ) → i < e_phnum b → segments_from b i
    ≡ map (segment_at b) (if is_loaded b (program_header b i) then program_header b i ∷ filter (is_loaded b) (map (program_header b)
    (from_to (i + 1) (e_phnum b)))
    else filter (is_loaded b) (map (program_header b) (from_to (i + 1) (e_phnum b))))
unfolding segments_from
segments_step b i h = ap (λ l. map (segment_at b) (filter (is_loaded b) (map (program_header b) l))) (from_to_step i (e_phnum b) h)

pub segments_pass : (b : List ℕ) (i : ℕ) → i < e_phnum b → is_loaded b (program_header b i) ≡ false →
    segments_from b i ≡ segments_from b (i + 1)
unfolding segments_from
segments_pass b i h t = segments_step b i h ∙ rw t

pub segments_find : (b : List ℕ) (i : ℕ) → i < e_phnum b → is_loaded b (program_header b i) ≡ true
    → segments_from b i ≡ segment_at b (program_header b i) ∷ segments_from b (i + 1)
unfolding segments_from
segments_find b i h t = segments_step b i h ∙ rw t

pub segments_start : (b : List ℕ) → segments_from b 0 ≡ segments_of b
unfolding segments_from
segments_start b = refl

pub segments_end : (b : List ℕ) (i : ℕ) → e_phnum b ≤ i → segments_from b i ≡ []
unfolding segments_from
segments_end b i h = ap (λ l. map (segment_at b) (filter (is_loaded b) (map (program_header b) l))) (from_to_end i (e_phnum b) h)

-- what the file holds of a segment lies in it
pub held_lies : (b : List ℕ) (i : ℕ) → IsReadable b → i < e_phnum b → is_load b (program_header b i) ≡ true →
    0 < p_filesz b (program_header b i)
    → p_offset b (program_header b i) + p_filesz b (program_header b i) ≤ length b
held_lies b i r h t some = grind (arith, nat_tests, r.ranges i h t)

pub range_holds : (b : List ℕ) (i : ℕ) → IsReadable b → i < e_phnum b → is_load b (program_header b i) ≡ true →
    p_memsz b (program_header b i) ≢ 0
    → HasRange (segment_at b (program_header b i))
range_holds b i r h t some =
    let at = program_header b i in
    let all : has_range b at ≡ true = r.ranges i h t in
    let held : length (part b (p_offset b at) (p_filesz b at)) ≤ p_filesz b at = omega (
      arith,
      length-take (p_filesz b at) (drop
          (p_offset b at) b),
    ) in
    record {
      some = omega arith;
      held = grind (arith, nat_tests, all, held);
      below = grind (arith, nat_tests, all);
    }
