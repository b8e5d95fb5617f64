-- One section header more.
use Rattle.std.proofs.Common.{◌≡◌, ◌≢◌, ℕ, ◌+◌, ◌<◌, ◌≤◌, true, false, List, [], ◌∷◌, map, filter, arith, ap, ◌∙◌}
use Rattle.std.specs.Prelude.{if◌then◌else◌}
use Rattle.std.proofs.lemmas.Bool.Decides.{nat_tests}
use Rattle.ordered_tests.proofs.Faults.{from_to_step, from_to_end}
use Rattle.image_model.specs.FileHeader.{e_shnum}
use Rattle.image_model.specs.SectionHeader.{section_header, sh_type, is_symtab}
use Rattle.elf_view.specs.Left.{symtabs_from}

symtabs_step : (b : List ℕ) (i : ℕ) → i < e_shnum b → symtabs_from b i
    ≡ (if is_symtab b (section_header b i) then section_header b i ∷ symtabs_from b (i + 1) else symtabs_from b (i + 1))
symtabs_step b i h = ap (λ l. filter (is_symtab b) (map (section_header b) l)) (from_to_step i (e_shnum b) h)

pub symtabs_pass : (b : List ℕ) (i : ℕ) → i < e_shnum b → sh_type b (section_header b i) ≢ 2 → symtabs_from b i ≡ symtabs_from b (i + 1)
symtabs_pass b i h t =
    let no : is_symtab b (section_header b i) ≡ false = grind (arith, nat_tests, t) in symtabs_step b i h ∙ rw no

pub symtabs_find : (b : List ℕ) (i : ℕ) → i < e_shnum b → sh_type b (section_header b i) ≡ 2
    → symtabs_from b i ≡ section_header b i ∷ symtabs_from b (i + 1)
symtabs_find b i h t =
    let yes : is_symtab b (section_header b i) ≡ true = grind (arith, nat_tests, t) in symtabs_step b i h ∙ rw yes

pub symtabs_end : (b : List ℕ) (i : ℕ) → e_shnum b ≤ i → symtabs_from b i ≡ []
symtabs_end b i h = ap (λ l. filter (is_symtab b) (map (section_header b) l)) (from_to_end i (e_shnum b) h)
