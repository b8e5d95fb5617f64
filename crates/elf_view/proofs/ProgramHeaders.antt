-- One program header more.
use Rattle.std.proofs.Common.{◌≡◌, ℕ, ◌+◌, ◌<◌, true, false, List, ◌∷◌, map, filter, refl, ap, ◌∙◌}
use Rattle.std.specs.Prelude.{◌&&◌, ◌||◌, not, if◌then◌else◌}
use Rattle.std.specs.List.{list_all}
use Rattle.ordered_tests.specs.Checks.{from_to}
use Rattle.ordered_tests.proofs.Faults.{from_to_step}
use Rattle.image_model.specs.ProgramHeader.{is_load, program_header}
use Rattle.image_model.specs.Tests.{are_apart}

-- the PT_LOAD headers from j on and before i
abbrev pub loads_between : List ℕ → ℕ → ℕ → List ℕ
loads_between b j i = filter (is_load b) (map (program_header b) (from_to j i))

pub apart_step : (b : List ℕ) (at j i : ℕ) → j < i → list_all (are_apart b at) (loads_between b j i)
    ≡ ((not (is_load b (program_header b j)) || are_apart b at (program_header b j)) && list_all (are_apart b at) (loads_between b
    (j + 1) i))
apart_step b at j i h =
    ap (λ l. list_all (are_apart b at) (filter (is_load b) (map (program_header b) l))) (from_to_step j i h)
    ∙ (elim (is_load b (program_header b j)) as (λ t. list_all (are_apart b at) (if t then program_header b j ∷ loads_between b
    (j + 1) i else loads_between b (j + 1) i)
    ≡ ((not t || are_apart b at (program_header b j)) && list_all (are_apart b at) (loads_between b
    (j + 1) i))) [ true ↦ refl | false ↦ refl ])
