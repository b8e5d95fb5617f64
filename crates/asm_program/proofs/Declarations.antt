-- The declarations of units, from the front.
use Rattle.std.proofs.Common.{◌≡◌, ℕ, ◌+◌, ◌<◌, List, ◌++◌, length, get_or, drop, sym, ap, ◌∙◌, append_assoc}
use Rattle.std.specs.List.{flat_map, enumerate_from}
use Rattle.std.proofs.lemmas.List.{drop_more}
use Rattle.asm_syntax.specs.declared.unit.Unit.{Unit}
use Rattle.link_model.specs.Program.{Declaration, unit_declarations}

-- those of the units from the place i on
abbrev pub declarations_from : List Unit → ℕ → List Declaration
declarations_from units i = flat_map (λ (u : ℕ × Unit). unit_declarations u.0 u.1) (enumerate_from i (drop i units))

pub more_units : (units : List Unit) (i : ℕ) (d : Unit) (so_far : List Declaration) → i < length units
    → (so_far ++ unit_declarations i (get_or units i d)) ++ declarations_from units (i + 1) ≡ so_far ++ declarations_from units i
more_units units i d so_far lt =
    append_assoc so_far (unit_declarations i (get_or units i d)) (declarations_from units (i + 1))
    ∙ ap (λ l. so_far ++ flat_map (λ (u : ℕ × Unit). unit_declarations u.0 u.1) (enumerate_from i l)) (sym (drop_more units i d lt))
