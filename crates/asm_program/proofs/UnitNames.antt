-- The names of the units before one.
use Rattle.std.proofs.Common.{◌≡◌, ℕ, ◌+◌, ◌<◌, Bool, ◌||◌, List, [], ◌∷◌, ◌++◌, length, get_or, map, take, sym, ap, ◌∙◌}
use Rattle.std.specs.Prelude.{not}
use Rattle.std.specs.Str.{bytes_eq}
use Rattle.std.specs.List.{list_any}
use Rattle.std.proofs.lemmas.List.{take_more, map-append}
use Rattle.asm_syntax.specs.declared.unit.Unit.{Unit}
use Rattle.link_model.specs.LinkTests.{is_new_unit}
use Rattle.asm_program.proofs.NameSets.{AreNames, among, one_more}

abbrev pub name : Unit → List ℕ
name u = u.name

-- whether the unit at i is new, by a set of the names before it
pub new_at : (units : List Unit) (i : ℕ) (d : Unit) (set : List (List ℕ)) (n : List ℕ) (r : Bool)
    → d ≡ get_or units i d → n ≡ d.name → AreNames set (map name (take i units)) → r ≡ list_any (bytes_eq n) set
    → is_new_unit units (i, get_or units i d) ≡ not r
new_at units i d set n r is e seen told =
    let named : n ≡ (get_or units i d).name = e ∙ ap name is in
    ap not (
    sym (among name (get_or units i d).name (take i units))
    ∙ (ap (λ m. list_any (bytes_eq m) (map name (take i units))) (sym named)
    ∙ (sym (seen n) ∙ sym told)))

-- the set with its name
pub seen_more : (v : List ℕ) (units : List Unit) (i : ℕ) (d : Unit) (set : List (List ℕ)) (n : List ℕ)
    → i < length units → d ≡ get_or units i d → n ≡ d.name → AreNames set (map name (take i units))
    → (bytes_eq v n || list_any (bytes_eq v) set) ≡ list_any (bytes_eq v) (map name (take (i + 1) units))
seen_more v units i d set n lt is e seen =
    let named : n ≡ (get_or units i d).name = e ∙ ap name is in
    one_more v set (map name (take i units)) n (seen v)
    ∙ (ap (λ n. list_any (bytes_eq v) (map name (take i units) ++ n ∷ [])) named
    ∙ ap (list_any (bytes_eq v)) (sym (ap (map name) (take_more units i d lt) ∙ map-append name (take i units) (get_or units i d ∷ []))))
