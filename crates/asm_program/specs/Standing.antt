-- Which declarations are keys, by sets of names.
use Rattle.std.specs.Prelude.{ℕ, Bool, true, not, ◌&&◌, List}
use Rattle.std.specs.List.{list_any}
use Rattle.std.specs.Str.{bytes_eq}
use Rattle.asm_syntax.specs.declared.unit.Unit.{Unit}
use Rattle.link_model.specs.Program.{Item, OfExternal, Declaration, names_used, defines, declares}

-- a unit refers to the external that it declares under this name
abbrev pub uses_external : List ℕ → Unit → Bool
uses_external n unit = list_any (λ m. bytes_eq m n) (names_used unit) && declares unit n && not (defines unit n)

-- by the names of global definitions and of externals that are referred to
abbrev pub is_key_by : List (List ℕ) → List (List ℕ) → Item → Bool
is_key_by defined referred (OfExternal x) = not (list_any (bytes_eq x.name) defined) && list_any (bytes_eq x.name) referred
is_key_by defined referred _ = true

abbrev pub stands_by : List (List ℕ) → List (List ℕ) → Declaration → Bool
stands_by defined referred d = is_key_by defined referred d.item
