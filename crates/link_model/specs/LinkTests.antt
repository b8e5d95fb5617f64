-- The tests of linking in their order, each with its fault.
use Rattle.std.specs.Prelude.{◌≡◌, ℕ, ◌+◌, Bool, true, not, ◌&&◌, ◌||◌, nat_le, List, [], ◌∷◌, ◌++◌, map, filter, take, Option, None}
use Rattle.std.specs.List.{list_any, list_all, flat_map, enumerate_from}
use Rattle.std.specs.Option.{option_eq}
use Rattle.std.specs.Str.{bytes_eq}
use Rattle.ordered_tests.specs.Checks.{Check, check, first_fault}
use Rattle.limits.specs.declared.TheConstants.{MOST_PROGRAM_VARIABLE_BYTES}
use Rattle.asm_syntax.specs.declared.unit.Unit.{Unit}
use Rattle.asm_syntax.specs.Sigs.{same_sig}
use Rattle.asm_syntax.specs.Sizes.{variable_size}
use Rattle.asm_shapes.specs.Units.{unit_fits}
use Rattle.link_model.specs.declared.link_error.LinkError.{LinkError}
use Rattle.link_model.specs.declared.link_error.LinkError.TheVariants.{UnitTwice, DefinedTwice, Undeclared, SigDiffers, NoEntry, TooBig}
use Rattle.link_model.specs.Program.{Item, OfVariable, OfExternal, Declaration, Program, name_of, is_global_definition, declarations}
use Rattle.link_model.specs.Program.{names_used, defines, declares, is_key, is_external, joins, keys}
use Rattle.link_model.specs.Numbers.{is_entry}

-- ---- units

-- no earlier unit has the name
abbrev pub is_new_unit : List Unit → ℕ × Unit → Bool
is_new_unit units u = not (list_any (λ (e : Unit). bytes_eq e.name u.1.name) (take u.0 units))

abbrev pub unit_tests : List Unit → List (Check LinkError)
unit_tests units = map (λ (u : ℕ × Unit). check (is_new_unit units u) (UnitTwice u.0)) (enumerate_from 0 units)

-- ---- declarations that have to be alike where they have one name

abbrev pub is_like_earlier : (Item → Item → Bool) → List Declaration → Declaration → Bool
is_like_earlier alike earlier d = list_all (λ e. not (bytes_eq (name_of e) (name_of d)) || alike e.item d.item) earlier

abbrev pub repeat_tests : (Item → Item → Bool) → (Declaration → LinkError) → List Declaration → List (Check LinkError)
repeat_tests alike fault ds =
    map (λ (d : ℕ × Declaration). check (is_like_earlier alike (take d.0 ds) d.1) (fault d.1)) (enumerate_from 0 ds)

abbrev pub definition_tests : List Unit → List (Check LinkError)
definition_tests units = repeat_tests joins (λ d. DefinedTwice d.unit (name_of d)) (filter is_global_definition (declarations units))

-- ---- names that are used

abbrev pub unit_name_tests : ℕ × Unit → List (Check LinkError)
unit_name_tests u = map (λ n. check (defines u.1 n || declares u.1 n) (Undeclared u.0 n)) (names_used u.1)

abbrev pub name_tests : List Unit → List (Check LinkError)
name_tests units = flat_map unit_name_tests (enumerate_from 0 units)

-- ---- signatures

-- two declarations of one external
abbrev pub same_external : Item → Item → Bool
same_external (OfExternal x) (OfExternal y) = option_eq same_sig x.sig y.sig
same_external _ _ = true

abbrev pub sig_tests : List Unit → List (Check LinkError)
sig_tests units =
    repeat_tests same_external (λ d. SigDiffers d.unit (name_of d))
    (filter (λ d. is_external d.item && is_key units d.item) (declarations units))

-- ---- the entry, and the bytes of all variables

abbrev pub entry_test : List Unit → List ℕ → Check LinkError
entry_test units entry = check (list_any (λ d. is_entry entry d.item) (declarations units)) NoEntry

abbrev pub item_size : Item → ℕ
item_size (OfVariable x) = variable_size x.init
item_size _ = 0

-- keys behind variables of so many bytes
abbrev pub size_tests : ℕ → List Declaration → List (Check LinkError)
size_tests before [] = []
size_tests before (d ∷ ds) =
    let total = before + item_size d.item in
    check (nat_le total MOST_PROGRAM_VARIABLE_BYTES) (TooBig d.unit (name_of d)) ∷ size_tests total ds

-- ---- all tests

unfoldable pub link_tests : List Unit → List ℕ → List (Check LinkError)
link_tests units entry =
    unit_tests units
    ++ (definition_tests units
    ++ (name_tests units
    ++ (sig_tests units
    ++ (entry_test units entry ∷ size_tests 0 (keys units)))))

-- units that each pass the tests of units, and together those of linking
pub record IsLinked (p : Program) : Type 0 where
  pub fit : list_all unit_fits p.units ≡ true
  pub passes : (let none : Option LinkError = None in first_fault (link_tests p.units p.entry) ≡ none)
