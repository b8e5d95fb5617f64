-- A test of all declarations, by the units.
use Rattle.std.proofs.Common.{◌≡◌, ℕ, ◌+◌, Bool, true, false, ◌&&◌, ◌||◌, List, [], ◌∷◌, ◌++◌, map, refl, ap, ◌∙◌}
use Rattle.std.specs.Prelude.{not}
use Rattle.std.specs.List.{list_any, flat_map, enumerate_from}
use Rattle.std.specs.Str.{bytes_eq}
use Rattle.std.proofs.lemmas.List.Folds.{list_any-append}
use Rattle.asm_syntax.specs.declared.instr.Function.{Function}
use Rattle.asm_syntax.specs.declared.unit.Variable.{Variable}
use Rattle.asm_syntax.specs.declared.unit.External.{External}
use Rattle.asm_syntax.specs.declared.unit.Unit.{Unit}
use Rattle.link_model.specs.Program.{OfFunction, OfVariable, OfExternal, Declaration, unit_declarations, declarations}
use Rattle.link_model.specs.Numbers.{is_entry}

abbrev pub is_entry_function : List ℕ → Function → Bool
is_entry_function entry f = not f.is_static && bytes_eq f.name entry

abbrev at_declaration : List ℕ → Declaration → Bool
at_declaration entry d = is_entry entry d.item

in_functions : (entry : List ℕ) (u : ℕ) (fs : List Function)
    → list_any (at_declaration entry) (map (λ f. record { unit = u; item = OfFunction f }) fs) ≡ list_any (is_entry_function entry) fs
in_functions entry u [] = refl
in_functions entry u (f ∷ fs) = ap (λ b. is_entry_function entry f || b) (in_functions entry u fs)

in_variables : (entry : List ℕ) (u : ℕ) (xs : List Variable)
    → list_any (at_declaration entry) (map (λ x. record { unit = u; item = OfVariable x }) xs) ≡ false
in_variables entry u [] = refl
in_variables entry u (x ∷ xs) = in_variables entry u xs

in_externals : (entry : List ℕ) (u : ℕ) (xs : List External)
    → list_any (at_declaration entry) (map (λ x. record { unit = u; item = OfExternal x }) xs) ≡ false
in_externals entry u [] = refl
in_externals entry u (x ∷ xs) = in_externals entry u xs

or_nothing : (a b c : Bool) → b ≡ false → c ≡ false → (a || (b || c)) ≡ a
or_nothing true b c h k = refl
or_nothing false b c h k = rw h k

in_unit : (entry : List ℕ) (u : ℕ) (unit : Unit)
    → list_any (at_declaration entry) (unit_declarations u unit) ≡ list_any (is_entry_function entry) unit.functions
in_unit entry u unit =
    list_any-append (at_declaration entry) (map (λ f. record { unit = u; item = OfFunction f }) unit.functions)
    (map (λ x. record { unit = u; item = OfVariable x }) unit.variables
    ++ map (λ x. record { unit = u; item = OfExternal x }) unit.externals)
    ∙ (ap (λ b. list_any (at_declaration entry) (map (λ f. record { unit = u; item = OfFunction f }) unit.functions) || b)
    (list_any-append (at_declaration entry) (map (λ x. record { unit = u; item = OfVariable x }) unit.variables)
    (map (λ x. record { unit = u; item = OfExternal x }) unit.externals))
    ∙ (or_nothing (list_any (at_declaration entry) (map (λ f. record { unit = u; item = OfFunction f }) unit.functions))
    (list_any (at_declaration entry) (map (λ x. record { unit = u; item = OfVariable x }) unit.variables))
    (list_any (at_declaration entry) (map (λ x. record { unit = u; item = OfExternal x }) unit.externals))
    (in_variables entry u unit.variables) (in_externals entry u unit.externals)
    ∙ in_functions entry u unit.functions))

in_units : (entry : List ℕ) (u : ℕ) (units : List Unit)
    → list_any (at_declaration entry) (flat_map (λ (u : ℕ × Unit). unit_declarations u.0 u.1) (enumerate_from u units))
    ≡ list_any (λ (unit : Unit). list_any (is_entry_function entry) unit.functions) units
in_units entry u [] = refl
in_units entry u (unit ∷ units) =
    list_any-append (at_declaration entry) (unit_declarations u unit)
    (flat_map (λ (u : ℕ × Unit). unit_declarations u.0 u.1) (enumerate_from (u + 1) units))
    ∙ (λ k. in_unit entry u unit k || in_units entry (u + 1) units k)

pub entry_among : (entry : List ℕ) (units : List Unit)
    → list_any (λ d. is_entry entry d.item) (declarations units)
    ≡ list_any (λ (unit : Unit). list_any (is_entry_function entry) unit.functions) units
unfolding declarations
entry_among entry units = in_units entry 0 units
