-- What the lists that linking makes are seen as.
use Rattle.std.specs.Prelude.{ℕ, List, map}
use Rattle.link_model.specs.Program.{Item as Kind, OfFunction, OfVariable, OfExternal, Declaration}
use Rattle.asm_program.specs.declared.codes.CodedName.{CodedName}
use Rattle.asm_program.specs.declared.declared.Item.{Item}
use Rattle.asm_program.specs.declared.declared.Item.TheVariants.{Function, Variable, External}
use Rattle.asm_program.specs.declared.declared.Declared.{Declared}

abbrev pub item_seen : Item → Kind
item_seen (Function f) = OfFunction f.now
item_seen (Variable x) = OfVariable x.now
item_seen (External x) = OfExternal x.now

abbrev pub declaration_seen : Declared → Declaration
declaration_seen d = record { unit = d.unit; item = item_seen d.item }

abbrev pub named : List (CodedName × Declared) → List (List ℕ × Declaration)
named entries = map (λ (e : CodedName × Declared). (e.0.name.now, declaration_seen e.1)) entries
