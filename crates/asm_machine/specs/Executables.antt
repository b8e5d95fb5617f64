-- What the assembly machine reads of a linked program: code with the keys of its symbols, and by key what it is and how it is called.
use Rattle.std.specs.Prelude.{ℕ, List, [], ◌∷◌, length, map, flat_map, Option, None, unwrap_or}
use Rattle.std.specs.List.{enumerate_from}
use Rattle.std.specs.Option.{option_map_or}
use Rattle.asm_syntax.specs.declared.instr.Function.{Function}
use Rattle.asm_syntax.specs.declared.instr.Instr.{Instr}
use Rattle.asm_syntax.specs.declared.unit.Sig.{Sig}
use Rattle.asm_syntax.specs.declared.unit.Unit.{Unit}
use Rattle.asm_syntax.specs.Instructions.{instr_symbol}
use Rattle.asm_syntax.specs.References.{Reference}
use Rattle.link_model.specs.declared.key.KeyKind.{KeyKind}
use Rattle.link_model.specs.Numbers.{item_kind, variables}
use Rattle.link_model.specs.Program.{Declaration, Item, OfFunction, OfExternal, Program, keys, resolve}
use Rattle.asm_step.specs.LinkedCode.{Linked, Routine}

-- the key that a name means in unit u, 0 where it means none
abbrev pub key_meant : List Unit → ℕ → List ℕ → ℕ
key_meant units u n = unwrap_or (resolve units u n) 0

-- the key of the symbol that an instruction of unit u names, 0 where it names none
abbrev pub key_named : List Unit → ℕ → Instr → ℕ
key_named units u x = option_map_or (λ (r : Reference). key_meant units u r.name) (instr_symbol x) 0

abbrev pub routine_of : List Unit → ℕ → Function → Routine
routine_of units u f = record { code = f.code; keys = map (key_named units u) f.code }

abbrev pub item_routines : List Unit → ℕ → Item → List Routine
item_routines units u (OfFunction f) = routine_of units u f ∷ []
item_routines units u _ = []

-- the functions in the order of their numbers
unfoldable pub routines : List Unit → List Routine
routines units = flat_map (λ (d : Declaration). item_routines units d.unit d.item) (keys units)

abbrev pub key_kind : List Unit → ℕ × Declaration → KeyKind
key_kind units k = item_kind units k.0 k.1.item

-- by key what it is
unfoldable pub key_kinds : List Unit → List KeyKind
key_kinds units = map (key_kind units) (enumerate_from 0 (keys units))

abbrev pub item_sig : Item → Option Sig
item_sig (OfExternal x) = x.sig
item_sig _ = None

-- by key how it is called, where it is an external with a signature
unfoldable pub sigs : List Unit → List (Option Sig)
sigs units = map (λ (d : Declaration). item_sig d.item) (keys units)

abbrev pub linked : Program → Linked
linked p = record {
  routines = routines p.units;
  kinds = key_kinds p.units;
  sigs = sigs p.units;
  variables = length (variables p.units);
}
