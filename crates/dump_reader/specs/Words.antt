-- Tables that have words of which some are refused: known to the compiler, but of no meaning in a unit.
use Rattle.std.specs.Prelude.{ℕ, List, Option, Some, None, Result, Ok}
use Rattle.serde_json.specs.Data.{Data}
use Rattle.json_tree.specs.declared.fault.Cause.TheVariants.{Refused}
use Rattle.json_tree.specs.declared.fault.Fault.{Fault}
use Rattle.json_tree.specs.Reading.{◌>>=◌, fail, word_of}

abbrev pub if_allowed : {T : Type 0} → Option T → Result T Fault
if_allowed None = fail Refused
if_allowed (Some x) = Ok x

-- a text of a table, in which a refused word stands with nothing
unfoldable pub allowed_word : {T : Type 0} → List (List ℕ × Option T) → Data → Result T Fault
allowed_word table d = do
  meaning ← word_of table d
  if_allowed meaning
