-- What the bytes of a file answer.
use Rattle.std.specs.Prelude.{ℕ, List, Option, Some, None, Result, Ok, Err}
use Rattle.serde_json.specs.Data.{Data}
use Rattle.asm_syntax.specs.declared.path.Step.{Step}
use Rattle.asm_syntax.specs.declared.unit.Unit.{Unit}
use Rattle.asm_syntax.specs.declared.unit.Reply.{Reply}
use Rattle.json_tree.specs.declared.fault.Cause.{Cause}
use Rattle.json_tree.specs.declared.fault.Cause.TheVariants as causes
use Rattle.json_tree.specs.declared.fault.Fault.{Fault}
use Rattle.json_tree.specs.Profile.{tree_of}
use Rattle.dump_reader.specs.declared.error.DumpError.{DumpError}
use Rattle.dump_reader.specs.declared.error.DumpError.TheVariants.{NotJson, Missing, WrongKind, OutOfRange, UnknownWord, Version, Shape}
use Rattle.dump_reader.specs.declared.error.DumpError.TheVariants.{Refused, Limit, Memory}
use Rattle.dump_reader.specs.UnitTree.{unit}
use Rattle.dump_reader.specs.ReplyTree.{replies}

-- ---- what is due

-- what is wrong with the bytes: they have no tree, or their tree has a fault
pub data Refusal : Type 0 where
  NoTree : Refusal
  At : Fault → Refusal

abbrev pub placed : {T : Type 0} → Result T Fault → Result T Refusal
placed (Ok x) = Ok x
placed (Err fault) = Err (At fault)

-- what a grammar gives for the tree of a text, if it has one
abbrev pub file_of : {T : Type 0} → (Data → Result T Fault) → Option Data → Result T Refusal
file_of grammar None = Err NoTree
file_of grammar (Some d) = placed (grammar d)

abbrev pub unit_file : List ℕ → Result Unit Refusal
unit_file bytes = file_of unit (tree_of bytes)

abbrev pub replies_file : List ℕ → Result (List Reply) Refusal
replies_file bytes = file_of replies (tree_of bytes)

-- ---- what an error tells

abbrev pub tree_fault : Cause → List Step → Option Refusal
tree_fault cause path = Some (At (record { cause = cause; path = path }))

-- nothing where there was no memory
abbrev pub told : DumpError → Option Refusal
told NotJson = Some NoTree
told (Missing path) = tree_fault causes.Missing path
told (WrongKind path) = tree_fault causes.WrongKind path
told (OutOfRange path) = tree_fault causes.OutOfRange path
told (UnknownWord path) = tree_fault causes.UnknownWord path
told (Version path) = tree_fault causes.Version path
told (Shape path e) = tree_fault (causes.Shape e) path
told (Refused path) = tree_fault causes.Refused path
told (Limit path limit) = tree_fault (causes.Limit limit) path
told Memory = None

abbrev pub number_of : DumpError → ℕ
number_of NotJson = 1
number_of (Missing path) = 2
number_of (WrongKind path) = 3
number_of (OutOfRange path) = 4
number_of (UnknownWord path) = 5
number_of (Version path) = 6
number_of (Shape path e) = 7
number_of (Refused path) = 8
number_of (Limit path limit) = 9
number_of Memory = 10
