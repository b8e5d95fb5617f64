-- What an error of a layout tells.
use Rattle.std.specs.Prelude.{ℕ, Option, Some, None, Result}
use Rattle.ordered_tests.specs.Answers as answers
use Rattle.json_tree.specs.declared.fault.Cause.TheVariants as causes
use Rattle.layout_file.specs.declared.error.LayoutError.{LayoutError}
use Rattle.layout_file.specs.declared.error.LayoutError.TheVariants.{NotJson, Missing, WrongKind, OutOfRange, UnknownWord, Version}
use Rattle.layout_file.specs.declared.error.LayoutError.TheVariants.{RangeOrder, RangeMeets, Unaligned, Memory, Limit}
use Rattle.layout_file.specs.LayoutFile.{Refusal, NoTree, At, Meet}

-- each error tells one refusal, want of memory none
abbrev pub told : LayoutError → Option Refusal
told NotJson = Some NoTree
told (Missing path) = Some (At (record { cause = causes.Missing; path = path }))
told (WrongKind path) = Some (At (record { cause = causes.WrongKind; path = path }))
told (OutOfRange path) = Some (At (record { cause = causes.OutOfRange; path = path }))
told (UnknownWord path) = Some (At (record { cause = causes.UnknownWord; path = path }))
told (Version path) = Some (At (record { cause = causes.Version; path = path }))
told (RangeOrder path) = Some (At (record { cause = causes.RangeOrder; path = path }))
told (RangeMeets earlier later) = Some (Meet earlier later)
told (Unaligned path) = Some (At (record { cause = causes.Unaligned; path = path }))
told Memory = None
told (Limit path limit) = Some (At (record { cause = causes.Limit limit; path = path }))

abbrev pub Answers : {T : Type 0} → Result T LayoutError → Result T Refusal → Type 0
Answers answer due = answers.Answers told answer due

-- how an error is numbered in print
abbrev pub number_of : LayoutError → ℕ
number_of NotJson = 1
number_of (Missing path) = 2
number_of (WrongKind path) = 3
number_of (OutOfRange path) = 4
number_of (UnknownWord path) = 5
number_of (Version path) = 6
number_of (RangeOrder path) = 7
number_of (RangeMeets earlier later) = 8
number_of (Unaligned path) = 9
number_of Memory = 10
number_of (Limit path limit) = 11
