-- Arrays: of any number of items up to a limit, of a number that is stated, and of a number that the first item chooses.
use Rattle.std.specs.Prelude.{ℕ, ◌+◌, List, [], ◌∷◌, length, Result, Ok, nat_le, ◌==◌, slice_index_or, if◌then◌else◌}
use Rattle.asm_syntax.specs.declared.path.Step.TheVariants.{Index}
use Rattle.serde_json.specs.Data.{Data, null, Items, no_items, item}
use Rattle.serde_json.specs.Find.{as_array}
use Rattle.json_tree.specs.declared.fault.Cause.TheVariants.{OutOfRange, Limit}
use Rattle.json_tree.specs.declared.fault.Fault.{Fault}
use Rattle.json_tree.specs.Reading.{◌>>=◌, ◌>>◌, fail, under, of_kind}

abbrev pub elements : Items → List Data
elements no_items = []
elements (item d ds) = d ∷ elements ds

unfoldable pub items : Data → Result (List Data) Fault
items d = of_kind (as_array d) λ ds. Ok (elements ds)

-- ---- arrays with a limit: the number is tested before any item

unfoldable pub limited : ℕ → List Data → Result (Unit {0}) Fault
limited limit ds = if nat_le (length ds) limit then Ok tt else fail (Limit limit)

-- each item, the first of which is the item number i of its array. An item is read knowing what those before it left
unfoldable pub each_from : {S T : Type 0} → (S → T → S) → (S → Data → Result T Fault) → S → ℕ → List Data → Result (List T) Fault
each_from next read left i [] = Ok []
each_from next read left i (d ∷ ds) = do
  x ← under (Index i) (read left d)
  xs ← each_from next read (next left x) (i + 1) ds
  Ok (x ∷ xs)

-- each item, read by itself
abbrev pub each : {T : Type 0} → (Data → Result T Fault) → List Data → Result (List T) Fault
each read ds = each_from {S = Unit {0}} (λ left x. left) (λ left. read) tt 0 ds

unfoldable pub list : {T : Type 0} → ℕ → (Data → Result T Fault) → Data → Result (List T) Fault
list limit read d = do
  ds ← items d
  limited limit ds
  each read ds

-- ---- arrays with a stated number of items

unfoldable pub counted : ℕ → List Data → Result (Unit {0}) Fault
counted count ds = if length ds == count then Ok tt else fail OutOfRange

-- the array of so many items, of which none chooses the others
unfoldable pub tuple : ℕ → Data → Result (List Data) Fault
tuple count d = do
  ds ← items d
  counted count ds
  Ok ds

-- the item number i, which is there
unfoldable pub nth : {T : Type 0} → ℕ → (Data → Result T Fault) → List Data → Result T Fault
nth i read ds = under (Index i) (read (slice_index_or ds i null))

-- what the first item chooses; it is read before the number of items is tested
unfoldable pub chosen : {T : Type 0} → (Data → Result T Fault) → List Data → Result T Fault
chosen read ds = if length ds == 0 then fail OutOfRange else nth 0 read ds
