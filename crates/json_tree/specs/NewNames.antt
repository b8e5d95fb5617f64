-- Names that must be new. The names that are taken are a set: its members in ascending order of their bytes.
use Rattle.std.specs.Prelude.{ℕ, Bool, List, Result, Ok, fold, if◌then◌else◌}
use Rattle.std.specs.Ordering.{nat_cmp}
use Rattle.std.specs.Cmp.Lexicographic.{slice_cmp}
use Rattle.std.specs.BTreeSet.{insert_key}
use Rattle.std.specs.List.{list_any}
use Rattle.std.specs.Str.{bytes_eq}
use Rattle.serde_json.specs.Data.{Data}
use Rattle.json_tree.specs.declared.fault.Cause.TheVariants.{OutOfRange}
use Rattle.json_tree.specs.declared.fault.Fault.{Fault}
use Rattle.json_tree.specs.Reading.{◌>>=◌, ◌>>◌, fail, name}
use Rattle.json_tree.specs.Arrays.{items, limited, each_from}

unfoldable pub is_taken : List (List ℕ) → List ℕ → Bool
is_taken taken bytes = list_any (bytes_eq bytes) taken

-- the set with one more name
unfoldable pub with_name : List (List ℕ) → List ℕ → List (List ℕ)
with_name taken bytes = insert_key (slice_cmp nat_cmp) taken bytes

unfoldable pub with_names : List (List ℕ) → List (List ℕ) → List (List ℕ)
with_names taken names = fold with_name taken names

unfoldable pub new_name : List (List ℕ) → Data → Result (List ℕ) Fault
new_name taken d = do
  bytes ← name d
  if is_taken taken bytes then fail OutOfRange else Ok bytes

-- each item, where an item is read knowing the names that are taken, and takes one more
abbrev pub each_named : {T : Type 0} → (T → List ℕ) → (List (List ℕ) → Data → Result T Fault) → List (List ℕ) → List Data
    → Result (List T) Fault
each_named name_of read taken ds = each_from (λ left x. with_name left (name_of x)) read taken 0 ds

unfoldable pub named_list : {T : Type 0} → (T → List ℕ) → (List (List ℕ) → Data → Result T Fault) → List (List ℕ) → ℕ → Data
    → Result (List T) Fault
named_list name_of read taken limit d = do
  ds ← items d
  limited limit ds
  each_named name_of read taken ds
