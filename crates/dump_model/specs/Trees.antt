-- Trees of numbers, lists and objects.
use Rattle.std.specs.Prelude.{ℕ, ℤ, List, map, fold}
use Rattle.serde_json.specs.Data.{Data, number, array, object, unsigned, Members, no_members, put}
use Rattle.serde_json.specs.Find.{of_integer}
use Rattle.serde_json.specs.View.{items_of}

abbrev pub unsigned_data : ℕ → Data
unsigned_data n = number (unsigned n)

abbrev pub signed_data : ℤ → Data
signed_data z = number (of_integer z)

abbrev pub array_of : List Data → Data
array_of ds = array (items_of ds)

-- the array of the trees of a list's items
abbrev pub list_data : {T : Type 0} → (T → Data) → List T → Data
list_data data_of xs = array_of (map data_of xs)

-- the members that a list of keys and values makes
abbrev pub members_with : List (List ℕ × Data) → Members
members_with pairs = fold (λ ms pair. put pair.0 pair.1 ms) no_members pairs

-- the object with these members, each at its key
abbrev pub object_of : List (List ℕ × Data) → Data
object_of pairs = object (members_with pairs)
