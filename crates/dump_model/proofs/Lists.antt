-- Lists that are written are read back, where each item is.
use Rattle.std.proofs.Common.{◌≡◌, ℕ, ◌+◌, Bool, true, false, List, [], ◌∷◌, length, map, Result, Ok, refl}
use Rattle.std.specs.Prelude.{◌&&◌, ◌==◌, nat_le}
use Rattle.std.specs.List.{list_all}
use Rattle.std.proofs.lemmas.Bool.{and_parts}
use Rattle.std.proofs.lemmas.Bool.Decides.{nat_tests}
use Rattle.std.proofs.Common.{arith}
use Rattle.std.proofs.lemmas.List.{length-map}
use Rattle.serde_json.specs.Data.{Data}
use Rattle.limits.specs.declared.TheConstants.{MOST_LABELS}
use Rattle.json_tree.specs.declared.fault.Fault.{Fault}
use Rattle.json_tree.specs.Arrays.{limited, each_from, list}
use Rattle.json_tree.specs.Numbers.{unsigned32}
use Rattle.dump_reader.specs.Operands.{labels}
use Rattle.dump_model.specs.Trees.{unsigned_data, list_data}
use Rattle.dump_model.specs.Types.{is_u32}
use Rattle.dump_model.proofs.Numbers.{items_back, unsigned32_back}

module _ {T : Type 0} (read : Data → Result T Fault) (data_of : T → Data) (test : T → Bool)
    (item_back : (x : T) → test x ≡ true → read (data_of x) ≡ Ok x) where
  each_back : (i : ℕ) (xs : List T) → list_all test xs ≡ true
      → each_from {S = Unit {0}} (λ left x. left) (λ left. read) tt i (map data_of xs) ≡ Ok xs
  unfolding each_from
  each_back i [] h = refl
  each_back i (x ∷ xs) h =
      let parts = and_parts (test x) (list_all test xs) h in rw (item_back x parts.0, each_back (i + 1) xs parts.1) refl

  pub list_back : (limit : ℕ) (xs : List T) → nat_le (length xs) limit ≡ true → list_all test xs ≡ true
      → list limit read (list_data data_of xs) ≡ Ok xs
  unfolding list limited
  list_back limit xs few all = rw (items_back (map data_of xs), length-map, few) (each_back 0 xs all)

pub labels_back : (ls : List ℕ) → (nat_le 1 (length ls) && nat_le (length ls) MOST_LABELS) ≡ true → list_all is_u32 ls ≡ true
    → labels (list_data unsigned_data ls) ≡ Ok ls
unfolding labels
labels_back ls count all =
    let parts = and_parts (nat_le 1 (length ls)) (nat_le (length ls) MOST_LABELS) count in
    let some : (length ls == 0) ≡ false = grind (arith, nat_tests) in
    rw (items_back (map unsigned_data ls), length-map, some)
    (list_back unsigned32 unsigned_data is_u32 unsigned32_back MOST_LABELS ls parts.1 all)
