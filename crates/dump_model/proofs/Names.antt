-- Lists whose items have new names are read back.
use Rattle.std.proofs.Common.{◌≡◌, ℕ, ◌+◌, Bool, true, false, List, [], ◌∷◌, length, map, Result, Ok, refl}
use Rattle.std.specs.Prelude.{not, nat_le}
use Rattle.std.specs.List.{list_all}
use Rattle.std.specs.Str.{bytes_eq}
use Rattle.std.proofs.lemmas.Bool.{and_parts, or_parts}
use Rattle.std.proofs.lemmas.List.{length-map}
use Rattle.serde_json.specs.Data.{Data, string}
use Rattle.asm_syntax.specs.Names.{is_name}
use Rattle.asm_shapes.specs.Units.{is_among, are_distinct, are_apart}
use Rattle.json_tree.specs.declared.fault.Fault.{Fault}
use Rattle.json_tree.specs.Arrays.{limited, each_from}
use Rattle.json_tree.specs.NewNames.{is_taken, with_name, with_names, new_name, named_list}
use Rattle.json_tree.proofs.NameSets.{taken_with}
use Rattle.dump_model.specs.Trees.{list_data}
use Rattle.dump_model.proofs.Numbers.{name_back, items_back}

pub new_name_back : (taken : List (List ℕ)) (bytes : List ℕ) → is_name bytes ≡ true → is_taken taken bytes ≡ false
    → new_name taken (string bytes) ≡ Ok bytes
unfolding new_name
new_name_back taken bytes h free = rw (name_back bytes h, free) refl

not_true : (b : Bool) → not b ≡ true → b ≡ false
not_true true h = cc
not_true false h = refl

-- none of the names is taken
abbrev pub are_free : List (List ℕ) → List (List ℕ) → Bool
are_free taken names = list_all (λ name. not (is_taken taken name)) names

pub free_of_none : (names : List (List ℕ)) → are_free [] names ≡ true
unfolding is_taken
free_of_none [] = refl
free_of_none (name ∷ names) = free_of_none names

free_of_one : (taken : List (List ℕ)) (one : List ℕ) (names : List (List ℕ)) → is_among names one ≡ false
    → are_free taken names ≡ true → are_free (with_name taken one) names ≡ true
free_of_one taken one [] other free = refl
free_of_one taken one (name ∷ names) other free =
    let differ = or_parts (bytes_eq name one) (is_among names one) other in
    let parts = and_parts (not (is_taken taken name)) (are_free taken names) free in
    rw (taken_with taken one name, differ.0, not_true (is_taken taken name) parts.0) (free_of_one taken one names differ.1 parts.1)

pub free_of_others : (taken others names : List (List ℕ)) → are_apart others names ≡ true → are_free taken names ≡ true
    → are_free (with_names taken others) names ≡ true
unfolding with_names
free_of_others taken [] names apart free = free
free_of_others taken (one ∷ others) names apart free =
    let parts = and_parts (not (is_among names one)) (are_apart others names) apart in
    free_of_others (with_name taken one) others names parts.1 (free_of_one taken one names (not_true (is_among names one) parts.0) free)

module _ {T : Type 0} (name_of : T → List ℕ) (read : List (List ℕ) → Data → Result T Fault) (data_of : T → Data) (test : T → Bool)
    (item_back : (taken : List (List ℕ)) (x : T) → test x ≡ true → is_taken taken (name_of x) ≡ false → read taken (data_of x) ≡ Ok x) where
  each_named_back : (taken : List (List ℕ)) (i : ℕ) (xs : List T) → list_all test xs ≡ true → are_distinct (map name_of xs) ≡ true
      → are_free taken (map name_of xs) ≡ true
      → each_from (λ left x. with_name left (name_of x)) read taken i (map data_of xs) ≡ Ok xs
  unfolding each_from
  each_named_back taken i [] all distinct free = refl
  each_named_back taken i (x ∷ xs) all distinct free =
      let tests = and_parts (test x) (list_all test xs) all in
      let differ = and_parts (not (is_among (map name_of xs) (name_of x))) (are_distinct (map name_of xs)) distinct in
      let new = and_parts (not (is_taken taken (name_of x))) (are_free taken (map name_of xs)) free in
      let still = free_of_one taken (name_of x) (map name_of xs) (not_true (is_among (map name_of xs) (name_of x)) differ.0) new.1 in
      rw (
        item_back taken x tests.0 (not_true (is_taken taken (name_of x)) new.0),
        each_named_back (with_name taken (name_of x)) (i + 1) xs tests.1 differ.1 still,
      ) refl

  pub named_list_back : (taken : List (List ℕ)) (limit : ℕ) (xs : List T) → nat_le (length xs) limit ≡ true
      → list_all test xs ≡ true → are_distinct (map name_of xs) ≡ true → are_free taken (map name_of xs) ≡ true
      → named_list name_of read taken limit (list_data data_of xs) ≡ Ok xs
  unfolding named_list limited
  named_list_back taken limit xs few all distinct free =
      rw (items_back (map data_of xs), length-map, few) (each_named_back taken 0 xs all distinct free)
