-- Sets of names.
use Rattle.std.proofs.Common.{◌≡◌, ℕ, Bool, true, false, List, [], ◌∷◌, ◌++◌, map, refl, ap}
use Rattle.std.specs.Prelude.{◌||◌, String, string_bytes}
use Rattle.std.specs.declared.alloc.Global.{Global}
use Rattle.std.specs.declared.cmp.Ordering.{Ordering}
use Rattle.std.specs.declared.cmp.Ordering.TheVariants.{Less, Equal, Greater}
use Rattle.std.specs.Ordering.{nat_cmp, is_eq, match_ordering}
use Rattle.std.specs.Cmp.Lexicographic.{slice_cmp}
use Rattle.std.specs.BTreeSet.{insert_key}
use Rattle.std.specs.List.{list_any}
use Rattle.std.specs.String.{string_cmp}
use Rattle.std.specs.Str.{bytes_eq}
use Rattle.std.proofs.lemmas.List.{map_push}
use Rattle.std.proofs.lemmas.List.Sums.{fold-append}
use Rattle.std.proofs.lemmas.Map.Text.{is_eq-slice_cmp}
use Rattle.std.proofs.lemmas.Map.Lookups.{exact_bytes}
use Rattle.json_tree.specs.NewNames.{is_taken, with_name, with_names}

pub with_names_none : (taken : List (List ℕ)) → taken ≡ with_names taken []
unfolding with_names
with_names_none taken = refl

pub with_names_more : {T : Type 0} (taken : List (List ℕ)) (name_of : T → List ℕ) (xs : List T) (x : T)
    → with_name (with_names taken (map name_of xs)) (name_of x) ≡ with_names taken (map name_of (xs ++ x ∷ []))
unfolding with_names
with_names_more taken name_of xs x = rw (map_push, fold-append) refl

pub map_insert : (texts : List (String Global)) (text : String Global)
    → map string_bytes (insert_key string_cmp texts text) ≡ with_name (map string_bytes texts) (string_bytes text)
unfolding with_name
map_insert [] text = refl
map_insert (t ∷ texts) text = at (slice_cmp nat_cmp (string_bytes text) (string_bytes t)) (map_insert texts text) where
  at : (o : Ordering) → map string_bytes (insert_key string_cmp texts text) ≡ insert_key (slice_cmp nat_cmp) (map string_bytes texts)
      (string_bytes text) → map string_bytes (match_ordering o (text ∷ t ∷ texts) (t ∷ texts)
      (t ∷ insert_key string_cmp texts text)) ≡ match_ordering o (string_bytes text ∷ map string_bytes (t ∷ texts))
      (map string_bytes (t ∷ texts)) (string_bytes t ∷ insert_key (slice_cmp nat_cmp) (map string_bytes texts) (string_bytes text))
  at Less rest = refl
  at Equal rest = refl
  at Greater rest = ap (λ (names : List (List ℕ)). string_bytes t ∷ names) rest

pub any_text : (texts : List (String Global)) (bytes : List ℕ)
    → list_any (λ t. is_eq (slice_cmp nat_cmp bytes (string_bytes t))) texts ≡ is_taken (map string_bytes texts) bytes
unfolding is_taken
any_text [] bytes = refl
any_text (t ∷ texts) bytes = rw (is_eq-slice_cmp bytes (string_bytes t), any_text texts bytes) refl

-- a set with one more name has that name and those that it had
pub taken_with : (taken : List (List ℕ)) (one : List ℕ) (bytes : List ℕ)
    → is_taken (with_name taken one) bytes ≡ (bytes_eq bytes one || is_taken taken bytes)
unfolding is_taken with_name
taken_with [] one bytes = refl
taken_with (name ∷ taken) one bytes = at (slice_cmp nat_cmp one name) refl (taken_with taken one bytes) where
  twice : (a b : Bool) → (a || b) ≡ (a || (a || b))
  twice true b = refl
  twice false b = refl

  exchanged : (a b c : Bool) → (a || (b || c)) ≡ (b || (a || c))
  exchanged true true c = refl
  exchanged true false c = refl
  exchanged false b c = refl

  at : (o : Ordering) → slice_cmp nat_cmp one name ≡ o
      → list_any (bytes_eq bytes) (insert_key (slice_cmp nat_cmp) taken one) ≡ (bytes_eq bytes one || list_any (bytes_eq bytes) taken)
      → list_any (bytes_eq bytes) (match_ordering o (one ∷ name ∷ taken) (name ∷ taken)
      (name ∷ insert_key (slice_cmp nat_cmp) taken one)) ≡ (bytes_eq bytes one || list_any (bytes_eq bytes) (name ∷ taken))
  at Less is rest = refl
  at Equal is rest = let same : one ≡ name = exact_bytes one name is in rw same
      (twice (bytes_eq bytes name) (list_any (bytes_eq bytes) taken))
  at Greater is rest = rw rest (exchanged (bytes_eq bytes name) (bytes_eq bytes one) (list_any (bytes_eq bytes) taken))
