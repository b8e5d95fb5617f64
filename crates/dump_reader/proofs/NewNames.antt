-- Names that are new one after the other are distinct.
use Rattle.std.proofs.Common.{◌≡◌, ℕ, Bool, true, false, not, ◌&&◌, ◌||◌, List, [], ◌∷◌, ◌++◌, refl, ◌∙◌}
use Rattle.std.specs.Str.{bytes_eq}
use Rattle.std.proofs.lemmas.Slice.Eq.{bytes_eq-Decides}
use Rattle.asm_shapes.specs.Units.{is_among, are_distinct}
use Rattle.json_tree.specs.NewNames.{is_taken, with_name, with_names}
use Rattle.json_tree.proofs.NameSets.{taken_with}
use Rattle.dump_reader.proofs.Readings.{fresh}

first : (a b : Bool) → (a && b) ≡ true → a ≡ true
first true b h = refl
first false b h = absurd (cc h)

second : (a b : Bool) → (a && b) ≡ true → b ≡ true
second true b h = h
second false b h = absurd (cc h)

pub fresh_append : (taken xs ys : List (List ℕ)) → fresh taken (xs ++ ys) ≡ (fresh taken xs && fresh (with_names taken xs) ys)
unfolding with_names
fresh_append taken [] ys = refl
fresh_append taken (x ∷ xs) ys =
    rw (fresh_append (with_name taken x) xs ys) (regroup (not (is_taken taken x)) (fresh (with_name taken x) xs) (fresh (with_names
    (with_name taken x) xs) ys)) where
      regroup : (a b c : Bool) → (a && (b && c)) ≡ ((a && b) && c)
      regroup true b c = refl
      regroup false b c = refl

-- a taken name is none of those that are new
not_among : (taken names : List (List ℕ)) (name : List ℕ) → is_taken taken name ≡ true → fresh taken names ≡ true
    → is_among names name ≡ false
not_among taken [] name t h = refl
not_among taken (x ∷ xs) name t h =
    let new : not (is_taken taken x) ≡ true = first (not (is_taken taken x)) (fresh (with_name taken x) xs) h in
    let rest : is_among xs name ≡ false = not_among (with_name taken x) xs name (taken_with taken x name ∙ rw t (either
    (bytes_eq name x))) (second (not (is_taken taken x)) (fresh (with_name taken x) xs) h) in
    rw rest (other (bytes_eq x name) refl new)
  where
    either : (b : Bool) → (b || true) ≡ true
    either true = refl
    either false = refl

    other : (b : Bool) → bytes_eq x name ≡ b → not (is_taken taken x) ≡ true → (b || false) ≡ false
    other false is new = refl
    other true is new =
        let same : x ≡ name = (bytes_eq-Decides x name).0 is in
        let seen : is_taken taken x ≡ true = rw same t in
        let no : not true ≡ true = rw seen at new in
        absurd (cc no)

pub distinct : (taken names : List (List ℕ)) → fresh taken names ≡ true → are_distinct names ≡ true
distinct taken [] h = refl
distinct taken (x ∷ xs) h =
    let rest : fresh (with_name taken x) xs ≡ true = second (not (is_taken taken x)) (fresh (with_name taken x) xs) h in
    let itself : is_taken (with_name taken x) x ≡ true = taken_with taken x x ∙ rw ((bytes_eq-Decides x x).1 refl) refl in
    rw (not_among (with_name taken x) xs x itself rest, distinct (with_name taken x) xs rest) refl
