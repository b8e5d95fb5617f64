-- Names that differ, by parts of a list.
use Rattle.std.proofs.Common.{◌≡◌, ℕ, Bool, true, false, List, [], ◌∷◌, ◌++◌, refl, ap, ◌∙◌}
use Rattle.std.specs.Prelude.{◌&&◌, ◌||◌, not}
use Rattle.std.specs.Str.{bytes_eq}
use Rattle.std.proofs.lemmas.List.Folds.{list_any-append}
use Rattle.asm_shapes.specs.Units.{is_among, are_distinct, are_apart}

and_true : (b : Bool) → b ≡ (b && true)
and_true true = refl
and_true false = refl

regrouped : (a b p q r : Bool) → (not (a || b) && (p && q && r)) ≡ (not a && p && q && (not b && r))
regrouped true b p q r = refl
regrouped false true true true r = refl
regrouped false true true false r = refl
regrouped false true false q r = refl
regrouped false false p q r = refl

distinct_append : (xs ys : List (List ℕ)) → are_distinct (xs ++ ys) ≡ (are_distinct xs && are_distinct ys && are_apart xs ys)
distinct_append [] ys = and_true (are_distinct ys)
distinct_append (x ∷ xs) ys =
    ap (λ b. not b && are_distinct (xs ++ ys)) (list_any-append (λ other. bytes_eq other x) xs ys)
    ∙ ap (λ d. not (is_among xs x || is_among ys x) && d) (distinct_append xs ys)
    ∙ regrouped (is_among xs x) (is_among ys x) (are_distinct xs) (are_distinct ys) (are_apart xs ys)

not_either : (a b p q : Bool) → (not (a || b) && (p && q)) ≡ (not a && p && (not b && q))
not_either true b p q = refl
not_either false true true q = refl
not_either false true false q = refl
not_either false false p q = refl

apart_append : (xs ys zs : List (List ℕ)) → are_apart xs (ys ++ zs) ≡ (are_apart xs ys && are_apart xs zs)
apart_append [] ys zs = refl
apart_append (x ∷ xs) ys zs =
    ap (λ b. not b && are_apart xs (ys ++ zs)) (list_any-append (λ other. bytes_eq other x) ys zs)
    ∙ ap (λ d. not (is_among ys x || is_among zs x) && d) (apart_append xs ys zs)
    ∙ not_either (is_among ys x) (is_among zs x) (are_apart xs ys) (are_apart xs zs)

flat : (a b c d e f : Bool) → (a && (b && c && d) && (e && f)) ≡ (a && b && c && d && e && f)
flat false b c d e f = refl
flat true false c d e f = refl
flat true true false d e f = refl
flat true true true false e f = refl
flat true true true true e f = refl

-- the names of three lists
pub distinct_parts : (xs ys zs : List (List ℕ))
    → are_distinct (xs ++ (ys ++ zs))
    ≡ (are_distinct xs && are_distinct ys && are_distinct zs && are_apart ys zs && are_apart xs ys && are_apart xs zs)
distinct_parts xs ys zs =
    distinct_append xs (ys ++ zs)
    ∙ ap (λ d. are_distinct xs && d && are_apart xs (ys ++ zs)) (distinct_append ys zs)
    ∙ ap (λ d. are_distinct xs && (are_distinct ys && are_distinct zs && are_apart ys zs) && d) (apart_append xs ys zs)
    ∙ flat (are_distinct xs) (are_distinct ys) (are_distinct zs) (are_apart ys zs) (are_apart xs ys) (are_apart xs zs)
