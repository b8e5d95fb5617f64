-- A set of borrowed names against the list of names that went in.
use Rattle.std.proofs.Common.{◌≡◌, ℕ, Bool, true, false, ◌||◌, List, [], ◌∷◌, ◌++◌, map, refl, sym, ◌∙◌, ap}
use Rattle.std.specs.Str.{bytes_eq}
use Rattle.std.specs.List.{list_any}
use Rattle.std.specs.declared.cmp.Ordering.{Ordering}
use Rattle.std.specs.declared.cmp.Ordering.TheVariants.{Less, Equal, Greater}
use Rattle.std.specs.Cmp.Lexicographic.{nat_list_eq_equiv}
use Rattle.std.specs.Ordering.{is_eq}
use Rattle.std.specs.BTreeSet.{insert_key}
use Rattle.asm_syntax.specs.declared.unit.Unit.{Unit}
use Rattle.asm_shapes.specs.Units.{function_name, variable_name, external_name}
use Rattle.link_model.specs.Program.{defines, declares}
use Rattle.asm_program.specs.declared.codes.CodedName.{CodedName}
use Rattle.asm_program.specs.Codes.{by_code}
use Rattle.asm_program.specs.Coded.{coded_texts}
use Rattle.asm_program.proofs.CodedNames.{by_code_total, by_text, code_is}
use Rattle.std.proofs.lemmas.List.Folds.{list_any-append}
use Rattle.std.proofs.lemmas.Cmp.{alike_right}

-- a kept name equals v
abbrev pub is_kept : List ℕ → CodedName → Bool
is_kept v y = is_eq (by_code v y.name.now)

-- equal names pass alike
pub kept_alike : (v : List ℕ) (x y : CodedName) → by_text x y ≡ Equal → is_kept v y ≡ is_kept v x
kept_alike v x y e = ap is_eq (sym (alike_right by_code_total x.name.now y.name.now v e))

or_swap : (a b c : Bool) → (a || (b || c)) ≡ (b || (a || c))
or_swap true true c = refl
or_swap true false c = refl
or_swap false true c = refl
or_swap false false c = refl

equal_or : (a b c : Bool) → a ≡ b → (a || c) ≡ (b || (a || c))
equal_or true true c e = refl
equal_or true false c e = cc
equal_or false true c e = cc
equal_or false false c e = refl

insert_step : (v : List ℕ) (x : CodedName) (xs : List CodedName) (k : CodedName) (o : Ordering) → by_text k x ≡ o
    → list_any (is_kept v) (insert_key by_text xs k) ≡ (is_kept v k || list_any (is_kept v) xs)
    → list_any (is_kept v) (insert_key by_text (x ∷ xs) k) ≡ (is_kept v k || list_any (is_kept v) (x ∷ xs))
insert_step v x xs k Less e again = rw e refl
insert_step v x xs k Equal e again = rw e (equal_or (is_kept v x) (is_kept v k) (list_any (is_kept v) xs) (kept_alike v k x e))
insert_step v x xs k Greater e again =
    rw e (ap (λ b. is_kept v x || b) again ∙ or_swap (is_kept v x) (is_kept v k) (list_any (is_kept v) xs))

insert_kept : (v : List ℕ) (keys : List CodedName) (k : CodedName)
    → list_any (is_kept v) (insert_key by_text keys k) ≡ (is_kept v k || list_any (is_kept v) keys)
insert_kept v [] k = refl
insert_kept v (x ∷ xs) k = insert_step v x xs k (by_text k x) refl (insert_kept v xs k)

or_turn : (a b : Bool) → (a || (b || false)) ≡ (b || a)
or_turn true true = refl
or_turn true false = refl
or_turn false true = refl
or_turn false false = refl

pub is_kept_is : (v : List ℕ) (y : CodedName) → is_kept v y ≡ bytes_eq v y.name.now
is_kept_is v y = code_is v y.name.now

pub contains_is : (v : List ℕ) (keys : List CodedName) → list_any (is_kept v) keys ≡ list_any (bytes_eq v) (coded_texts keys)
contains_is v [] = refl
contains_is v (y ∷ ys) = ap (λ b. b || list_any (is_kept v) ys) (is_kept_is v y) ∙ ap (λ b. bytes_eq v y.name.now || b) (contains_is v ys)

pub insert_is : (v : List ℕ) (keys : List CodedName) (k : CodedName)
    → list_any (bytes_eq v) (coded_texts (insert_key by_text keys k)) ≡ (bytes_eq v k.name.now || list_any (bytes_eq v) (coded_texts keys))
insert_is v keys k =
    sym (contains_is v (insert_key by_text keys k))
    ∙ (insert_kept v keys k
    ∙ (ap (λ b. b || list_any (is_kept v) keys) (is_kept_is v k) ∙ ap (λ b. bytes_eq v k.name.now || b) (contains_is v keys)))

-- the members of a set are those of a list
abbrev pub AreNames : List (List ℕ) → List (List ℕ) → Type 0
AreNames set names = (v : List ℕ) → list_any (bytes_eq v) set ≡ list_any (bytes_eq v) names

-- one more name went in
pub one_more : (v : List ℕ) (set names : List (List ℕ)) (n : List ℕ) → list_any (bytes_eq v) set ≡ list_any (bytes_eq v) names
    → (bytes_eq v n || list_any (bytes_eq v) set) ≡ list_any (bytes_eq v) (names ++ n ∷ [])
one_more v set names n h =
    ap (λ b. bytes_eq v n || b) h
    ∙ sym (list_any-append (bytes_eq v) names (n ∷ []) ∙ or_turn (list_any (bytes_eq v) names) (bytes_eq v n))

-- ---- names of a list's elements

pub bytes_eq_swap : (m n : List ℕ) → bytes_eq m n ≡ bytes_eq n m
bytes_eq_swap m n = nat_list_eq_equiv.symm m n

-- a name is among those of some elements
pub among : {X : Type 0} (name : X → List ℕ) (v : List ℕ) (xs : List X)
    → list_any (bytes_eq v) (map name xs) ≡ list_any (λ x. bytes_eq (name x) v) xs
among name v [] = refl
among name v (x ∷ xs) =
    ap (λ b. b || list_any (bytes_eq v) (map name xs)) (bytes_eq_swap v (name x)) ∙ ap (λ b. bytes_eq (name x) v || b) (among name v xs)

-- the names of a unit's definitions, of its externals, and both
pub defined_is : (v : List ℕ) (unit : Unit)
    → list_any (bytes_eq v) (map function_name unit.functions ++ map variable_name unit.variables) ≡ defines unit v
defined_is v unit =
    list_any-append (bytes_eq v) (map function_name unit.functions) (map variable_name unit.variables)
    ∙ (λ k. among function_name v unit.functions k || among variable_name v unit.variables k)

pub declared_is : (v : List ℕ) (unit : Unit) → list_any (bytes_eq v) (map external_name unit.externals) ≡ declares unit v
declared_is v unit = among external_name v unit.externals

pub known_is : (v : List ℕ) (unit : Unit)
    → list_any (bytes_eq v) ((map function_name unit.functions ++ map variable_name unit.variables) ++ map external_name unit.externals)
    ≡ (defines unit v || declares unit v)
known_is v unit =
    list_any-append (bytes_eq v) (map function_name unit.functions ++ map variable_name unit.variables) (map external_name unit.externals)
    ∙ (λ k. defined_is v unit k || declared_is v unit k)
