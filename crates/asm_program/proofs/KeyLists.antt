-- The keys so far, and the place of a name among them.
use Rattle.std.proofs.Common.{◌≡◌, ℕ, suc, ◌+◌, Bool, true, false, ◌||◌, not, List, [], ◌∷◌, ◌++◌, length, cond, refl, sym, ◌∙◌, ap, arith}
use Rattle.std.proofs.Common.{append_assoc, add-zero, zero-add, if◌then◌else◌}
use Rattle.std.specs.Prelude.{Option, Some, None, is_some, position, nat_lt}
use Rattle.std.specs.List.{list_any, position_from, position_or_len}
use Rattle.std.proofs.lemmas.List.Folds.{list_any-append}
use Rattle.link_model.specs.Sets.{first_of_each}
use Rattle.link_model.specs.Program.{Declaration, same_key}
use Rattle.asm_program.specs.Scopes.{scoped_name, is_same, is_of}
use Rattle.asm_program.proofs.ScopedNames.{key_is, same_name}

-- ---- the first of each, behind those that were seen

or_turn : (a b : Bool) → (a || (b || false)) ≡ (b || a)
or_turn true true = refl
or_turn true false = refl
or_turn false true = refl
or_turn false false = refl

abbrev Agree : {X : Type 0} → (X → X → Bool) → List X → List X → Type 0
Agree {X} alike seen others = (x : X) → list_any (alike x) seen ≡ list_any (alike x) others

module _ {X : Type 0} (alike : X → X → Bool) where
  choice : (b c : Bool) (seen others : List X) (x : X) (xs : List X) → b ≡ c
      → first_of_each alike seen xs ≡ first_of_each alike others xs
      → first_of_each alike (x ∷ seen) xs ≡ first_of_each alike (x ∷ others) xs
      → (if b then first_of_each alike seen xs else x ∷ first_of_each alike (x ∷ seen) xs)
      ≡ (if c then first_of_each alike others xs else x ∷ first_of_each alike (x ∷ others) xs)
  choice true true seen others x xs e h k = h
  choice true false seen others x xs e h k = cc
  choice false true seen others x xs e h k = cc
  choice false false seen others x xs e h k = ap (λ l. x ∷ l) k

  firsts_agree : (seen others xs : List X) → Agree alike seen others → first_of_each alike seen xs ≡ first_of_each alike others xs
  firsts_agree seen others [] h = refl
  firsts_agree seen others (x ∷ xs) h =
      choice (list_any (alike x) seen) (list_any (alike x) others) seen others x xs (h x) (firsts_agree seen others xs h)
      (firsts_agree (x ∷ seen) (x ∷ others) xs (λ y. ap (λ b. alike y x || b) (h y)))

  old_step : (b : Bool) (ks : List X) (x : X) (xs : List X) → b ≡ true
      → (if b then first_of_each alike ks xs else x ∷ first_of_each alike (x ∷ ks) xs) ≡ first_of_each alike ks xs
  old_step true ks x xs h = refl
  old_step false ks x xs h = cc

  pub old_key : (ks : List X) (x : X) (xs : List X) → list_any (alike x) ks ≡ true
      → ks ++ first_of_each alike ks (x ∷ xs) ≡ ks ++ first_of_each alike ks xs
  old_key ks x xs h = ap (λ l. ks ++ l) (old_step (list_any (alike x) ks) ks x xs h)

  new_step : (b : Bool) (ks : List X) (x : X) (xs : List X) → b ≡ false
      → (if b then first_of_each alike ks xs else x ∷ first_of_each alike (x ∷ ks) xs) ≡ x ∷ first_of_each alike (x ∷ ks) xs
  new_step true ks x xs h = cc
  new_step false ks x xs h = refl

  pub new_key : (ks : List X) (x : X) (xs : List X) → list_any (alike x) ks ≡ false
      → ks ++ first_of_each alike ks (x ∷ xs) ≡ (ks ++ x ∷ []) ++ first_of_each alike (ks ++ x ∷ []) xs
  new_key ks x xs h =
      ap (λ l. ks ++ l) (new_step (list_any (alike x) ks) ks x xs h
      ∙ ap (λ l. x ∷ l) (firsts_agree (x ∷ ks) (ks ++ x ∷ []) xs
      (λ y. sym (list_any-append (alike y) ks (x ∷ []) ∙ or_turn (list_any (alike y) ks) (alike y x)))))
      ∙ sym (append_assoc ks (x ∷ []) (first_of_each alike (ks ++ x ∷ []) xs))

-- ---- places

module _ {X : Type 0} (p : X → Bool) where
  or_left : (a b : Bool) → (a || b) ≡ false → a ≡ false
  or_left true b h = h
  or_left false b h = refl

  or_right : (a b : Bool) → (a || b) ≡ false → b ≡ false
  or_right true b h = cc
  or_right false b h = h

  absent : (k : ℕ) (xs : List X) → list_any p xs ≡ false → position_from p k xs ≡ (let none : Option ℕ = None in none)
  absent k [] h = refl
  absent k (x ∷ xs) h =
      let l = or_left (p x) (list_any p xs) h in let r = or_right (p x) (list_any p xs) h in rw l (absent (k + 1) xs r)

  snoc_step : (b : Bool) (k : ℕ) (x : X) (ys : List X)
      → position_from p (k + 1) (ys ++ x ∷ []) ≡ cond (list_any p ys) (position_from p (k + 1) ys)
      (cond (p x) (Some (k + 1 + length ys)) (let none : Option ℕ = None in none))
      → cond b (Some k) (position_from p (k + 1) (ys ++ x ∷ []))
      ≡ cond (b || list_any p ys) (cond b (Some k) (position_from p (k + 1) ys))
      (cond (p x) (Some (k + suc (length ys))) (let none : Option ℕ = None in none))
  snoc_step true k x ys h = refl
  snoc_step false k x ys h =
      let e : k + 1 + length ys ≡ k + suc (length ys) = omega arith in
      h ∙ ap (λ n. cond (list_any p ys) (position_from p (k + 1) ys) (cond (p x) (Some n) (let none : Option ℕ = None in none))) e

  position_snoc : (k : ℕ) (xs : List X) (x : X)
      → position_from p k (xs ++ x ∷ []) ≡ cond (list_any p xs) (position_from p k xs)
      (cond (p x) (Some (k + length xs)) (let none : Option ℕ = None in none))
  position_snoc k [] x = rw add-zero refl
  position_snoc k (y ∷ ys) x = snoc_step (p y) k x ys (position_snoc (k + 1) ys x)

  new_case : (s a : Bool) (n : ℕ) (o : Option ℕ) → (s ≡ true → a ≡ false) → (a ≡ false → o ≡ (let none : Option ℕ = None in none))
      → cond s (Some n) o ≡ cond a o (cond s (Some n) (let none : Option ℕ = None in none))
  new_case true true n o f g = let e = f refl in cc
  new_case true false n o f g = refl
  new_case false true n o f g = refl
  new_case false false n o f g = g refl

  -- one more that, where it passes, is the first that does
  pub position_more : (xs : List X) (x : X) → (p x ≡ true → list_any p xs ≡ false)
      → cond (p x) (Some (length xs)) (position_from p 0 xs) ≡ position_from p 0 (xs ++ x ∷ [])
  position_more xs x h =
      new_case (p x) (list_any p xs) (length xs) (position_from p 0 xs) h (absent 0 xs)
      ∙ sym (position_snoc 0 xs x
      ∙ ap (λ n. cond (list_any p xs) (position_from p 0 xs) (cond (p x) (Some n) (let none : Option ℕ = None in none)))
      (zero-add (length xs)))

  there_step : (b : Bool) (k : ℕ) (o : Option ℕ) (a : Bool) → is_some o ≡ a → is_some (cond b (Some k) o) ≡ (b || a)
  there_step true k o a h = refl
  there_step false k o a h = h

  pub is_there : (k : ℕ) (xs : List X) → is_some (position_from p k xs) ≡ list_any p xs
  is_there k [] = refl
  is_there k (x ∷ xs) = there_step (p x) k (position_from p (k + 1) xs) (list_any p xs) (is_there (k + 1) xs)

-- ---- names among the keys

-- whether a key came already, by the place of its name
pub came : (ks : List Declaration) (d : Declaration) (o : Option ℕ) → o ≡ position_from (is_of (scoped_name d)) 0 ks
    → list_any (same_key d) ks ≡ is_some o
came ks d o h =
    (λ i. list_any (λ e. key_is d e i) ks) ∙ (sym (is_there (is_of (scoped_name d)) 0 ks) ∙ ap is_some (sym h))

-- the place of a name, with one more key that is new
pub place_more : (q : ℕ × List ℕ) (ks : List Declaration) (d : Declaration) → list_any (same_key d) ks ≡ false
    → cond (is_same q (scoped_name d)) (Some (length ks)) (position_from (is_of q) 0 ks) ≡ position_from (is_of q) 0 (ks ++ d ∷ [])
place_more q ks d h =
    position_more (is_of q) ks d (λ t. ap (λ r. list_any (is_of r) ks) (same_name q (scoped_name d) t)
    ∙ ((λ i. list_any (λ e. sym (key_is d e) i) ks) ∙ h))

-- ---- the two words for a place

from_step : (b : Bool) (k m n : ℕ) (o : Option ℕ) → o ≡ cond (nat_lt m n) (Some (k + 1 + m)) None
    → cond b (Some k) o ≡ cond (nat_lt (cond (not b) (1 + m) 0) (suc n)) (Some (k + cond (not b) (1 + m) 0)) None
from_step true k m n o h = grind arith
from_step false k m n o h = rw h (grind arith)

pub from_is : {X : Type 0} (p : X → Bool) (k : ℕ) (xs : List X)
    → position_from p k xs ≡ cond (nat_lt (position_or_len p xs) (length xs)) (Some (k + position_or_len p xs)) None
from_is p k [] = grind arith
from_is p k (x ∷ xs) = from_step (p x) k (position_or_len p xs) (length xs) (position_from p (k + 1) xs) (from_is p (k + 1) xs)

pub position_is : {X : Type 0} (p : X → Bool) (xs : List X) → position_from p 0 xs ≡ position p xs
position_is p xs = from_is p 0 xs ∙ ap (λ n. cond (nat_lt (position_or_len p xs) (length xs)) (Some n) None)
    (zero-add (position_or_len p xs))
