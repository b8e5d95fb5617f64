-- The word at a place of a list of texts.
use Rattle.std.proofs.Common.{Bool, true, false, ◌&&◌, sym, ◌∙◌, ◌≡◌, ℕ, zero, suc, List, [], ◌∷◌, map, Some, None, refl, ap}
use Rattle.std.specs.Prelude.{slice_get, if◌then◌else◌}
use Rattle.std.specs.List.{list_all}
use Rattle.commands.specs.Words.{word_at, is_operand}
use Rattle.commands.specs.Commands.{named, tested}

pub word_within : {T : Type 0} (f : T → List ℕ) (xs : List T) (k : ℕ) (x : T) → slice_get xs k ≡ Some x → f x ≡ word_at (map f xs) k
word_within f [] k x h = absurd (let e : None ≡ Some x = h in cc)
word_within f (y ∷ xs) zero x h = let same : x ≡ y = cc in ap f same
word_within f (y ∷ xs) (suc k) x h = word_within f xs k x h

pub word_past : {T : Type 0} (f : T → List ℕ) (xs : List T) (k : ℕ) → slice_get xs k ≡ None → [] ≡ word_at (map f xs) k
word_past f [] k h = refl
word_past f (y ∷ xs) zero h = absurd (let e : Some y ≡ None = h in cc)
word_past f (y ∷ xs) (suc k) h = word_past f xs k h

operands_of_map : {T : Type 0} (f : T → List ℕ) (xs : List T) → list_all (λ x. is_operand (f x)) xs ≡ list_all is_operand (map f xs)
operands_of_map f [] = refl
operands_of_map f (x ∷ xs) = ap (λ rest. is_operand (f x) && rest) (operands_of_map f xs)

tested_by : {T : Type 0} (f : T → List ℕ) (name : List ℕ) (xs : List T) (b : Bool) → list_all (λ x. is_operand (f x)) xs ≡ b
    → (if b then named name (map f xs) else None) ≡ tested name (map f xs)
unfolding tested
tested_by f name xs b h =
    ap (λ t. if t then named name (map f xs) else None) (sym h ∙ operands_of_map f xs)

pub tested_right : {T : Type 0} (f : T → List ℕ) (name : List ℕ) (xs : List T) → list_all (λ x. is_operand (f x)) xs ≡ true
    → named name (map f xs) ≡ tested name (map f xs)
tested_right f name xs h = tested_by f name xs true h

pub tested_wrong : {T : Type 0} (f : T → List ℕ) (name : List ℕ) (xs : List T) → list_all (λ x. is_operand (f x)) xs ≡ false
    → None ≡ tested name (map f xs)
tested_wrong f name xs h = tested_by f name xs false h
