-- Bytes that are no name.
use Rattle.std.proofs.Common.{◌≡◌, ◌≢◌, ℕ, ◌<◌, ◌≤◌, Bool, true, false, List, [], ◌∷◌, length, Some, None, Err, refl, arith}
use Rattle.std.specs.Prelude.{nat_lt, position}
use Rattle.std.specs.List.{list_all, prefix_len}
use Rattle.std.proofs.lemmas.Bool.Decides.{nat_tests}
use Rattle.std.proofs.lemmas.Bool.{ltb-true}
use Rattle.asm_syntax.specs.Names.{is_hidden, is_name_byte, is_name}
use Rattle.asm_syntax.specs.NameFaults.{Refuses}
use Rattle.asm_syntax.specs.declared.name.NameError.{NameError}
use Rattle.asm_syntax.specs.declared.name.NameError.TheVariants.{Length, Byte, Memory}

visible_prefix : (xs : List ℕ) → list_all is_name_byte xs ≡ true → length xs ≤ prefix_len is_name_byte xs
visible_prefix [] h = omega arith
visible_prefix (x ∷ xs) h = at (is_name_byte x) refl (visible_prefix xs) where
  at : (t : Bool) → is_name_byte x ≡ t → (list_all is_name_byte xs ≡ true → length xs ≤ prefix_len is_name_byte xs)
      → length (x ∷ xs) ≤ prefix_len is_name_byte (x ∷ xs)
  at true e rest = let k : length xs ≤ prefix_len is_name_byte xs = rest (rw e at h) in rw e (omega arith)
  at false e rest = absurd (let k : false ≡ true = rw e at h in cc)

hidden_is_found : (bytes : List ℕ) (at : ℕ) → position is_hidden bytes ≡ Some at → prefix_len is_name_byte bytes < length bytes
hidden_is_found bytes at h = cases (nat_lt (prefix_len is_name_byte bytes) (length bytes)) refl where
  cases : (t : Bool) → nat_lt (prefix_len is_name_byte bytes) (length bytes) ≡ t → prefix_len is_name_byte bytes < length bytes
  cases true e = ltb-true _ _ e
  cases false e = absurd (let k : None ≡ Some at = rw e at h in cc)

hidden_in_none : (bytes : List ℕ) (at : ℕ) → position is_hidden bytes ≡ Some at → list_all is_name_byte bytes ≡ false
hidden_in_none bytes at h = cases (list_all is_name_byte bytes) refl where
  cases : (t : Bool) → list_all is_name_byte bytes ≡ t → list_all is_name_byte bytes ≡ false
  cases false e = e
  cases true e = absurd (let most : length bytes ≤ prefix_len is_name_byte bytes = visible_prefix bytes e in let less : prefix_len
      is_name_byte bytes < length bytes = hidden_is_found bytes at h in omega arith)

pub no_name : (bytes : List ℕ) (e : NameError) → Refuses bytes (Err e) → e ≢ Memory → is_name bytes ≡ false
no_name bytes Length h other = grind (arith, nat_tests)
no_name bytes (Byte at) h other = rw (hidden_in_none bytes at h.2) (grind (arith, nat_tests))
no_name bytes Memory h other = absurd (other refl)
