-- One more declaration among those that are keys.
use Rattle.std.proofs.Common.{◌≡◌, ℕ, ◌+◌, ◌<◌, ◌≤◌, true, false, List, [], ◌∷◌, ◌++◌, length, get_or, drop, sym, ap, ◌∙◌, append-nil}
use Rattle.std.specs.List.{list_any}
use Rattle.std.proofs.lemmas.List.{drop_more, drop_all}
use Rattle.link_model.specs.Sets.{first_of_each}
use Rattle.link_model.specs.Program.{Declaration, same_key}
use Rattle.asm_program.proofs.KeyLists.{old_key, new_key}

-- the keys so far, and those that come
abbrev pub keys_with : List Declaration → List Declaration → ℕ → List Declaration
keys_with ks ds i = ks ++ first_of_each same_key ks (drop i ds)

module _ (ks ds : List Declaration) (i : ℕ) (d : Declaration) (lt : i < length ds) (at : get_or ds i d ≡ d) (total : List Declaration)
    (so_far : keys_with ks ds i ≡ total) where
  next : keys_with ks ds i ≡ ks ++ first_of_each same_key ks (d ∷ drop (i + 1) ds)
  next = ap (λ l. ks ++ first_of_each same_key ks l) (drop_more ds i d lt ∙ ap (λ e. e ∷ drop (i + 1) ds) at)

  pub key_added : list_any (same_key d) ks ≡ false → keys_with (ks ++ d ∷ []) ds (i + 1) ≡ total
  key_added h = sym (next ∙ new_key same_key ks d (drop (i + 1) ds) h) ∙ so_far

  pub key_passed : list_any (same_key d) ks ≡ true → keys_with ks ds (i + 1) ≡ total
  key_passed h = sym (next ∙ old_key same_key ks d (drop (i + 1) ds) h) ∙ so_far

pub keys_done : (ks ds : List Declaration) (i : ℕ) (total : List Declaration) → length ds ≤ i → keys_with ks ds i ≡ total → ks ≡ total
keys_done ks ds i total le so_far =
    sym (ap (λ l. ks ++ first_of_each same_key ks l) (drop_all i ds le) ∙ append-nil ks) ∙ so_far
