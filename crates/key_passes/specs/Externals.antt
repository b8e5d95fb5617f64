-- The addresses of external keys.
use Rattle.std.specs.Prelude.{◌≡◌, ℕ, Bool, List, take}
use Rattle.std.specs.List.{list_any}
use Rattle.link_model.specs.Candidates.{Inputs}
use Rattle.link_model.specs.Binding.{numbered_keys}
use Rattle.link_model.specs.Passes.{is_external_at}

-- the addresses of the external keys before key k, where the keys have the addresses bs
abbrev pub AreSeen : Inputs → List ℕ → ℕ → (ℕ → Bool) → Type 0
AreSeen g bs k seen = (a : ℕ) → seen a ≡ list_any (is_external_at bs a) (take k (numbered_keys g))
