-- The addresses that uses leave open for each key.
use Rattle.std.specs.Prelude.{◌≡◌, ℕ, ◌<◌, ◌^◌, List, length, slice_index_or, Option, ℤ}
use Rattle.std.specs.List.{list_all}
use Rattle.layout_model.specs.Layouts.{Layout}
use Rattle.asm_syntax.specs.declared.instr.Plain.{Plain}
use Rattle.link_model.specs.Uses.{Use, FromInstr, FromData, agrees, uses_of}
use Rattle.symbol_bind.specs.declared.address_set.AddressSet.{AddressSet}
use Rattle.symbol_bind.specs.AddressSets.{contains}

-- the set has exactly the addresses that agree with the uses of key k
abbrev pub IsOpen : Layout → List Use → ℕ → AddressSet → Type 0
IsOpen l uses k set = (t : ℕ) → t < 2 ^ 32 → contains set t ≡ list_all (agrees l t) (uses_of k uses)

-- each key's set is what the uses leave open for it
abbrev pub AreOpen : Layout → List Use → List AddressSet → Type 0
AreOpen l uses sets = (k : ℕ) (d : AddressSet) → k < length sets → IsOpen l uses k (slice_index_or sets k d)

abbrev pub use_by_instr : Option ℕ → ℕ → Plain → ℕ → Use
use_by_instr key at plain word = record { key = key; referrer = FromInstr plain; at = at; word = word }

abbrev pub use_by_data : Option ℕ → ℕ → ℤ → ℕ → Use
use_by_data key at offset word = record { key = key; referrer = FromData offset; at = at; word = word }
