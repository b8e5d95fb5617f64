-- The readings that the profiles share fail for the causes that these share.
use Rattle.std.proofs.Common.{◌≡◌, ℕ, ◌+◌, ℤ, pos, negsuc, Bool, true, false, List, [], ◌∷◌, length, Option, Some, None, Result, Ok, Err}
use Rattle.std.proofs.Common.{refl}
use Rattle.std.specs.Prelude.{nat_le, int_lt, ◌&&◌, ◌||◌, ◌==◌, ◌/◌, ◌-◌, ◌^◌, slice_index_or, if◌then◌else◌, is_some}
use Rattle.std.specs.List.{list_all}
use Rattle.std.specs.Str.{bytes_eq}
use Rattle.serde_json.specs.Data.{Data, null}
use Rattle.serde_json.specs.Find.{get, as_array, as_bool, as_integer, as_null, as_number, as_object, as_str}
use Rattle.asm_syntax.specs.Names.{is_name}
use Rattle.asm_syntax.specs.declared.path.Step.{Step}
use Rattle.asm_syntax.specs.declared.path.Step.TheVariants.{Key, Index}
use Rattle.json_tree.specs.declared.fault.Cause.{Cause}
use Rattle.json_tree.specs.declared.fault.Cause.TheVariants.{Missing, WrongKind, OutOfRange, UnknownWord, Version, Limit}
use Rattle.json_tree.specs.declared.fault.Fault.{Fault}
use Rattle.json_tree.specs.Causes.{is_shared_cause, FailsBy}
use Rattle.json_tree.specs.Reading.{◌>>=◌, ◌>>◌, under, of_kind, if_there, object, boolean, text, or_null, field, name, stated, look_up}
use Rattle.json_tree.specs.Reading.{known, word_of}
use Rattle.json_tree.specs.Arrays.{items, limited, each_from, list, counted, tuple, nth, chosen}
use Rattle.json_tree.specs.Numbers.{integer, ranged, up_to, natural, wrapped, word, unsigned32, unsigned16, signed32}
use Rattle.json_tree.specs.Addresses.{is_hex_digit, address_text, address_of, address}
use Rattle.json_tree.specs.Profile.{version_to, version, header}

-- the causes that any profile may have are allowed
abbrev pub AllowsShared : (Cause → Bool) → Type 0
AllowsShared allows = (cause : Cause) → is_shared_cause cause ≡ true → allows cause ≡ true

module _ (allows : Cause → Bool) where
  -- ---- one reading after another
  pub after : {A T : Type 0} (r : Result A Fault) (read : A → Result T Fault) → FailsBy allows r → ((a : A) → FailsBy allows (read a))
      → FailsBy allows (r >>= read)
  after (Ok a) read h g = g a
  after (Err fault) read h g = h

  pub behind : {A T : Type 0} (r : Result A Fault) (read : Result T Fault) → FailsBy allows r → FailsBy allows read
      → FailsBy allows (r >> read)
  behind (Ok a) read h g = g
  behind (Err fault) read h g = h

  pub below : {T : Type 0} (step : Step) (r : Result T Fault) → FailsBy allows r → FailsBy allows (under step r)
  below step (Ok x) h = h
  below step (Err fault) h = h

  pub choice : {T : Type 0} (b : Bool) (r s : Result T Fault) → FailsBy allows r → FailsBy allows s → FailsBy allows (if b then r else s)
  choice true r s h g = h
  choice false r s h g = g

  pub at_item : {T : Type 0} (i : ℕ) (read : Data → Result T Fault) (ds : List Data) → ((d : Data) → FailsBy allows (read d))
      → FailsBy allows (nth i read ds)
  unfolding nth
  at_item i read ds h = below (Index i) (read (slice_index_or ds i null)) (h (slice_index_or ds i null))

  pub of_each : {S T : Type 0} (next : S → T → S) (read : S → Data → Result T Fault)
      → ((left : S) (d : Data) → FailsBy allows (read left d)) → (left : S) (i : ℕ) (ds : List Data)
      → FailsBy allows (each_from next read left i ds)
  unfolding each_from
  of_each next read h left i [] = tt
  of_each next read h left i (d ∷ ds) =
      after (under (Index i) (read left d)) _ (below (Index i) (read left d) (h left d)) λ x.
      after (each_from next read (next left x) (i + 1) ds) _ (of_each next read h (next left x) (i + 1) ds) λ xs. tt

module _ (allows : Cause → Bool) (shared : AllowsShared allows) where
  -- ---- kinds and texts
  pub of_a_kind : {A T : Type 0} (o : Option A) (read : A → Result T Fault) → ((a : A) → FailsBy allows (read a))
      → FailsBy allows (of_kind o read)
  of_a_kind None read h = shared WrongKind refl
  of_a_kind (Some a) read h = h a

  pub of_object : (d : Data) → FailsBy allows (object d)
  of_object d = of_a_kind (as_object d) _ λ _. tt

  pub of_boolean : (d : Data) → FailsBy allows (boolean d)
  of_boolean d = of_a_kind (as_bool d) _ λ _. tt

  pub of_text : (d : Data) → FailsBy allows (text d)
  of_text d = of_a_kind (as_str d) _ λ _. tt

  pub of_name : (d : Data) → FailsBy allows (name d)
  unfolding name
  of_name d = after allows (text d) _ (of_text d) λ bytes. choice allows (is_name bytes) _ _ tt (shared OutOfRange refl)

  pub of_stated : (bytes : List ℕ) (d : Data) → FailsBy allows (stated bytes d)
  unfolding stated
  of_stated bytes d = after allows (text d) _ (of_text d) λ found. choice allows (bytes_eq found bytes) _ _ tt (shared UnknownWord refl)

  pub of_known : {T : Type 0} (o : Option T) → FailsBy allows (known o)
  of_known None = shared UnknownWord refl
  of_known (Some x) = tt

  pub of_word : {T : Type 0} (table : List (List ℕ × T)) (d : Data) → FailsBy allows (word_of table d)
  unfolding word_of
  of_word table d = after allows (text d) _ (of_text d) λ bytes. of_known (look_up table bytes)

  pub of_null : {T : Type 0} (read : Data → Result T Fault) (d : Data) → FailsBy allows (read d) → FailsBy allows (or_null read d)
  unfolding or_null
  of_null read d h = choice allows (is_some (as_null d)) _ _ tt (after allows (read d) _ h λ x. tt)

  pub at_field : {T : Type 0} (key : List ℕ) (read : Data → Result T Fault) (d : Data) → ((e : Data) → FailsBy allows (read e))
      → FailsBy allows (field key read d)
  unfolding field
  at_field key read d h = below allows (Key key) (if_there (get key d) read) (at (get key d)) where
    at : (o : Option Data) → FailsBy allows (if_there o read)
    at None = shared Missing refl
    at (Some e) = h e

  -- ---- arrays
  pub of_items : (d : Data) → FailsBy allows (items d)
  unfolding items
  of_items d = of_a_kind (as_array d) _ λ _. tt

  pub of_limited : (limit : ℕ) (ds : List Data) → FailsBy allows (limited limit ds)
  unfolding limited
  of_limited limit ds = choice allows (nat_le (length ds) limit) _ _ tt (shared (Limit limit) refl)

  pub of_list : {T : Type 0} (limit : ℕ) (read : Data → Result T Fault) (d : Data) → ((e : Data) → FailsBy allows (read e))
      → FailsBy allows (list limit read d)
  unfolding list
  of_list limit read d h =
      after allows (items d) _ (of_items d) λ ds.
      behind allows (limited limit ds) _ (of_limited limit ds)
      (of_each allows {S = Unit {0}} (λ left x. left) (λ left. read) (λ left e. h e) tt 0 ds)

  pub of_counted : (count : ℕ) (ds : List Data) → FailsBy allows (counted count ds)
  unfolding counted
  of_counted count ds = choice allows (length ds == count) _ _ tt (shared OutOfRange refl)

  pub of_tuple : (count : ℕ) (d : Data) → FailsBy allows (tuple count d)
  unfolding tuple
  of_tuple count d = after allows (items d) _ (of_items d) λ ds. behind allows (counted count ds) _ (of_counted count ds) tt

  pub of_chosen : {T : Type 0} (read : Data → Result T Fault) (ds : List Data) → ((d : Data) → FailsBy allows (read d))
      → FailsBy allows (chosen read ds)
  unfolding chosen
  of_chosen read ds h = choice allows (length ds == 0) _ _ (shared OutOfRange refl) (at_item allows 0 read ds h)

  -- ---- numbers
  pub of_integer : (d : Data) → FailsBy allows (integer d)
  of_integer d = of_a_kind (as_number d) _ λ n. of_a_kind (as_integer n) _ λ _. tt

  pub of_ranged : (lo hi : ℤ) (d : Data) → FailsBy allows (ranged lo hi d)
  unfolding ranged
  of_ranged lo hi d = after allows (integer d) _ (of_integer d) λ z. choice allows (int_lt z lo || int_lt hi z) _ _
      (shared OutOfRange refl) tt

  of_up_to : (most : ℕ) (z : ℤ) → FailsBy allows (up_to most z)
  of_up_to most (pos n) = choice allows (nat_le n most) _ _ tt (shared OutOfRange refl)
  of_up_to most (negsuc n) = shared OutOfRange refl

  pub of_natural : (most : ℕ) (d : Data) → FailsBy allows (natural most d)
  unfolding natural
  of_natural most d = after allows (integer d) _ (of_integer d) λ z. of_up_to most z

  pub of_wrapped : (size : ℕ) (d : Data) → FailsBy allows (wrapped size d)
  unfolding wrapped
  of_wrapped size d = after allows (ranged (negsuc (size / 2 - 1)) (pos (size - 1)) d) _
      (of_ranged (negsuc (size / 2 - 1)) (pos (size - 1)) d) λ z. tt

  pub of_word_number : (d : Data) → FailsBy allows (word d)
  unfolding word
  of_word_number d = of_wrapped (2 ^ 32) d

  pub of_unsigned32 : (d : Data) → FailsBy allows (unsigned32 d)
  unfolding unsigned32
  of_unsigned32 d = of_natural 0xffffffff d

  pub of_unsigned16 : (d : Data) → FailsBy allows (unsigned16 d)
  unfolding unsigned16
  of_unsigned16 d = of_natural 0xffff d

  pub of_signed32 : (d : Data) → FailsBy allows (signed32 d)
  unfolding signed32
  of_signed32 d = of_ranged (negsuc 0x7fffffff) (pos 0x7fffffff) d

  of_address_text : (bytes : List ℕ) → FailsBy allows (address_text bytes)
  of_address_text [] = shared OutOfRange refl
  of_address_text (a ∷ []) = shared OutOfRange refl
  of_address_text (a ∷ b ∷ digits) = choice allows
      (a == 0x30 && b == 0x78 && nat_le 1 (length digits) && nat_le (length digits) 8 && list_all is_hex_digit digits) _ _ tt
      (shared OutOfRange refl)

  pub of_address : (d : Data) → FailsBy allows (address d)
  unfolding address
  of_address d = at (as_str d) where
    at : (o : Option (List ℕ)) → FailsBy allows (address_of o d)
    at (Some bytes) = of_address_text bytes
    at None = of_unsigned32 d

  -- ---- what comes first in all profiles
  of_version_to : (newest : ℕ) (z : ℤ) → FailsBy allows (version_to newest z)
  of_version_to newest (pos n) = choice allows (nat_le 1 n && nat_le n newest) _ _ tt (shared Version refl)
  of_version_to newest (negsuc n) = shared Version refl

  pub of_version : (newest : ℕ) (d : Data) → FailsBy allows (version newest d)
  unfolding version
  of_version newest d = after allows (integer d) _ (of_integer d) λ z. of_version_to newest z

  pub of_header : (profile : List ℕ) (newest : ℕ) (d : Data) → FailsBy allows (header profile newest d)
  unfolding header
  of_header profile newest d =
      behind allows (object d) _ (of_object d)
      (behind allows (field _ (stated profile) d) _ (at_field _ (stated profile) d (of_stated profile))
      (at_field _ (version newest) d (of_version newest)))
