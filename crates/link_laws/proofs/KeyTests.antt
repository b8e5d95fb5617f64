-- The tests of one variable and of one external key pass exactly where their parts hold.
use Rattle.std.proofs.Common.{◌≡◌, ℕ, zero, suc, ◌+◌, ◌-◌, ◌%◌, ◌<◌, inl, inr, Bool, true, false, List, [], ◌∷◌, take, Some, None, refl}
use Rattle.std.proofs.Common.{sym, ap, subst, arith, if◌then◌else◌}
use Rattle.std.specs.Prelude.{Option, is_some, slice_get, ◌==◌, IsSome}
use Rattle.std.specs.List.{enumerate_from, list_all, list_any}
use Rattle.std.specs.Option.{option_map_or}
use Rattle.std.proofs.lemmas.Bool.{and_parts, and_from, eqb-true, eq-eqb, not-true, cases_order, both_ways, cases_Bool}
use Rattle.ordered_tests.specs.Checks.{from_to}
use Rattle.ordered_tests.specs.Lists.{EachOf}
use Rattle.ordered_tests.proofs.Lists.{each_append, each_get, each_left, each_right, number_get}
use Rattle.image_model.specs.Image.{Image}
use Rattle.image_model.specs.Loaded.{byte_at}
use Rattle.layout_model.specs.Layouts.{Layout}
use Rattle.asm_syntax.specs.declared.unit.Variable.{Variable}
use Rattle.asm_syntax.specs.declared.unit.External.{External}
use Rattle.asm_syntax.specs.declared.unit.Sig.{Sig}
use Rattle.asm_syntax.specs.Sizes.{variable_size}
use Rattle.code_model.specs.Addresses.{is_writable_at}
use Rattle.code_model.specs.Variables.{data_bytes, DataIs, IsDataPlaced, data_check, data_checks, data_place_checks, variable_checks}
use Rattle.link_model.specs.Program.{Item, OfFunction, OfVariable, OfExternal, Declaration, is_external, keys}
use Rattle.link_model.specs.Candidates.{Inputs}
use Rattle.link_model.specs.Binding.{numbered_keys, key_address}
use Rattle.link_model.specs.Parts.{IsKey, IsExternalPlaced}
use Rattle.link_model.specs.Passes.{is_external_at, external_checks}
use Rattle.link_laws.proofs.Items.{each_item, each_mapped, each_unmapped, each_of_all, all_of_each, any_get, any_item, number_from}
use Rattle.link_laws.proofs.Apartness.{numbered_key}
use Rattle.link_laws.proofs.Loading.{each_number, number_each}
use Rattle.link_laws.proofs.Words.{Passes}

-- ---- variables

byte_is : (o : Option ℕ) (byte : ℕ) → option_map_or (λ b. b == byte) o false ≡ true → o ≡ Some byte
byte_is None byte h = absurd (cc)
byte_is (Some b) byte h = ap (λ x. Some x) (eqb-true b byte h)

is_byte : (o : Option ℕ) (byte : ℕ) → o ≡ Some byte → option_map_or (λ b. b == byte) o false ≡ true
is_byte o byte h = rw h (eq-eqb byte byte refl)

pub numbered : {X : Type 0} (xs : List X) (i : ℕ) (x : X) → slice_get xs i ≡ Some x → slice_get (enumerate_from 0 xs) i ≡ Some (i, x)
numbered xs i x h = subst (λ n. slice_get (enumerate_from 0 xs) i ≡ Some (n, x)) (omega arith) (number_get 0 xs i x h)

item_of : {X : Type 0} (xs : List X) (i : ℕ) (y : ℕ × X) → slice_get (enumerate_from 0 xs) i ≡ Some y → slice_get xs y.0 ≡ Some y.1
item_of xs i y h = let r = number_from 0 xs i y h in let e = r.0 in rw (let s : y.0 ≡ i = omega arith in s) r.1

abbrev ByteTest : Image → ℕ → ℕ × ℕ → Type 0
ByteTest v a byte = Passes (data_check v a byte)

pub data_right : (v : Image) (symbol_at : List ℕ → ℕ) (a : ℕ) (x : Variable) → EachOf Passes (data_checks v symbol_at a x) →
    DataIs v symbol_at a x
unfolding data_checks
data_right v symbol_at a x e o byte h =
    let bytes = enumerate_from 0 (data_bytes symbol_at x) in
    byte_is (byte_at v (a + o)) byte
    (each_get (ByteTest v a) bytes (each_unmapped (ByteTest v a) Passes (data_check v a) bytes (λ y k. k) e) o (o, byte)
    (numbered (data_bytes symbol_at x) o byte h))

data_passes : (v : Image) (symbol_at : List ℕ → ℕ) (a : ℕ) (x : Variable) → DataIs v symbol_at a x →
    EachOf Passes (data_checks v symbol_at a x)
unfolding data_checks
data_passes v symbol_at a x d =
    let bytes = enumerate_from 0 (data_bytes symbol_at x) in
    each_mapped (ByteTest v a) Passes (data_check v a) bytes (λ y k. k)
    (each_item (ByteTest v a) bytes
    (λ i o h. is_byte (byte_at v (a + o.0)) o.1 (d o.0 o.1 (item_of (data_bytes symbol_at x) i o h))))

pub data_placed_right : (v : Image) (l : Layout) (alignment a : ℕ) (x : Variable) →
    EachOf Passes (data_place_checks v l alignment a x) → IsDataPlaced v l alignment a x
unfolding data_place_checks
data_placed_right v l alignment a x e =
    let size = variable_size x.init in
    let test = is_writable_at v in
    record {
      aligned = eqb-true (a % alignment) 0 e.0;
      inside = e.1.0;
      writable = λ w o lt.
          let all : list_all test (from_to a (a + size)) ≡ true = rw w at (e.1.1.0) in
          each_number (λ b. test b ≡ true) a (a + size - a) (a + o) (each_of_all test (from_to a (a + size)) all)
          (omega arith) (omega arith);
    }

data_placed_passes : (v : Image) (l : Layout) (alignment a : ℕ) (x : Variable) → IsDataPlaced v l alignment a x →
    EachOf Passes (data_place_checks v l alignment a x)
unfolding data_place_checks
data_placed_passes v l alignment a x p = (eq-eqb (a % alignment) 0 p.aligned, (p.inside, (at x.writable p.writable, tt)))
  where
    at : (w : Bool) → (w ≡ true → (o : ℕ) → o < variable_size x.init → is_writable_at v (a + o) ≡ true) →
        (if w then list_all (is_writable_at v) (from_to a (a + variable_size x.init)) else true) ≡ true
    at false h = refl
    at true h = all_of_each (is_writable_at v) (from_to a (a + variable_size x.init))
        (number_each (λ b. is_writable_at v b ≡ true) a (a + variable_size x.init - a) (λ b low high.
        subst (λ c. is_writable_at v c ≡ true) (let s : a + (b - a) ≡ b = omega arith in s) (h refl (b - a) (omega arith))))

pub variable_parts : (v : Image) (l : Layout) (symbol_at : List ℕ → ℕ) (alignment a : ℕ) (x : Variable) →
    EachOf Passes (variable_checks v l symbol_at alignment a x) → DataIs v symbol_at a x × IsDataPlaced v l alignment a x
variable_parts v l symbol_at alignment a x e =
    let bytes = data_checks v symbol_at a x in
    let place = data_place_checks v l alignment a x in
    (data_right v symbol_at a x (each_left Passes bytes place e), data_placed_right v l alignment a x (each_right Passes bytes place e))

pub variable_passes : (v : Image) (l : Layout) (symbol_at : List ℕ → ℕ) (alignment a : ℕ) (x : Variable) →
    DataIs v symbol_at a x → IsDataPlaced v l alignment a x → EachOf Passes (variable_checks v l symbol_at alignment a x)
variable_passes v l symbol_at alignment a x d p =
    each_append Passes (data_checks v symbol_at a x) (data_place_checks v l alignment a x)
    (data_passes v symbol_at a x d) (data_placed_passes v l alignment a x p)

-- ---- external keys

pub take_get : {X : Type 0} (xs : List X) (n i : ℕ) (x : X) → i < n → slice_get xs i ≡ Some x → slice_get (take n xs) i ≡ Some x
take_get [] n i x lt h = absurd (cc)
take_get (y ∷ ys) zero i x lt h = absurd (omega arith)
take_get (y ∷ ys) (suc n) zero x lt h = h
take_get (y ∷ ys) (suc n) (suc i) x lt h = take_get ys n i x (omega arith) h

get_take : {X : Type 0} (xs : List X) (n i : ℕ) (x : X) → slice_get (take n xs) i ≡ Some x → (i < n) × (slice_get xs i ≡ Some x)
get_take [] zero i x h = absurd (cc)
get_take [] (suc n) i x h = absurd (cc)
get_take (y ∷ ys) zero i x h = absurd (cc)
get_take (y ∷ ys) (suc n) zero x h = (omega arith, h)
get_take (y ∷ ys) (suc n) (suc i) x h = let r = get_take ys n i x h in let lt = r.0 in (omega arith, r.1)

pub numbered_is_key : (g : Inputs) (i : ℕ) (k : ℕ × Declaration) → slice_get (numbered_keys g) i ≡ Some k →
    (k.0 ≡ i) × IsKey g k.0 k.1.unit k.1.item
numbered_is_key g i k h =
    let r = number_from 0 (keys g.program.units) i k h in
    let e = r.0 in
    let s : k.0 ≡ i = omega arith in (s, rw s r.1)

pub external_right : (g : Inputs) (bs : List ℕ) (k a : ℕ) (x : External) → EachOf Passes (external_checks g bs k a x) →
    IsExternalPlaced g a x
external_right g bs k a x e = record { foreign = e.1.0; aligned = λ s. eqb-true (a % 4) 0 (at x.sig s e.0) }
  where
    at : (o : Option Sig) → IsSome o → (if is_some o then a % 4 == 0 else true) ≡ true → (a % 4 == 0) ≡ true
    at None s q = absurd (cc)
    at (Some sig) s q = q

-- an external key with the address a stands before key k
abbrev has_earlier : Inputs → List ℕ → ℕ → ℕ → Bool
has_earlier g bs k a = list_any (is_external_at bs a) (take k (numbered_keys g))

earlier_at : (g : Inputs) (bs : List ℕ) (j k t : ℕ) (x : External) → IsKey g j t (OfExternal x) → j < k → (a : ℕ) →
    key_address bs j ≡ a → has_earlier g bs k a ≡ true
earlier_at g bs j k t x key lt a e =
    any_get (is_external_at bs a) (take k (numbered_keys g)) j _
    (take_get (numbered_keys g) k j _ lt (numbered_key g j t (OfExternal x) key))
    (and_from true (key_address bs j == a) refl (eq-eqb (key_address bs j) a e))

abbrev ExternalsPass : Inputs → List ℕ → Type 0
ExternalsPass g bs = (k u : ℕ) (x : External) → IsKey g k u (OfExternal x) → EachOf Passes (external_checks g bs k (key_address bs k) x)

pub externals_differ : (g : Inputs) (bs : List ℕ) → ExternalsPass g bs → (j k t u : ℕ) (x y : External) →
    IsKey g j t (OfExternal x) → IsKey g k u (OfExternal y) → key_address bs j ≡ key_address bs k → j ≡ k
externals_differ g bs all j k t u x y xk yk e = elim (cases_order j k) [
  | inl q ↦ q
  | inr (inl lt) ↦ absurd (both_ways (has_earlier g bs k (key_address bs k)) (not-true _ (all k u y yk).1.1.0)
      (earlier_at g bs j k t x xk lt (key_address bs k) e))
  | inr (inr lt) ↦ absurd (both_ways (has_earlier g bs j (key_address bs j)) (not-true _ (all j t x xk).1.1.0)
      (earlier_at g bs k j u y yk lt (key_address bs j) (sym e)))
]

external_is : (item : Item) → is_external item ≡ true → (x : External) × (item ≡ OfExternal x)
external_is (OfExternal x) h = (x, refl)
external_is (OfFunction f) h = absurd (cc)
external_is (OfVariable x) h = absurd (cc)

abbrev DiffersFromOthers : Inputs → List ℕ → ℕ → Type 0
DiffersFromOthers g bs k =
    (j t : ℕ) (y : External) → IsKey g j t (OfExternal y) → key_address bs j ≡ key_address bs k → j ≡ k

none_earlier : (g : Inputs) (bs : List ℕ) (k : ℕ) → DiffersFromOthers g bs k → has_earlier g bs k (key_address bs k) ≡ false
none_earlier g bs k differ = elim (cases_Bool (has_earlier g bs k (key_address bs k))) [
  | inr f ↦ f
  | inl t ↦ (
      let r = any_item (is_external_at bs (key_address bs k)) (take k (numbered_keys g)) t in
      let q : ℕ × Declaration = r.1 in
      let i = get_take (numbered_keys g) k r.0 q r.2 in
      let p = and_parts (is_external q.1.item) (key_address bs q.0 == key_address bs k) r.3 in
      let d = external_is q.1.item p.0 in
      let key = numbered_is_key g r.0 q i.1 in
      let of_d : IsKey g q.0 q.1.unit (OfExternal d.0) = subst (λ z. IsKey g q.0 q.1.unit z) d.1 key.1 in
      let same : q.0 ≡ k = differ q.0 q.1.unit d.0 of_d (eqb-true (key_address bs q.0) (key_address bs k) p.1) in
      let at = key.0 in
      let lt = i.0 in absurd (omega arith))
]

pub external_passes : (g : Inputs) (bs : List ℕ) (k : ℕ) (x : External) → IsExternalPlaced g (key_address bs k) x →
    DiffersFromOthers g bs k → EachOf Passes (external_checks g bs k (key_address bs k) x)
external_passes g bs k x o differ = (at x.sig o.aligned, (o.foreign, (rw (none_earlier g bs k differ) refl, tt)))
  where
    at : (s : Option Sig) → (IsSome s → key_address bs k % 4 ≡ 0) → (if is_some s then key_address bs k % 4 == 0 else true) ≡ true
    at None h = refl
    at (Some sig) h = eq-eqb (key_address bs k % 4) 0 (h refl)
