-- Each loaded address lies in an area or in a foreign range, so off the stack and off the stop point.
use Rattle.std.proofs.Common.{◌≡◌, ℕ, zero, suc, ◌+◌, ◌-◌, ◌%◌, ◌<◌, inl, inr, Bool, true, false, ◌&&◌, List, [], ◌∷◌, length, position}
use Rattle.std.proofs.Common.{get_or, Some, None, refl, arith}
use Rattle.std.specs.Prelude.{Option, slice_get, flat_map, ◌==◌}
use Rattle.std.specs.List.{list_any}
use Rattle.std.specs.Option.{option_map_or}
use Rattle.std.proofs.lemmas.List.Quantifiers.{position-Some}
use Rattle.std.proofs.lemmas.Bool.{and_parts, or_cases, both_ways, cases_Bool}
use Rattle.isa_model.specs.Instructions.{nop_word}
use Rattle.word_ops.specs.Ranges.{Extent, extent, holds}
use Rattle.ordered_tests.specs.Lists.{EachOf}
use Rattle.ordered_tests.proofs.Lists.{each_any, each_append}
use Rattle.image_model.specs.Image.{Image}
use Rattle.image_model.specs.Loaded.{byte_at, word_at}
use Rattle.layout_model.specs.Layouts.{Area, Layout, area_holds, stop_range, is_foreign}
use Rattle.layout_model.specs.Facts.{IsLayout}
use Rattle.asm_syntax.specs.declared.instr.Instr.{Instr}
use Rattle.asm_syntax.specs.declared.instr.Instr.TheVariants as instrs
use Rattle.code_model.specs.Addresses.{address_after, instr_address}
use Rattle.code_model.specs.Areas.{is_code_kind, is_table_kind, is_data_kind, is_in_one_area}
use Rattle.code_model.specs.Code.{table_range}
use Rattle.code_model.specs.Variables.{data_range}
use Rattle.link_model.specs.declared.owner.Owner.{Owner}
use Rattle.link_model.specs.declared.owner.Owner.TheVariants as owners
use Rattle.link_model.specs.Program.{Item, OfFunction, OfVariable, OfExternal, Declaration, keys}
use Rattle.link_model.specs.Numbers.{unit_name}
use Rattle.link_model.specs.Candidates.{Inputs}
use Rattle.link_model.specs.Binding.{numbered_keys, key_address}
use Rattle.link_model.specs.Claims.{Claim, claims, code_range, jump_claims, table_claims, key_functions, key_variables}
use Rattle.link_model.specs.Kinds.{Stray, kind_of_byte, kind_at, is_padding, is_free_nop, claim_holds, is_in_area}
use Rattle.link_model.specs.Overlaps.{no_claim}
use Rattle.link_model.specs.Parts.{IsKey, PartsHold}
use Rattle.link_laws.proofs.Items.{flat_each, number_from}
use Rattle.link_laws.proofs.Ranges.{areas_of, range_in_area, foreign_at, holds_from, IsAreaRange, IsAreaOf, IsForeignOf}

-- off the stack and off the stop point
abbrev pub IsOff : Layout → ℕ → Type 0
IsOff l a = (holds a l.stack ≡ false) × (holds a (stop_range l.stop) ≡ false)

-- ---- claims lie in areas

abbrev InArea : Layout → Claim → Type 0
InArea l c = IsAreaRange l c.range

pub numbered_is : (g : Inputs) (i : ℕ) (k : ℕ × Declaration) → slice_get (numbered_keys g) i ≡ Some k → IsKey g k.0 k.1.unit k.1.item
numbered_is g i k h =
    let r = number_from 0 (keys g.program.units) i k h in
    let e = r.0 in
    let s : k.0 ≡ i = omega arith in rw s r.1

-- the table of each instruction
tables_in : (P : Claim → Type 0) (v : Image) (owner_at : ℕ → Owner) (base a : ℕ) (code : List Instr) →
    ((i r : ℕ) (labels : List ℕ) (owner : Owner) → slice_get code i ≡ Some (instrs.Btbl r labels) →
    P (record { range = table_range v (instr_address v a code i) labels; owner = owner })) →
    EachOf P (table_claims v owner_at base a code)
tables_in P v owner_at base a [] h = tt
tables_in P v owner_at base a (x ∷ xs) h =
    each_append P (jump_claims v owner_at base a x) (table_claims v owner_at base (address_after v a x) xs) (here x
    (λ r labels owner e. h 0 r labels owner e))
    (tables_in P v owner_at base (address_after v a x) xs (λ i r labels owner e. h (suc i) r labels owner e))
  where
    here : (y : Instr) → ((r : ℕ) (labels : List ℕ) (owner : Owner) → Some y ≡ Some (instrs.Btbl r labels) →
        P (record { range = table_range v a labels; owner = owner })) → EachOf P (jump_claims v owner_at base a y)
    here (instrs.Btbl r labels) k = (k r labels (owner_at (a - base)) refl, tt)
    here _ k = tt

function_in : (g : Inputs) (bs : List ℕ) → IsLayout g.layout → PartsHold g bs → (k u : ℕ) (item : Item) → IsKey g k u item →
    EachOf (InArea g.layout) (key_functions g bs (k, record { unit = u; item = item }))
function_in g bs lay p k u (OfFunction f) key =
    let base = key_address bs k in (
      range_in_area g.layout lay is_code_kind (code_range g.image base f.code) (p.placed k u f key).inside,
      tables_in (InArea g.layout) g.image (owners.Table (unit_name g.program.units u) f.name) base base f.code
          (λ i r labels owner is. range_in_area g.layout lay is_table_kind (table_range g.image
          (instr_address g.image base f.code i) labels)
          ((p.code k u f key).tables i r labels is).placed),
    )
function_in g bs lay p k u (OfVariable x) key = tt
function_in g bs lay p k u (OfExternal x) key = tt

variable_in : (g : Inputs) (bs : List ℕ) → IsLayout g.layout → PartsHold g bs → (k u : ℕ) (item : Item) → IsKey g k u item →
    EachOf (InArea g.layout) (key_variables g bs (k, record { unit = u; item = item }))
variable_in g bs lay p k u (OfFunction f) key = tt
variable_in g bs lay p k u (OfVariable x) key =
    (range_in_area g.layout lay (is_data_kind x.writable) (data_range (key_address bs k) x) (p.data_placed k u x key).inside, tt)
variable_in g bs lay p k u (OfExternal x) key = tt

claims_in : (g : Inputs) (bs : List ℕ) → IsLayout g.layout → PartsHold g bs → EachOf (InArea g.layout) (claims g bs)
unfolding claims
claims_in g bs lay p =
    each_append (InArea g.layout) (flat_map (key_functions g bs) (numbered_keys g)) (flat_map (key_variables g bs) (numbered_keys g))
    (flat_each (InArea g.layout) (key_functions g bs) (numbered_keys g)
    (λ i k h. function_in g bs lay p k.0 k.1.unit k.1.item (numbered_is g i k h)))
    (flat_each (InArea g.layout) (key_variables g bs) (numbered_keys g)
    (λ i k h. variable_in g bs lay p k.0 k.1.unit k.1.item (numbered_is g i k h)))

-- ---- the kinds

any_at : {X : Type 0} (p : X → Bool) (xs : List X) (i : ℕ) (d : X) → i < length xs → p (get_or xs i d) ≡ true → list_any p xs ≡ true
any_at p [] i d lt h = absurd (omega arith)
any_at p (x ∷ xs) zero d lt h = rw h refl
any_at p (x ∷ xs) (suc i) d lt h = rw (any_at p xs i d (omega arith) h) (grind arith)

none_claims : (cs : List Claim) (a : ℕ) → list_any (claim_holds a) cs ≡ false → position (claim_holds a) cs ≡ None
none_claims cs a h = at (position (claim_holds a) cs) refl
  where
    at : (o : Option ℕ) → position (claim_holds a) cs ≡ o → o ≡ None
    at None e = refl
    at (Some j) e =
        let q = position-Some (claim_holds a) cs j no_claim e in
        absurd (both_ways (list_any (claim_holds a) cs) h (any_at (claim_holds a) cs j no_claim q.0 q.1))

nop_off : (v : Image) (l : Layout) (lay : IsLayout l) (cs : List Claim) (a : ℕ) → is_free_nop v l cs (a - a % 4) ≡ true → IsOff l a
unfolding is_free_nop
nop_off v l lay cs a h =
    let x = a - a % 4 in
    let word = option_map_or (λ w. w == nop_word) (word_at v x) false in
    let nop : Extent = extent x (x + 4) in
    let one = and_parts (word && is_in_one_area l is_code_kind nop) _ h in
    let two = and_parts word (is_in_one_area l is_code_kind nop) one.0 in
    let area = range_in_area l lay is_code_kind nop two.1 in
    let here : holds a nop ≡ true = holds_from a nop (omega arith) (omega arith) in
    (area.off_stack a here, area.off_stop a here)

area_off : (l : Layout) → IsLayout l → (a : ℕ) → is_in_area l a ≡ true → IsOff l a
area_off l lay a h =
    let found = each_any (λ (area : Area). IsAreaOf l area.range) (area_holds a) l.areas (areas_of l lay) h in
    let ok : IsAreaOf l found.0.range = found.2 in
    (ok.off_stack a found.1, ok.off_stop a found.1)

padding_off : (v : Image) (l : Layout) → IsLayout l → (cs : List Claim) (a byte : ℕ) → is_padding v l cs a byte ≡ true → IsOff l a
padding_off v l lay cs a byte h = elim (or_cases ((byte == 0) && is_in_area l a) (is_free_nop v l cs (a - a % 4)) h) [
  | inl t ↦ area_off l lay a (and_parts (byte == 0) (is_in_area l a) t).1
  | inr t ↦ nop_off v l lay cs a t
]

foreign_off : (l : Layout) → IsLayout l → (a : ℕ) → is_foreign l a ≡ true → IsOff l a
foreign_off l lay a h =
    let found = foreign_at l lay a h in
    let ok : IsForeignOf l found.0 = found.2 in
    (ok.off_stack a found.1, ok.off_stop a found.1)

claimed_off : (l : Layout) (cs : List Claim) (a : ℕ) → EachOf (InArea l) cs → list_any (claim_holds a) cs ≡ true → IsOff l a
claimed_off l cs a e h =
    let found = each_any (InArea l) (claim_holds a) cs e h in
    let ok : IsAreaRange l found.0.range = found.2 in
    (ok.off_stack a found.1, ok.off_stop a found.1)

kind_off : (v : Image) (l : Layout) → IsLayout l → (cs : List Claim) → EachOf (InArea l) cs → (a byte : ℕ) →
    (kind_of_byte v l cs a byte ≡ Stray → ⊥) → IsOff l a
kind_off v l lay cs e a byte h = elim (cases_Bool (list_any (claim_holds a) cs)) [
  | inl t ↦ claimed_off l cs a e t
  | inr t ↦ elim (cases_Bool (is_foreign l a)) [
    | inl f ↦ foreign_off l lay a f
    | inr f ↦ elim (cases_Bool (is_padding v l cs a byte)) [
      | inl q ↦ padding_off v l lay cs a byte q
      | inr q ↦ absurd (h (rw (none_claims cs a t, f, q) refl))
    ]
  ]
]

is_stray : (g : Inputs) (cs : List Claim) (a byte : ℕ) → byte_at g.image a ≡ Some byte →
    kind_of_byte g.image g.layout cs a byte ≡ Stray → kind_at g.image g.layout cs a ≡ Some Stray
unfolding kind_at
is_stray g cs a byte h e = rw (h, e) refl

pub loaded_off : (g : Inputs) (bs : List ℕ) → IsLayout g.layout → PartsHold g bs → (a byte : ℕ) → byte_at g.image a ≡ Some byte →
    IsOff g.layout a
loaded_off g bs lay p a byte h =
    let cs = claims g bs in
    kind_off g.image g.layout lay cs (claims_in g bs lay p) a byte (λ e. p.covered a (is_stray g cs a byte h e))
