-- What claims that are apart tell of two of them: a function, a table or a variable.
use Rattle.std.proofs.Common.{◌≡◌, ℕ, zero, suc, ◌<◌, false, List, [], ◌∷◌, ◌++◌, Some, ◌∙◌, ap, subst, arith}
use Rattle.std.specs.Prelude.{slice_get, flat_map}
use Rattle.word_ops.specs.Ranges.{meets}
use Rattle.ordered_tests.specs.Lists.{EachOf, Pairwise}
use Rattle.ordered_tests.proofs.Lists.{each_flat, each_right, pairs_left, pairs_right, pairs_across, pairs_flat, number_get}
use Rattle.image_model.specs.Image.{Image}
use Rattle.asm_syntax.specs.declared.instr.Instr.{Instr}
use Rattle.asm_syntax.specs.declared.instr.Instr.TheVariants as instrs
use Rattle.asm_syntax.specs.declared.instr.Function.{Function}
use Rattle.asm_syntax.specs.declared.unit.Variable.{Variable}
use Rattle.code_model.specs.Addresses.{address_after, instr_address}
use Rattle.code_model.specs.Code.{table_range}
use Rattle.code_model.specs.Variables.{data_range}
use Rattle.link_model.specs.declared.owner.Owner.{Owner}
use Rattle.link_model.specs.declared.owner.Owner.TheVariants as owners
use Rattle.link_model.specs.Program.{Item, OfFunction, OfVariable, keys}
use Rattle.link_model.specs.Numbers.{unit_name}
use Rattle.link_model.specs.Candidates.{Inputs}
use Rattle.link_model.specs.Binding.{numbered_keys, key_address}
use Rattle.link_model.specs.Claims.{Claim, claims, code_range, jump_claims, table_claims, key_functions, key_variables, AreApart, Apart}
use Rattle.link_model.specs.Parts.{IsKey}

pub numbered_key : (g : Inputs) (k u : ℕ) (item : Item) → IsKey g k u item →
    slice_get (numbered_keys g) k ≡ Some (k, record { unit = u; item = item })
numbered_key g k u item h =
    number_get 0 (keys g.program.units) k _ h ∙ ap (λ n. Some (n, record { unit = u; item = item })) (omega arith)

-- ---- the tables of a function

-- what holds of each claim of tables holds of that of instruction i
pub table_get : (P : Claim → Type 0) (v : Image) (owner_at : ℕ → Owner) (base a : ℕ) (code : List Instr) (i : ℕ) (x : Instr) →
    EachOf P (table_claims v owner_at base a code) → slice_get code i ≡ Some x →
    EachOf P (jump_claims v owner_at base (instr_address v a code i) x)
table_get P v owner_at base a [] i x e h = absurd (cc)
table_get P v owner_at base a (y ∷ ys) zero x e h =
    let s : y ≡ x = cc in
    subst (λ z. EachOf P (jump_claims v owner_at base a z)) s (left (jump_claims v owner_at base a y) e)
  where
    left : (cs : List Claim) → EachOf P (cs ++ table_claims v owner_at base (address_after v a y) ys) → EachOf P cs
    left [] e = tt
    left (c ∷ cs) e = (e.0, left cs e.1)
table_get P v owner_at base a (y ∷ ys) (suc i) x e h =
    table_get P v owner_at base (address_after v a y) ys i x (each_right P (jump_claims v owner_at base a y) _ e) h

-- ---- two lists of claims

abbrev FunctionClaims : Inputs → List ℕ → List Claim
FunctionClaims g bs = flat_map (key_functions g bs) (numbered_keys g)

abbrev VariableClaims : Inputs → List ℕ → List Claim
VariableClaims g bs = flat_map (key_variables g bs) (numbered_keys g)

two_lists : (g : Inputs) (bs : List ℕ) → Apart (claims g bs) → Pairwise AreApart (FunctionClaims g bs ++ VariableClaims g bs)
unfolding claims
two_lists g bs h = h

-- the range of the variable that is key j
abbrev OffVariable : List ℕ → ℕ → Variable → Claim → Type 0
OffVariable bs j x c = meets c.range (data_range (key_address bs j) x) ≡ false

-- all that a function claims is apart from each variable
code_off_data : (g : Inputs) (bs : List ℕ) (k u j t : ℕ) (f : Function) (x : Variable) → Apart (claims g bs) →
    IsKey g k u (OfFunction f) → IsKey g j t (OfVariable x) →
    EachOf (OffVariable bs j x) (key_functions g bs (k, record { unit = u; item = OfFunction f }))
code_off_data g bs k u j t f x h fk xk =
    let across = pairs_across AreApart (FunctionClaims g bs) (VariableClaims g bs) (two_lists g bs h) in
    weak (key_functions g bs (k, record { unit = u; item = OfFunction f }))
    (each_flat (λ c. EachOf (AreApart c) (VariableClaims g bs)) (key_functions g bs) (numbered_keys g) across k _
    (numbered_key g k u (OfFunction f) fk))
  where
    weak : (cs : List Claim) → EachOf (λ c. EachOf (AreApart c) (VariableClaims g bs)) cs → EachOf (OffVariable bs j x) cs
    weak [] e = tt
    weak (c ∷ cs) e = (
      (each_flat (AreApart c) (key_variables g bs) (numbered_keys g) e.0 j _ (numbered_key g j t (OfVariable x) xk)).0,
      weak cs e.1,
    )

-- ---- two claims

pub function_variable : (g : Inputs) (bs : List ℕ) (k u j t : ℕ) (f : Function) (x : Variable) → Apart (claims g bs) →
    IsKey g k u (OfFunction f) → IsKey g j t (OfVariable x) →
    meets (code_range g.image (key_address bs k) f.code) (data_range (key_address bs j) x) ≡ false
function_variable g bs k u j t f x h fk xk = (code_off_data g bs k u j t f x h fk xk).0

pub table_variable : (g : Inputs) (bs : List ℕ) (k u j t i r : ℕ) (labels : List ℕ) (f : Function) (x : Variable) →
    Apart (claims g bs) → IsKey g k u (OfFunction f) → IsKey g j t (OfVariable x) → slice_get f.code i ≡ Some (instrs.Btbl r labels) →
    meets (table_range g.image (instr_address g.image (key_address bs k) f.code i) labels) (data_range (key_address bs j) x) ≡ false
table_variable g bs k u j t i r labels f x h fk xk is =
    (table_get (OffVariable bs j x) g.image (owners.Table (unit_name g.program.units u) f.name) (key_address bs k) (key_address bs k)
    f.code i _ (code_off_data g bs k u j t f x h fk xk).1 is).0

pub variable_variable : (g : Inputs) (bs : List ℕ) (j k t u : ℕ) (x y : Variable) → Apart (claims g bs) →
    IsKey g j t (OfVariable x) → IsKey g k u (OfVariable y) → j < k →
    meets (data_range (key_address bs j) x) (data_range (key_address bs k) y) ≡ false
variable_variable g bs j k t u x y h xk yk lt =
    let all = pairs_right AreApart (FunctionClaims g bs) (VariableClaims g bs) (two_lists g bs h) in
    (pairs_flat AreApart (key_variables g bs) (numbered_keys g) all j k _ _ lt (numbered_key g j t (OfVariable x) xk)
    (numbered_key g k u (OfVariable y) yk)).0.0

pub function_function : (g : Inputs) (bs : List ℕ) (j k t u : ℕ) (f h : Function) → Apart (claims g bs) →
    IsKey g j t (OfFunction f) → IsKey g k u (OfFunction h) → j < k →
    meets (code_range g.image (key_address bs j) f.code) (code_range g.image (key_address bs k) h.code) ≡ false
function_function g bs j k t u f h apart fk hk lt =
    let all = pairs_left AreApart (FunctionClaims g bs) (VariableClaims g bs) (two_lists g bs apart) in
    (pairs_flat AreApart (key_functions g bs) (numbered_keys g) all j k _ _ lt (numbered_key g j t (OfFunction f) fk)
    (numbered_key g k u (OfFunction h) hk)).0.0
