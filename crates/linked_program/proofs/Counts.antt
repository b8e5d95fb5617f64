-- How many keys units have.
use Rattle.std.proofs.Common.{◌≡◌, ℕ, ◌+◌, ◌*◌, ◌≤◌, Bool, true, false, ◌&&◌, List, [], ◌∷◌, ◌++◌, length, map, cond, ap, arith}
use Rattle.std.proofs.Common.{length-append, if◌then◌else◌}
use Rattle.std.specs.Prelude.{filter, nat_le}
use Rattle.std.specs.List.{list_all, list_any, flat_map, enumerate_from}
use Rattle.std.proofs.lemmas.Bool.{and_parts, leb-true}
use Rattle.std.proofs.lemmas.List.{length-map}
use Rattle.limits.specs.declared.TheConstants.{MOST_UNITS, MOST_FUNCTIONS, MOST_VARIABLES, MOST_EXTERNALS}
use Rattle.asm_syntax.specs.declared.instr.Function.{Function}
use Rattle.asm_syntax.specs.declared.unit.Variable.{Variable}
use Rattle.asm_syntax.specs.declared.unit.External.{External}
use Rattle.asm_syntax.specs.declared.unit.Unit.{Unit}
use Rattle.asm_shapes.specs.Units.{unit_fits, function_fits, variable_fits, external_fits, counts_fit, are_distinct, unit_names}
use Rattle.link_model.specs.Sets.{first_of_each}
use Rattle.link_model.specs.Program.{Declaration, unit_declarations, OfFunction, OfVariable, OfExternal, declarations, is_key, same_key}
use Rattle.link_model.specs.Program.{keys}

few_in : (u : ℕ) (unit : Unit) → unit_fits unit ≡ true → length (unit_declarations u unit) ≤ 196608
few_in u unit h =
    let few = counts_fit unit && are_distinct (unit_names unit) in
    let fs = list_all function_fits unit.functions in
    let vs = list_all variable_fits unit.variables in
    let all = and_parts (few && fs && vs) (list_all external_fits unit.externals) h in
    let some = and_parts (few && fs) vs all.0 in
    let first = and_parts few fs some.0 in
    let counts = and_parts (counts_fit unit) (are_distinct (unit_names unit)) first.0 in
    let a = nat_le (length unit.functions) MOST_FUNCTIONS in
    let b = nat_le (length unit.variables) MOST_VARIABLES in
    let most = and_parts (a && b) (nat_le (length unit.externals) MOST_EXTERNALS) counts.0 in
    let two = and_parts a b most.0 in
    let f : length unit.functions ≤ MOST_FUNCTIONS = leb-true (length unit.functions) MOST_FUNCTIONS two.0 in
    let v : length unit.variables ≤ MOST_VARIABLES = leb-true (length unit.variables) MOST_VARIABLES two.1 in
    let e : length unit.externals ≤ MOST_EXTERNALS = leb-true (length unit.externals) MOST_EXTERNALS most.1 in
    let of_f : Function → Declaration = λ f. record { unit = u; item = OfFunction f } in
    let of_v : Variable → Declaration = λ x. record { unit = u; item = OfVariable x } in
    let of_e : External → Declaration = λ x. record { unit = u; item = OfExternal x } in
    let fs_of = map of_f unit.functions in let vs_of = map of_v unit.variables in let es_of = map of_e unit.externals in
    omega (
      arith,
      length-append fs_of (vs_of ++ es_of),
      length-append vs_of es_of,
      length-map unit.functions of_f,
      length-map unit.variables of_v,
      length-map unit.externals of_e,
    )

few_from : (k : ℕ) (units : List Unit) → list_all unit_fits units ≡ true
    → length (flat_map (λ (u : ℕ × Unit). unit_declarations u.0 u.1) (enumerate_from k units)) ≤ 196608 * length units
few_from k [] h = omega arith
few_from k (unit ∷ units) h =
    let t = and_parts (unit_fits unit) (list_all unit_fits units) h in
    let rest = flat_map (λ (u : ℕ × Unit). unit_declarations u.0 u.1) (enumerate_from (k + 1) units) in
    omega (arith, length-append (unit_declarations k unit) rest, few_in k unit t.0, few_from (k + 1) units t.1)

pub few_declarations : (units : List Unit) → list_all unit_fits units ≡ true → length (declarations units) ≤ 196608 * length units
unfolding declarations
few_declarations units h = few_from 0 units h

filter_step : {X : Type 0} (b : Bool) (x : X) (ys : List X) (n : ℕ) → length ys ≤ n → length (cond b (x ∷ ys) ys) ≤ n + 1
filter_step true x ys n h = omega arith
filter_step false x ys n h = omega arith

pub few_kept : {X : Type 0} (p : X → Bool) (xs : List X) → length (filter p xs) ≤ length xs
few_kept p [] = omega arith
few_kept p (x ∷ xs) = omega (arith, filter_step (p x) x (filter p xs) (length xs) (few_kept p xs))

few_step : {X : Type 0} (b : Bool) (x : X) (ys zs : List X) (n : ℕ) → length ys ≤ n → length zs ≤ n
    → length (if b then ys else x ∷ zs) ≤ n + 1
few_step true x ys zs n h k = omega arith
few_step false x ys zs n h k = omega arith

few_firsts : {X : Type 0} (alike : X → X → Bool) (seen xs : List X) → length (first_of_each alike seen xs) ≤ length xs
few_firsts alike seen [] = omega arith
few_firsts alike seen (x ∷ xs) =
    omega (
      arith,
      few_step (list_any (alike x) seen) x (first_of_each alike seen xs) (first_of_each alike (x ∷ seen) xs) (length xs)
          (few_firsts alike seen xs) (few_firsts alike (x ∷ seen) xs),
    )

pub few_keys : (units : List Unit) → list_all unit_fits units ≡ true → length units ≤ MOST_UNITS
    → length (keys units) ≤ MOST_UNITS * (MOST_FUNCTIONS + MOST_VARIABLES + MOST_EXTERNALS)
unfolding keys
few_keys units h few =
    let standing = filter (λ (d : Declaration). is_key units d.item) (declarations units) in
    omega (
      arith,
      few_firsts same_key [] standing,
      few_kept (λ (d : Declaration). is_key units d.item) (declarations units),
      few_declarations units h,
    )

pub few_standing : (units : List Unit) → list_all unit_fits units ≡ true → length units ≤ MOST_UNITS
    → length (filter (λ (d : Declaration). is_key units d.item) (declarations units)) ≤ MOST_UNITS *
    (MOST_FUNCTIONS + MOST_VARIABLES + MOST_EXTERNALS)
few_standing units h few =
    omega (arith, few_kept (λ (d : Declaration). is_key units d.item) (declarations units), few_declarations units h)

pub keys_are : (units : List Unit) (ds : List Declaration) → ds ≡ filter (λ (d : Declaration). is_key units d.item) (declarations units)
    → first_of_each same_key [] ds ≡ keys units
unfolding keys
keys_are units ds h = ap (first_of_each same_key []) h
