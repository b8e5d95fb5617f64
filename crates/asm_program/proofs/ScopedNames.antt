-- Names in scopes, as the order of maps and as equality.
use Rattle.std.proofs.Common.{◌≡◌, ℕ, ◌+◌, Bool, true, false, ◌&&◌, not, List, refl, ◌∙◌, ap, arith, if◌then◌else◌}
use Rattle.std.specs.Prelude.{◌==◌}
use Rattle.std.specs.Str.{bytes_eq}
use Rattle.std.specs.Cmp.{IsTotalOrder}
use Rattle.std.specs.Ordering.{nat_cmp, is_eq}
use Rattle.std.proofs.lemmas.Bool.{eqb-true, eq-eqb}
use Rattle.std.proofs.lemmas.Cmp.{nat_cmp_total, on_total, then_total}
use Rattle.std.proofs.lemmas.Slice.Eq.{bytes_eq-Decides}
use Rattle.link_model.specs.Program.{Declaration, name_of, is_static, same_key, is_static_named, is_global_named}
use Rattle.asm_program.specs.Scopes.{scope_of, scoped_name, is_same, is_of}
use Rattle.asm_program.specs.Codes.{by_code}
use Rattle.asm_program.specs.Numbered.{by_name}
use Rattle.asm_program.proofs.CodedNames.{by_code_total, code_is, then_eq, nat_eq}
use Rattle.asm_program.proofs.NameSets.{bytes_eq_swap}

pub by_name_total : IsTotalOrder by_name
by_name_total = then_total (on_total (λ (p : ℕ × List ℕ). p.1) by_code_total) (on_total (λ (p : ℕ × List ℕ). p.0) nat_cmp_total)

and_swap : (a b : Bool) → (a && b) ≡ (b && a)
and_swap true true = refl
and_swap true false = refl
and_swap false true = refl
and_swap false false = refl

pub same_is : (p q : ℕ × List ℕ) → is_eq (by_name p q) ≡ is_same p q
same_is p q =
    then_eq (by_code p.1 q.1) (nat_cmp p.0 q.0)
    ∙ ((λ k. code_is p.1 q.1 k && nat_eq p.0 q.0 k)
    ∙ and_swap (bytes_eq p.1 q.1) (p.0 == q.0))

-- ---- the tests of names

-- names that are equal
pub same_name : (p q : ℕ × List ℕ) → is_same p q ≡ true → p ≡ q
same_name p q h = let t = both (p.0 == q.0) (bytes_eq p.1 q.1) h in
    let e = eqb-true p.0 q.0 t.0 in let f = (bytes_eq-Decides p.1 q.1).0 t.1 in λ k. (e k, f k)
  where
    both : (a b : Bool) → (a && b) ≡ true → (a ≡ true) × (b ≡ true)
    both true b h = (refl, h)
    both false b h = cc

pub name_same : (p : ℕ × List ℕ) → is_same p p ≡ true
name_same p = rw (eq-eqb p.0 p.0 refl, (bytes_eq-Decides p.1 p.1).1 refl) refl

eq_swap : (m n : ℕ) → (m == n) ≡ (n == m)
eq_swap m n = grind arith

pub is_same_swap : (p q : ℕ × List ℕ) → is_same p q ≡ is_same q p
is_same_swap p q = λ k. eq_swap p.0 q.0 k && bytes_eq_swap p.1 q.1 k

suc_same : (m n : ℕ) → (m == n) ≡ (m + 1 == n + 1)
suc_same m n = grind arith

no_zero : (m : ℕ) → false ≡ (m + 1 == 0)
no_zero m = grind arith

zero_no : (m : ℕ) → false ≡ (0 == m + 1)
zero_no m = grind arith

-- s, t: whether the declarations are static
key_step : (s t : Bool) (u v : ℕ) (b : Bool)
    → (b && (if s then t && (u == v) else not t)) ≡ ((if s then u + 1 else 0) == (if t then v + 1 else 0) && b)
key_step true true u v b = and_swap b (u == v) ∙ ap (λ e. e && b) (suc_same u v)
key_step true false u v b = and_swap b false ∙ ap (λ e. e && b) (no_zero u)
key_step false true u v b = and_swap b false ∙ ap (λ e. e && b) (zero_no v)
key_step false false u v b = and_swap b true

pub key_is : (d e : Declaration) → same_key d e ≡ is_of (scoped_name d) e
key_is d e = key_step (is_static d) (is_static e) d.unit e.unit (bytes_eq (name_of d) (name_of e))

static_step : (s : Bool) (u v : ℕ) (b : Bool) → ((b && s) && (v == u)) ≡ (u + 1 == (if s then v + 1 else 0) && b)
static_step true u v b =
    ap (λ e. e && (v == u)) (and_swap b true) ∙ (and_swap b (v == u) ∙ (ap (λ e. e && b) (eq_swap v u) ∙ ap (λ e. e && b) (suc_same u v)))
static_step false u v b = ap (λ e. e && (v == u)) (and_swap b false) ∙ ap (λ e. e && b) (no_zero u)

pub static_is : (u : ℕ) (n : List ℕ) (d : Declaration) → is_static_named u n d ≡ is_of (u + 1, n) d
static_is u n d = static_step (is_static d) u d.unit (bytes_eq (name_of d) n)
    ∙ ap (λ b. u + 1 == scope_of d && b) (bytes_eq_swap (name_of d) n)

global_step : (s : Bool) (v : ℕ) (b : Bool) → (b && not s) ≡ (0 == (if s then v + 1 else 0) && b)
global_step true v b = and_swap b false ∙ ap (λ e. e && b) (zero_no v)
global_step false v b = and_swap b true

pub global_is : (n : List ℕ) (d : Declaration) → is_global_named n d ≡ is_of (0, n) d
global_is n d = global_step (is_static d) d.unit (bytes_eq (name_of d) n) ∙ ap (λ b. 0 == scope_of d && b) (bytes_eq_swap (name_of d) n)
