-- The facts of variables and of externals, from the parts.
use Rattle.std.proofs.Common.{◌≡◌, ℕ, ◌<◌, inl, inr, true, false, List, arith}
use Rattle.std.proofs.lemmas.Bool.{both_ways, cases_order}
use Rattle.word_ops.specs.Ranges.{Extent, holds, meets}
use Rattle.layout_model.specs.Layouts.{stop_range}
use Rattle.layout_model.specs.Facts.{IsLayout}
use Rattle.asm_syntax.specs.declared.instr.Function.{Function}
use Rattle.asm_syntax.specs.declared.unit.Variable.{Variable}
use Rattle.asm_syntax.specs.declared.unit.External.{External}
use Rattle.code_model.specs.Addresses.{code_end}
use Rattle.code_model.specs.Areas.{is_data_kind}
use Rattle.code_model.specs.Variables.{data_range}
use Rattle.link_model.specs.Program.{OfFunction, OfVariable, OfExternal}
use Rattle.link_model.specs.Candidates.{Inputs}
use Rattle.link_model.specs.Binding.{key_address, symbol_address}
use Rattle.link_model.specs.Claims.{code_range}
use Rattle.link_model.specs.Parts.{IsKey, PartsHold}
use Rattle.link_laws.specs.Facts.{InVariable, VariableFacts, ExternalFacts}
use Rattle.link_laws.proofs.Ranges.{one_holds, range_in_area, IsForeignOf, foreign_at, holds_parts, holds_from}
use Rattle.link_laws.proofs.Apartness.{variable_variable, function_function}
use Rattle.link_laws.proofs.Sizes.{byte_of}

-- ranges that no address is in both of cannot hold one address
no_common : (p q : Extent) (a : ℕ) → meets p q ≡ false → holds a p ≡ true → holds a q ≡ true → ⊥
no_common p q a m h k = both_ways (holds a q) (one_holds p q a m h) k

-- ---- variables

pub variable_facts : (g : Inputs) (bs : List ℕ) → IsLayout g.layout → PartsHold g bs → (k u : ℕ) (x : Variable) →
    IsKey g k u (OfVariable x) → VariableFacts g bs u (key_address bs k) x
variable_facts g bs lay p k u x key =
    let a = key_address bs k in
    let placed = p.data_placed k u x key in
    let area = range_in_area g.layout lay (is_data_kind x.writable) (data_range a x) placed.inside in
    record {
      some = area.low;
      below = area.high;
      bytes = p.data_is k u x key;
      loaded = λ o lt. let byte = byte_of (symbol_address g bs u) x o lt in (byte.0, p.data_is k u x key o byte.0 byte.1);
      off_stack = area.off_stack;
      writable = placed.writable;
    }

pub variables_apart : (g : Inputs) (bs : List ℕ) → PartsHold g bs → (j k a : ℕ) → InVariable g bs j a → InVariable g bs k a → j ≡ k
variables_apart g bs p j k a v w =
    let one : Extent = data_range (key_address bs j) v.1 in
    let two : Extent = data_range (key_address bs k) w.1 in
    elim (cases_order j k) [
      | inl e ↦ e
      | inr (inl lt) ↦ absurd (no_common one two a (variable_variable g bs j k v.0 w.0 v.1 w.1 p.apart v.2 w.2 lt) v.3 w.3)
      | inr (inr lt) ↦ absurd (no_common two one a (variable_variable g bs k j w.0 v.0 w.1 v.1 p.apart w.2 v.2 lt) w.3 v.3)
    ]

-- ---- externals

pub external_facts : (g : Inputs) (bs : List ℕ) → IsLayout g.layout → PartsHold g bs → (k u : ℕ) (x : External) →
    IsKey g k u (OfExternal x) → ExternalFacts g (key_address bs k) x
external_facts g bs lay p k u x key =
    let a = key_address bs k in
    let placed = p.externals k u x key in
    let found = foreign_at g.layout lay a placed.foreign in
    let range : Extent = found.0 in
    let ok : IsForeignOf g.layout range = found.2 in
    let ends = holds_parts a range found.1 in
    let low = ends.0 in
    let high = ends.1 in
    let some = ok.range.some in
    let most = ok.range.most in
    let stop = stop_range g.layout.stop in
    record {
      some = omega arith;
      below = omega arith;
      aligned = placed.aligned;
      not_stop = λ e. both_ways (holds a stop) (ok.off_stop a found.1) (holds_from a stop (omega arith) (omega arith));
    }

-- ---- functions, each of which has a word, have different addresses

abbrev AreFull : Inputs → List ℕ → Type 0
AreFull g bs = (k u : ℕ) (f : Function) → IsKey g k u (OfFunction f) → key_address bs k < code_end g.image (key_address bs k) f.code

pub functions_differ : (g : Inputs) (bs : List ℕ) → PartsHold g bs → AreFull g bs → (j k t u : ℕ) (f h : Function) →
    IsKey g j t (OfFunction f) → IsKey g k u (OfFunction h) → key_address bs j ≡ key_address bs k → j ≡ k
functions_differ g bs p full j k t u f h fk hk e =
    let x = full j t f fk in
    let y = full k u h hk in
    let a = key_address bs j in
    let one : Extent = code_range g.image a f.code in
    let two : Extent = code_range g.image (key_address bs k) h.code in
    let in_one : holds a one ≡ true = holds_from a one (omega arith) (omega arith) in
    let in_two : holds a two ≡ true = holds_from a two (omega arith) (omega arith) in
    elim (cases_order j k) [
      | inl e ↦ e
      | inr (inl lt) ↦ absurd (no_common one two a (function_function g bs j k t u f h p.apart fk hk lt) in_one in_two)
      | inr (inr lt) ↦ absurd (no_common two one a (function_function g bs k j u t h f p.apart hk fk lt) in_two in_one)
    ]
