-- The facts of one function, from the parts.
use Rattle.std.proofs.Common.{◌≡◌, ℕ, zero, suc, ◌+◌, ◌*◌, ◌%◌, ◌<◌, ◌≤◌, true, false, List, [], ◌∷◌, length, Some, subst, arith}
use Rattle.std.specs.Prelude.{slice_get, is_some, ◌≢◌}
use Rattle.std.proofs.lemmas.Bool.{and_parts, both_ways}
use Rattle.limits.specs.declared.TheConstants.{MOST_RANGE_END}
use Rattle.word_ops.specs.Ranges.{Extent, holds}
use Rattle.image_model.specs.Loaded.{word_at}
use Rattle.layout_model.specs.Layouts.{is_foreign, stop_range}
use Rattle.layout_model.specs.Facts.{IsLayout}
use Rattle.asm_syntax.specs.declared.instr.Instr.{Instr}
use Rattle.asm_syntax.specs.declared.instr.Function.{Function}
use Rattle.asm_syntax.specs.declared.unit.External.{External}
use Rattle.code_model.specs.Forms.{Form, forms, instr_length}
use Rattle.code_model.specs.Spelling.{first_word, word_spells, words_spell}
use Rattle.code_model.specs.Addresses.{is_executable_at, loaded_word, words_from, are_loaded, instr_address, code_end}
use Rattle.code_model.specs.Areas.{is_code_kind, is_table_kind}
use Rattle.code_model.specs.Code.{table_address, table_range}
use Rattle.code_model.specs.Variables.{data_range}
use Rattle.link_model.specs.Program.{OfFunction, OfExternal}
use Rattle.link_model.specs.Candidates.{Inputs}
use Rattle.link_model.specs.Binding.{key_address}
use Rattle.link_model.specs.Claims.{code_range}
use Rattle.link_model.specs.Parts.{IsKey, PartsHold}
use Rattle.link_laws.specs.Facts.{IsOffData, AreCodeWords, target_of, IsInstr, HasTables, FunctionFacts}
use Rattle.link_laws.proofs.Ranges.{one_holds, IsAreaRange, range_in_area, holds_from}
use Rattle.link_laws.proofs.Addresses.{after_is, address_low, address_end, address_aligned, address_next, get_below, some_word, first_forms}
use Rattle.link_laws.proofs.Apartness.{function_variable, table_variable}
use Rattle.link_laws.proofs.Words.{spelt_parts}

-- ---- one word of code

-- all of `IsCodeWord` but the word
record IsFetched (g : Inputs) (bs : List ℕ) (a : ℕ) : Type 0 where
  pub aligned : a % 4 ≡ 0
  pub below : a + 4 ≤ MOST_RANGE_END
  pub runs : (i : ℕ) → i < 4 → is_executable_at g.image (a + i) ≡ true
  pub not_stop : a ≢ g.layout.stop
  pub not_external : (k u : ℕ) (x : External) → IsKey g k u (OfExternal x) → key_address bs k ≢ a
  pub off_data : (i : ℕ) → i < 4 → IsOffData g bs (a + i)

code_area : (g : Inputs) (bs : List ℕ) → IsLayout g.layout → PartsHold g bs → (k u : ℕ) (f : Function) →
    IsKey g k u (OfFunction f) → IsAreaRange g.layout (code_range g.image (key_address bs k) f.code)
code_area g bs lay p k u f key = range_in_area g.layout lay is_code_kind _ (p.placed k u f key).inside

-- an address in a range of code is in no variable
off_variables : (g : Inputs) (bs : List ℕ) → PartsHold g bs → (k u : ℕ) (f : Function) → IsKey g k u (OfFunction f) → (a : ℕ) →
    holds a (code_range g.image (key_address bs k) f.code) ≡ true → holds a g.layout.stack ≡ false → IsOffData g bs a
off_variables g bs p k u f key a here off = record {
  off_stack = off;
  off_variables = λ j v.
      let range : Extent = data_range (key_address bs j) v.1 in
      let met = function_variable g bs k u j v.0 f v.1 p.apart key v.2 in
      both_ways (holds a range) (one_holds (code_range g.image (key_address bs k) f.code) range a met here) v.3;
}

fetched : (g : Inputs) (bs : List ℕ) → IsLayout g.layout → PartsHold g bs → (k u : ℕ) (f : Function) → IsKey g k u (OfFunction f) →
    (a : ℕ) → key_address bs k ≤ a → a + 4 ≤ code_end g.image (key_address bs k) f.code → a % 4 ≡ 0 → IsFetched g bs a
fetched g bs lay p k u f key a low high even =
    let range : Extent = code_range g.image (key_address bs k) f.code in
    let area = code_area g bs lay p k u f key in
    let most = area.high in
    let stop = stop_range g.layout.stop in
    let here : (i : ℕ) → i < 4 → holds (a + i) range ≡ true = λ i lt. holds_from (a + i) range (omega arith) (omega arith) in
    let first : holds a range ≡ true = holds_from a range low (omega arith) in
    record {
      aligned = even;
      below = omega arith;
      runs = λ i lt. (p.placed k u f key).runs (a + i) (omega arith) (omega arith);
      not_stop = λ e. both_ways (holds a stop) (area.off_stop a first) (holds_from a stop (omega arith) (omega arith));
      not_external = λ j t x xk e. both_ways (is_foreign g.layout a) (area.off_foreign a first)
          (subst (λ b. is_foreign g.layout b ≡ true) e (p.externals j t x xk).foreign);
      off_data = λ i lt. off_variables g bs p k u f key (a + i) (here i lt) (area.off_stack (a + i) (here i lt));
    }

-- ---- instructions

code_words : (g : Inputs) (bs : List ℕ) (n a : ℕ) (fs : List Form) → are_loaded g.image a n ≡ true →
    words_spell g.layout a fs (words_from g.image a n) ≡ true → ((j : ℕ) → j < n → IsFetched g bs (a + 4 * j)) → AreCodeWords g bs a fs
code_words g bs zero a [] l s h = tt
code_words g bs zero a (form ∷ fs) l s h = absurd (cc)
code_words g bs (suc n) a [] l s h = absurd (cc)
code_words g bs (suc n) a (form ∷ fs) l s h =
    let w = loaded_word g.image a in
    let loaded = and_parts (is_some (word_at g.image a)) (are_loaded g.image (a + 4) n) l in
    let spelt = and_parts (word_spells g.layout a form w) (words_spell g.layout (a + 4) fs (words_from g.image (a + 4) n)) s in
    let f : IsFetched g bs a = subst (IsFetched g bs) (omega arith) (h 0 (omega arith)) in (
      record {
        aligned = f.aligned;
        below = f.below;
        runs = f.runs;
        loaded = some_word (word_at g.image a) loaded.0;
        spelt = spelt_parts g.layout a form w spelt.0;
        not_stop = f.not_stop;
        not_external = f.not_external;
        off_data = f.off_data;
      },
      code_words g bs n (a + 4) fs loaded.1 spelt.1 (λ j lt. subst (IsFetched g bs) (omega arith) (h (suc j) (omega arith))),
    )

instruction : (g : Inputs) (bs : List ℕ) → IsLayout g.layout → PartsHold g bs → (k u : ℕ) (f : Function) → IsKey g k u (OfFunction f) →
    (i : ℕ) (x : Instr) → slice_get f.code i ≡ Some x → IsInstr g bs u (key_address bs k) f.code i x
instruction g bs lay p k u f key i x is =
    let v = g.image in
    let base = key_address bs k in
    let a = instr_address v base f.code i in
    let n = instr_length x (loaded_word v a) in
    let t = target_of g bs u base f.code x in
    let ws = words_from v a n in
    let test = and_parts (are_loaded v a n) (words_spell g.layout a (forms t x (first_word ws)) ws)
    ((p.code k u f key).instructions i x is) in
    let low = address_low v base f.code i in
    let lt = get_below f.code i x is in
    let end = address_end v base f.code (suc i) (omega arith) in
    let next = address_next v base f.code i x is in
    let size = after_is v a x in
    let even = address_aligned v base f.code i (p.placed k u f key).aligned in
    let spelt : words_spell g.layout a (forms t x (loaded_word v a)) ws ≡ true =
    subst (λ fs. words_spell g.layout a fs ws ≡ true) (first_forms v a t x) test.1 in
    code_words g bs n a (forms t x (loaded_word v a)) test.0 spelt
    (λ j lt. fetched g bs lay p k u f key (a + 4 * j) (omega arith) (omega arith) (omega arith))

-- ---- tables: word j of a table of m words at t

even_word : (t j : ℕ) → t % 4 ≡ 0 → (t + 4 * j) % 4 ≡ 0
even_word t j h = omega arith

below_word : (t j m most : ℕ) → t + 4 * m ≤ most → j < m → t + 4 * j + 4 ≤ most
below_word t j m most h lt = omega arith

byte_low : (t j i : ℕ) → t ≤ t + 4 * j + i
byte_low t j i = omega arith

byte_high : (t j m i : ℕ) → j < m → i < 4 → t + 4 * j + i < t + 4 * m
byte_high t j m i lt few = omega arith

table_words : (g : Inputs) (bs : List ℕ) → IsLayout g.layout → PartsHold g bs → (k u : ℕ) (f : Function) →
    IsKey g k u (OfFunction f) → HasTables g bs (key_address bs k) f.code
table_words g bs lay p k u f key i r labels j n is js =
    let v = g.image in
    let a = instr_address v (key_address bs k) f.code i in
    let t = table_address v a in
    let table = (p.code k u f key).tables i r labels is in
    let range : Extent = table_range v a labels in
    let area = range_in_area g.layout lay is_table_kind range table.placed in
    let lt = get_below labels j n js in
    let here : (b : ℕ) → b < 4 → holds (t + 4 * j + b) range ≡ true =
    λ b few. holds_from (t + 4 * j + b) range (byte_low t j b) (byte_high t j (length labels) b lt few) in
    record {
      aligned = even_word t j table.aligned;
      below = below_word t j (length labels) MOST_RANGE_END area.high lt;
      word = table.words j n js;
      off_data = λ b few. record {
        off_stack = area.off_stack (t + 4 * j + b) (here b few);
        off_variables = λ m v.
            let other : Extent = data_range (key_address bs m) v.1 in
            let met = table_variable g bs k u m v.0 i r labels f v.1 p.apart key v.2 is in
            both_ways (holds (t + 4 * j + b) other) (one_holds range other (t + 4 * j + b) met (here b few)) v.3;
      };
    }

pub function_facts : (g : Inputs) (bs : List ℕ) → IsLayout g.layout → PartsHold g bs → (k u : ℕ) (f : Function) →
    IsKey g k u (OfFunction f) → FunctionFacts g bs u (key_address bs k) f.code
function_facts g bs lay p k u f key =
    let v = g.image in
    let base = key_address bs k in
    let area = code_area g bs lay p k u f key in
    let some = area.low in
    let most = area.high in
    record {
      addresses = λ i le.
          let low = address_low v base f.code i in
          let end = address_end v base f.code i le in
          record { some = omega arith; below = omega arith; aligned = address_aligned v base f.code i (p.placed k u f key).aligned };
      next = λ i x is. address_next v base f.code i x is;
      instructions = instruction g bs lay p k u f key;
      tables = table_words g bs lay p k u f key;
    }
