-- All facts, from the parts of a match, a layout and linked units.
use Rattle.std.proofs.Common.{◌≡◌, ℕ, ◌<◌, ◌≤◌, inl, inr, Bool, true, false, List, [], ◌∷◌, length, subst, arith, if◌then◌else◌}
use Rattle.std.specs.List.{list_any}
use Rattle.std.proofs.lemmas.Bool.{or_cases}
use Rattle.limits.specs.declared.TheConstants.{MOST_RANGE_END}
use Rattle.image_model.specs.Image.{Image}
use Rattle.layout_model.specs.Facts.{IsLayout}
use Rattle.asm_syntax.specs.Instructions.{has_words}
use Rattle.asm_syntax.specs.declared.instr.Instr.{Instr}
use Rattle.asm_syntax.specs.declared.instr.Instr.TheVariants as instrs
use Rattle.code_model.specs.Forms.{instr_length, is_bc}
use Rattle.code_model.specs.Addresses.{loaded_word, address_after, code_end}
use Rattle.link_model.specs.Program.{Item, OfFunction, OfVariable, OfExternal}
use Rattle.link_model.specs.LinkTests.{IsLinked}
use Rattle.link_model.specs.Candidates.{Inputs}
use Rattle.link_model.specs.Binding.{key_address}
use Rattle.link_model.specs.Parts.{IsKey, PartsHold}
use Rattle.link_laws.specs.Facts.{IsCodeAddress, Facts}
use Rattle.link_laws.proofs.Addresses.{after_is, address_low, address_zero}
use Rattle.link_laws.proofs.Functions.{function_facts}
use Rattle.link_laws.proofs.Variables.{variable_facts, variables_apart, external_facts, functions_differ}
use Rattle.link_laws.proofs.Covered.{loaded_off}
use Rattle.link_laws.proofs.Keys.{shape_of_key}

-- ---- code with a word has an address

one_or_more : (b : Bool) (m n : ℕ) → 1 ≤ m → 1 ≤ n → 1 ≤ (if b then m else n)
one_or_more true m n h k = h
one_or_more false m n h k = k

has_length : (x : Instr) (w : ℕ) → has_words x ≡ true → 1 ≤ instr_length x w
unfolding instr_length
has_length (instrs.Plain plain) w h = omega arith
has_length (instrs.AllocFrame n) w h = one_or_more _ 1 3 (omega arith) (omega arith)
has_length (instrs.FreeFrame n) w h = omega arith
has_length (instrs.Imm r n) w h = one_or_more _ 1 _ (omega arith) (one_or_more _ 1 2 (omega arith) (omega arith))
has_length (instrs.Bt bit label) w h = one_or_more (is_bc 4 w) 2 1 (omega arith) (omega arith)
has_length (instrs.Bf bit label) w h = one_or_more (is_bc 12 w) 2 1 (omega arith) (omega arith)
has_length (instrs.Btbl r labels) w h = omega arith
has_length (instrs.MfcrBit r bit) w h = omega arith
has_length (instrs.Label label) w h = absurd (cc)
has_length instrs.Cfi w h = absurd (cc)
has_length instrs.Annot w h = absurd (cc)

code_full : (v : Image) (a : ℕ) (code : List Instr) → list_any has_words code ≡ true → a < code_end v a code
code_full v a [] h = absurd (cc)
code_full v a (x ∷ code) h =
    let b = after_is v a x in
    let low = address_low v (address_after v a x) code (length code) in
    elim (or_cases (has_words x) (list_any has_words code) h) [
      | inl t ↦ (let some = has_length x (loaded_word v a) t in omega arith)
      | inr t ↦ (let rest = code_full v (address_after v a x) code t in omega arith)
    ]

-- ---- each key's address

key_low : (g : Inputs) (bs : List ℕ) → IsLayout g.layout → PartsHold g bs → (k u : ℕ) (item : Item) → IsKey g k u item →
    (1 ≤ key_address bs k) × (key_address bs k ≤ MOST_RANGE_END)
key_low g bs lay p k u (OfFunction f) key =
    let q = subst IsCodeAddress (address_zero g.image (key_address bs k) f.code)
    ((function_facts g bs lay p k u f key).addresses 0 (omega arith)) in
    (q.some, q.below)
key_low g bs lay p k u (OfVariable x) key =
    let q = variable_facts g bs lay p k u x key in
    let some = q.some in
    let below = q.below in (omega arith, omega arith)
key_low g bs lay p k u (OfExternal x) key =
    let q = external_facts g bs lay p k u x key in
    let some = q.some in
    let below = q.below in (omega arith, omega arith)

-- ---- the whole

pub matches_give_facts : (g : Inputs) (bs : List ℕ) → IsLayout g.layout → IsLinked g.program → PartsHold g bs → Facts g bs
matches_give_facts g bs lay linked p = record {
  functions = function_facts g bs lay p;
  functions_differ = functions_differ g bs p
      (λ k u f key. code_full g.image (key_address bs k) f.code (shape_of_key g.program.units linked.fit k u f key).words);
  variables = variable_facts g bs lay p;
  variables_apart = variables_apart g bs p;
  externals = external_facts g bs lay p;
  externals_differ = p.externals_differ;
  low = key_low g bs lay p;
  loaded_off = loaded_off g bs lay p;
}
