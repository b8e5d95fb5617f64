-- What a valid signature ensures.
use Rattle.std.proofs.Common.{◌≡◌, ℕ, ◌+◌, ◌<◌, ◌≤◌, Bool, true, false, ◌&&◌, List, [], ◌∷◌, length, nat_lt, IsTrue, refl, arith}
use Rattle.std.specs.Prelude.{is_none}
use Rattle.std.specs.List.{list_all, enumerate_from}
use Rattle.std.proofs.lemmas.Bool.{ltb-true}
use Rattle.ordered_tests.specs.Checks.{each_check, first_fault}
use Rattle.asm_syntax.specs.declared.unit.Width.{Width}
use Rattle.asm_syntax.specs.declared.unit.Buffer.{Buffer}
use Rattle.asm_syntax.specs.declared.unit.Sig.{Sig}
use Rattle.asm_shapes.specs.Signatures.{argument_registers, is_argument_register, buffer_fits, buffer_test, is_valid_sig}

-- its arguments pass in registers
pub passed : (sig : Sig) → IsTrue (is_valid_sig sig) → list_all is_argument_register (argument_registers sig.args) ≡ true
passed sig h = at (list_all is_argument_register (argument_registers sig.args)) refl
  where
    at : (t : Bool) → list_all is_argument_register (argument_registers sig.args) ≡ t
        → list_all is_argument_register (argument_registers sig.args) ≡ true
    at true e = e
    at false e = (let q : false ≡ true = rw e at h in cc)

and_left : (a b : Bool) → (a && b) ≡ true → a ≡ true
and_left true b h = refl
and_left false b h = h

abbrev Pass : List Width → ℕ → List Buffer → Type 0
Pass widths i bs = IsTrue (is_none (first_fault (each_check (buffer_test widths) (enumerate_from i bs))))

few_from : (widths : List Width) (bs : List Buffer) (i : ℕ) → i ≤ 8 → Pass widths i bs → i + length bs ≤ 8
few_from widths [] i h t = omega arith
few_from widths (b ∷ bs) i h t = at (nat_lt i 8 && buffer_fits widths b) refl (few_from widths bs (i + 1))
  where
    at : (s : Bool) → (nat_lt i 8 && buffer_fits widths b) ≡ s → (i + 1 ≤ 8 → Pass widths (i + 1) bs → i + 1 + length bs ≤ 8)
        → i + length (b ∷ bs) ≤ 8
    at true e rest =
        let q : Pass widths (i + 1) bs = rw e at t in
        let l : i < 8 = ltb-true _ _ (and_left _ _ e) in
        let r = rest (omega arith) q in
        omega arith
    at false e rest = (let q : false ≡ true = rw e at t in cc)

-- it has at most eight buffers
pub few : (sig : Sig) → IsTrue (is_valid_sig sig) → length sig.buffers ≤ 8
few sig h = at (list_all is_argument_register (argument_registers sig.args)) refl
  where
    at : (t : Bool) → list_all is_argument_register (argument_registers sig.args) ≡ t → length sig.buffers ≤ 8
    at true e =
        let q : Pass sig.args 0 sig.buffers = rw e at h in
        omega (arith, few_from sig.args sig.buffers 0 (omega arith) q)
    at false e = (let q : false ≡ true = rw e at h in cc)
