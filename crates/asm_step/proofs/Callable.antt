-- What the tests of a signature tell.
use Rattle.std.proofs.Common.{◌≡◌, ℕ, ◌+◌, ◌≤◌, true, List, [], ◌∷◌, ◌++◌, length, Option, Some, None, refl, arith}
use Rattle.std.specs.Prelude.{is_none, ◌&&◌, nat_lt}
use Rattle.std.specs.List.{list_all, enumerate_from}
use Rattle.std.proofs.lemmas.Bool.{and_parts, ltb-true}
use Rattle.ordered_tests.specs.Checks.{check, each_check, first_fault}
use Rattle.ordered_tests.proofs.Faults.{front_passes, rest_passes, head_passes}
use Rattle.asm_syntax.specs.declared.shape.ShapeError.TheVariants.{TooManyArgs, BadBuffer}
use Rattle.asm_syntax.specs.declared.unit.Width.{Width}
use Rattle.asm_syntax.specs.declared.unit.Buffer.{Buffer}
use Rattle.asm_syntax.specs.declared.unit.Sig.{Sig}
use Rattle.limits.specs.declared.TheConstants.{MOST_BUFFERS}
use Rattle.asm_shapes.specs.Signatures.{argument_registers, argument_tests, buffer_fits, buffer_test, buffer_tests, is_argument_register}
use Rattle.asm_shapes.specs.Signatures.{is_valid_sig}
use Rattle.asm_step.specs.Callable.{IsCallable}

none_of : {F : Type 0} → (o : Option F) → is_none o ≡ true → o ≡ None
none_of None h = refl
none_of (Some f) h = cc

-- buffers that pass from a number on end below the limit
few : (widths : List Width) (bs : List Buffer) (n : ℕ) → n ≤ MOST_BUFFERS
    → first_fault (each_check (buffer_test widths) (enumerate_from n bs)) ≡ None
    → n + length bs ≤ MOST_BUFFERS
few widths [] n l h = omega arith
few widths (b ∷ bs) n l h =
    let rest = each_check (buffer_test widths) (enumerate_from (n + 1) bs) in
    let p = head_passes (check (nat_lt n MOST_BUFFERS && buffer_fits widths b) (BadBuffer n)) rest h in
    let q = ltb-true n MOST_BUFFERS (and_parts (nat_lt n MOST_BUFFERS) (buffer_fits widths b) p).0 in
    let r = few widths bs (n + 1) (omega arith) (rest_passes (buffer_test widths (n, b)) rest h) in
    omega arith

pub callable : (sig : Sig) → is_valid_sig sig ≡ true → IsCallable sig
callable sig h =
    let e = none_of (first_fault (argument_tests sig.args ++ buffer_tests sig.args sig.buffers)) h in
    let a = front_passes (argument_tests sig.args) (buffer_tests sig.args sig.buffers) e in
    let b = rest_passes (argument_tests sig.args) (buffer_tests sig.args sig.buffers) e in
    let few_buffers = few sig.args sig.buffers 0 (omega arith) b in
    record {
      registers = head_passes (check (list_all is_argument_register (argument_registers sig.args)) (TooManyArgs 0)) [] a;
      buffers = omega arith;
    }
