-- What the limits of units say of functions, variables and externals.
use Rattle.std.proofs.Common.{◌≡◌, ◌≤◌, Bool, true, false, ℕ, Some, None, length, refl}
use Rattle.std.specs.Prelude.{◌&&◌, nat_le, is_some, if◌then◌else◌}
use Rattle.std.specs.List.{list_all}
use Rattle.std.proofs.lemmas.Bool.{leb-true}
use Rattle.limits.specs.declared.TheConstants.{MOST_INIT_ITEMS, MOST_INSTRUCTIONS, MOST_VARIABLE_BYTES}
use Rattle.asm_syntax.specs.declared.instr.Function.{Function}
use Rattle.asm_syntax.specs.declared.unit.External.{External}
use Rattle.asm_syntax.specs.declared.unit.Sig.{Sig}
use Rattle.asm_syntax.specs.declared.unit.Variable.{Variable}
use Rattle.asm_syntax.specs.Sizes.{limited_size, variable_size}
use Rattle.asm_shapes.specs.Shapes.{HasShape, is_valid_code}
use Rattle.asm_shapes.specs.Signatures.{is_valid_sig}
use Rattle.asm_shapes.specs.Units.{external_fits, function_fits, is_alignment, table_fits, variable_fits}
use Rattle.asm_shapes.proofs.ShapeLemmas.{valid_shape}

both_first : (a b c : Bool) → (a && b && c) ≡ true → a ≡ true
both_first true b c h = refl
both_first false b c h = h

both_last : (a b c : Bool) → (a && b && c) ≡ true → c ≡ true
both_last true true c h = h
both_last true false c h = absurd (cc)
both_last false b c h = absurd (cc)

pub function_size : (f : Function) → function_fits f ≡ true → length f.code ≤ MOST_INSTRUCTIONS
function_size f h =
    leb-true (length f.code) MOST_INSTRUCTIONS
    (both_first (nat_le (length f.code) MOST_INSTRUCTIONS) (list_all table_fits f.code) (is_valid_code f.code) h)

pub function_shape : (f : Function) → function_fits f ≡ true → HasShape f.code
function_shape f h =
    valid_shape f.code
    (both_last (nat_le (length f.code) MOST_INSTRUCTIONS) (list_all table_fits f.code) (is_valid_code f.code) h)

pub external_sig : (x : External) (sig : Sig) → external_fits x ≡ true → x.sig ≡ Some sig → is_valid_sig sig ≡ true
external_sig x sig h e = rw e at h

some_size : (n : ℕ) (t : Bool) → is_some (if t then Some n else None) ≡ true → t ≡ true
some_size n true h = refl
some_size n false h = absurd (cc)

-- the size that the limits leave
pub variable_limit : (x : Variable) → variable_fits x ≡ true
    → (limited_size x.init ≡ Some (variable_size x.init)) × (variable_size x.init ≤ MOST_VARIABLE_BYTES)
variable_limit x h =
    let last = both_last (is_alignment x.align) (nat_le (length x.init) MOST_INIT_ITEMS) (is_some (limited_size x.init)) h in
    let small = some_size (variable_size x.init) (nat_le (variable_size x.init) MOST_VARIABLE_BYTES) last in
    (rw small refl, leb-true (variable_size x.init) MOST_VARIABLE_BYTES small)
