-- For which causes a reading may fail.
use Rattle.std.specs.Prelude.{Bool, true, false, Result, Ok, Err, IsTrue}
use Rattle.json_tree.specs.declared.fault.Cause.{Cause}
use Rattle.json_tree.specs.declared.fault.Cause.TheVariants.{Shape, Refused, RangeOrder, Unaligned}
use Rattle.json_tree.specs.declared.fault.Fault.{Fault}

-- the causes that any profile may have. The others are those of functions, of words that are known and left out, and of ranges
abbrev pub is_shared_cause : Cause → Bool
is_shared_cause (Shape shape) = false
is_shared_cause Refused = false
is_shared_cause RangeOrder = false
is_shared_cause Unaligned = false
is_shared_cause _ = true

-- where the reading fails, the cause passes the test
abbrev pub FailsBy : {T : Type 0} → (Cause → Bool) → Result T Fault → Type 0
FailsBy allows (Ok x) = Unit {0}
FailsBy allows (Err fault) = IsTrue (allows fault.cause)
