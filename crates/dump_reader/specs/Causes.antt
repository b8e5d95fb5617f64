-- For which causes a tree is no unit, or no replies.
use Rattle.std.specs.Prelude.{Bool, true}
use Rattle.json_tree.specs.declared.fault.Cause.{Cause}
use Rattle.json_tree.specs.declared.fault.Cause.TheVariants.{Shape, Refused}
use Rattle.json_tree.specs.Causes.{is_shared_cause}

-- a dump has functions and words that are left out, no range, and no aligned address
abbrev pub is_dump_cause : Cause → Bool
is_dump_cause (Shape shape) = true
is_dump_cause Refused = true
is_dump_cause cause = is_shared_cause cause
