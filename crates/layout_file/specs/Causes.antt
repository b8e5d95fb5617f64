-- The causes that a layout's tree may have.
use Rattle.std.specs.Prelude.{Bool, true}
use Rattle.json_tree.specs.declared.fault.Cause.{Cause}
use Rattle.json_tree.specs.declared.fault.Cause.TheVariants.{RangeOrder, Unaligned}
use Rattle.json_tree.specs.Causes.{is_shared_cause}

-- a layout has ranges and aligned addresses, no function, and no word that is left out
abbrev pub is_layout_cause : Cause → Bool
is_layout_cause RangeOrder = true
is_layout_cause Unaligned = true
is_layout_cause cause = is_shared_cause cause
