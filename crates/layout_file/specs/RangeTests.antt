-- The tests of one range, in their order.
use Rattle.std.specs.Prelude.{ℕ, ◌-◌, ◌%◌, List, [], ◌∷◌, ◌++◌, nat_le, nat_lt, ◌==◌, ◌&&◌}
use Rattle.word_ops.specs.Ranges.{Extent}
use Rattle.limits.specs.declared.TheConstants.{LEAST_STACK_BYTES, MOST_STACK_BYTES, MOST_RANGE_END}
use Rattle.ordered_tests.specs.Checks.{Check, check}
use Rattle.json_tree.specs.declared.fault.Cause.TheVariants.{RangeOrder, Unaligned, Limit}
use Rattle.json_tree.specs.declared.fault.Fault.{Fault}
use Rattle.json_tree.specs.Reading.{here}
use Rattle.layout_model.specs.Layouts.{stop_range}

abbrev pub range_tests : Extent → List (Check Fault)
range_tests range = check (nat_le 1 range.lo && nat_lt range.lo range.hi && nat_le range.hi MOST_RANGE_END) (here RangeOrder) ∷ []

-- the number of bytes of the stack is tested, then its end
abbrev pub stack_tests : Extent → List (Check Fault)
stack_tests stack = range_tests stack ++ (
    check (nat_le LEAST_STACK_BYTES (stack.hi - stack.lo)) (here RangeOrder) ∷
    check (nat_le (stack.hi - stack.lo) MOST_STACK_BYTES) (here (Limit MOST_STACK_BYTES)) ∷
    check (stack.hi % 16 == 0) (here Unaligned) ∷ [])

abbrev pub stop_tests : ℕ → List (Check Fault)
stop_tests stop = range_tests (stop_range stop) ++ check (stop % 4 == 0) (here Unaligned) ∷ []
