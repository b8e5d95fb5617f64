-- The causes for which a tree is no layout.
use Rattle.std.proofs.Common.{◌≡◌, ℕ, ◌+◌, Bool, true, false, List, [], ◌∷◌, length, Option, Some, Result, Ok, refl}
use Rattle.std.specs.Prelude.{nat_le, ◌&&◌, codes, if◌then◌else◌}
use Rattle.std.specs.List.{list_all}
use Rattle.serde_json.specs.Data.{Data}
use Rattle.asm_syntax.specs.Names.{is_name_byte}
use Rattle.asm_syntax.specs.declared.path.Step.TheVariants.{Key, Index}
use Rattle.ordered_tests.specs.Checks.{Check, first_fault}
use Rattle.ordered_tests.specs.Steps.{◌>>◌, unless, all_pass}
use Rattle.json_tree.specs.declared.fault.Cause.TheVariants.{Missing, WrongKind, OutOfRange, UnknownWord, Version, Shape, Refused}
use Rattle.json_tree.specs.declared.fault.Cause.TheVariants.{RangeOrder, Unaligned, Limit}
use Rattle.json_tree.specs.declared.fault.Fault.{Fault}
use Rattle.json_tree.specs.Causes.{FailsBy}
use Rattle.json_tree.specs.Reading.{under, object, field, text, or_null, name, word_of}
use Rattle.json_tree.specs.Arrays.{items, limited, list, tuple, nth}
use Rattle.json_tree.specs.Addresses.{address}
use Rattle.json_tree.specs.Profile.{header}
use Rattle.json_tree.proofs.Causes.{AllowsShared, after, behind, below, choice, at_item, of_object, of_text, of_name, of_word, of_null}
use Rattle.json_tree.proofs.Causes.{at_field, of_items, of_limited, of_list, of_tuple, of_address, of_header}
use Rattle.limits.specs.declared.TheConstants.{MOST_AREAS, MOST_FOREIGN_RANGES, MOST_PINS}
use Rattle.layout_file.specs.Causes.{is_layout_cause}
use Rattle.layout_model.specs.Layouts.{Pin}
use Rattle.layout_file.specs.LayoutTree.{ends, range, stack, stop, label, kinds, area, unpinned, pin, pins_from, pins, layout}
use Rattle.layout_file.specs.Pins.{is_pinned, with_pin}
use Rattle.layout_file.specs.RangeTests.{range_tests, stack_tests, stop_tests}

abbrev Fails : {T : Type 0} → Result T Fault → Type 0
Fails r = FailsBy is_layout_cause r

shared : AllowsShared is_layout_cause
shared Missing h = h
shared WrongKind h = h
shared OutOfRange h = h
shared UnknownWord h = h
shared Version h = h
shared (Shape shape) h = h
shared Refused h = h
shared RangeOrder h = refl
shared Unaligned h = refl
shared (Limit most) h = h

-- ---- ranges

of_tests : {T : Type 0} (tests : List (Check Fault)) (x : T) → list_all (λ c. is_layout_cause c.fault.cause) tests ≡ true
    → Fails (all_pass tests >> Ok x)
of_tests [] x h = tt
of_tests (c ∷ cs) x h = at c.passes (is_layout_cause c.fault.cause) refl h (of_tests cs x) where
  at : (passes allowed : Bool) → is_layout_cause c.fault.cause ≡ allowed
      → (allowed && list_all (λ c. is_layout_cause c.fault.cause) cs) ≡ true
      → (list_all (λ c. is_layout_cause c.fault.cause) cs ≡ true → Fails (all_pass cs >> Ok x))
      → Fails (unless (if passes then first_fault cs else Some c.fault) >> Ok x)
  at true true is k rest = rest k
  at false true is k rest = is
  at passes false is k rest = absurd (cc)

of_ends : (d : Data) → Fails (ends d)
unfolding ends
of_ends d =
    after _ (tuple 2 d) _ (of_tuple _ shared 2 d) λ ds.
    after _ (nth 0 address ds) _ (at_item _ 0 address ds (of_address _ shared)) λ lo.
    after _ (nth 1 address ds) _ (at_item _ 1 address ds (of_address _ shared)) λ hi. tt

of_range : (d : Data) → Fails (range d)
unfolding range
of_range d = after _ (ends d) _ (of_ends d) λ found. of_tests (range_tests found) found refl

of_stack : (d : Data) → Fails (stack d)
unfolding stack
of_stack d = after _ (ends d) _ (of_ends d) λ found. of_tests (stack_tests found) found refl

of_stop : (d : Data) → Fails (stop d)
unfolding stop
of_stop d = after _ (address d) _ (of_address _ shared d) λ found. of_tests (stop_tests found) found refl

-- ---- areas

of_label : (d : Data) → Fails (label d)
unfolding label
of_label d =
    after _ (text d) _ (of_text _ shared d) λ bytes.
    choice _ (nat_le 1 (length bytes) && nat_le (length bytes) 63 && list_all is_name_byte bytes) _ _ tt refl

of_area : (d : Data) → Fails (area d)
unfolding area
of_area d =
    behind _ (object d) _ (of_object _ shared d)
    (behind _ (field (codes "name") label d) _ (at_field _ shared (codes "name") label d of_label)
    (after _ (field (codes "range") range d) _ (at_field _ shared (codes "range") range d of_range) λ found.
    after _ (field (codes "kind") (word_of kinds) d) _ (at_field _ shared (codes "kind") (word_of kinds) d (of_word _ shared kinds))
    λ kind. tt))

-- ---- pins

of_unpinned : (taken : List Pin) (unit : Option (List ℕ)) (bytes : List ℕ) → Fails (unpinned taken unit bytes)
unfolding unpinned
of_unpinned taken unit bytes = choice _ (is_pinned taken unit bytes) _ _ refl tt

of_pin : (taken : List Pin) (d : Data) → Fails (pin taken d)
unfolding pin
of_pin taken d =
    behind _ (object d) _ (of_object _ shared d)
    (after _ (field (codes "unit") (or_null name) d) _
    (at_field _ shared (codes "unit") (or_null name) d (λ e. of_null _ shared name e (of_name _ shared e))) λ unit.
    after _ (field (codes "name") name d) _ (at_field _ shared (codes "name") name d (of_name _ shared)) λ bytes.
    behind _ (under (Key (codes "name")) (unpinned taken unit bytes)) _
    (below _ (Key (codes "name")) (unpinned taken unit bytes) (of_unpinned taken unit bytes))
    (after _ (field (codes "address") address d) _ (at_field _ shared (codes "address") address d (of_address _ shared)) λ a. tt))

of_pins_from : (taken : List Pin) (i : ℕ) (ds : List Data) → Fails (pins_from taken i ds)
unfolding pins_from
of_pins_from taken i [] = tt
of_pins_from taken i (d ∷ ds) =
    after _ (under (Index i) (pin taken d)) _ (below _ (Index i) (pin taken d) (of_pin taken d)) λ one.
    of_pins_from (with_pin taken one) (i + 1) ds

of_pins : (d : Data) → Fails (pins d)
unfolding pins
of_pins d =
    after _ (items d) _ (of_items _ shared d) λ ds.
    behind _ (limited MOST_PINS ds) _ (of_limited _ shared MOST_PINS ds) (of_pins_from [] 0 ds)

-- ---- the whole

pub layout_causes : (d : Data) → Fails (layout d)
unfolding layout
layout_causes d =
    behind _ (header (codes "layout") 1 d) _ (of_header _ shared (codes "layout") 1 d)
    (after _ (field (codes "entry") name d) _ (at_field _ shared (codes "entry") name d (of_name _ shared)) λ entry.
    after _ (field (codes "stop") stop d) _ (at_field _ shared (codes "stop") stop d of_stop) λ stop.
    after _ (field (codes "stack") stack d) _ (at_field _ shared (codes "stack") stack d of_stack) λ stack.
    after _ (field (codes "r13") address d) _ (at_field _ shared (codes "r13") address d (of_address _ shared)) λ r13.
    after _ (field (codes "r2") address d) _ (at_field _ shared (codes "r2") address d (of_address _ shared)) λ r2.
    after _ (field (codes "areas") (list MOST_AREAS area) d) _
    (at_field _ shared (codes "areas") (list MOST_AREAS area) d (λ e. of_list _ shared MOST_AREAS area e of_area)) λ areas.
    after _ (field (codes "foreign") (list MOST_FOREIGN_RANGES range) d) _
    (at_field _ shared (codes "foreign") (list MOST_FOREIGN_RANGES range) d
    (λ e. of_list _ shared MOST_FOREIGN_RANGES range e of_range)) λ foreign.
    after _ (field (codes "pins") pins d) _ (at_field _ shared (codes "pins") pins d of_pins) λ pins. tt)
