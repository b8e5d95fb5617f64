-- What is true of the parts of a layout that was read.
use Rattle.std.proofs.Common.{◌≡◌, ℕ, suc, ◌+◌, ◌-◌, ◌%◌, ◌≤◌, ◌&&◌, nat_le, nat_lt, List, [], ◌∷◌, length, arith}
use Rattle.std.specs.Prelude.{None, Result, Ok, Err, IfOk, codes, ◌==◌}
use Rattle.std.specs.declared.cmp.Ordering.{Ordering}
use Rattle.std.specs.declared.cmp.Ordering.TheVariants.{Less, Equal, Greater}
use Rattle.std.specs.Ordering.{match_ordering}
use Rattle.std.specs.BTreeSet.{replace_key}
use Rattle.std.proofs.lemmas.Bool.{and_parts, leb-true, ltb-true, eqb-true}
use Rattle.serde_json.specs.Data.{Data}
use Rattle.word_ops.specs.Ranges.{Extent}
use Rattle.limits.specs.declared.TheConstants.{LEAST_STACK_BYTES, MOST_STACK_BYTES, MOST_RANGE_END, MOST_AREAS, MOST_FOREIGN_RANGES}
use Rattle.limits.specs.declared.TheConstants.{MOST_PINS}
use Rattle.ordered_tests.specs.Checks.{check, first_fault}
use Rattle.ordered_tests.proofs.Faults.{head_passes, rest_passes, front_passes}
use Rattle.ordered_tests.proofs.Steps.{if_bind, if_next, if_then, if_passed}
use Rattle.asm_syntax.specs.declared.path.Step.TheVariants.{Index}
use Rattle.json_tree.specs.declared.fault.Cause.TheVariants.{RangeOrder, Unaligned, Limit}
use Rattle.json_tree.specs.declared.fault.Fault.{Fault}
use Rattle.json_tree.specs.Reading.{here, under, field, object, name, word_of}
use Rattle.json_tree.specs.Addresses.{address}
use Rattle.json_tree.specs.Arrays.{items, list}
use Rattle.json_tree.specs.Profile.{header}
use Rattle.json_tree.proofs.Values.{if_field, if_list, if_limited, AreLimited}
use Rattle.layout_model.specs.Layouts.{Pin, Layout, stop_range}
use Rattle.layout_model.specs.Facts.{IsRange, IsStack, IsStop, IsAreaRange, AreParts}
use Rattle.layout_file.specs.Pins.{pin_cmp, with_pin}
use Rattle.layout_file.specs.RangeTests.{range_tests, stack_tests, stop_tests}
use Rattle.layout_file.specs.LayoutTree as tree

-- ---- ranges

range_of : (p : Extent) → first_fault (range_tests p) ≡ None → IsRange p
range_of p h =
    let c = check (nat_le 1 p.lo && nat_lt p.lo p.hi && nat_le p.hi MOST_RANGE_END) (here RangeOrder) in
    let all = and_parts (nat_le 1 p.lo && nat_lt p.lo p.hi) (nat_le p.hi MOST_RANGE_END) (head_passes c [] h) in
    let two = and_parts (nat_le 1 p.lo) (nat_lt p.lo p.hi) all.0 in
    record { some = leb-true 1 p.lo two.0; ordered = ltb-true p.lo p.hi two.1; most = leb-true p.hi MOST_RANGE_END all.1 }

stack_of : (p : Extent) → first_fault (stack_tests p) ≡ None → IsStack p
stack_of p h =
    let a = check (nat_le LEAST_STACK_BYTES (p.hi - p.lo)) (here RangeOrder) in
    let b = check (nat_le (p.hi - p.lo) MOST_STACK_BYTES) (here (Limit MOST_STACK_BYTES)) in
    let c = check (p.hi % 16 == 0) (here Unaligned) in
    let rest = rest_passes (range_tests p) (a ∷ b ∷ c ∷ []) h in
    let r = range_of p (front_passes (range_tests p) (a ∷ b ∷ c ∷ []) h) in
    let lt = r.ordered in
    let least = leb-true LEAST_STACK_BYTES (p.hi - p.lo) (head_passes a (b ∷ c ∷ []) rest) in
    let more = rest_passes (a ∷ []) (b ∷ c ∷ []) rest in
    let most = leb-true (p.hi - p.lo) MOST_STACK_BYTES (head_passes b (c ∷ []) more) in
    let last = rest_passes (b ∷ []) (c ∷ []) more in
    record { range = r; least_size = omega arith; most_size = omega arith; aligned = eqb-true (p.hi % 16) 0 (head_passes c [] last) }

stop_of : (stop : ℕ) → first_fault (stop_tests stop) ≡ None → IsStop stop
stop_of stop h =
    let c = check (stop % 4 == 0) (here Unaligned) in
    let r = range_of (stop_range stop) (front_passes (range_tests (stop_range stop)) (c ∷ []) h) in
    let last = rest_passes (range_tests (stop_range stop)) (c ∷ []) h in
    record { some = r.some; most = r.most; aligned = eqb-true (stop % 4) 0 (head_passes c [] last) }

if_range : (d : Data) → IfOk (tree.range d) IsRange
unfolding tree.range
if_range d = if_next IsRange (tree.ends d) _ (λ p. if_passed IsRange (range_tests p) (Ok p) (range_of p))

if_stack : (d : Data) → IfOk (tree.stack d) IsStack
unfolding tree.stack
if_stack d = if_next IsStack (tree.ends d) _ (λ p. if_passed IsStack (stack_tests p) (Ok p) (stack_of p))

if_stop : (d : Data) → IfOk (tree.stop d) IsStop
unfolding tree.stop
if_stop d = if_next IsStop (address d) _ (λ n. if_passed IsStop (stop_tests n) (Ok n) (stop_of n))

if_area : (d : Data) → IfOk (tree.area d) IsAreaRange
unfolding tree.area
if_area d =
    if_then IsAreaRange (object d) _ (
    if_then IsAreaRange (field (codes "name") tree.label d) _ (
    if_bind IsRange IsAreaRange (field (codes "range") tree.range d) _ (if_field IsRange (codes "range") tree.range d if_range) (λ range r.
    if_next IsAreaRange (field (codes "kind") (word_of tree.kinds) d) _ (λ kind. r))))

-- ---- pins

pin_more : (pins : List Pin) (pin : Pin) → length (with_pin pins pin) ≤ suc (length pins)
unfolding with_pin
pin_more [] pin = omega arith
pin_more (p ∷ pins) pin = at (pin_cmp pin p) (pin_more pins pin)
  where
    at : (o : Ordering) → length (replace_key pin_cmp pins pin) ≤ suc (length pins)
        → length (match_ordering o (pin ∷ p ∷ pins) (pin ∷ pins) (p ∷ replace_key pin_cmp pins pin)) ≤ suc (length (p ∷ pins))
    at Less h = omega arith
    at Equal h = omega arith
    at Greater h = omega arith

abbrev IsFew : ℕ → List Pin → Type 0
IsFew most pins = length pins ≤ most

if_pins_from : (pins : List Pin) (i : ℕ) (ds : List Data) → IfOk (tree.pins_from pins i ds) (IsFew (length pins + length ds))
unfolding tree.pins_from
if_pins_from pins i [] = omega arith
if_pins_from pins i (d ∷ ds) =
    if_next (IsFew (length pins + length (d ∷ ds))) (under (Index i) (tree.pin pins d)) _ (λ one.
    weak (length (with_pin pins one)) (length ds) (tree.pins_from (with_pin pins one) (i + 1) ds) (pin_more pins one)
    (if_pins_from (with_pin pins one) (i + 1) ds))
  where
    weak : (most n : ℕ) (r : Result (List Pin) Fault) → most ≤ suc (length pins) → IfOk r (IsFew (most + n))
        → IfOk r (IsFew (length pins + suc n))
    weak most n (Ok xs) le h = omega (arith, le, h)
    weak most n (Err fault) le h = tt

if_pins : (d : Data) → IfOk (tree.pins d) (IsFew MOST_PINS)
unfolding tree.pins
if_pins d = if_next (IsFew MOST_PINS) (items d) _ (λ ds. if_limited (IsFew MOST_PINS) MOST_PINS ds _ (λ few.
    weak ds few (tree.pins_from [] 0 ds) (if_pins_from [] 0 ds)))
  where
    weak : (ds : List Data) → length ds ≤ MOST_PINS → (r : Result (List Pin) Fault) → IfOk r (IsFew (0 + length ds))
        → IfOk r (IsFew MOST_PINS)
    weak ds few (Ok xs) h = omega (arith, few, h)
    weak ds few (Err fault) h = tt

-- ---- the whole

pub if_parts : (d : Data) → IfOk (tree.layout d) AreParts
unfolding tree.layout
if_parts d =
    if_then AreParts (header (codes "layout") 1 d) _ (
    if_next AreParts (field (codes "entry") name d) _ (λ entry.
    if_bind IsStop AreParts (field (codes "stop") tree.stop d) _ (if_field IsStop (codes "stop") tree.stop d if_stop) (λ stop s.
    if_bind IsStack AreParts (field (codes "stack") tree.stack d) _ (if_field IsStack (codes "stack") tree.stack d if_stack) (λ stack k.
    if_next AreParts (field (codes "r13") address d) _ (λ r13.
    if_next AreParts (field (codes "r2") address d) _ (λ r2.
    if_bind (AreLimited IsAreaRange MOST_AREAS) AreParts (field (codes "areas") (list MOST_AREAS tree.area) d) _
    (if_field (AreLimited IsAreaRange MOST_AREAS) (codes "areas") (list MOST_AREAS tree.area) d
    (λ e. if_list IsAreaRange MOST_AREAS tree.area e if_area)) (λ areas a.
    if_bind (AreLimited IsRange MOST_FOREIGN_RANGES) AreParts (field (codes "foreign") (list MOST_FOREIGN_RANGES tree.range) d) _
    (if_field (AreLimited IsRange MOST_FOREIGN_RANGES) (codes "foreign") (list MOST_FOREIGN_RANGES tree.range) d
    (λ e. if_list IsRange MOST_FOREIGN_RANGES tree.range e if_range)) (λ foreign f.
    if_bind (IsFew MOST_PINS) AreParts (field (codes "pins") tree.pins d) _
    (if_field (IsFew MOST_PINS) (codes "pins") tree.pins d if_pins) (λ pins few.
    record { stack = k; stop = s; areas = a.0; foreign = f.0; few_areas = a.1; few_foreign = f.1; few_pins = few })))))))))

pub parts_read : (d : Data) (parts : Layout) → tree.layout d ≡ Ok parts → AreParts parts
parts_read d parts h = rw h at (if_parts d)
