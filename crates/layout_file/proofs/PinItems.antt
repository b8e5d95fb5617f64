-- Reading of pins one after the other, as a loop does.
use Rattle.std.proofs.Common.{◌≡◌, ℕ, ◌+◌, ◌≤◌, ◌<◌, List, length, drop, get_or, map, Result, Ok, Err, refl, sym, ◌∙◌}
use Rattle.std.proofs.lemmas.List.{at_drop_more, at_drop_all}
use Rattle.serde_json.specs.View.{view}
use Rattle.serde_json.specs.declared.value.Value.{Value}
use Rattle.asm_syntax.specs.declared.path.Step.TheVariants.{Index}
use Rattle.json_tree.specs.declared.fault.Fault.{Fault}
use Rattle.json_tree.specs.declared.fault.ReadError.{ReadError}
use Rattle.json_tree.specs.declared.fault.ReadError.TheVariants as errors
use Rattle.json_tree.specs.Reading.{◌>>=◌, under}
use Rattle.json_tree.specs.Answers.{Gives}
use Rattle.layout_model.specs.Layouts.{Pin}
use Rattle.layout_file.specs.Pins.{with_pin}
use Rattle.layout_file.specs.LayoutTree.{pin, pins_from}

module _ (pins : List Pin) (vs : List Value) (i : ℕ) (total : Result (List Pin) Fault) where
  -- the item v, which the code calls the item number k
  module _ (k : ℕ) (v : Value) (lt : i < length vs) (is : v ≡ get_or vs i v) (at : k ≡ i) where
    at_item : pins_from pins i (map view (drop i vs)) ≡ (under (Index k) (pin pins (view v)) >>= λ one. pins_from (with_pin pins one)
        (i + 1) (map view (drop (i + 1) vs)))
    unfolding pins_from
    at_item = at_drop_more (λ ws. pins_from pins i (map view ws)) vs i v lt ∙ rw (← is, at) refl

    pub goes_on : (one : Pin) → under (Index k) (pin pins (view v)) ≡ Ok one → pins_from pins i (map view (drop i vs)) ≡ total
        → pins_from (with_pin pins one) (i + 1) (map view (drop (i + 1) vs)) ≡ total
    goes_on one h so_far =
        let step : pins_from pins i (map view (drop i vs)) ≡ pins_from (with_pin pins one) (i + 1) (map view (drop (i + 1) vs)) = at_item
        ∙ rw h refl in
        sym step ∙ so_far

    pub ends : (e : ReadError) → Gives {T = Pin} (Err e) (under (Index k) (pin pins (view v)))
        → pins_from pins i (map view (drop i vs)) ≡ total → Gives {T = List Pin} (Err e) total
    ends errors.Memory h so_far = tt
    ends (errors.Fault fault) h so_far =
        let step : pins_from pins i (map view (drop i vs)) ≡ Err fault = at_item ∙ rw h refl in
        sym so_far ∙ step

  pub is_done : length vs ≤ i → pins_from pins i (map view (drop i vs)) ≡ total → total ≡ Ok pins
  unfolding pins_from
  is_done le so_far = sym so_far ∙ at_drop_all (λ ws. pins_from pins i (map view ws)) vs i le
