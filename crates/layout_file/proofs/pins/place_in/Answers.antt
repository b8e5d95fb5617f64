use Rattle.std.proofs.lemmas.Fn.{always_returns_same}
use Rattle.std.proofs.Common.{rules, of_calls, ℕ}
use Rattle.layout_file.specs.declared.pins.PinKey.{PinKey}
use Rattle.layout_file.specs.Pins.{pin_cmp}
use Rattle.layout_file.specs.PinEntries.{pin_of_entry, pin_sought}
use Rattle.layout_file.proofs.pins.place_in.Goals as goal

pub returns-clause-found : goal.returns-clause-found
returns-clause-found c = c.binary_search_by.ensures.position
    (λ (entry : PinKey × ℕ). pin_cmp (pin_of_entry entry) (pin_sought c.args.sought.now))
    (always_returns_same _ _ _ (λ a r f k. search (rules, of_calls)))
