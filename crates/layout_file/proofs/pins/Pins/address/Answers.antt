use Rattle.std.proofs.Common.{◌∙◌, Some, Ok, Err, ap, sym}
use Rattle.std.specs.Prelude.{option_map}
use Rattle.layout_file.proofs.PinSets.{searched}
use Rattle.layout_file.proofs.pins.Pins.address.Goals as goal

pub returns-in-Ok : goal.returns-in-Ok
returns-in-Ok c =
    let entries = c.self.inside.entries.items in
    let at = searched (option_map (λ u. u.now) c.args.unit) c.args.name.now entries (Ok c.in-Ok.place) c.self.invariant
    (rw c.deref.ensures.value at c.in-Ok.ensures.bound) (rw c.deref.ensures.value at c.in-Ok.ensures.found) c.index.result.now in
    rw (← c.self.view_is) (ap (λ e. Some e.1) c.index.ensures ∙ sym at)

pub returns-in-Err : goal.returns-in-Err
returns-in-Err c =
    let entries = c.self.inside.entries.items in
    rw (← c.self.view_is) (sym (searched (option_map (λ u. u.now) c.args.unit) c.args.name.now entries (Err c.in-Err.field-0)
    c.self.invariant (rw c.deref.ensures.value at c.in-Err.ensures.bound) (rw c.deref.ensures.value at c.in-Err.ensures.found)))
