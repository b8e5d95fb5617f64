use Rattle.std.proofs.Common.{ap, ◌∙◌, map}
use Rattle.layout_file.specs.PinEntries.{pin_of_entry}
use Rattle.layout_file.specs.Pins.{with_pin}
use Rattle.layout_file.proofs.PinSets.{map_put}
use Rattle.layout_file.proofs.pins.PinMap.put.Goals as goal

pub returns : goal.returns
returns c =
    let pins = map pin_of_entry c.self.inside.addresses.entries in
    rw (← c.self.view_is) (ap (λ entries. map pin_of_entry entries) c.in_ok-insert.ensures.entries
    ∙ map_put c.self.inside.addresses.entries c.pin.inside.key c.pin.inside.address ∙ ap (with_pin pins) c.pin.view_is)
