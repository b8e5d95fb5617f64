use Rattle.std.proofs.Common.{◌∙◌}
use Rattle.layout_file.proofs.PinSets.{has_key}
use Rattle.layout_file.proofs.pins.PinMap.has.Goals as goal

pub returns : goal.returns
returns c = rw (← c.self.view_is) (c.contains_key.ensures ∙ has_key c.args.key.now c.self.inside.addresses.entries)
