use Rattle.std.proofs.Common.{◌∙◌, sym}
use Rattle.name_addresses.specs.Given.{given}
use Rattle.name_addresses.specs.Keys.{declared}
use Rattle.symbol_bind.proofs.Settled.{pinned_known, unpinned_known}
use Rattle.symbol_bind.proofs.known.known_address.Goals as goal

pub returns-in-Some : goal.returns-in-Some
returns-in-Some g c = λ v same.
    pinned_known (given v c.args.layout.now (g.P.KeyedProgram.program c.args.program.now)) (declared c.args.key.now) _
    (sym c.in-Some.is ∙ c.pin.ensures v)

pub returns-in-None : goal.returns-in-None
returns-in-None g c = λ v same.
    unpinned_known (given v c.args.layout.now (g.P.KeyedProgram.program c.args.program.now)) (declared c.args.key.now) _ c.args.offered.now
    (sym c.in-None.is ∙ c.pin.ensures v) c.only_member.ensures same
