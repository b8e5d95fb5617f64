use Rattle.std.proofs.Common.{◌∙◌, sym}
use Rattle.name_addresses.specs.Given.{given}
use Rattle.name_addresses.specs.Keys.{declared}
use Rattle.symbol_bind.proofs.Settled.{addresses_are_small, settles_none, settles_one, settles_several}
use Rattle.symbol_bind.proofs.bind.settle.Goals as goal

pub returns-in_default-first_open : goal.returns-in_default-first_open
returns-in_default-first_open g c = λ v uses same here.
    settles_none (given v c.args.layout.now (g.P.KeyedProgram.program c.args.program.now)) uses c.args.k (declared c.args.key.now)
    c.args.set.now c.args.offered.now _ (addresses_are_small c.args.offered.now c.type_inv.offered) same here
    (sym c.in_default.is ∙ c.known_address.ensures v same) (sym c.first_open.ensures ∙ c.in_default-first_open.is) c.fault_of_none.ensures

pub returns-then-count-eq1 : goal.returns-then-count-eq1
returns-then-count-eq1 g c = λ v uses same here.
    settles_one (given v c.args.layout.now (g.P.KeyedProgram.program c.args.program.now)) uses c.args.k (declared c.args.key.now)
    c.args.set.now c.args.offered.now _ (addresses_are_small c.args.offered.now c.type_inv.offered) same here
    (sym c.in_default.is ∙ c.known_address.ensures v same) (sym c.first_open.ensures ∙ c.in-Some-first_open.is)
    (sym c.if-count-eq1.true ∙ c.count_open-count.ensures)

pub returns-else-count-eq1 : goal.returns-else-count-eq1
returns-else-count-eq1 g c = λ v uses same here.
    settles_several (given v c.args.layout.now (g.P.KeyedProgram.program c.args.program.now)) uses c.args.k (declared c.args.key.now)
    c.args.set.now c.args.offered.now _ _ (addresses_are_small c.args.offered.now c.type_inv.offered) same here
    (sym c.in_default.is ∙ c.known_address.ensures v same) (sym c.first_open.ensures ∙ c.in-Some-first_open.is)
    c.count_open-count.ensures c.if-count-eq1.false
