use Rattle.std.proofs.Common.{◌≡◌, ◌∙◌, List, sym, subst, rules}
use Rattle.link_model.specs.Candidates.{Inputs}
use Rattle.link_model.specs.Uses.{all_uses}
use Rattle.name_addresses.specs.Given.{given}
use Rattle.symbol_bind.specs.declared.address_set.AddressSet.{AddressSet}
use Rattle.symbol_bind.specs.Open.{AreOpen}
use Rattle.symbol_bind.proofs.Bindings.{each_bound, same_addresses}
use Rattle.symbol_bind.proofs.bind.bind.Goals as goal

pub returns-in-Ok-settle_all-clause-addresses : goal.returns-in-Ok-settle_all-clause-addresses
returns-in-Ok-settle_all-clause-addresses g c =
    let inputs : Inputs = given c.args.view.now c.args.layout.now (g.P.KeyedProgram.program c.args.program.now) in
    let P : List AddressSet → Type 0 = λ sets. AreOpen c.args.layout.now (all_uses inputs) sets in
    same_addresses inputs c.in-Ok-settle_all.addresses.items
    (c.in-Ok-settle_all.ensures.binding c.args.view.now c.in-Ok.ensures.offers (subst P (sym c.deref.ensures.value) c.in-Ok.ensures.open))

pub returns-in-Ok-settle_all-clause-bound : goal.returns-in-Ok-settle_all-clause-bound
returns-in-Ok-settle_all-clause-bound g c =
    let inputs : Inputs = given c.args.view.now c.args.layout.now (g.P.KeyedProgram.program c.args.program.now) in
    let P : List AddressSet → Type 0 = λ sets. AreOpen c.args.layout.now (all_uses inputs) sets in
    each_bound inputs c.in-Ok-settle_all.addresses.items
    (c.in-Ok-settle_all.ensures.binding c.args.view.now c.in-Ok.ensures.offers (subst P (sym c.deref.ensures.value) c.in-Ok.ensures.open))
