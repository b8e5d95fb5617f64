use Rattle.std.proofs.Common.{◌≡◌, refl, ap, false, rules}
use Rattle.link_model.specs.Program.{Declaration, is_external}
use Rattle.link_model.specs.Candidates.{Inputs}
use Rattle.name_addresses.specs.Given.{given}
use Rattle.name_addresses.specs.Keys.{declared, declared_item}
use Rattle.name_addresses.specs.declared.keys.KeyItem.{KeyItem}
use Rattle.key_passes.proofs.SeenKeys.{seen_same}
use Rattle.key_passes.proofs.externals.match_key.Goals as goal

pub returns-in-Function-clause-seen : goal.returns-in-Function-clause-seen
returns-in-Function-clause-seen g c =
    let b = c.args.bound.now in
    let i : Inputs = given b.segments.now b.layout.now (g.P.KeyedProgram.program b.program.now) in
    seen_same i b.addresses.now c.args.k (declared c.args.key.now) _ c.requires.key
    (ap (λ (item : KeyItem). is_external (declared_item item)) c.in-Function.is) c.requires.seen

pub returns-in-Variable-clause-seen : goal.returns-in-Variable-clause-seen
returns-in-Variable-clause-seen g c =
    let b = c.args.bound.now in
    let i : Inputs = given b.segments.now b.layout.now (g.P.KeyedProgram.program b.program.now) in
    seen_same i b.addresses.now c.args.k (declared c.args.key.now) _ c.requires.key
    (ap (λ (item : KeyItem). is_external (declared_item item)) c.in-Variable.is) c.requires.seen
