use Rattle.std.proofs.Common.{◌≡◌, refl, sym, ap, ◌∙◌}
use Rattle.std.specs.Prelude.{◌||◌, ◌==◌}
use Rattle.std.specs.Ordering.{nat_cmp}
use Rattle.std.specs.BTreeSet.{contains}
use Rattle.link_model.specs.Program.{OfExternal}
use Rattle.link_model.specs.Candidates.{Inputs}
use Rattle.name_addresses.specs.Given.{given}
use Rattle.key_passes.proofs.SeenKeys.{seen_more}
use Rattle.key_passes.proofs.externals.place_external.Goals as goal

pub returns-clause-seen : goal.returns-clause-seen
returns-clause-seen g c =
    let p = c.args.bound.now in
    let i : Inputs = given p.segments.now p.layout.now (g.P.KeyedProgram.program p.program.now) in
    seen_more i p.addresses.now c.args.k (record { unit = c.args.unit; item = OfExternal c.args.external.now })
    (contains nat_cmp c.args.seen.now) (contains nat_cmp c.add.new.seen) c.requires.key refl
    (λ b. c.in_ok-add.ensures b ∙ ap (λ a. (a == b) || contains nat_cmp c.args.seen.now b) c.address.ensures) c.requires.seen
