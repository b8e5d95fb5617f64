use Rattle.std.proofs.Common.{ap, ◌∙◌, cond, true}
use Rattle.std.specs.Ordering.{nat_cmp}
use Rattle.std.specs.BTreeSet.{contains}
use Rattle.std.specs.Prelude.{◌==◌}
use Rattle.key_passes.proofs.Numbers.{at_number, cond_or}
use Rattle.key_passes.proofs.seen_addresses.add.Goals as goal

pub returns : goal.returns
returns c = λ b.
    c.in_ok-insert.ensures.updates.0 b
    ∙ (ap (λ e. cond e true (contains nat_cmp c.args.seen.now b)) (at_number c.args.a b)
    ∙ cond_or (c.args.a == b) (contains nat_cmp c.args.seen.now b))
