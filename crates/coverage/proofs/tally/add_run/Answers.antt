use Rattle.std.proofs.Common.{◌≡◌, length, map, true, ap, arith, rules}
use Rattle.std.proofs.lemmas.Grind.{common_steps}
use Rattle.word_ops.specs.Ranges.{Extent}
use Rattle.word_ops.specs.Seen.{extent_of}
use Rattle.link_model.specs.Account.{goes_on, last_run}
use Rattle.coverage.specs.Kinds.{kind_seen}
use Rattle.coverage.specs.Tallies.{run, run_seen}
use Rattle.coverage.proofs.Runs.{set_seen}
use Rattle.coverage.proofs.tally.add_run.Goals as goal

pub returns-then-goes_on : goal.returns-then-goes_on
returns-then-goes_on c =
    let items = c.args.runs.now.items in
    let kind = kind_seen c.args.kind in
    let on : goes_on (map run_seen items) c.args.range.lo kind ≡ true = first_of (cc, search rules, grind (arith, common_steps)) in
    let last : extent_of c.last_range-last.result ≡ (last_run (map run_seen items)).range =
    first_of (cc, search rules, grind (arith, common_steps)) in
    let size : c.len-place.result ≡ length items = first_of (cc, search rules, omega arith, grind (arith, common_steps)) in
    set_seen items c.len-place.result c.args.range.lo c.args.range.hi _ kind on size
    (ap (λ (e : Extent). run e.lo c.args.range.hi kind) last)
