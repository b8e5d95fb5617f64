use Rattle.std.proofs.Common.{◌≡◌, ap, rules}
use Rattle.std.specs.Ordering.{is_lt}
use Rattle.std.proofs.lemmas.Fn.{always_returns_same}
use Rattle.std.proofs.lemmas.List.Sorted.{ranks_by}
use Rattle.symbol_index.specs.Order.{comes_before, order}
use Rattle.symbol_index.proofs.Ranks.{order_total}
use Rattle.symbol_index.proofs.index.sort_places.Goals as goal

pub returns-clause-ordered : goal.returns-clause-ordered
returns-clause-ordered c =
    let symbols = c.args.view.now.symbols in
    c.sort_unstable_by.ensures.sorted (comes_before symbols) (ranks_by (order_total symbols) (λ x. x))
    (always_returns_same _ _ _ (λ a r f' h. let e : r ≡ order symbols a.0.now a.1.0.now = search rules in (ap is_lt e, search rules)))
