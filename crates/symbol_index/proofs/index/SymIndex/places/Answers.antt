use Rattle.std.proofs.Common.{length}
use Rattle.std.proofs.lemmas.List.Sorted.{length_permutation}
use Rattle.std.proofs.lemmas.List.FromFn.{length-range_with_len}
use Rattle.symbol_index.proofs.index.SymIndex.places.Goals as goal

pub returns-clause-count : goal.returns-clause-count
returns-clause-count c =
    rw (← c.self.view_is)
    (let e = length_permutation _ _ c.self.invariant.each in let n = length-range_with_len 0 (length c.self.inside.view.symbols) in cc)
