use Rattle.std.proofs.Common.{◌<◌, length, rules}
use Rattle.symbol_index.proofs.Ranks.{name_seen}
use Rattle.symbol_index.proofs.index.SymIndex.has_name.Goals as goal

pub returns : goal.returns
returns c =
    let lt : c.args.place < length c.self.inside.places.items = rw (← c.self.view_is) at c.requires.place in
    rw (← c.self.view_is)
    (name_seen _ c.args.name.now _ _ c.index.result.now _ c.requires.short lt c.index.ensures c.name_start.ensures.shown c.eq.ensures)
