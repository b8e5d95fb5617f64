use Rattle.std.proofs.Common.{◌<◌, length, rules}
use Rattle.image_model.specs.Names.{fields_of}
use Rattle.symbol_index.proofs.Ranks.{place_inside, seen_at}
use Rattle.symbol_index.proofs.index.SymIndex.fields.Goals as goal

pub symbol_fields-requires : goal.symbol_fields-requires
symbol_fields-requires c =
    let lt : c.args.place < length c.self.inside.places.items = rw (← c.self.view_is) at c.requires in
    place_inside (record { symbols = c.self.inside.view.symbols; places = c.self.inside.places.items })
    c.args.place _ c.self.invariant lt c.index.ensures

pub returns : goal.returns
returns c =
    let lt : c.args.place < length c.self.inside.places.items = rw (← c.self.view_is) at c.requires in
    rw (← c.self.view_is) (seen_at fields_of _ _ c.index.result.now _ lt c.index.ensures c.symbol_fields.ensures)
