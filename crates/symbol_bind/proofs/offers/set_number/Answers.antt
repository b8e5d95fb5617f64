use Rattle.std.proofs.Common.{◌∙◌, ◌<◌, length, sym, rules}
use Rattle.symbol_bind.specs.Offers.{slot}
use Rattle.symbol_bind.proofs.Neighbours.{first_name, first_below, nobody_serves}
use Rattle.symbol_bind.proofs.Kept.{known_extends, known_more, known_here, set_is}
use Rattle.symbol_bind.proofs.offers.set_number.Goals as goal

pub returns-in_default-clause-set : goal.returns-in_default-clause-set
returns-in_default-clause-set c =
    set_is c.add_set.new.sets.items c.in_ok-number.number _ _
    (c.new-none.ensures.items
    ∙ nobody_serves c.args.index.now c.args.name.now c.args.is_static c.places-count.ensures.index (sym c.place_of.ensures.place
    ∙ c.in_default.is))
    c.in_ok-number.ensures.set

pub returns-in_default-clause-known : goal.returns-in_default-clause-known
returns-in_default-clause-known c = known_extends c.args.index.now c.args.known.now _ _ c.add_set.ensures.kept c.requires.known

pub returns-in-Some-known-clause-set : goal.returns-in-Some-known-clause-set
returns-in-Some-known-clause-set c =
    let at = sym c.place_of.ensures.place ∙ c.in-Some.is in
    known_here c.args.index.now c.args.known.now _ c.in-Some.first c.args.is_static c.args.name.now c.in-Some-known.number _
    c.slot-place.ensures
    (first_below _ _ _ at) (first_name _ _ _ at) c.requires.known c.in-Some-known.is

pub returns-clause-known : goal.returns-clause-known
returns-clause-known c =
    let at = sym c.place_of.ensures.place ∙ c.in-Some.is in
    let low : c.in-Some.first < length c.args.index.now.places = first_below _ _ _ at in
    let inside : slot c.in-Some.first c.args.is_static < length c.args.known.now = rw (← c.slot-place.ensures) (search rules) in
    rw c.slot-place.ensures
    (known_more c.args.index.now c.args.known.now _ c.in-Some.first c.args.is_static c.args.name.now c.in_ok-number-2.number inside
    (first_name _ _ _ at)
    (set_is c.add_set-2.new.sets.items c.in_ok-number-2.number _ _ c.in_ok-set.ensures c.in_ok-number-2.ensures.set)
    (known_extends c.args.index.now c.args.known.now _ _ c.in_ok-number-2.ensures.kept c.requires.known))
