use Rattle.std.proofs.Common.{◌≡◌, ◌∙◌, length, arith, rules}
use Rattle.symbol_bind.specs.Offers.{slot, IsSetAt, offered}
use Rattle.name_addresses.specs.Keys.{declared}
use Rattle.link_model.specs.Program.{keys}
use Rattle.symbol_bind.proofs.Offered.{made_few, numbers_within, offers_whole}
use Rattle.symbol_bind.proofs.Kept.{offers_more, written_back}
use Rattle.symbol_bind.proofs.offers.gather_offers.Goals as goal

pub loop-k-init : goal.loop-k-init
loop-k-init g c = record {
  known = λ place static j lt e. absurd (c.in_ok-known.ensures.none (slot place static) j e);
  room = search rules;
  few = search rules;
  count = search rules;
  offers = λ k d lt at. absurd (omega (arith, lt));
}

pub loop-k-preserved : goal.loop-k-preserved
loop-k-preserved g c =
    let now = c.loop-k.invariant in
    let size : length c.loop-k.known.items ≡ c.loop-k.known.len = search rules in
    let back = written_back c.loop-k.known.len c.set_number.new.known c.loop-k.known.items (search rules) size in
    let ks = keys (g.P.KeyedProgram.program c.args.program.now).units in
    let names = c.bytes-name.ensures.text ∙ c.name.ensures in
    let set : IsSetAt c.set_number.new.sets.items c.in_ok-number.number (offered c.args.index.now.symbols (declared c.key-key.result)) =
    rw (← names, ← c.is_static.ensures) c.in_ok-number.ensures.set in
    record {
      known = rw back c.in_ok-number.ensures.known;
      room = rw back (c.set_number.ensures.same ∙ search rules);
      few = omega (arith, c.set_number.ensures.grown, now.few);
      count = search rules;
      offers = rw c.in_ok-push.ensures.items
          (offers_more c.args.index.now.symbols ks c.loop-k.k c.loop-k.sets.items c.set_number.new.sets.items c.loop-k.numbers.items
          c.in_ok-number.number
          (declared c.key-key.result) c.in_ok-number.ensures.kept now.count c.key-key.ensures.declared set now.offers);
    }

pub invariant_of-result : goal.invariant_of-result
invariant_of-result g c =
    let ks = keys (g.P.KeyedProgram.program c.args.program.now).units in
    let whole : c.loop-k.k ≡ length ks = omega (arith, c.key_count-count.ensures.count) in
    numbers_within c.args.index.now.symbols ks c.loop-k.k c.loop-k.sets.items c.loop-k.numbers.items whole c.loop-k.invariant.count
    c.loop-k.invariant.offers

pub returns-clause-offers : goal.returns-clause-offers
returns-clause-offers g c =
    let ks = keys (g.P.KeyedProgram.program c.args.program.now).units in
    let whole : c.loop-k.k ≡ length ks = omega (arith, c.key_count-count.ensures.count) in
    offers_whole c.args.index.now.symbols ks c.loop-k.k c.loop-k.sets.items c.loop-k.numbers.items whole c.loop-k.invariant.count
    c.loop-k.invariant.offers

pub returns-clause-few : goal.returns-clause-few
returns-clause-few g c =
    let ks = keys (g.P.KeyedProgram.program c.args.program.now).units in
    let whole : c.loop-k.k ≡ length ks = omega (arith, c.key_count-count.ensures.count) in
    made_few c.args.index.now.symbols ks c.loop-k.k c.loop-k.sets.items c.loop-k.numbers.items whole c.loop-k.invariant.count
    c.loop-k.invariant.offers (omega (arith, c.places.ensures.symbols, c.places.ensures.few))
