use Rattle.std.proofs.Common.{◌≡◌, ◌≤◌, ◌*◌, length}
use Rattle.link_model.specs.Program.{keys}
use Rattle.symbol_bind.specs.Offers.{AreKnown, AreOffers}
use Rattle.symbol_bind.proofs.offers.gather_offers.Given as goal

abbrev pub invariant-loop-k : goal.invariant-loop-k
invariant-loop-k g l = record {
  known : AreKnown l.index l.known.items l.sets.items;
  room : length l.known.items ≡ 2 * length l.index.places;
  few : length l.sets.items ≤ l.k;
  count : length l.numbers.items ≡ l.k;
  offers : AreOffers l.index.symbols (keys (g.P.KeyedProgram.program l.program).units) l.k l.sets.items l.numbers.items;
}
