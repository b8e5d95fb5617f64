use Rattle.std.proofs.Common.{◌≡◌, ◌∙◌, ◌+◌, ℕ, List, length, take, sym, ap, subst, arith, rules}
use Rattle.std.specs.Prelude.{slice_get}
use Rattle.std.specs.List.{flat_map}
use Rattle.link_model.specs.Candidates.{Inputs}
use Rattle.link_model.specs.Program.{keys}
use Rattle.link_model.specs.Uses.{Use, key_uses}
use Rattle.name_addresses.specs.Given.{given}
use Rattle.name_addresses.specs.Keys.{declared}
use Rattle.symbol_bind.specs.declared.address_set.AddressSet.{AddressSet}
use Rattle.symbol_bind.specs.Open.{AreOpen}
use Rattle.symbol_bind.proofs.Bindings.{open_by, uses_more, uses_whole}
use Rattle.symbol_bind.proofs.Kept.{written_back}
use Rattle.symbol_bind.proofs.Offered.{set_of_key}
use Rattle.symbol_bind.proofs.left.open_sets.Goals as goal

pub loop-k-init : goal.loop-k-init
loop-k-init g c = record { count = c.in_ok-sets.ensures.count; noted = c.in_ok-sets.ensures.open c.args.layout.now }

pub note_known-requires-clause-offered : goal.note_known-requires-clause-offered
note_known-requires-clause-offered g c =
    let ks = keys (g.P.KeyedProgram.program c.args.program.now).units in
    set_of_key c.args.segments.now ks c.loop-k.k (declared c.key-key.result) c.set.result.now
    (ap (λ (sets : List (List ℕ)). slice_get sets c.loop-k.k) (sym c.requires) ∙ c.set.ensures) c.key-key.ensures.declared

pub loop-k-preserved : goal.loop-k-preserved
loop-k-preserved g c =
    let inputs : Inputs = given c.args.segments.now c.args.layout.now (g.P.KeyedProgram.program c.args.program.now) in
    let ks = keys (g.P.KeyedProgram.program c.args.program.now).units in
    let now = c.loop-k.invariant in
    let us : List Use = flat_map (key_uses inputs) (take c.loop-k.k ks) in
    let P : List AddressSet → Type 0 = λ sets. AreOpen c.args.layout.now us sets in
    let size : length c.loop-k.sets.items ≡ c.loop-k.sets.len = search rules in
    let back = written_back c.loop-k.sets.len c.note_known.new.sets c.loop-k.sets.items (search rules) size in
    record {
      count = rw back (c.note_known.ensures.same ∙ search rules);
      noted = rw back (open_by c.args.layout.now _ _ c.note_known.new.sets
          (sym (uses_more inputs ks c.loop-k.k (declared c.key-key.result) c.key-key.ensures.declared))
          (c.note_known.ensures.open us (subst P (sym c.deref_mut.ensures.value) now.noted)));
    }

pub returns-clause-open : goal.returns-clause-open
returns-clause-open g c =
    let inputs : Inputs = given c.args.segments.now c.args.layout.now (g.P.KeyedProgram.program c.args.program.now) in
    let whole : c.loop-k.k ≡ length (keys inputs.program.units) = omega (arith, c.key_count-count.ensures.count) in
    open_by c.args.layout.now _ _ c.loop-k.sets.items (uses_whole inputs c.loop-k.k whole) c.loop-k.invariant.noted
