use Rattle.std.proofs.Common.{◌≡◌, ◌∙◌, ◌+◌, ◌<◌, ◌++◌, ◌∷◌, [], ℕ, List, Option, Some, length, sym, ap, arith, rules}
use Rattle.std.specs.Prelude.{slice_get}
use Rattle.std.proofs.lemmas.List.{length_push, map_push}
use Rattle.link_model.specs.Candidates.{Inputs}
use Rattle.link_model.specs.Program.{keys}
use Rattle.link_model.specs.Uses.{all_uses}
use Rattle.name_addresses.specs.Given.{given}
use Rattle.name_addresses.specs.Keys.{declared}
use Rattle.symbol_bind.proofs.Bindings.{bound_all, bound_more, first_unbound, open_at, passed_more}
use Rattle.symbol_bind.proofs.Offered.{set_of_key}
use Rattle.symbol_bind.proofs.bind.settle_all.Goals as goal

pub returns-in-Err-clause-fault : goal.returns-in-Err-clause-fault
returns-in-Err-clause-fault g c = λ v offered here.
    let inputs : Inputs = given v c.args.layout.now (g.P.KeyedProgram.program c.args.program.now) in
    let ks = keys (g.P.KeyedProgram.program c.args.program.now).units in
    let low : c.loop-k.k < length c.args.sets.now = omega (arith, c.requires.sets, c.key_count-count.ensures.count) in
    first_unbound inputs c.loop-k.k (declared c.key-key.result) c.in-Err.fault c.key-key.ensures.declared
    (c.in-Err.ensures v (all_uses inputs)
    (set_of_key v ks c.loop-k.k (declared c.key-key.result) c.set.result.now
    (ap (λ (sets : List (List ℕ)). slice_get sets c.loop-k.k) (sym offered) ∙ c.set.ensures) c.key-key.ensures.declared)
    (open_at c.args.layout.now (all_uses inputs) c.args.sets.now c.loop-k.k c.index-sets-k.result here low c.index-sets-k.is))
    (c.loop-k.invariant.passed v offered here)

pub loop-k-preserved : goal.loop-k-preserved
loop-k-preserved g c =
    let ks = keys (g.P.KeyedProgram.program c.args.program.now).units in
    let low : c.loop-k.k < length c.args.sets.now = omega (arith, c.requires.sets, c.key_count-count.ensures.count) in
    let now = c.loop-k.invariant in
    record {
      count = rw c.in-Ok-push.ensures.items (length_push c.loop-k.addresses.items c.in-Ok.address ∙ ap (λ n. n + 1) now.count);
      bound = λ v offered here.
          let inputs : Inputs = given v c.args.layout.now (g.P.KeyedProgram.program c.args.program.now) in
          rw c.in-Ok-push.ensures.items (map_push (λ (a : ℕ). Some a) c.loop-k.addresses.items c.in-Ok.address
          ∙ (ap (λ (bs : List (Option ℕ)). bs ++ Some c.in-Ok.address ∷ []) (now.bound v offered here)
          ∙ sym (bound_more inputs c.loop-k.k (declared c.key-key.result) c.in-Ok.address c.key-key.ensures.declared
          (c.in-Ok.ensures v (all_uses inputs)
          (set_of_key v ks c.loop-k.k (declared c.key-key.result) c.set.result.now
          (ap (λ (sets : List (List ℕ)). slice_get sets c.loop-k.k) (sym offered) ∙ c.set.ensures) c.key-key.ensures.declared)
          (open_at c.args.layout.now (all_uses inputs) c.args.sets.now c.loop-k.k c.index-sets-k.result here low c.index-sets-k.is)))));
      passed = λ v offered here.
          let inputs : Inputs = given v c.args.layout.now (g.P.KeyedProgram.program c.args.program.now) in
          passed_more inputs c.loop-k.k (declared c.key-key.result) c.in-Ok.address c.key-key.ensures.declared
          (c.in-Ok.ensures v (all_uses inputs)
          (set_of_key v ks c.loop-k.k (declared c.key-key.result) c.set.result.now
          (ap (λ (sets : List (List ℕ)). slice_get sets c.loop-k.k) (sym offered) ∙ c.set.ensures) c.key-key.ensures.declared)
          (open_at c.args.layout.now (all_uses inputs) c.args.sets.now c.loop-k.k c.index-sets-k.result here low c.index-sets-k.is))
          (now.passed v offered here);
    }

pub returns-clause-binding : goal.returns-clause-binding
returns-clause-binding g c = λ v offered here.
    let inputs : Inputs = given v c.args.layout.now (g.P.KeyedProgram.program c.args.program.now) in
    let whole : c.loop-k.k ≡ length (keys inputs.program.units) = omega (arith, c.key_count-count.ensures.count) in
    bound_all inputs c.loop-k.k c.loop-k.addresses.items whole (c.loop-k.invariant.bound v offered here)
