use Rattle.std.proofs.Common.{◌≡◌, ◌∙◌, ◌<◌, ℕ, List, length, map, ap, arith}
use Rattle.std.specs.Map.{lookup}
use Rattle.std.specs.Option.{unwrap_or}
use Rattle.asm_program.specs.Scopes.{is_same, scoped_name}
use Rattle.asm_program.specs.Seen.{declaration_seen}
use Rattle.linked_program.specs.Alignments.{alignment_in}
use Rattle.linked_program.proofs.LoopSteps.{made_more}
use Rattle.linked_program.proofs.alignments.alignments_of.Goals as goal

abbrev Scoped : Type 0
Scoped = ℕ × List ℕ

pub loop-d-preserved : goal.loop-d-preserved
loop-d-preserved c =
    let ds = map declaration_seen c.args.all.now in let d = declaration_seen c.d-item.result in
    let lt : c.loop-d.d-index < length c.args.keys.now = omega arith in
    let scoped : Scoped = (c.scope.result, c.bytes.result.now) in
    let named : scoped ≡ scoped_name d = λ k. (c.scope.ensures k, (c.bytes.ensures.text ∙ c.name.ensures) k) in
    let value : c.unwrap_or-greatest.result ≡ alignment_in ds d =
    c.unwrap_or-greatest.ensures
    ∙ (ap (λ o. unwrap_or o 1) (c.get.ensures ∙ ap (λ q. lookup (is_same q) c.in_ok-numbers.numbers) named)
    ∙ c.in_ok-numbers.ensures.value (scoped_name d)) in
    record {
      list = made_more (alignment_in ds) c.loop-d.list.items c.push.new.self.items c.args.keys.now c.loop-d.d-index c.d-item.result
          c.unwrap_or-greatest.result lt
          c.d-item.is c.in_ok-push.ensures.items value
          ∙ c.loop-d.invariant.list;
    }
