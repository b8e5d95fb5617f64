use Rattle.std.proofs.Common.{◌≡◌, ◌∙◌, ◌<◌, ◌≤◌, ℕ, List, length, get_or, map, ap, arith}
use Rattle.std.proofs.Math.Seq.{take_all}
use Rattle.std.specs.Prelude.{max, cond, Some}
use Rattle.std.specs.Map.{lookup}
use Rattle.std.specs.Option.{unwrap_or}
use Rattle.link_model.specs.Program.{item_alignment}
use Rattle.asm_program.specs.Scopes.{is_same, scoped_name}
use Rattle.asm_program.specs.Seen.{declaration_seen}
use Rattle.asm_program.proofs.SeenLists.{seen_at, seen_length}
use Rattle.linked_program.specs.Alignments.{greatest}
use Rattle.linked_program.proofs.Greatest.{known_more, small_more}
use Rattle.linked_program.proofs.alignments.greatest_of.Goals as goal

abbrev Scoped : Type 0
Scoped = ℕ × List ℕ

pub returns-clause-value : goal.returns-clause-value
returns-clause-value c = λ q.
    let ds = map declaration_seen c.args.all.now in
    let le : length ds ≤ c.loop-d.d-index = omega (arith, seen_length c.args.all.now) in
    c.loop-d.invariant.value q ∙ ap (greatest q) (take_all c.loop-d.d-index ds le)

pub returns-clause-range : goal.returns-clause-range
returns-clause-range c = c.loop-d.invariant.range

pub loop-d-preserved : goal.loop-d-preserved
loop-d-preserved c =
    let all = c.args.all.now in let ds = map declaration_seen all in let i = c.loop-d.d-index in let d = declaration_seen c.d-item.result in
    let short : i < length all = omega arith in
    let lt : i < length ds = omega (arith, seen_length all) in
    let at : get_or ds i d ≡ d = seen_at all i c.d-item.result short c.d-item.is in
    let scoped : Scoped = (c.scope-scope.result, c.bytes-name.result.now) in
    let named : scoped ≡ scoped_name d = λ k. (c.scope-scope.ensures k, (c.bytes-name.ensures.text ∙ c.name.ensures) k) in
    let known : c.unwrap_or-before.result ≡ unwrap_or (lookup (is_same (scoped_name d)) c.loop-d.numbers) 1 =
    c.unwrap_or-before.ensures ∙ ap (λ o. unwrap_or o 1) (c.get.ensures ∙ ap (λ q. lookup (is_same q) c.loop-d.numbers) named) in
    let more : c.greater.result ≡ max c.unwrap_or-before.result (item_alignment d.item) =
    c.greater.ensures ∙ ap (λ a. max c.unwrap_or-before.result a) c.alignment.ensures in
    let small : item_alignment d.item ≤ 255 = omega (arith, c.alignment.ensures, c.alignment.type_inv) in
    record {
      value = known_more ds i d d c.loop-d.numbers c.set.new.self c.unwrap_or-before.result c.greater.result lt at
          c.loop-d.invariant.value known more
          (λ q. c.in_ok-set.ensures q ∙ ap (λ r. cond (is_same q r) (Some c.greater.result) (lookup (is_same q) c.loop-d.numbers)) named);
      range = small_more d c.loop-d.numbers c.set.new.self c.unwrap_or-before.result c.greater.result
          c.loop-d.invariant.range known more small
          (λ q. c.in_ok-set.ensures q ∙ ap (λ r. cond (is_same q r) (Some c.greater.result) (lookup (is_same q) c.loop-d.numbers)) named);
    }
