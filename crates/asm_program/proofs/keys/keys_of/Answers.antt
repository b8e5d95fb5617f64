use Rattle.std.proofs.Common.{◌≡◌, ◌∙◌, ◌+◌, ◌<◌, ◌≤◌, ℕ, not, List, [], ◌∷◌, ◌++◌, length, get_or, map, cond, sym, ap, arith, Some}
use Rattle.std.proofs.Common.{length-append, Vec, Global}
use Rattle.std.specs.List.{list_any, position_from}
use Rattle.std.specs.Map.{lookup}
use Rattle.std.proofs.lemmas.List.{map-append}
use Rattle.link_model.specs.Sets.{first_of_each}
use Rattle.link_model.specs.Program.{same_key}
use Rattle.asm_program.specs.Scopes.{scoped_name, is_same, is_of}
use Rattle.asm_program.specs.declared.declared.Declared.{Declared}
use Rattle.asm_program.specs.Seen.{declaration_seen}
use Rattle.asm_program.proofs.KeyLists.{came, place_more, position_is}
use Rattle.asm_program.proofs.KeySteps.{keys_with, key_added, key_passed, keys_done}
use Rattle.asm_program.proofs.SeenLists.{seen_at, seen_length}
use Rattle.asm_program.proofs.keys.keys_of.Goals as goal
use Rattle.asm_program.proofs.keys.keys_of.Goals.{then-is_none+in_ok-set+in_ok-push, else-is_none}

abbrev Scoped : Type 0
Scoped = ℕ × List ℕ

pub overflow_cast-len : goal.overflow_cast-len
overflow_cast-len c = omega (arith, c.len.ensures, c.loop-d.list.ok.0, c.loop-d.invariant.few, c.loop-d-test.true, c.requires)

pub returns : goal.returns
returns c =
    let ds = map declaration_seen c.args.standing.now in let ks = map declaration_seen c.loop-d.list.items in
    let le : length ds ≤ c.loop-d.d-index = omega (arith, seen_length c.args.standing.now) in
    record {
      list = keys_done ks ds c.loop-d.d-index (first_of_each same_key [] ds) le c.loop-d.invariant.list;
      numbers = λ q. c.loop-d.invariant.numbers q ∙ position_is (is_of q) ks;
    }

pub loop-d-preserved : goal.loop-d-preserved
loop-d-preserved c =
    let all = c.args.standing.now in let ds = map declaration_seen all in let i = c.loop-d.d-index in
    let d = declaration_seen c.d-item.result in let items = c.loop-d.list.items in let ks = map declaration_seen items in
    let short : i < length all = omega arith in
    let lt : i < length ds = omega (arith, seen_length all) in
    let at : get_or ds i d ≡ d = seen_at all i c.d-item.result short c.d-item.is in
    let scoped : Scoped = (c.scope-scope.result, c.bytes-name.result.now) in
    let named : scoped ≡ scoped_name d = λ k. (c.scope-scope.ensures k, (c.bytes-name.ensures.text ∙ c.name.ensures) k) in
    let found : c.get.result ≡ position_from (is_of (scoped_name d)) 0 ks =
    c.get.ensures ∙ (ap (λ q. lookup (is_same q) c.loop-d.numbers) named ∙ c.loop-d.invariant.numbers (scoped_name d)) in
    let there : list_any (same_key d) ks ≡ not c.is_none.result = came ks d c.get.result found ∙ c.is_none.ensures in
    elim c.if-is_none.branch [
      | then-is_none+in_ok-set+in_ok-push w ↦
          let fresh = there ∙ ap not w.if-is_none.true in
          let grown : map declaration_seen c.if-is_none.list.items ≡ ks ++ d ∷ [] =
          ap (λ (l : Vec Declared Global). map declaration_seen l.items) w.list-is
          ∙ (ap (map declaration_seen) w.in_ok-push.ensures.items ∙ map-append declaration_seen items (c.d-item.result ∷ [])) in
          let count : w.len.result ≡ length ks = w.len.ensures ∙ (c.loop-d.list.ok.0 ∙ sym (seen_length items)) in
          record {
            list = ap (λ l. keys_with l ds (i + 1)) grown ∙ key_added ks ds i d lt at (first_of_each same_key [] ds)
                c.loop-d.invariant.list fresh;
            numbers = λ q.
                ap (lookup (is_same q)) w.numbers-is
                ∙ (w.in_ok-set.ensures q
                ∙ ((λ k. cond (is_same q (named k)) (Some (count k)) (c.loop-d.invariant.numbers q k))
                ∙ (place_more q ks d fresh ∙ ap (position_from (is_of q) 0) (sym grown))));
            few = omega (
              arith,
              ap length grown,
              seen_length c.if-is_none.list.items,
              seen_length items,
              length-append ks (d ∷ []),
              c.loop-d.invariant.few,
            );
          }
      | else-is_none w ↦
          let old = there ∙ ap not w.if-is_none.false in
          let same : map declaration_seen c.if-is_none.list.items ≡ ks =
          ap (λ (l : Vec Declared Global). map declaration_seen l.items) w.list-is in
          record {
            list = ap (λ l. keys_with l ds (i + 1)) same ∙ key_passed ks ds i d lt at (first_of_each same_key [] ds)
                c.loop-d.invariant.list old;
            numbers = λ q.
                ap (lookup (is_same q)) w.numbers-is ∙ (c.loop-d.invariant.numbers q ∙ ap (position_from (is_of q) 0) (sym same));
            few = omega (arith, ap length same, seen_length c.if-is_none.list.items, seen_length items, c.loop-d.invariant.few);
          }
    ]
