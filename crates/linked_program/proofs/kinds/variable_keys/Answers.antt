use Rattle.std.proofs.Common.{◌≡◌, ◌∙◌, ◌<◌, ◌≤◌, ◌++◌, ◌∷◌, [], length, get_or, map, cond, ap, sym, arith, Vec, Global}
use Rattle.std.specs.List.{flat_map}
use Rattle.std.proofs.lemmas.List.{map-append}
use Rattle.link_model.specs.Program.{Declaration}
use Rattle.link_model.specs.Numbers.{item_variables, is_variable}
use Rattle.asm_program.specs.declared.declared.Item.{Item}
use Rattle.asm_program.specs.Seen.{item_seen, declaration_seen}
use Rattle.asm_program.proofs.SeenLists.{seen_at, seen_length}
use Rattle.linked_program.specs.declared.kinds.VariableKey.{VariableKey}
use Rattle.linked_program.specs.Kinds.{variable_of, variable_key, key_numbers}
use Rattle.linked_program.proofs.LoopSteps.{items_step, numbers_step, items_end, numbers_end, no_variable, nothing_added}
use Rattle.linked_program.proofs.kinds.variable_keys.Goals as goal
use Rattle.linked_program.proofs.kinds.variable_keys.Goals.{in-Variable+in_ok-push, in_default}

pub returns : goal.returns
returns c =
    let ds = map declaration_seen c.args.keys.now in let list = c.loop-k.list.items in
    let le : length ds ≤ c.loop-k.k = omega (arith, seen_length c.args.keys.now) in
    record {
      items = items_end (λ (d : Declaration). item_variables d.item) (map variable_of list) ds c.loop-k.k
          (flat_map (λ (d : Declaration). item_variables d.item) ds) le c.loop-k.invariant.items;
      numbers = numbers_end (λ (d : Declaration). is_variable d.item) (map variable_key list) ds c.loop-k.k (key_numbers is_variable ds) le
          c.loop-k.invariant.numbers;
    }

pub loop-k-preserved : goal.loop-k-preserved
loop-k-preserved c =
    let all = c.args.keys.now in let ds = map declaration_seen all in let k = c.loop-k.k in
    let d = declaration_seen c.index-keys-k.result in
    let list = c.loop-k.list.items in
    let short : k < length all = omega arith in
    let lt : k < length ds = omega (arith, seen_length all) in
    let at : get_or ds k d ≡ d = seen_at all k c.index-keys-k.result short c.index-keys-k.is in
    elim c.match-d.branch [
      | in-Variable+in_ok-push w ↦
          let row : VariableKey = record { key = k; variable = w.in-Variable.variable } in
          let grown : c.match-d.list.items ≡ list ++ row ∷ [] = ap (λ (l : Vec VariableKey Global). l.items) w.list-is
          ∙ w.in_ok-push.ensures.items in
          record {
            items = items_step item_variables is_variable ds k d lt at (map variable_of list) (map variable_of c.match-d.list.items)
                (ap (map variable_of) grown ∙ (map-append variable_of list (row ∷ [])
                ∙ sym (ap (λ (item : Item). map variable_of list ++ item_variables (item_seen item)) w.in-Variable.is)))
                ∙ c.loop-k.invariant.items;
            numbers = numbers_step item_variables is_variable ds k d lt at (map variable_key list) (map variable_key c.match-d.list.items)
                (ap (map variable_key) grown ∙ (map-append variable_key list (row ∷ [])
                ∙ sym (ap (λ (item : Item). map variable_key list ++ cond (is_variable (item_seen item)) (k ∷ []) []) w.in-Variable.is)))
                ∙ c.loop-k.invariant.numbers;
          }
      | in_default w ↦
          let same : c.match-d.list.items ≡ list = ap (λ (l : Vec VariableKey Global). l.items) w.list-is in
          let gone = no_variable c.index-keys-k.result.item w.in_default.not-Variable in
          record {
            items = items_step item_variables is_variable ds k d lt at (map variable_of list) (map variable_of c.match-d.list.items)
                (nothing_added (map variable_of list) (item_variables d.item) (map variable_of c.match-d.list.items) gone.0
                (ap (map variable_of) same))
                ∙ c.loop-k.invariant.items;
            numbers = numbers_step item_variables is_variable ds k d lt at (map variable_key list) (map variable_key c.match-d.list.items)
                (nothing_added (map variable_key list) (cond (is_variable d.item) (k ∷ []) []) (map variable_key c.match-d.list.items)
                (ap (λ b. cond b (k ∷ []) []) gone.1) (ap (map variable_key) same))
                ∙ c.loop-k.invariant.numbers;
          }
    ]
