use Rattle.std.proofs.Common.{◌≡◌, ◌∙◌, ◌<◌, ◌≤◌, ◌++◌, ◌∷◌, [], length, get_or, map, cond, ap, sym, arith, Vec, Global}
use Rattle.std.specs.List.{flat_map}
use Rattle.std.proofs.lemmas.List.{map-append}
use Rattle.link_model.specs.Program.{Declaration}
use Rattle.link_model.specs.Numbers.{item_functions, is_function}
use Rattle.asm_program.specs.declared.declared.Item.{Item}
use Rattle.asm_program.specs.Seen.{item_seen, declaration_seen}
use Rattle.asm_program.proofs.SeenLists.{seen_at, seen_length}
use Rattle.linked_program.specs.declared.kinds.FunctionKey.{FunctionKey}
use Rattle.linked_program.specs.Kinds.{function_of, function_key, key_numbers}
use Rattle.linked_program.proofs.LoopSteps.{items_step, numbers_step, items_end, numbers_end, no_function, nothing_added}
use Rattle.linked_program.proofs.kinds.function_keys.Goals as goal
use Rattle.linked_program.proofs.kinds.function_keys.Goals.{in-Function+in_ok-push, in_default}

pub returns : goal.returns
returns c =
    let ds = map declaration_seen c.args.keys.now in let list = c.loop-k.list.items in
    let le : length ds ≤ c.loop-k.k = omega (arith, seen_length c.args.keys.now) in
    record {
      items = items_end (λ (d : Declaration). item_functions d.item) (map function_of list) ds c.loop-k.k
          (flat_map (λ (d : Declaration). item_functions d.item) ds) le c.loop-k.invariant.items;
      numbers = numbers_end (λ (d : Declaration). is_function d.item) (map function_key list) ds c.loop-k.k (key_numbers is_function ds) le
          c.loop-k.invariant.numbers;
    }

pub loop-k-preserved : goal.loop-k-preserved
loop-k-preserved c =
    let all = c.args.keys.now in let ds = map declaration_seen all in let k = c.loop-k.k in
    let d = declaration_seen c.index-keys-k.result in
    let list = c.loop-k.list.items in
    let short : k < length all = omega arith in
    let lt : k < length ds = omega (arith, seen_length all) in
    let at : get_or ds k d ≡ d = seen_at all k c.index-keys-k.result short c.index-keys-k.is in
    elim c.match-d.branch [
      | in-Function+in_ok-push w ↦
          let row : FunctionKey = record { key = k; function = w.in-Function.function } in
          let grown : c.match-d.list.items ≡ list ++ row ∷ [] = ap (λ (l : Vec FunctionKey Global). l.items) w.list-is
          ∙ w.in_ok-push.ensures.items in
          record {
            items = items_step item_functions is_function ds k d lt at (map function_of list) (map function_of c.match-d.list.items)
                (ap (map function_of) grown ∙ (map-append function_of list (row ∷ [])
                ∙ sym (ap (λ (item : Item). map function_of list ++ item_functions (item_seen item)) w.in-Function.is)))
                ∙ c.loop-k.invariant.items;
            numbers = numbers_step item_functions is_function ds k d lt at (map function_key list) (map function_key c.match-d.list.items)
                (ap (map function_key) grown ∙ (map-append function_key list (row ∷ [])
                ∙ sym (ap (λ (item : Item). map function_key list ++ cond (is_function (item_seen item)) (k ∷ []) []) w.in-Function.is)))
                ∙ c.loop-k.invariant.numbers;
          }
      | in_default w ↦
          let same : c.match-d.list.items ≡ list = ap (λ (l : Vec FunctionKey Global). l.items) w.list-is in
          let gone = no_function c.index-keys-k.result.item w.in_default.not-Function in
          record {
            items = items_step item_functions is_function ds k d lt at (map function_of list) (map function_of c.match-d.list.items)
                (nothing_added (map function_of list) (item_functions d.item) (map function_of c.match-d.list.items) gone.0
                (ap (map function_of) same))
                ∙ c.loop-k.invariant.items;
            numbers = numbers_step item_functions is_function ds k d lt at (map function_key list) (map function_key c.match-d.list.items)
                (nothing_added (map function_key list) (cond (is_function d.item) (k ∷ []) []) (map function_key c.match-d.list.items)
                (ap (λ b. cond b (k ∷ []) []) gone.1) (ap (map function_key) same))
                ∙ c.loop-k.invariant.numbers;
          }
    ]
