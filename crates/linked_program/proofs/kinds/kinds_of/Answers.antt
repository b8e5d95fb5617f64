use Rattle.std.proofs.Common.{◌≡◌, ◌∙◌, ◌<◌, ◌≤◌, List, length, get_or, map, ap, sym, arith, Vec, Global}
use Rattle.std.specs.Prelude.{slice_get}
use Rattle.link_model.specs.declared.key.KeyKind.{KeyKind}
use Rattle.link_model.specs.declared.key.KeyKind.TheVariants as kinds
use Rattle.link_model.specs.Program.{is_external}
use Rattle.link_model.specs.Numbers.{is_function, is_variable}
use Rattle.asm_program.specs.declared.declared.Item.{Item}
use Rattle.asm_program.specs.Seen.{item_seen}
use Rattle.asm_program.specs.Seen.{declaration_seen}
use Rattle.asm_program.proofs.SeenLists.{seen_at, seen_length}
use Rattle.linked_program.proofs.KindLists.{kind_behind, next, kinds_behind, kinds_are}
use Rattle.linked_program.proofs.LoopSteps.{kinds_step, kinds_end}
use Rattle.linked_program.proofs.kinds.kinds_of.Goals as goal
use Rattle.linked_program.proofs.kinds.kinds_of.Goals.{in-Function+in_ok-push-in-Function, in-Variable+in_ok-push-in-Variable}
use Rattle.linked_program.proofs.kinds.kinds_of.Goals.{in-External+in_ok-push-in-External}

pub returns : goal.returns
returns c = λ k.
    let ds = map declaration_seen c.args.keys.now in
    let le : length ds ≤ c.loop-d.d-index = omega (arith, seen_length c.args.keys.now) in
    ap (λ l. slice_get l k) (kinds_end c.loop-d.list.items c.loop-d.functions c.loop-d.variables c.loop-d.externals ds c.loop-d.d-index
    (kinds_behind 0 0 0 ds) le c.loop-d.invariant.list)
    ∙ kinds_are ds k

pub loop-d-preserved : goal.loop-d-preserved
loop-d-preserved c =
    let all = c.args.keys.now in let ds = map declaration_seen all in let i = c.loop-d.d-index in
    let d = declaration_seen c.d-item.result in
    let f = c.loop-d.functions in let v = c.loop-d.variables in let x = c.loop-d.externals in let items = c.loop-d.list.items in
    let short : i < length all = omega arith in
    let lt : i < length ds = omega (arith, seen_length all) in
    let at : get_or ds i d ≡ d = seen_at all i c.d-item.result short c.d-item.is in
    let kept : Vec KeyKind Global → List KeyKind = λ l. l.items in
    let kind : Item → KeyKind = λ item. kind_behind f v x (item_seen item) in
    elim c.match-d.branch [
      | in-Function+in_ok-push-in-Function w ↦ record {
        list = kinds_step items c.match-d.list.items f v x c.match-d.functions c.match-d.variables c.match-d.externals ds i d
            (kinds.Function f) lt at
            (ap kept w.list-is ∙ w.in_ok-push-in-Function.ensures.items) (sym (ap kind w.in-Function.is))
            (w.functions-is ∙ sym (ap (λ (item : Item). next is_function f (item_seen item)) w.in-Function.is))
            (w.variables-is ∙ sym (ap (λ (item : Item). next is_variable v (item_seen item)) w.in-Function.is))
            (w.externals-is ∙ sym (ap (λ (item : Item). next is_external x (item_seen item)) w.in-Function.is))
            ∙ c.loop-d.invariant.list;
        functions = omega (arith, w.functions-is, c.loop-d.invariant.functions);
        variables = omega (arith, w.variables-is, c.loop-d.invariant.variables);
        externals = omega (arith, w.externals-is, c.loop-d.invariant.externals);
      }
      | in-Variable+in_ok-push-in-Variable w ↦ record {
        list = kinds_step items c.match-d.list.items f v x c.match-d.functions c.match-d.variables c.match-d.externals ds i d
            (kinds.Variable v) lt at
            (ap kept w.list-is ∙ w.in_ok-push-in-Variable.ensures.items) (sym (ap kind w.in-Variable.is))
            (w.functions-is ∙ sym (ap (λ (item : Item). next is_function f (item_seen item)) w.in-Variable.is))
            (w.variables-is ∙ sym (ap (λ (item : Item). next is_variable v (item_seen item)) w.in-Variable.is))
            (w.externals-is ∙ sym (ap (λ (item : Item). next is_external x (item_seen item)) w.in-Variable.is))
            ∙ c.loop-d.invariant.list;
        functions = omega (arith, w.functions-is, c.loop-d.invariant.functions);
        variables = omega (arith, w.variables-is, c.loop-d.invariant.variables);
        externals = omega (arith, w.externals-is, c.loop-d.invariant.externals);
      }
      | in-External+in_ok-push-in-External w ↦ record {
        list = kinds_step items c.match-d.list.items f v x c.match-d.functions c.match-d.variables c.match-d.externals ds i d
            (kinds.External x) lt at
            (ap kept w.list-is ∙ w.in_ok-push-in-External.ensures.items) (sym (ap kind w.in-External.is))
            (w.functions-is ∙ sym (ap (λ (item : Item). next is_function f (item_seen item)) w.in-External.is))
            (w.variables-is ∙ sym (ap (λ (item : Item). next is_variable v (item_seen item)) w.in-External.is))
            (w.externals-is ∙ sym (ap (λ (item : Item). next is_external x (item_seen item)) w.in-External.is))
            ∙ c.loop-d.invariant.list;
        functions = omega (arith, w.functions-is, c.loop-d.invariant.functions);
        variables = omega (arith, w.variables-is, c.loop-d.invariant.variables);
        externals = omega (arith, w.externals-is, c.loop-d.invariant.externals);
      }
    ]
