use Rattle.std.proofs.Common.{◌≡◌, ◌∙◌, ◌<◌, length, sym, ap, false, true, arith, rules, append-nil}
use Rattle.std.specs.Prelude.{bytes_eq, Some}
use Rattle.symbol_index.specs.Index.{in_order, has_name}
use Rattle.symbol_bind.proofs.Neighbours.{before_first, rest_unserved, served_next, read_there, first_within, place_within, symbol_in}
use Rattle.symbol_bind.proofs.candidates.served.Goals as goal
use Rattle.symbol_bind.proofs.candidates.served.Goals.{then-is_offered+in_ok-push, else-is_offered}

pub loop-place-init : goal.loop-place-init
loop-place-init c =
    let x = c.args.index.now in
    let inside : c.args.first < length (in_order x) = first_within x c.args.name.now c.args.first c.requires.first in
    record {
      values = c.new-values.ensures.items ∙ sym (before_first x c.args.name.now c.args.is_static c.args.first c.requires.first);
      within = omega (arith, inside);
    }

pub returns-then-not-has_name : goal.returns-then-not-has_name
returns-then-not-has_name c =
    let x = c.args.index.now in
    let other : c.has_name.result ≡ false = search rules in
    let differs : bytes_eq (symbol_in x c.loop-place.place).name c.args.name.now ≡ false =
    read_there (has_name c.args.name.now) (in_order x) c.loop-place.place _ c.has_name.ensures ∙ other in
    let inside : c.loop-place.place < length x.places = search rules in
    c.loop-place.invariant.values
    ∙ sym (rest_unserved x c.args.name.now c.args.is_static c.args.first c.loop-place.place c.requires.short c.places-count.ensures.index
    c.requires.first
    (search rules) inside differs)

pub loop-place-preserved : goal.loop-place-preserved
loop-place-preserved c =
    let x = c.args.index.now in
    let same : c.has_name.result ≡ true = search rules in
    let inside : c.loop-place.place < length x.places = search rules in
    let within = place_within x c.loop-place.place inside in
    let next = served_next c.args.name.now c.args.is_static (in_order x) c.loop-place.place c.fields-fields.result c.is_offered.result
    within
    (c.has_name.ensures ∙ ap (λ b. Some b) same) c.fields-fields.ensures c.is_offered.ensures in
    elim c.if-is_offered.branch [
      | then-is_offered+in_ok-push w ↦ record {
        values = rw (w.values-is, w.in_ok-push.ensures.items, c.loop-place.invariant.values) (rw w.if-is_offered.true at (sym next));
        within = omega (arith, within);
      }
      | else-is_offered w ↦ record {
        values = rw (w.values-is, c.loop-place.invariant.values) (sym (append-nil _) ∙ (rw w.if-is_offered.false at (sym next)));
        within = omega (arith, within);
      }
    ]
