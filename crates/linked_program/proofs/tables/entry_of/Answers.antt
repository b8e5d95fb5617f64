use Rattle.std.proofs.Common.{◌∙◌, ◌<◌, ◌≤◌, length, map, sym, arith}
use Rattle.asm_program.specs.Seen.{declaration_seen}
use Rattle.asm_program.proofs.SeenLists.{seen_at, seen_length}
use Rattle.linked_program.proofs.LoopSteps.{is_entry_of, place_found, place_passed, place_none}
use Rattle.linked_program.proofs.tables.entry_of.Goals as goal

pub returns-then-is_entry : goal.returns-then-is_entry
returns-then-is_entry c =
    let all = c.args.keys.now in let ds = map declaration_seen all in let k = c.loop-k.k in
    let d = declaration_seen c.index-keys-k.result in
    let short : k < length all = omega arith in
    let lt : k < length ds = omega (arith, seen_length all) in
    place_found (is_entry_of c.args.entry.now) ds k d lt (seen_at all k c.index-keys-k.result short c.index-keys-k.is)
    c.loop-k.invariant.place
    (sym c.is_entry.ensures ∙ c.if-is_entry.true)

pub returns : goal.returns
returns c =
    let ds = map declaration_seen c.args.keys.now in
    let le : length ds ≤ c.loop-k.k = omega (arith, seen_length c.args.keys.now) in
    place_none (is_entry_of c.args.entry.now) ds c.loop-k.k le c.loop-k.invariant.place

pub loop-k-preserved : goal.loop-k-preserved
loop-k-preserved c =
    let all = c.args.keys.now in let ds = map declaration_seen all in let k = c.loop-k.k in
    let d = declaration_seen c.index-keys-k.result in
    let short : k < length all = omega arith in
    let lt : k < length ds = omega (arith, seen_length all) in
    record {
      place = place_passed (is_entry_of c.args.entry.now) ds k d lt (seen_at all k c.index-keys-k.result short c.index-keys-k.is)
          c.loop-k.invariant.place
          (sym c.is_entry.ensures ∙ c.if-is_entry.false);
    }
