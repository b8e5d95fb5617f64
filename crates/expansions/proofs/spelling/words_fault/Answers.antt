use Rattle.std.proofs.Common.{rules, sym, ◌∙◌}
use Rattle.expansions.proofs.Spellings.{shapes_hit, shapes_miss}
use Rattle.expansions.proofs.spelling.words_fault.Goals as goal

pub returns-in-Some : goal.returns-in-Some
returns-in-Some c = shapes_hit c.args.layout.now c.args.offset c.args.at c.loop-i.i _ c.args.shapes.now c.args.words.now _ _ (search rules)
    (search rules) (sym c.word_fault.ensures ∙ c.in-Some.is) c.loop-i.invariant

pub loop-i-preserved : goal.loop-i-preserved
loop-i-preserved c = shapes_miss c.args.layout.now c.args.offset c.args.at c.loop-i.i _ c.args.shapes.now c.args.words.now _ (search rules)
    (search rules) (sym c.word_fault.ensures ∙ c.in_default.is) c.loop-i.invariant
