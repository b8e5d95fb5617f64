use Rattle.std.proofs.Common.{◌≡◌, map, drop, Some}
use Rattle.json_tree.specs.Tables.{row}
use Rattle.dump_model.specs.Spellings.{spelling}
use Rattle.dump_model.proofs.Mnemonics.{word_in}
use Rattle.dump_writer.proofs.spelling.spelling.Given as goal

-- the form stands among the rows that are left
abbrev pub invariant-loop-word : goal.invariant-loop-word
invariant-loop-word l = word_in l.form (map row (drop l.word-index l.word-items)) ≡ Some (spelling l.form)
