use Rattle.std.proofs.Common.{◌≡◌, drop, map}
use Rattle.json_tree.specs.Reading.{look_up}
use Rattle.json_tree.specs.Tables.{row}
use Rattle.json_tree.proofs.text.look_up.Given as goal

abbrev pub invariant-loop-word : goal.invariant-loop-word
invariant-loop-word g l = look_up (map row (drop l.word-index l.table)) l.text ≡ look_up (map row l.table) l.text
