-- The difference of a word that begins a function.
use Rattle.code_model.specs.declared.spot.Spot.{Spot}
use Rattle.reloc_match.specs.declared.diff.Diff.{Diff}

abbrev pub diff_of : Spot → Diff
diff_of s = record { rule = s.rule; wanted = s.wanted; found = s.found }
