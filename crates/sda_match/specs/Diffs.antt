-- The difference of a word that begins a function.
use Rattle.code_model.specs.declared.spot.Spot.{Spot}
use Rattle.sda_match.specs.declared.diff.SdaDiff.{SdaDiff}

abbrev pub sda_diff_of : Spot → SdaDiff
sda_diff_of s = record { rule = s.rule; item = s.item; wanted = s.wanted; found = s.found }
