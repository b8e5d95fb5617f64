-- Where and how a variable at an address fails.
use Rattle.std.specs.Prelude.{ℕ, unwrap_or}
use Rattle.asm_syntax.specs.declared.rule.Rule.TheVariants as rules
use Rattle.code_model.specs.declared.spot.Spot.{Spot}
use Rattle.code_model.specs.WordChecks.{spot}
use Rattle.code_model.specs.Variables.{no_byte}
use Rattle.data_match.specs.declared.fault.DataFault.{DataFault}
use Rattle.data_match.specs.declared.fault.DataFault.TheVariants.{Bytes, Align, Area, Flags}

abbrev pub spot_of : ℕ → DataFault → Spot
spot_of a (Bytes offset wanted found) = spot rules.DataBytes offset 0 wanted (unwrap_or found no_byte)
spot_of a Align = spot rules.DataPlace 0 2 0 a
spot_of a Area = spot rules.DataPlace 0 3 0 a
spot_of a Flags = spot rules.DataPlace 0 4 0 a
