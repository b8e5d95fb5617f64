-- Units that are read one after another, and the unit at which linking finds fault.
use Rattle.std.specs.Prelude.{◌<◌, ℕ, ⊤, List, ◌++◌, Result, Ok, Err}
use Rattle.asm_syntax.specs.declared.unit.Unit as syntax
use Rattle.link_model.specs.declared.link_error.LinkError.{LinkError}
use Rattle.link_model.specs.declared.link_error.LinkError.TheVariants.{UnitTwice, DefinedTwice, Undeclared, SigDiffers, NoEntry, Memory}
use Rattle.link_model.specs.declared.link_error.LinkError.TheVariants.{TooBig}
use Rattle.judge_model.specs.Refused.{Refused}

-- those that were read, before the others
abbrev pub behind : List syntax.Unit → Result (List syntax.Unit) Refused → Result (List syntax.Unit) Refused
behind before (Ok units) = Ok (before ++ units)
behind before (Err refused) = Err refused

-- of n units
abbrev pub NamesUnit : ℕ → LinkError → Type 0
NamesUnit n (UnitTwice u) = u < n
NamesUnit n (DefinedTwice u name) = u < n
NamesUnit n (Undeclared u name) = u < n
NamesUnit n (SigDiffers u name) = u < n
NamesUnit n NoEntry = ⊤
NamesUnit n Memory = ⊤
NamesUnit n (TooBig u name) = u < n
