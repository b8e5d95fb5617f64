-- What two declarations of one name have to be, and the fault where they are not.
use Rattle.std.specs.Prelude.{Bool, false}
use Rattle.std.specs.Option.{option_eq}
use Rattle.asm_syntax.specs.Sigs.{same_sig}
use Rattle.link_model.specs.declared.link_error.LinkError.{LinkError}
use Rattle.link_model.specs.declared.link_error.LinkError.TheVariants.{DefinedTwice, SigDiffers}
use Rattle.link_model.specs.Program.{Item, OfExternal, Declaration, name_of, joins}
use Rattle.asm_program.specs.declared.repeats.Rule.{Rule}
use Rattle.asm_program.specs.declared.repeats.Rule.TheVariants.{Definitions, Externals}

-- two externals with one signature
abbrev pub has_same_sig : Item → Item → Bool
has_same_sig (OfExternal x) (OfExternal y) = option_eq same_sig x.sig y.sig
has_same_sig _ _ = false

abbrev pub alike_by : Rule → Item → Item → Bool
alike_by Definitions = joins
alike_by Externals = has_same_sig

abbrev pub fault_by : Rule → Declaration → LinkError
fault_by Definitions d = DefinedTwice d.unit (name_of d)
fault_by Externals d = SigDiffers d.unit (name_of d)
