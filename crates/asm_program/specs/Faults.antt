-- The faults that linking tells. Want of memory tells none.
use Rattle.std.specs.Prelude.{Option, Some, None}
use Rattle.link_model.specs.declared.link_error.LinkError.{LinkError}
use Rattle.link_model.specs.declared.link_error.LinkError.TheVariants.{Memory}

abbrev pub told : LinkError → Option LinkError
told Memory = None
told e = Some e
