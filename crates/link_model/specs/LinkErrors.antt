-- The number of a fault of linking.
use Rattle.std.specs.Prelude.{ℕ}
use Rattle.link_model.specs.declared.link_error.LinkError.{LinkError}
use Rattle.link_model.specs.declared.link_error.LinkError.TheVariants.{UnitTwice, DefinedTwice, Undeclared, SigDiffers, NoEntry, Memory}
use Rattle.link_model.specs.declared.link_error.LinkError.TheVariants.{TooBig}

abbrev pub number_of : LinkError → ℕ
number_of (UnitTwice unit) = 1
number_of (DefinedTwice unit name) = 2
number_of (Undeclared unit name) = 3
number_of (SigDiffers unit name) = 4
number_of NoEntry = 5
number_of Memory = 6
number_of (TooBig unit name) = 7
