-- The number of a fault of binding.
use Rattle.std.specs.Prelude.{ℕ}
use Rattle.link_model.specs.declared.link_error.BindFault.{BindFault}
use Rattle.link_model.specs.declared.link_error.BindFault.TheVariants.{NoSymbol, NoneFits, SeveralFit, Memory}

abbrev pub number_of : BindFault → ℕ
number_of (NoSymbol key) = 1
number_of (NoneFits key) = 2
number_of (SeveralFit key fitting) = 3
number_of Memory = 4
