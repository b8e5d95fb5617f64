-- How many files a command reads at most, and how many steps a run has.
use Rattle.std.specs.Prelude.{◌≤◌, ℕ, ◌+◌}
use Rattle.limits.specs.declared.TheConstants.{MOST_STEPS, MOST_UNITS}
use Rattle.commands.specs.declared.command.Command.{Command}
use Rattle.commands.specs.declared.command.Command.TheVariants.{Check, Run, Show, Upgrade}

-- with so many files
abbrev pub HasFew : Command → ℕ → Type 0
HasFew (Run steps units) n = (n ≤ MOST_UNITS + 3) × (steps ≤ MOST_STEPS)
HasFew (Check units) n = n ≤ MOST_UNITS + 2
HasFew (Show a count) n = n ≤ MOST_UNITS + 2
HasFew Upgrade n = n ≤ MOST_UNITS + 2
