-- The commands, each with its words:
--   check LAYOUT IMAGE UNIT...                 1 to 512 units
--   run LAYOUT IMAGE REPLIES STEPS UNIT...     STEPS up to 1,000,000, and 1 to 512 units
--   show IMAGE ADDRESS COUNT                   COUNT up to 65,536
--   upgrade UNIT
use Rattle.std.specs.Prelude.{ℕ, Bool, ◌&&◌, nat_le, List, [], ◌∷◌, length, codes, Option, Some, None, option_map, option_and_then}
use Rattle.std.specs.Prelude.{if◌then◌else◌}
use Rattle.std.specs.List.{list_all}
use Rattle.std.specs.Str.{bytes_eq}
use Rattle.limits.specs.declared.TheConstants.{MOST_UNITS, MOST_STEPS, MOST_SHOWN_WORDS}
use Rattle.commands.specs.Words.{is_operand}
use Rattle.commands.specs.Numbers.{decimal_of, address_of}
use Rattle.commands.specs.declared.command.Command.{Command}
use Rattle.commands.specs.declared.command.Command.TheVariants.{Check, Run, Show, Upgrade}

abbrev pub is_unit_count : ℕ → Bool
is_unit_count n = nat_le 1 n && nat_le n MOST_UNITS

abbrev pub check_of : List (List ℕ) → Option Command
check_of (layout ∷ image ∷ units) = if is_unit_count (length units) then Some (Check (length units)) else None
check_of _ = None

abbrev pub run_of : List (List ℕ) → Option Command
run_of (layout ∷ image ∷ replies ∷ steps ∷ units) =
    if is_unit_count (length units) then option_map (λ n. Run n (length units)) (decimal_of MOST_STEPS steps) else None
run_of _ = None

abbrev pub show_of : List (List ℕ) → Option Command
show_of (image ∷ address ∷ count ∷ []) =
    option_and_then (λ a. option_map (λ n. Show a n) (decimal_of MOST_SHOWN_WORDS count)) (address_of address)
show_of _ = None

abbrev pub upgrade_of : List (List ℕ) → Option Command
upgrade_of (unit ∷ []) = Some Upgrade
upgrade_of _ = None

-- by the command's name
unfoldable pub named : List ℕ → List (List ℕ) → Option Command
named name operands =
    if bytes_eq name (codes "check") then check_of operands
    else (if bytes_eq name (codes "run") then run_of operands
    else (if bytes_eq name (codes "show") then show_of operands
    else (if bytes_eq name (codes "upgrade") then upgrade_of operands
    else None)))

-- no operand is empty or begins with `-`
unfoldable pub tested : List ℕ → List (List ℕ) → Option Command
tested name operands = if list_all is_operand operands then named name operands else None

-- the command that words are, where they are one
abbrev pub command_of : List (List ℕ) → Option Command
command_of (name ∷ operands) = tested name operands
command_of [] = None
