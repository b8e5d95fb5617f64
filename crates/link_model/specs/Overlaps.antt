-- Claims in the order of their addresses, and the tests that no two of them meet.
use Rattle.std.specs.Prelude.{ℕ, Bool, not, ◌&&◌, ◌||◌, ◌==◌, nat_lt, nat_le, List, [], ◌∷◌, if◌then◌else◌, Option, Some}
use Rattle.ordered_tests.specs.Checks.{Check, check}
use Rattle.word_ops.specs.Ranges.{extent, meets}
use Rattle.asm_syntax.specs.declared.rule.Rule.TheVariants as rules
use Rattle.code_model.specs.declared.spot.Spot.{Spot}
use Rattle.code_model.specs.WordChecks.{spot}
use Rattle.link_model.specs.declared.owner.Owner.{Owner}
use Rattle.link_model.specs.declared.owner.Owner.TheVariants as owners
use Rattle.link_model.specs.declared.fault.Fault.{Fault}
use Rattle.link_model.specs.Claims.{Claim, claim}

-- a spot in what a unit and a name tell
abbrev pub fault_at : List ℕ → List ℕ → Spot → Option Owner → Fault
fault_at unit name s other = record {
  rule = s.rule;
  unit = unit;
  name = name;
  offset = s.offset;
  item = s.item;
  wanted = s.wanted;
  found = s.found;
  other = other;
}

-- stands for a unit or a name where there is none
abbrev pub no_name : List ℕ
no_name = 0x2d ∷ []

-- ---- the order: by lo, then by hi, then as they were listed

abbrev pub is_not_above : Claim → Claim → Bool
is_not_above c d = nat_lt c.range.lo d.range.lo || (c.range.lo == d.range.lo && nat_le c.range.hi d.range.hi)

abbrev pub with_claim : Claim → List Claim → List Claim
with_claim c [] = c ∷ []
with_claim c (d ∷ ds) = if is_not_above c d then c ∷ d ∷ ds else d ∷ with_claim c ds

abbrev pub in_order : List Claim → List Claim
in_order [] = []
in_order (c ∷ cs) = with_claim c (in_order cs)

-- ---- the tests

abbrev pub has_addresses : Claim → Bool
has_addresses c = nat_lt c.range.lo c.range.hi

abbrev pub owner_names : Owner → List ℕ × List ℕ
owner_names (owners.Function unit name) = (unit, name)
owner_names (owners.Table unit name offset) = (unit, name)
owner_names (owners.Variable unit name) = (unit, name)
owner_names _ = (no_name, no_name)

abbrev pub overlap_fault : Claim → Claim → Fault
overlap_fault before c =
    fault_at (owner_names c.owner).0 (owner_names c.owner).1 (spot rules.Overlap c.range.lo 0 0 0) (Some before.owner)

-- each claim does not meet the last one before it that has addresses
abbrev pub overlap_checks : Claim → List Claim → List (Check Fault)
overlap_checks before [] = []
overlap_checks before (c ∷ cs) =
    check (not (meets before.range c.range)) (overlap_fault before c) ∷ overlap_checks (if has_addresses c then c else before) cs

-- a claim without addresses, which stands before the first
abbrev pub no_claim : Claim
no_claim = claim (extent 0 0) owners.Padding

unfoldable pub overlap_pass : List Claim → List (Check Fault)
overlap_pass cs = overlap_checks no_claim (in_order cs)
