use Rattle.std.proofs.Common.{◌≡◌, ◌+◌, ◌*◌, ◌≤◌, ◌++◌, drop}
use Rattle.expansions.specs.Addresses.{addresses_after, addresses_of}
use Rattle.expansions.proofs.addresses.all_addresses.Given as goal

abbrev pub invariant-loop-instr : goal.invariant-loop-instr
invariant-loop-instr l = record {
  rest : l.list ++ addresses_after l.words l.a (drop l.instr-index l.code) ≡ addresses_of l.words l.base l.code;
  near : l.a ≤ l.base + 20 * l.instr-index;
}
