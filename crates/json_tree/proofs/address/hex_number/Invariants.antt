use Rattle.std.proofs.Common.{◌≡◌, ◌<◌, ◌^◌, take}
use Rattle.json_tree.specs.Addresses.{hex_number}
use Rattle.json_tree.proofs.address.hex_number.Given as goal

abbrev pub invariant-loop-byte : goal.invariant-loop-byte
invariant-loop-byte l = record {
  so_far : l.value ≡ hex_number (take l.byte-index l.digits);
  fits : l.value < 16 ^ l.byte-index;
}
