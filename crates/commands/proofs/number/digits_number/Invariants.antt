use Rattle.std.proofs.Common.{◌≡◌, ◌<◌, ◌^◌, take}
use Rattle.commands.specs.Numbers.{digits_number}
use Rattle.commands.proofs.number.digits_number.Given as goal

abbrev pub invariant-loop-byte : goal.invariant-loop-byte
invariant-loop-byte l = record {
  so_far : l.number ≡ digits_number l.base (take l.byte-index l.digits);
  fits : l.number < 16 ^ l.byte-index;
}
