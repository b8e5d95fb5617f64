use Rattle.std.proofs.Common.{◌≡◌, ◌≤◌, map, take, string_bytes}
use Rattle.limits.specs.declared.TheConstants.{MOST_DUMPS_BYTES}
use Rattle.commands.specs.Files.{dumps_sum, files}
use Rattle.commands.specs.Reads.{EachRead}
use Rattle.simulation.specs.Judged as judged
use Rattle.command_verdicts.proofs.read.read_files.Given as goal

abbrev pub invariant-loop-i : goal.invariant-loop-i
invariant-loop-i g l = record {
  kept : g.S.Store.holds l.store ≡ g.S.Store.holds l.fn.store;
  quiet : g.S.Store.faults l.store ≡ g.S.Store.faults l.fn.store;
  each : EachRead (g.S.Store.holds l.fn.store) (map string_bytes l.words) (take l.i (files l.command)) (judged.contents l.contents.items);
  sum : l.sum ≡ dumps_sum (take l.i (files l.command)) (judged.contents l.contents.items);
  fits : l.sum ≤ MOST_DUMPS_BYTES;
}
