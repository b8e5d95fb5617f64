use Rattle.std.proofs.Common.{◌≡◌, ◌++◌, take, string_bytes}
use Rattle.std.specs.List.{flat_map}
use Rattle.run_text.specs.Texts.{event_text}
use Rattle.run_text.proofs.run.push_events.Given as goal

abbrev pub invariant-loop-seen : goal.invariant-loop-seen
invariant-loop-seen l =
    string_bytes l.out ≡ string_bytes l.initial.out ++ flat_map (event_text l.program.units) (take l.seen-index l.events)
