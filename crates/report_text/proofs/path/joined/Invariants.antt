use Rattle.std.proofs.Common.{◌≡◌, ◌++◌, ◌∷◌, take, string_bytes}
use Rattle.std.specs.List.{flat_map}
use Rattle.report_text.specs.Places.{step_text}
use Rattle.report_text.proofs.path.joined.Given as goal

abbrev pub invariant-loop-step : goal.invariant-loop-step
invariant-loop-step l =
    string_bytes l.out ≡ step_text l.first ++ flat_map (λ s. 0x2f ∷ step_text s) (take l.step-index l.rest)
