-- Runs and counts of the addresses below one, and what a stretch of addresses adds.
use Rattle.std.specs.Prelude.{◌≤◌, ℕ, ◌+◌, ◌-◌, List, [], ◌∷◌, ◌++◌, length, map, slice_set, if◌then◌else◌}
use Rattle.word_ops.specs.Ranges.{extent}
use Rattle.word_ops.specs.Seen.{extent_of}
use Rattle.link_model.specs.Kinds as model
use Rattle.link_model.specs.Account as accounts
use Rattle.coverage.specs.declared.tally.Run.{Run}
use Rattle.coverage.specs.declared.tally.Tally.{Tally}
use Rattle.coverage.specs.Kinds.{kind_seen}

abbrev pub run_seen : Run → accounts.Run
run_seen r = record { range = extent_of r.range; kind = kind_seen r.kind }

abbrev pub tally_seen : Tally → accounts.Tally
tally_seen t = record { runs = map run_seen t.runs.items; padding = t.padding; foreign = t.foreign; loaded = t.loaded }

abbrev pub run : ℕ → ℕ → model.Kind → accounts.Run
run lo hi kind = record { range = extent lo hi; kind = kind }

-- the runs with the addresses from lo on that are below hi
abbrev pub with_run : List accounts.Run → ℕ → ℕ → model.Kind → List accounts.Run
with_run runs lo hi kind =
    if accounts.goes_on runs lo kind then slice_set runs (length runs - 1) (run (accounts.last_run runs).range.lo hi kind)
    else runs ++ run lo hi kind ∷ []

abbrev pub with_stretch : accounts.Tally → ℕ → ℕ → model.Kind → accounts.Tally
with_stretch t lo hi kind = record {
  runs = with_run t.runs lo hi kind;
  padding = t.padding + (if accounts.same_kind kind model.Padding then hi - lo else 0);
  foreign = t.foreign + (if accounts.same_kind kind model.Foreign then hi - lo else 0);
  loaded = t.loaded + (hi - lo);
}

-- no more addresses are counted than there are below a
pub record IsCounted (t : Tally) (a : ℕ) : Type 0 where
  pub padding : t.padding ≤ a
  pub foreign : t.foreign ≤ a
  pub loaded : t.loaded ≤ a
