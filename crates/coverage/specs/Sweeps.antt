-- What is known of the loaded addresses below one.
use Rattle.std.specs.Prelude.{◌≡◌, ℕ, ◌<◌, List, map, Some, ⊤}
use Rattle.image_model.specs.Image.{Image}
use Rattle.layout_model.specs.Layouts.{Layout}
use Rattle.link_model.specs.Claims.{Claim}
use Rattle.link_model.specs.Kinds as model
use Rattle.link_model.specs.Account.{tally_below}
use Rattle.link_laws.specs.Laws.{IsLowestStray}
use Rattle.coverage.specs.declared.claims.Kept.{Kept}
use Rattle.coverage.specs.declared.stretches.Here.{Here}
use Rattle.coverage.specs.declared.tally.Tally.{Tally}
use Rattle.coverage.specs.declared.sweep.CoverFault.{CoverFault}
use Rattle.coverage.specs.declared.sweep.CoverFault.TheVariants as faults
use Rattle.coverage.specs.Orders.{kept_seen}
use Rattle.coverage.specs.Stretches.{HoldsHere}
use Rattle.coverage.specs.Tallies.{tally_seen, IsCounted}

-- the lowest stray address with its byte. Want of memory is free
abbrev pub IsCause : Image → Layout → List Claim → CoverFault → Type 0
IsCause v l cs (faults.Stray a byte) = IsLowestStray v l cs a byte
IsCause v l cs faults.Memory = ⊤

pub record Swept (v : Image) (l : Layout) (ks : List Kept) (t : Tally) (h : Here) (a : ℕ) : Type 0 where
  pub tally : tally_seen t ≡ tally_below v l (map kept_seen ks) a
  pub none : (b : ℕ) → b < a → model.kind_at v l (map kept_seen ks) b ≡ Some model.Stray → ⊥
  pub here : HoldsHere l ks a h
  pub counted : IsCounted t a
