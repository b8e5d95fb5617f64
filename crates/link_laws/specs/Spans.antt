-- The spans of an account.
use Rattle.std.specs.Prelude.{◌≡◌, ℕ, ◌<◌, true, List, Some, slice_get}
use Rattle.word_ops.specs.Ranges.{holds}
use Rattle.image_model.specs.Image.{Image}
use Rattle.image_model.specs.Loaded.{byte_at}
use Rattle.layout_model.specs.Layouts.{Layout}
use Rattle.link_model.specs.Claims.{Claim}
use Rattle.link_model.specs.Account.{account_of, tally_below}

-- the address is in the span number i
pub record IsInSpan (spans : List Claim) (a i : ℕ) : Type 0 where
  pub span : Claim
  pub at : slice_get spans i ≡ Some span
  pub within : holds a span.range ≡ true

-- each loaded address below n is in a span, and in no other; and what is in a span is loaded
pub record SpansCover (v : Image) (spans : List Claim) (n : ℕ) : Type 0 where
  pub each : (a byte : ℕ) → a < n → byte_at v a ≡ Some byte → (i : ℕ) × IsInSpan spans a i
  pub one : (a i j : ℕ) → IsInSpan spans a i → IsInSpan spans a j → i ≡ j
  pub loaded : (a i : ℕ) → IsInSpan spans a i → (byte : ℕ) × (byte_at v a ≡ Some byte)

abbrev pub SpansCoverWhatIsLoaded : Type 0
SpansCoverWhatIsLoaded = (v : Image) (l : Layout) (cs : List Claim) (externals n : ℕ) →
    SpansCover v (account_of cs externals (tally_below v l cs n)).spans n
