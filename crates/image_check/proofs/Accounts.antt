-- An account with a count of external keys.
use Rattle.std.proofs.Common.{◌≡◌, ℕ, List, ap}
use Rattle.image_model.specs.Image.{Image}
use Rattle.layout_model.specs.Layouts.{Layout}
use Rattle.link_model.specs.Claims.{Claim}
use Rattle.link_model.specs.Account as model
use Rattle.link_model.specs.Account.{account, account_of}
use Rattle.coverage.specs.declared.account.Account.{Account}
use Rattle.coverage.specs.Accounts.{account_seen}

pub with_externals : (v : Image) (l : Layout) (cs : List Claim) (n : ℕ) (a : Account) → account_seen a ≡ account v l cs 0
    → account_seen (record a { externals = n }) ≡ account v l cs n
unfolding account account_of
with_externals v l cs n a e = ap (λ (m : model.Account). record m { externals = n }) e
