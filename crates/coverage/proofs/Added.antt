-- What is answered of settled claims, for the claims as they were added.
use Rattle.std.proofs.Common.{◌≡◌, ℕ, ◌<◌, ◌≤◌, inl, inr, List, map, get_or, length, Some, sym, ap, subst, ◌∙◌, arith}
use Rattle.std.specs.Prelude.{Result, Ok, Err, IfOk, IfErr, OnOk}
use Rattle.std.proofs.lemmas.Bool.{cases_lt}
use Rattle.std.proofs.lemmas.Option.{slice_get-get_or}
use Rattle.ordered_tests.specs.Lists.{Pairwise}
use Rattle.ordered_tests.proofs.Lists.{pairs_get, pairs_of_map}
use Rattle.image_model.specs.Image.{Image}
use Rattle.layout_model.specs.Layouts.{Layout}
use Rattle.link_model.specs.Claims.{Claim, Apart}
use Rattle.link_model.specs.Overlaps.{in_order}
use Rattle.link_model.specs.Kinds.{NoneStray, Stray, kind_at}
use Rattle.link_model.specs.Account.{account}
use Rattle.link_laws.proofs.Overlaps.{LowTo, order_rises}
use Rattle.coverage.specs.declared.claims.Kept.{Kept}
use Rattle.coverage.specs.declared.account.Account.{Account}
use Rattle.coverage.specs.declared.sweep.CoverFault.{CoverFault}
use Rattle.coverage.specs.declared.sweep.CoverFault.TheVariants as faults
use Rattle.coverage.specs.Orders.{kept_seen}
use Rattle.coverage.specs.Stretches.{Rise}
use Rattle.coverage.specs.Sweeps.{IsCause}
use Rattle.coverage.specs.Accounts.{account_seen}
use Rattle.coverage.proofs.Reordered.{account_in_order, strays_in_order, strays_as_added}

abbrev LowKept : Kept → Kept → Type 0
LowKept x y = LowTo (kept_seen x) (kept_seen y)

rise_of : (ks : List Kept) → Pairwise LowKept ks → Rise ks
rise_of ks p i j d le lt = elim (cases_lt i j) [
  | inl before ↦ pairs_get LowKept ks p i j (get_or ks i d) (get_or ks j d) before (slice_get-get_or ks i d (omega arith))
      (slice_get-get_or ks j d lt)
  | inr same ↦ (let e : i ≡ j = omega arith in rw e (omega arith))
]

-- settled claims begin later and later
pub rise_from : (ks : List Kept) (cs : List Claim) → map kept_seen ks ≡ cs → in_order cs ≡ cs → Rise ks
rise_from ks cs seen settled =
    rise_of ks (pairs_of_map LowTo kept_seen ks (subst (λ ds. Pairwise LowTo ds) (settled ∙ sym seen) (order_rises cs)))

pub account_added : (v : Image) (l : Layout) (cs ds : List Claim) (r : Result Account CoverFault) → ds ≡ in_order cs → Apart cs →
    IfOk r (λ t. account_seen t ≡ account v l ds 0) → IfOk r (λ t. account_seen t ≡ account v l cs 0)
account_added v l cs ds (Ok t) e apart h = h ∙ ap (λ xs. account v l xs 0) e ∙ account_in_order v l cs 0 apart
account_added v l cs ds (Err f) e apart h = tt

pub covered_added : (v : Image) (l : Layout) (cs ds : List Claim) (r : Result Account CoverFault) → ds ≡ in_order cs →
    OnOk r (NoneStray v l ds) → OnOk r (NoneStray v l cs)
covered_added v l cs ds (Ok t) e h = λ a stray. h a (rw e (strays_as_added v l cs a stray))
covered_added v l cs ds (Err f) e h = tt

cause_added : (v : Image) (l : Layout) (cs ds : List Claim) (f : CoverFault) → ds ≡ in_order cs → IsCause v l ds f → IsCause v l cs f
cause_added v l cs ds (faults.Stray a byte) e h = record {
  loaded = h.loaded;
  stray = strays_in_order v l cs a (subst (λ xs. kind_at v l xs a ≡ Some Stray) e h.stray);
  lower = λ b lt stray. h.lower b lt (subst (λ xs. kind_at v l xs b ≡ Some Stray) (sym e) (strays_as_added v l cs b stray));
}
cause_added v l cs ds faults.Memory e h = tt

pub stray_added : (v : Image) (l : Layout) (cs ds : List Claim) (r : Result Account CoverFault) → ds ≡ in_order cs →
    IfErr r (IsCause v l ds) → IfErr r (IsCause v l cs)
stray_added v l cs ds (Ok t) e h = tt
stray_added v l cs ds (Err f) e h = cause_added v l cs ds f e h
