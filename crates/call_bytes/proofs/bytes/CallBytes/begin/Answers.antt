use Rattle.std.proofs.Common.{◌≡◌, ◌+◌, ℕ, List, length, refl, arith, ap, sym, ◌∙◌}
use Rattle.call_bytes.proofs.Cutting.{cut_count, sum_begin, set_length}
use Rattle.call_bytes.proofs.bytes.CallBytes.begin.Goals as goal

pub invariant_of-self : goal.invariant_of-self
invariant_of-self c =
    let s = c.self.inside in
    let h = c.self.invariant in
    let most = h.1 in
    let eight = h.3 in
    let count : length c.args.self.now ≡ s.count =
    ap (λ (l : List (List ℕ)). length l) (sym c.self.view_is) ∙ cut_count s.count s.lengths s.kept.items (omega (arith, most, eight)) in
    rw c.from.ensures (
      h.0,
      omega (arith, count, c.requires),
      h.2,
      set_length s.lengths s.count 0 ∙ eight,
      sum_begin s.count (s.count + 1) s.lengths refl (omega (arith, count, c.requires, eight)) ∙ h.4,
    )
