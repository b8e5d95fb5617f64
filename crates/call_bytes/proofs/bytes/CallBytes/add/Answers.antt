use Rattle.std.proofs.Common.{◌≡◌, ◌+◌, ◌-◌, ℕ, List, length, slice_index_or, refl, arith, ap, sym, ◌∙◌}
use Rattle.call_bytes.specs.CallLists.{bytes_in}
use Rattle.call_bytes.proofs.Cutting.{cut_count, cut_bytes, sum_add, set_length}
use Rattle.call_bytes.proofs.bytes.CallBytes.add.Goals as goal

pub invariant_of-self : goal.invariant_of-self
invariant_of-self c =
    let s = c.self.inside in
    let h = c.self.invariant in
    let most = h.1 in
    let eight = h.3 in
    let count : length c.args.self.now ≡ s.count =
    ap (λ (l : List (List ℕ)). length l) (sym c.self.view_is) ∙ cut_count s.count s.lengths s.kept.items (omega (arith, most, eight)) in
    let used : bytes_in c.args.self.now ≡ s.used =
    ap bytes_in (sym c.self.view_is) ∙ cut_bytes s.count s.lengths s.kept.items (omega (arith, h.4, h.2, h.0)) ∙ h.4 in
    let last : s.count ≡ (s.count - 1) + 1 = omega (arith, count, c.requires.list) in
    rw c.from-i.ensures (
      set_length s.kept.items s.used c.args.b ∙ h.0,
      most,
      omega (arith, used, c.requires.room),
      set_length s.lengths (s.count - 1) (slice_index_or s.lengths (s.count - 1) 0 + 1) ∙ eight,
      sum_add s.count (s.count - 1) 0 s.used (slice_index_or s.lengths (s.count - 1) 0 + 1) s.lengths last (omega
          (arith, most, eight)) h.4 refl,
    )
