use Rattle.std.proofs.Common.{◌≡◌, ℕ, ◌+◌, ◌-◌, inl, inr, refl, ◌∙◌, subst, replicate, arith}
use Rattle.std.proofs.lemmas.Bool.{cases_lt}
use Rattle.elf_view.specs.Views.{segment_seen}
use Rattle.data_match.specs.Stretches.{bytes_fault}
use Rattle.data_match.proofs.Stretches.{IsFound, found_byte, zero_passes, zero_fails, zeros_pass}
use Rattle.data_match.proofs.bytes.zero_piece_fault.Goals as goal

pub returns-then-found-ne0-clause-some : goal.returns-then-found-ne0-clause-some
returns-then-found-ne0-clause-some c =
    let at = c.from-in-loop-i.result + c.from-in-loop-i-2.result + c.from-in-loop-i-3.result in
    let most = c.held_run.ensures.most in
    let found : IsFound c.args.segments.now (segment_seen c.args.segment.now) _ _ c.args.a (c.args.offset + c.loop-i.i) at
    c.byte_in-found.result =
    record { has = c.requires.has; place = omega arith; low = omega arith; high = omega arith; byte = c.byte_in-found.ensures } in
    c.loop-i.invariant
    ∙ zero_fails c.args.segments.now c.args.a c.args.offset c.loop-i.i c.args.n c.byte_in-found.result
    (found_byte _ _ _ _ _ _ _ _ found) (omega arith) c.if-found-ne0.true

pub loop-i-preserved : goal.loop-i-preserved
loop-i-preserved c =
    let at = c.from-in-loop-i.result + c.from-in-loop-i-2.result + c.from-in-loop-i-3.result in
    let most = c.held_run.ensures.most in
    let found : IsFound c.args.segments.now (segment_seen c.args.segment.now) _ _ c.args.a (c.args.offset + c.loop-i.i) at
    c.byte_in-found.result =
    record { has = c.requires.has; place = omega arith; low = omega arith; high = omega arith; byte = c.byte_in-found.ensures } in
    c.loop-i.invariant
    ∙ zero_passes c.args.segments.now c.args.a c.args.offset c.loop-i.i c.args.n c.byte_in-found.result
    (found_byte _ _ _ _ _ _ _ _ found) (omega arith) c.if-found-ne0.false

pub returns-clause-none : goal.returns-clause-none
returns-clause-none c =
    let v = c.args.segments.now in
    let i : ℕ = c.loop-i.i in
    let most = c.held_run.ensures.most in
    let e : i + (c.args.to - i) ≡ c.args.to = omega arith in
    elim (cases_lt i c.args.to) [
      | inl lt ↦ (
          let behind = c.held_run.ensures.rest (omega arith) in
          c.loop-i.invariant
          ∙ subst (λ x. bytes_fault v c.args.a (c.args.offset + i) (replicate (c.args.n - i) 0)
          ≡ bytes_fault v c.args.a (c.args.offset + x) (replicate (c.args.n - x) 0)) e
          (zeros_pass v (segment_seen c.args.segment.now) _ _ c.args.a c.args.offset c.args.n i (c.args.to - i) c.requires.has (omega arith)
          (omega arith) (omega arith) (omega arith))
          )
      | inr le ↦ (
          let same : i ≡ c.args.to = omega arith in
          c.loop-i.invariant
          ∙ subst (λ x. bytes_fault v c.args.a (c.args.offset + i) (replicate (c.args.n - i) 0)
          ≡ bytes_fault v c.args.a (c.args.offset + x) (replicate (c.args.n - x) 0)) same refl
          )
    ]
