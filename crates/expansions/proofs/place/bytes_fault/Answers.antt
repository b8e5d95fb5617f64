use Rattle.std.proofs.Common.{rules, sym, ◌∙◌, arith}
use Rattle.elf_view.specs.Views.{segment_seen}
use Rattle.image_model.proofs.Holders.{found_in}
use Rattle.expansions.proofs.Places.{byte_fails, segment_runs, not_runs, none_runs, bytes_end}
use Rattle.expansions.proofs.place.bytes_fault.Goals as goal

pub returns-then-not-is_executable : goal.returns-then-not-is_executable
returns-then-not-is_executable c =
    c.fault.ensures
    ∙ byte_fails c.args.segments.now c.args.base c.loop-a.a c.args.end _ c.loop-a-test.true
    (not_runs c.args.segments.now (segment_seen c.in-Some.segment) c.loop-a.a (search rules) (sym c.is_executable.ensures ∙ (search rules)))
    c.loop-a.invariant.left

pub loop-a-preserved : goal.loop-a-preserved
loop-a-preserved c = record {
  left = segment_runs c.args.segments.now (segment_seen c.in-Some.segment) c.args.base c.loop-a.a c.args.end _ (search rules)
      (search rules) (sym c.is_executable.ensures ∙ (search rules)) c.loop-a-test.true c.loop-a.invariant.left;
  from = let h = found_in c.args.segments.now c.loop-a.a (segment_seen c.in-Some.segment) (search rules) in
      let high = h.1 in let t = c.loop-a.invariant.from in omega arith;
}

pub returns-in-None : goal.returns-in-None
returns-in-None c =
    c.fault-in-None.ensures
    ∙ byte_fails c.args.segments.now c.args.base c.loop-a.a c.args.end _ c.loop-a-test.true
    (none_runs c.args.segments.now c.loop-a.a (search rules)) c.loop-a.invariant.left

pub returns : goal.returns
returns c = bytes_end c.args.segments.now c.args.base c.loop-a.a c.args.end _ (search rules) c.loop-a.invariant.left
