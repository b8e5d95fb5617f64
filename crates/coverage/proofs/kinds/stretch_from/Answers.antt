use Rattle.std.proofs.Common.{rules}
use Rattle.elf_view.specs.Views.{segment_seen}
use Rattle.coverage.proofs.KindStretches.{claimed_stretch, foreign_stretch}
use Rattle.coverage.proofs.kinds.stretch_from.Goals as goal

pub returns-in-Some-clause-kinds : goal.returns-in-Some-clause-kinds
returns-in-Some-clause-kinds c = λ cs h.
    claimed_stretch c.args.image.now c.args.layout.now cs (segment_seen c.args.segment.now) c.args.here.now c.args.a c.known_end-end.result
    c.in-Some.j
    (record {
      loadable = c.requires.loadable;
      segment = c.requires.segment;
      low = c.requires.inside.0;
      ends = c.known_end-end.ensures;
      claim = h;
    }) c.in-Some.is

pub returns-then-here-clause-kinds : goal.returns-then-here-clause-kinds
returns-then-here-clause-kinds c = λ cs h.
    foreign_stretch c.args.image.now c.args.layout.now cs (segment_seen c.args.segment.now) c.args.here.now c.args.a c.known_end-end.result
    (record {
      loadable = c.requires.loadable;
      segment = c.requires.segment;
      low = c.requires.inside.0;
      ends = c.known_end-end.ensures;
      claim = h;
    }) (search rules) c.requires.foreign c.if-here.true
