use Rattle.std.proofs.Common.{refl, arith, ap, ◌∙◌, sym, Bool}
use Rattle.elf_view.specs.Views.{segment_seen}
use Rattle.coverage.specs.declared.kinds.Kind.TheVariants as kinds
use Rattle.coverage.proofs.KindStretches.{IsBare, zeros_stretch, padded_byte, stray_byte}
use Rattle.coverage.proofs.kinds.unclaimed_stretch.Goals as goal

pub returns-then-a-zeros-clause-kinds : goal.returns-then-a-zeros-clause-kinds
returns-then-a-zeros-clause-kinds c = λ cs h.
    zeros_stretch c.args.image.now c.args.layout.now cs (segment_seen c.args.segment.now) c.args.here.now c.args.a c.args.end _
    (record {
      known = record {
        loadable = c.requires.loadable;
        segment = c.requires.segment;
        low = c.requires.low;
        ends = c.requires.ends;
        claim = h;
      };
      none = c.requires.unclaimed;
      foreign = c.requires.foreign;
      native = c.requires.native;
      area = c.requires.area;
    })
    c.if-a-zeros.true c.zero_padding_end-zeros.ensures.high c.zero_padding_end-zeros.ensures.zeros
    (c.zero_padding_end-zeros.ensures.area c.if-a-zeros.true)

pub returns-then-is_free_nop-clause-kinds : goal.returns-then-is_free_nop-clause-kinds
returns-then-is_free_nop-clause-kinds c = λ cs h.
    padded_byte c.args.image.now c.args.layout.now cs (segment_seen c.args.segment.now) c.args.here.now c.args.a c.args.end
    (record {
      known = record {
        loadable = c.requires.loadable;
        segment = c.requires.segment;
        low = c.requires.low;
        ends = c.requires.ends;
        claim = h;
      };
      none = c.requires.unclaimed;
      foreign = c.requires.foreign;
      native = c.requires.native;
      area = c.requires.area;
    })
    (c.zero_padding_end-zeros.ensures.next (omega arith)) (sym c.is_free_nop.ensures ∙ c.if-is_free_nop.true)

pub returns-clause-kinds : goal.returns-clause-kinds
returns-clause-kinds c = λ cs h.
    stray_byte c.args.image.now c.args.layout.now cs (segment_seen c.args.segment.now) c.args.here.now c.args.a c.args.end
    (record {
      known = record {
        loadable = c.requires.loadable;
        segment = c.requires.segment;
        low = c.requires.low;
        ends = c.requires.ends;
        claim = h;
      };
      none = c.requires.unclaimed;
      foreign = c.requires.foreign;
      native = c.requires.native;
      area = c.requires.area;
    })
    (c.zero_padding_end-zeros.ensures.next (omega arith)) (sym c.is_free_nop.ensures ∙ c.if-is_free_nop.false)
