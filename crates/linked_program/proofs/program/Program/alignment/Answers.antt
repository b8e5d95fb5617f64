use Rattle.linked_program.proofs.Opened.{opened}
use Rattle.linked_program.proofs.ListReads.{alignment_read, alignment_positive}
use Rattle.linked_program.proofs.program.Program.alignment.Goals as goal

pub returns-clause-value : goal.returns-clause-value
returns-clause-value c =
    let o = opened c.self.inside c.args.self.now c.self.view_is c.self.invariant in
    alignment_read c.args.self.now.units c.self.inside.tables.alignments.items c.args.key c.index.result.now o.tables.alignments
    c.requires c.index.ensures

pub returns-clause-range : goal.returns-clause-range
returns-clause-range c =
    let o = opened c.self.inside c.args.self.now c.self.view_is c.self.invariant in
    alignment_positive c.args.self.now.units c.args.key c.index.result.now
    (alignment_read c.args.self.now.units c.self.inside.tables.alignments.items c.args.key c.index.result.now o.tables.alignments
    c.requires c.index.ensures)
