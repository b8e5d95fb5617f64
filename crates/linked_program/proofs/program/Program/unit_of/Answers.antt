use Rattle.link_model.specs.Program.{keys}
use Rattle.asm_program.specs.Seen.{declaration_seen}
use Rattle.link_laws.proofs.Keys.{key_in}
use Rattle.linked_program.proofs.ListReads.{kept_read, there}
use Rattle.linked_program.proofs.Opened.{opened}
use Rattle.linked_program.proofs.program.Program.unit_of.Goals as goal

pub returns-clause-range : goal.returns-clause-range
returns-clause-range c =
    let o = opened c.self.inside c.args.self.now c.self.view_is c.self.invariant in
    let units = c.args.self.now.units in let d = c.index.result.now in
    let at = kept_read declaration_seen c.self.inside.list.items (keys units) c.args.key d o.list c.requires c.index.ensures in
    let in_unit = key_in units c.args.key (declaration_seen d) at in
    there units d.unit in_unit.unit in_unit.at
