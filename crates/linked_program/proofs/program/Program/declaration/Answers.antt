use Rattle.link_model.specs.Program.{Item, OfFunction, OfVariable, OfExternal, keys}
use Rattle.asm_program.specs.Seen.{declaration_seen}
use Rattle.link_laws.proofs.Keys.{key_in, key_fits, ItemFits}
use Rattle.linked_program.specs.Linked.{Fits}
use Rattle.linked_program.proofs.ListReads.{kept_read, there}
use Rattle.linked_program.proofs.Opened.{opened}
use Rattle.linked_program.proofs.program.Program.declaration.Goals as goal

fits : (item : Item) → ItemFits item → Fits item
fits (OfFunction f) h = h
fits (OfVariable x) h = h
fits (OfExternal x) h = h

pub returns-clause-unit : goal.returns-clause-unit
returns-clause-unit c =
    let o = opened c.self.inside c.args.self.now c.self.view_is c.self.invariant in
    let units = c.args.self.now.units in let d = c.index.result.now in
    let at = kept_read declaration_seen c.self.inside.list.items (keys units) c.args.key d o.list c.requires c.index.ensures in
    let in_unit = key_in units c.args.key (declaration_seen d) at in
    there units d.unit in_unit.unit in_unit.at

pub returns-clause-fits : goal.returns-clause-fits
returns-clause-fits c =
    let o = opened c.self.inside c.args.self.now c.self.view_is c.self.invariant in
    let units = c.args.self.now.units in let d = c.index.result.now in
    let at = kept_read declaration_seen c.self.inside.list.items (keys units) c.args.key d o.list c.requires c.index.ensures in
    fits (declaration_seen d).item (key_fits units o.linked.fit c.args.key (declaration_seen d) at)
