use Rattle.std.proofs.Common.{arith, ◌∙◌}
use Rattle.expansions.proofs.Walks.{is_held, held_address}
use Rattle.expansions.proofs.addresses.StandingCode.address.Goals as goal

pub offset_bounds-items-i : goal.offset_bounds-items-i
offset_bounds-items-i c =
    let s = c.args.self.now in
    let lt = is_held s.words s.base c.args.i s.code.now c.items.result.now (c.items.ensures ∙ s.addressed) c.requires in
    let size = c.items.type_inv.1 in
    omega arith

pub bounds-items-i : goal.bounds-items-i
bounds-items-i c =
    let s = c.args.self.now in
    is_held s.words s.base c.args.i s.code.now c.items.result.now (c.items.ensures ∙ s.addressed) c.requires

pub returns : goal.returns
returns c =
    let s = c.args.self.now in
    held_address s.words s.base c.args.i 0 s.code.now c.items.result.now (c.items.ensures ∙ s.addressed) c.requires
