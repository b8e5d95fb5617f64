use Rattle.std.proofs.Common.{◌≡◌, ◌+◌, ◌++◌, List, length, take}
use Rattle.asm_syntax.specs.Sizes.{variable_size}
use Rattle.link_model.specs.Uses.{Use, data_uses}
use Rattle.symbol_bind.specs.Open.{AreOpen}
use Rattle.name_addresses.specs.Given.{given}
use Rattle.symbol_bind.proofs.uses.note_items.Given as goal

abbrev pub invariant-loop-item : goal.invariant-loop-item
invariant-loop-item g l = record {
  place : l.place ≡ l.at + variable_size (take l.item-index l.init);
  same : length l.sets ≡ length l.fn.sets;
  noted : (us : List Use) → AreOpen l.layout us l.fn.sets
      → AreOpen l.layout (us ++ data_uses (given l.segments l.layout (g.P.KeyedProgram.program l.program)) l.unit l.at
      (take l.item-index l.init)) l.sets;
}
