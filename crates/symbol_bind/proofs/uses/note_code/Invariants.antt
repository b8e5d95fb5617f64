use Rattle.std.proofs.Common.{◌≡◌, ◌+◌, ◌*◌, ◌≤◌, ◌++◌, List, length, take}
use Rattle.code_model.specs.Addresses.{code_end}
use Rattle.link_model.specs.Uses.{Use, code_uses}
use Rattle.symbol_bind.specs.Open.{AreOpen}
use Rattle.name_addresses.specs.Given.{given}
use Rattle.symbol_bind.proofs.uses.note_code.Given as goal

abbrev pub invariant-loop-instr : goal.invariant-loop-instr
invariant-loop-instr g l = record {
  place : l.place ≡ code_end l.segments l.at (take l.instr-index l.code);
  near : l.place ≤ l.at + 24 * l.instr-index;
  same : length l.sets ≡ length l.fn.sets;
  noted : (us : List Use) → AreOpen l.layout us l.fn.sets
      → AreOpen l.layout (us ++ code_uses (given l.segments l.layout (g.P.KeyedProgram.program l.program)) l.unit l.at
      (take l.instr-index l.code)) l.sets;
}
