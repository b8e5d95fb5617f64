use Rattle.std.proofs.Common.{◌≡◌, ◌+◌, ◌≤◌, ◌^◌, drop}
use Rattle.std.specs.List.{flat_map}
use Rattle.asm_syntax.specs.Sizes.{variable_size}
use Rattle.code_model.specs.Variables.{init_bytes}
use Rattle.data_match.specs.Stretches.{bytes_fault}
use Rattle.data_match.proofs.bytes.items_fault.Given as goal

pub record Passed (goes : Type 0) (size : Type 0) (below : Type 0) : Type 0 where
  pub same : goes
  pub total : size
  pub low : below

abbrev pub invariant-loop-item : goal.invariant-loop-item
invariant-loop-item g l = Passed
    (bytes_fault l.segments l.a l.offset (flat_map (init_bytes (g.F.NameAddresses.address l.names)) (drop l.item-index l.init))
    ≡ bytes_fault l.segments l.a 0 (flat_map (init_bytes (g.F.NameAddresses.address l.names)) l.init))
    (l.offset + variable_size (drop l.item-index l.init) ≡ variable_size l.init)
    (l.a + l.offset ≤ 2 ^ 32)
