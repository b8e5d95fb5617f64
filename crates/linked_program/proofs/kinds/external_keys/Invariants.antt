use Rattle.std.proofs.Common.{◌≡◌, ◌++◌, map, drop}
use Rattle.std.specs.List.{flat_map}
use Rattle.link_model.specs.Program.{Declaration}
use Rattle.link_model.specs.Program.{is_external}
use Rattle.link_model.specs.Numbers.{item_externals}
use Rattle.asm_program.specs.Seen.{declaration_seen}
use Rattle.linked_program.specs.Kinds.{external_of, external_key, key_numbers}
use Rattle.linked_program.proofs.KindLists.{numbers_from}
use Rattle.linked_program.proofs.kinds.external_keys.Given as goal

abbrev pub invariant-loop-k : goal.invariant-loop-k
invariant-loop-k l = record {
  items : map external_of l.list.items ++ flat_map (λ (d : Declaration). item_externals d.item) (drop l.k (map declaration_seen l.keys))
      ≡ flat_map (λ (d : Declaration). item_externals d.item) (map declaration_seen l.keys);
  numbers : map external_key l.list.items ++ numbers_from (λ (d : Declaration). is_external d.item) (map declaration_seen l.keys) l.k
      ≡ key_numbers is_external (map declaration_seen l.keys);
}
