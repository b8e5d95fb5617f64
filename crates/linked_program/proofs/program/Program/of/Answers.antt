use Rattle.std.proofs.Common.{◌≡◌, ◌∙◌, ℕ, List, length, map, position, ap, sym, subst, arith, Some}
use Rattle.std.specs.Map.{lookup}
use Rattle.link_model.specs.Program.{Program, Declaration, declarations, keys}
use Rattle.link_model.specs.Numbers.{entry_key}
use Rattle.link_model.specs.LinkTests.{IsLinked}
use Rattle.asm_program.specs.Scopes.{is_same}
use Rattle.asm_program.specs.Seen.{declaration_seen}
use Rattle.linked_program.specs.Tables.{AreTables}
use Rattle.linked_program.proofs.Counts.{few_keys}
use Rattle.linked_program.proofs.ListReads.{kept_length}
use Rattle.linked_program.proofs.LoopSteps.{is_entry_of, entry_is, entry_there}
use Rattle.linked_program.proofs.program.Program.of.Goals as goal

pub entry_of-requires : goal.entry_of-requires
entry_of-requires c =
    let units = c.args.units.now in
    omega (
      arith,
      ap length c.deref.ensures.value,
      kept_length declaration_seen c.args.found.list.items (keys units) c.requires.found.list,
      few_keys units c.requires.linked.fit c.requires.few,
    )

pub unreachable-requires : goal.unreachable-requires
unreachable-requires c =
    let units = c.args.units.now in let entry = c.args.entry.now in
    let p : Program = record { units = units; entry = entry } in
    let fact = (c.linked_gives_facts.ensures p c.requires.linked).entry in
    let list = ap (map declaration_seen) c.deref.ensures.value ∙ c.requires.found.list in
    entry_there units entry fact.key fact.first (sym c.in-None.is ∙ (c.entry_of.ensures ∙ ap (position (is_entry_of entry)) list))

pub tables_of-requires : goal.tables_of-requires
tables_of-requires c =
    let units = c.args.units.now in
    omega (
      arith,
      ap length c.deref-2.ensures.value,
      kept_length declaration_seen c.args.found.list.items (keys units) c.requires.found.list,
      few_keys units c.requires.linked.fit c.requires.few,
    )

pub invariant_of-result : goal.invariant_of-result
invariant_of-result c =
    let units = c.args.units.now in let name = sym c.in_ok-entry.ensures in
    let first = ap (map declaration_seen) c.deref.ensures.value ∙ c.requires.found.list in
    let list = ap (map declaration_seen) c.deref-2.ensures.value ∙ c.requires.found.list in
    let t = c.in_ok-tables.tables in
    record {
      linked = subst (λ (n : List ℕ). IsLinked (record { units = units; entry = n })) name c.requires.linked;
      few = c.requires.few;
      list = c.requires.found.list;
      few_keys = omega (
        arith,
        kept_length declaration_seen c.args.found.list.items (keys units) c.requires.found.list,
        few_keys units c.requires.linked.fit c.requires.few,
      );
      entry = subst (λ (n : List ℕ). entry_key units n ≡ Some c.in-Some.k) name (entry_is units c.args.entry.now c.in-Some.k
          (sym c.in-Some.is ∙ (c.entry_of.ensures ∙ ap (position (is_entry_of c.args.entry.now)) first)));
      names = λ q. ap (lookup (is_same q)) c.in_ok-numbers.ensures ∙ c.requires.found.numbers q;
      tables = subst (λ (ks : List Declaration). AreTables (declarations units) ks t) list
          (subst (λ (ds : List Declaration). AreTables ds (map declaration_seen c.deref-2.result.now) t) c.requires.all
          c.in_ok-tables.ensures);
    }
