use Rattle.std.proofs.Common.{◌≡◌, ◌++◌, ℕ, drop, map}
use Rattle.ordered_tests.specs.Checks.{first_fault}
use Rattle.code_model.specs.Addresses.{instr_address, label_address}
use Rattle.code_model.specs.FunctionChecks.{code_checks}
use Rattle.link_model.specs.declared.owner.Owner.{Owner}
use Rattle.link_model.specs.Claims.{table_claims}
use Rattle.expansions.specs.Tables.{table_claim}
use Rattle.expansions.proofs.function.match_code.Given as goal

abbrev pub invariant-loop-i : goal.invariant-loop-i
invariant-loop-i g l = record {
  rest : (let s = l.standing in
      let tests = code_checks s.words l.layout (g.N.NameAddresses.address l.names) (label_address s.words s.base s.code.now) s.base in
      first_fault (tests (instr_address s.words s.base s.code.now l.i) (drop l.i s.code.now)) ≡ first_fault (tests s.base s.code.now));
  claims : (owner_at : ℕ → Owner) → (let s = l.standing in
      map (table_claim owner_at) l.tables
      ++ table_claims s.words owner_at s.base (instr_address s.words s.base s.code.now l.i) (drop l.i s.code.now)
      ≡ table_claims s.words owner_at s.base s.base s.code.now);
}
