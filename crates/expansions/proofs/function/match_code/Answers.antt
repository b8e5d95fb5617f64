use Rattle.std.proofs.Common.{rules, ◌≡◌, ◌+◌, ◌++◌, List, sym, ◌∙◌, ap, Some, drop, map}
use Rattle.std.specs.Prelude.{slice_get}
use Rattle.std.proofs.lemmas.Option.{slice_get-get_or}
use Rattle.ordered_tests.specs.Checks.{first_fault, fault_of}
use Rattle.code_model.specs.Addresses.{instr_address, label_address}
use Rattle.code_model.specs.FunctionChecks.{code_checks}
use Rattle.link_model.specs.Claims.{Claim, table_claims}
use Rattle.expansions.specs.Tables.{table_claim, found_claims}
use Rattle.expansions.proofs.Walks.{address_first, code_hit, code_miss, claims_next}
use Rattle.expansions.proofs.function.match_code.Goals as goal

pub loop-i-init : goal.loop-i-init
loop-i-init g c =
    let s = c.args.standing.now in
    let names = g.N.NameAddresses.address c.args.names.now in
    let labels = label_address s.words s.base s.code.now in
    let first = address_first s.words s.base s.code.now in
    record {
      rest = ap (λ b. first_fault (code_checks s.words c.args.layout.now names labels s.base b s.code.now)) first;
      claims = λ owner_at. rw c.new-tables.ensures (ap (λ b. table_claims s.words owner_at s.base b s.code.now) first);
    }

pub match_instruction-requires-clause-here : goal.match_instruction-requires-clause-here
match_instruction-requires-clause-here g c =
    ap (λ xs. slice_get xs c.loop-i.i) (sym c.code-instr-items.ensures)
    ∙ slice_get-get_or c.code-instr-items.result.now c.loop-i.i c.instr-item.result (search rules)
    ∙ ap (λ x. Some x) (sym c.instr-item.is)

pub returns-in-Err-clause-fails : goal.returns-in-Err-clause-fails
returns-in-Err-clause-fails g c =
    let s = c.args.standing.now in
    code_hit s.words c.args.layout.now (g.N.NameAddresses.address c.args.names.now)
    (label_address s.words s.base s.code.now) s.base c.loop-i.i
    c.instr-item.result s.code.now c.in-Err.spot _
    (ap (λ xs. slice_get xs c.loop-i.i) (sym c.code-instr-items.ensures)
    ∙ slice_get-get_or c.code-instr-items.result.now c.loop-i.i c.instr-item.result (search rules)
    ∙ ap (λ x. Some x) (sym c.instr-item.is))
    (sym c.match_instruction.ensures.first ∙ ap fault_of c.in-Err.is) c.loop-i.invariant.rest

pub loop-i-preserved : goal.loop-i-preserved
loop-i-preserved g c =
    let s = c.args.standing.now in
    let here : slice_get s.code.now c.loop-i.i ≡ Some c.instr-item.result =
    ap (λ xs. slice_get xs c.loop-i.i) (sym c.code-instr-items.ensures)
    ∙ slice_get-get_or c.code-instr-items.result.now c.loop-i.i c.instr-item.result (search rules)
    ∙ ap (λ x. Some x) (sym c.instr-item.is) in
    record {
      rest = code_miss s.words c.args.layout.now (g.N.NameAddresses.address c.args.names.now)
          (label_address s.words s.base s.code.now) s.base
          c.loop-i.i c.instr-item.result s.code.now _ here (sym c.match_instruction.ensures.first ∙ ap fault_of c.in-Ok.is)
          c.loop-i.invariant.rest;
      claims = λ owner_at.
          ap (λ (cs : List Claim). cs ++ table_claims s.words owner_at s.base (instr_address s.words s.base s.code.now (c.loop-i.i + 1))
          (drop (c.loop-i.i + 1) s.code.now)) (c.in_ok-push_found-in-Ok.ensures owner_at)
          ∙ claims_next s.words owner_at s.base c.loop-i.i c.instr-item.result s.code.now
          (map (table_claim owner_at) c.loop-i.tables) (found_claims owner_at c.in-Ok.found) _ here (c.in-Ok.ensures.claims owner_at)
          (c.loop-i.invariant.claims owner_at);
    }
