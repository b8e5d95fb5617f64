use Rattle.std.proofs.Common.{◌≡◌, ◌-◌, sym, ◌∙◌, ap, take}
use Rattle.ordered_tests.specs.Checks.{first_fault}
use Rattle.code_model.specs.Forms.{instr_length}
use Rattle.code_model.specs.Addresses.{loaded_word, words_from, label_address}
use Rattle.code_model.specs.FunctionChecks.{instr_checks}
use Rattle.expansions.proofs.Walks.{taken, taken_length, instruction_tests, words_fail}
use Rattle.expansions.proofs.function.match_instruction.Goals as goal

pub instr_fault-requires-clause-len : goal.instr_fault-requires-clause-len
instr_fault-requires-clause-len g c =
    taken_length c.args.standing.now.words c.place-a.result.0 c.place-a.result.1 c.args.instr.now _ c.five_words-words.ensures
    c.place-a.ensures.count

pub returns-in-Some-clause-first : goal.returns-in-Some-clause-first
returns-in-Some-clause-first g c =
    let s = c.args.standing.now in
    let a = c.place-a.result.0 in
    let n = c.place-a.result.1 in
    let x = c.args.instr.now in
    let names = g.N.NameAddresses.address c.args.names.now in
    let labels = label_address s.words s.base s.code.now in
    let same : take n c.five_words-words.result ≡ words_from s.words a (instr_length x (loaded_word s.words a)) =
    taken s.words a n _ c.five_words-words.ensures c.place-a.ensures.few ∙ ap (λ m. words_from s.words a m) c.place-a.ensures.count in
    words_fail s.words c.args.layout.now names labels (a - s.base) a c.target-to.result x _ c.in-Some.spot same c.target-to.ensures.value
    (sym c.in-Some.is ∙ c.instr_fault.ensures)
    ∙ ap (λ b. first_fault (instr_checks s.words c.args.layout.now names labels (b - s.base) b x)) c.place-a.ensures.address

pub returns-in-None-clause-first : goal.returns-in-None-clause-first
returns-in-None-clause-first g c =
    let s = c.args.standing.now in
    let a = c.place-a.result.0 in
    let n = c.place-a.result.1 in
    let x = c.args.instr.now in
    let names = g.N.NameAddresses.address c.args.names.now in
    let labels = label_address s.words s.base s.code.now in
    let same : take n c.five_words-words.result ≡ words_from s.words a (instr_length x (loaded_word s.words a)) =
    taken s.words a n _ c.five_words-words.ensures c.place-a.ensures.few ∙ ap (λ m. words_from s.words a m) c.place-a.ensures.count in
    instruction_tests s.words c.args.layout.now names labels (a - s.base) a c.target-to.result x _ _ _ same c.target-to.ensures.value
    (sym c.in-None.is ∙ c.instr_fault.ensures) c.match_jump.ensures.first
    ∙ ap (λ b. first_fault (instr_checks s.words c.args.layout.now names labels (b - s.base) b x)) c.place-a.ensures.address
