use Rattle.std.proofs.Common.{◌≡◌, ℕ, ◌<◌, ◌≤◌, ◌+◌, ◌*◌, arith, sym, ap, ◌∙◌}
use Rattle.image_model.specs.Image.{Image, image_of, symbol_at}
use Rattle.image_model.specs.Names.{name_start, name_start_at}
use Rattle.image_model.specs.SymbolTable.{symbol_count, symbol_place}
use Rattle.elf_view.proofs.LentLemmas.{start_part}
use Rattle.elf_view.proofs.Symbols.{start_get, start_none}
use Rattle.elf_view.proofs.view.ElfView.name_start.Goals as goal

pub returns-then-i-self-clause-shown : goal.returns-then-i-self-clause-shown
unfolding image_of
returns-then-i-self-clause-shown c =
    let b = c.self.inside.bytes.now in
    let within : c.args.i < symbol_count b = omega (arith, c.self.invariant.count, c.if-i-self.true) in
    let place : c.self.inside.symbols_at + 16 * c.args.i ≡ symbol_place b c.args.i = omega (arith, c.self.invariant.symbols) in
    c.name_start.ensures
    ∙ ap (λ (at : ℕ). name_start (symbol_at b at)) place
    ∙ sym (start_get b c.args.i within)
    ∙ ap (λ (x : Image). name_start_at x.symbols c.args.i) c.self.view_is

pub returns-then-i-self-clause-lent : goal.returns-then-i-self-clause-lent
unfolding image_of
returns-then-i-self-clause-lent c = start_part c.args.self.now c.args.i c.name_start.result.now (returns-then-i-self-clause-shown c)

pub returns-else-i-self-clause-shown : goal.returns-else-i-self-clause-shown
unfolding image_of
returns-else-i-self-clause-shown c =
    let b = c.self.inside.bytes.now in
    let past : symbol_count b ≤ c.args.i = omega (arith, c.self.invariant.count, c.if-i-self.false) in
    sym (start_none b c.args.i past) ∙ ap (λ (x : Image). name_start_at x.symbols c.args.i) c.self.view_is
