use Rattle.std.proofs.Common.{◌≡◌, ℕ, ◌<◌, ◌+◌, ◌*◌, length, arith, Some, ap, sym, ◌∙◌}
use Rattle.std.specs.Prelude.{slice_get}
use Rattle.image_model.specs.Image.{Image, Symbol, image_of, symbols_of, symbol_at}
use Rattle.image_model.specs.SymbolTable.{symbol_count, symbol_place}
use Rattle.elf_view.proofs.Facts.{name_lies}
use Rattle.elf_view.proofs.Symbols.{symbol_total, symbol_get}
use Rattle.elf_view.proofs.LentLemmas.{name_part}
use Rattle.elf_view.specs.Views.{symbol_seen}
use Rattle.elf_view.proofs.view.ElfView.symbol.Goals as goal

pub symbol_at-requires-clause-named : goal.symbol_at-requires-clause-named
unfolding image_of
symbol_at-requires-clause-named c =
    let v = c.self.invariant in
    let b = c.self.inside.bytes.now in
    let same : length (symbols_of b) ≡ length c.args.self.now.symbols = ap (λ (i : Image). length i.symbols) c.self.view_is in
    let within : c.args.i < symbol_count b = omega (arith, symbol_total b, same, c.requires) in
    let place : c.self.inside.symbols_at + 16 * c.args.i ≡ symbol_place b c.args.i = omega (arith, v.symbols) in
    name_lies b c.args.i (c.self.inside.symbols_at + 16 * c.args.i) c.self.inside.texts.now v.readable within place v.table

pub returns-clause-lent : goal.returns-clause-lent
unfolding image_of
returns-clause-lent c =
    let fields = c.self.invariant in
    let b = c.self.inside.bytes.now in
    let v = c.args.self.now in
    let same : length (symbols_of b) ≡ length v.symbols = ap (λ (x : Image). length x.symbols) c.self.view_is in
    let within : c.args.i < symbol_count b = omega (arith, symbol_total b, same, c.requires) in
    let place : c.self.inside.symbols_at + 16 * c.args.i ≡ symbol_place b c.args.i = omega (arith, fields.symbols) in
    let shown : slice_get v.symbols c.args.i ≡ Some (symbol_seen c.symbol_at.result) =
    ap (λ (x : Image). slice_get x.symbols c.args.i) (sym c.self.view_is)
    ∙ symbol_get b c.args.i within
    ∙ ap (λ (at : ℕ). Some (symbol_at b at)) (sym place)
    ∙ ap (λ (x : Symbol). Some x) (sym c.symbol_at.ensures) in
    name_part v c.args.i (symbol_seen c.symbol_at.result) shown
