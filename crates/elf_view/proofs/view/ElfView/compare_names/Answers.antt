use Rattle.std.proofs.Common.{◌≡◌, ℕ, List, ◌<◌, ◌+◌, ◌*◌, arith, sym, ap, ◌∙◌}
use Rattle.std.specs.Cmp.Lexicographic.{slice_cmp}
use Rattle.std.specs.Ordering.{nat_cmp}
use Rattle.image_model.specs.Image.{Image, image_of, symbol_at}
use Rattle.image_model.specs.Names.{name_start, name_start_at}
use Rattle.image_model.specs.SymbolTable.{symbol_count, symbol_place}
use Rattle.elf_view.proofs.Symbols.{start_get}
use Rattle.elf_view.proofs.view.ElfView.compare_names.Goals as goal

pub returns-then-j-self : goal.returns-then-j-self
unfolding image_of
returns-then-j-self c =
    let b = c.self.inside.bytes.now in
    let one : c.args.i < symbol_count b = omega (arith, c.self.invariant.count, c.if-i-self.true) in
    let two : c.args.j < symbol_count b = omega (arith, c.self.invariant.count, c.if-j-self.true) in
    let at : c.self.inside.symbols_at + 16 * c.args.i ≡ symbol_place b c.args.i = omega (arith, c.self.invariant.symbols) in
    let other : c.self.inside.symbols_at + 16 * c.args.j ≡ symbol_place b c.args.j = omega (arith, c.self.invariant.symbols) in
    c.compare_starts.ensures
    ∙ ap (λ (n : ℕ). slice_cmp nat_cmp (name_start (symbol_at b n)) (name_start (symbol_at b
    (c.self.inside.symbols_at + 16 * c.args.j)))) at
    ∙ ap (λ (n : ℕ). slice_cmp nat_cmp (name_start (symbol_at b (symbol_place b c.args.i))) (name_start (symbol_at b n))) other
    ∙ ap (λ (x : List ℕ). slice_cmp nat_cmp x (name_start (symbol_at b (symbol_place b c.args.j)))) (sym (start_get b c.args.i one))
    ∙ ap (λ (y : List ℕ). slice_cmp nat_cmp (name_start_at (image_of b).symbols c.args.i) y) (sym (start_get b c.args.j two))
    ∙ ap (λ (x : Image). slice_cmp nat_cmp (name_start_at x.symbols c.args.i) (name_start_at x.symbols c.args.j)) c.self.view_is
