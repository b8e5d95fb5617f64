use Rattle.std.proofs.Common.{◌≡◌, ◌<◌, ℕ, List, ap, sym, ◌∙◌, arith, length, reverse, slice_index_or, slice_set}
use Rattle.std.proofs.lemmas.List.{reverse-reverse, length-reverse}
use Rattle.asm_mem.specs.Blocks.{Live, Memory, update}
use Rattle.asm_mem.specs.Edits.{edited}
use Rattle.asm_mem.proofs.Writing.{update_reversed, kept_blocks}
use Rattle.asm_mem.proofs.Counting.{kept_cells, edited_length, edited_number}
use Rattle.asm_mem.proofs.blocks.Blocks.edit_at.Goals as goal

pub returns : goal.returns
returns c =
    let items : List Live = c.self.inside.blocks.items in
    let k = c.index_mut-k.result.now in
    let f : Live → Live = edited c.args.e in
    let live : c.args.self.now.live ≡ reverse items = ap (λ (m : Memory). m.live) (sym c.self.view_is) in
    let back : reverse c.args.self.now.live ≡ items = ap (λ (l : List Live). reverse l) live ∙ reverse-reverse items in
    let within : c.args.i < length items = omega (arith, c.requires.within, ap (λ (l : List Live). length l) live, length-reverse items) in
    let number : (slice_index_or items c.args.i k).number ≡ c.args.b =
    ap (λ (l : List Live). (slice_index_or l c.args.i k).number) (sym back) ∙ c.requires.number k in
    let u = update_reversed f items c.args.b c.args.i k c.self.invariant.0.rising within number in
    let written : c.edit.new.self ≡ f (slice_index_or items c.args.i k) = c.edit.ensures ∙ ap f c.index_mut-k.ensures.value in
    let whole : reverse (slice_set items c.args.i c.edit.new.self) ≡ update c.args.b f c.args.self.now.live =
    ap (λ (x : Live). reverse (slice_set items c.args.i x)) written ∙ sym u ∙ ap (λ (l : List Live). update c.args.b f l) (sym live) in
    let next : c.self.inside.next ≡ c.args.self.now.next = ap (λ (m : Memory). m.next) c.self.view_is in
    let made : List Live → ℕ → Memory = λ l n. record { live = l; next = n } in
    ap (λ (l : List Live). made l c.self.inside.next) whole ∙ ap (λ (n : ℕ). made (update c.args.b f c.args.self.now.live) n) next

pub invariant_of-self : goal.invariant_of-self
invariant_of-self c =
    let items : List Live = c.self.inside.blocks.items in
    let k = c.index_mut-k.result.now in
    let f : Live → Live = edited c.args.e in
    let is : k ≡ slice_index_or items c.args.i k = c.index_mut-k.ensures.value in
    let number : c.edit.new.self.number ≡ (slice_index_or items c.args.i k).number =
    ap (λ (x : Live). x.number) c.edit.ensures ∙ edited_number c.args.e k ∙ ap (λ (x : Live). x.number) is in
    let cells : length c.edit.new.self.cells ≡ length (slice_index_or items c.args.i k).cells =
    ap (λ (x : Live). length x.cells) c.edit.ensures ∙ edited_length c.args.e k ∙ ap (λ (x : Live). length x.cells) is in (
      kept_blocks items c.args.i c.self.inside.next c.edit.new.self k c.self.invariant.0 number,
      kept_cells items c.args.i c.self.inside.next c.self.inside.cells c.edit.new.self k c.self.invariant.1 cells,
    )
