use Rattle.std.proofs.Common.{◌∙◌, ◌&&◌, ◌||◌, not}
use Rattle.std.specs.List.{list_any}
use Rattle.std.specs.Str.{bytes_eq}
use Rattle.asm_program.proofs.standing.add_unit.Goals as goal

pub returns : goal.returns
returns c = λ v.
    let used = c.items.ensures ∙ c.in_ok-used.ensures in
    c.in_ok-add_externals.ensures v
    ∙ (λ k. list_any (bytes_eq v) c.args.referred.now
    || ((list_any (λ m. bytes_eq m v) (used k) && c.in_ok-declared.ensures v k) && not (c.in_ok-defined.ensures v k)))
