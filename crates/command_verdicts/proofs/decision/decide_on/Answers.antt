use Rattle.std.proofs.Common.{map, length, ℕ, string_bytes, ap, ◌∙◌, sym, subst}
use Rattle.commands.specs.Files.{files}
use Rattle.command_verdicts.specs.Limits.{HasFew}
use Rattle.simulation.specs.Judged as judged
use Rattle.command_verdicts.proofs.ReadLemmas.{length-contents, length-items}
use Rattle.command_verdicts.proofs.decision.decide_on.Goals as goal

pub concluded-requires-clause-all : goal.concluded-requires-clause-all
concluded-requires-clause-all g c =
    ap length c.as_slice.ensures.value ∙ sym (length-items c.in-Ok.contents.items)
    ∙ length-contents _ (map string_bytes c.args.words.now) (files c.args.command) (judged.contents c.in-Ok.contents.items)
    c.in-Ok.ensures.read.each

pub concluded-requires-clause-few : goal.concluded-requires-clause-few
concluded-requires-clause-few g c =
    let all = concluded-requires-clause-all g c in
    let P : ℕ → Type 0 = λ n. HasFew c.args.command n in
    subst P (sym all) c.requires
