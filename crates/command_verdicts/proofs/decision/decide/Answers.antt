use Rattle.std.proofs.Common.{map, string_bytes, sym, ◌∙◌}
use Rattle.command_verdicts.proofs.CountLemmas.{few_files}
use Rattle.command_verdicts.proofs.decision.decide.Goals as goal

pub decide_on-requires : goal.decide_on-requires
decide_on-requires g c = few_files (map string_bytes c.args.words.now) c.in-Some.command (sym c.command_of.ensures ∙ c.in-Some.is)
