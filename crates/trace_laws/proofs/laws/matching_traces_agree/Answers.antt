use Rattle.trace_laws.proofs.Agreeing as agreeing
use Rattle.trace_laws.proofs.laws.matching_traces_agree.Goals as goal

pub returns : goal.returns
returns c =
    agreeing.matching_traces_agree c.linked_gives_facts.ensures c.matches_give_facts.ensures c.matches_are_faithful.ensures
    c.first_states_relate.ensures c.longer_runs_extend.ensures
