use Rattle.ppc_decode.proofs.Proposals.{words_differ}
use Rattle.ppc_decode.proofs.decoding.decode_encoded.Goals as goal

pub returns-clause-apart : goal.returns-clause-apart
returns-clause-apart c = words_differ
