use Rattle.std.proofs.Common.{◌∙◌}
use Rattle.ppc_decode.proofs.Decoded.{decoded_own, encodes_decoded, decodes_exactly}
use Rattle.ppc_decode.proofs.decoding.decode.Goals as goal

pub returns-clause-found : goal.returns-clause-found
returns-clause-found c = encodes_decoded c.args.word c.confirmed.result c.confirmed.ensures

pub returns-clause-only : goal.returns-clause-only
returns-clause-only c i h = c.confirmed.ensures ∙ decoded_own c.args.word i h

pub returns-clause-law : goal.returns-clause-law
returns-clause-law c = decodes_exactly
