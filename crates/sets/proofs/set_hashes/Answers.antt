-- The chunks of four bytes are the hashes.
use Rattle.sets.proofs.Hashes.{chunks-hashes}
use Rattle.std.proofs.Common.{length, ap, ◌∙◌, ◌/◌, map}
use Rattle.paper.specs.Image.{number_from}
use Rattle.sets.proofs.set_hashes.Goals as goal

pub returns : goal.returns
returns c = ap (map (λ b. number_from 0 b)) c.as_chunks.ensures.front ∙ chunks-hashes (length c.args.set.now / 4) c.args.set.now
