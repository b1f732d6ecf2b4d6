-- The four bytes in base 256.
use Rattle.sets.proofs.Hashes.{four_bytes}
use mathlib.Core.Path.{◌∙◌}
use Rattle.sets.proofs.hash_of.Goals as goal

pub returns-clause-value : goal.returns-clause-value
returns-clause-value c = c.from.ensures ∙ c.from_be_bytes.ensures ∙ four_bytes c.args.bytes.now c.told-bytes
