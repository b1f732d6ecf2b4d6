-- A hash is in a set where the search finds its place.
use Rattle.std.proofs.Common.{ap, ◌∙◌}
use Rattle.std.specs.Result.{is_ok}
use Rattle.sets.specs.Sets.{set_hashes}
use Rattle.sets.proofs.Inserting.{found-among}
use Rattle.sets.proofs.among.Goals as goal

pub returns : goal.returns
returns c = c.is_ok.ensures.value ∙ ap is_ok c.find_hash.ensures ∙ found-among c.args.h (set_hashes c.args.set.now)
