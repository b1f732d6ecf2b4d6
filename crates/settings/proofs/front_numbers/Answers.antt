use Rattle.std.proofs.Common.{◌*◌, rules}
use Rattle.std.proofs.lemmas.List.FromFn.{fill_by_all}
use Rattle.paper.specs.Image.{number_from}
use Rattle.raw.specs.Bytes.{part}
use Rattle.settings.proofs.front_numbers.Goals as goal

pub returns : goal.returns
returns c = fill_by_all (λ k. number_from 0 (part c.args.state.now (8 * k) 8)) c.loop-i.n-items 9 0 c.loop-i.invariant.0 (search rules)
