use mathlib.Core.Path.{◌≡◌}
use Rattle.std.proofs.Common.{rules}
use Rattle.std.specs.Option.{option_map_or}
use Rattle.key.specs.declared.Place.{Place}
use Rattle.lsm.proofs.SeekLaws.{past_found}
use Rattle.lsm.proofs.seek.past_key.Goals as goal

pub returns : goal.returns
returns c =
    let e : c.map_or.result ≡ option_map_or (λ (p : Place). p.ve) c.first_of.result c.args.at = search rules in
    past_found _ _ _ _ _ _ c.requires c.first_of.ensures.is c.first_of.ensures.there e
