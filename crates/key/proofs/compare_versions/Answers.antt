use mathlib.Core.Path.{◌∙◌}
use Rattle.key.proofs.Placing.{stamped-at}
use Rattle.key.proofs.compare_versions.Goals as goal

pub returns : goal.returns
returns c =
    c.compare_version_with.ensures ∙ stamped-at _ _ _ c.version_at-q.ensures _ c.new.result c.new.ensures
