use mathlib.Core.Path.{ap, ◌∙◌}
use Rattle.std.specs.Ordering.{is_lt}
use Rattle.merge.proofs.CursorLaws.{live-record, before_is}
use Rattle.merge.proofs.heap.Cursor.is_before.Goals as goal

pub compare_versions-requires : goal.compare_versions-requires
compare_versions-requires c = (live-record _ _ c.requires.0, live-record _ _ c.requires.1)

pub returns : goal.returns
returns c =
    before_is c.args.s.now c.args.self c.args.other c.compare_versions.result c.cmp.result c.is_lt.result c.compare_versions.ensures c.cmp.ensures
    (c.is_lt.ensures ∙ ap is_lt c.then.ensures)
