use mathlib.Core.Path.{ap, ◌∙◌}
use Rattle.paper.specs.Keys.{Bytes, same_key}
use Rattle.paper.specs.Bounds.{Bound}
use Rattle.merge.proofs.CursorLaws.{live-record}
use Rattle.merge.proofs.HeapSteps.{root_live}
use Rattle.lsm.specs.Pairs.{pair_at}
use Rattle.lsm.proofs.Walking.{key-is}
use Rattle.lsm.proofs.walk.Reader.key_is.Goals as goal

pub version_at-requires : goal.version_at-requires
version_at-requires c = live-record _ _ (root_live _ _ c.requires.0 c.requires.1)

pub returns : goal.returns
returns c =
    c.has_key.ensures ∙ ap (λ (k : Bytes). same_key k (pair_at c.args.self.s.now c.from-least.result).key) c.key.ensures
    ∙ key-is _ 0 Bound.unbounded _ c.requires.0 c.requires.1 c.version_at.result c.version_at.ensures c.from-least.result c.from-least.ensures _
