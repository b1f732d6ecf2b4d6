use Rattle.merge.proofs.HeapSteps.{root_live}
use Rattle.merge.proofs.CursorLaws.{live-record}
use Rattle.merge.proofs.Passing.{passing-start, passing-on, passing-end}
use mathlib.Core.Path.{sym, ◌∙◌}
use Rattle.merge.proofs.heap.Heap.pass.Goals as goal

pub loop-self-init : goal.loop-self-init
loop-self-init c = passing-start _ _ _ c.step_root.ensures

pub has_least-requires : goal.has_least-requires
has_least-requires c = (c.loop-self.invariant.sound, live-record _ _ (root_live c.args.s.now c.args.self.now c.requires.0 c.requires.1))

pub loop-self-preserved : goal.loop-self-preserved
loop-self-preserved c =
    passing-on _ _ _ c.requires.0 c.loop-self.invariant _ (sym c.has_least.ensures ∙ c.loop-self-test.true) c.step_root-in-loop-self.ensures

pub returns : goal.returns
returns c = passing-end _ _ _ c.requires.0 c.loop-self.invariant c.requires.1 (sym c.has_least.ensures ∙ c.loop-self-test.false)
