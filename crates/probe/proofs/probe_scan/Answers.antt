-- `probe::probe_scan` meets its contract: what the read path answers of the view is told.
use mathlib.Core.Path.{ap, ◌∙◌}
use Prim.Native.Nat.{ℕ}
use Rattle.lsm.specs.Edges.{bound_by}
use Rattle.probe.proofs.Telling.{readable-same, scan-told}
use Rattle.probe.proofs.probe_scan.Goals as goal

pub scan-requires : goal.scan-requires
scan-requires c = readable-same _ _ _ c.view_of-v.ensures c.requires.2

pub returns : goal.returns
returns c =
    scan-told _ c.view_of-v.result _ _ _ _ _ c.scan.result _ _ _ c.view_of-v.ensures
    (c.bound_by-low.ensures ∙ ap (λ (n : ℕ). bound_by n c.args.lo.now) c.from.ensures) (c.bound_by-high.ensures ∙ ap (λ (n : ℕ). bound_by n c.args.hi.now) c.from-2.ensures) c.scan.ensures c.tell.ensures
