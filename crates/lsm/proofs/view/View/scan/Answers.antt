use native.Mathlib.Omega.{arith}
use mathlib.Core.Path.{◌∙◌}
use lib.ListN.{length-take}
use Rattle.lsm.specs.Edges.{bound_of}
use Rattle.lsm.specs.Views.{versions_in, writes_in, cursors_in}
use Rattle.lsm.proofs.ReadLaws.{stands, answers}
use Rattle.lsm.proofs.SeekLaws.{sought-order, sought-merge}
use Rattle.lsm.proofs.view.View.scan.Goals as goal

pub of-heap-requires : goal.of-heap-requires
of-heap-requires c =
    (omega (arith, length-take c.args.self.now.runs c.args.self.now.cursors, c.seek_all.auto.cursors), c.seek_all.ensures.lawfully, sought-order c.args.s.now (bound_of c.args.low) (cursors_in c.args.self.now) _ c.seek_all.ensures c.requires.ordered)

pub first_over-requires : goal.first_over-requires
first_over-requires c =
    (stands c.args.s.now c.args.self.now.read (bound_of c.args.low) (bound_of c.args.high) (versions_in c.args.s.now c.args.self.now) c.of-heap.result (c.of-heap.ensures.all_of ∙ sought-merge c.args.s.now (bound_of c.args.low) (cursors_in c.args.self.now) _ c.seek_all.ensures) _ _ c.next_pair-found.ensures, c.own_from-start.ensures.lies)

pub returns : goal.returns
returns c =
    answers c.args.s.now c.args.self.now.read (bound_of c.args.low) (bound_of c.args.high) (versions_in c.args.s.now c.args.self.now) c.of-heap.result (c.of-heap.ensures.all_of ∙ sought-merge c.args.s.now (bound_of c.args.low) (cursors_in c.args.self.now) _ c.seek_all.ensures) _ _ c.next_pair-found.ensures
    (writes_in c.args.s.now c.args.self.now) _ c.first_over.result c.own_from-start.ensures.kept c.first_over.ensures
