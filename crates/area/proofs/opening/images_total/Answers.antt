use Rattle.area.proofs.OpeningLaws.{sum_done, sum-next}
use Rattle.area.proofs.opening.images_total.Goals as goal

pub loop-n-preserved : goal.loop-n-preserved
loop-n-preserved c =
    sum-next c.args.images.now c.args.lengths.now c.loop-n.rest.now c.loop-n.sum c.loop-n.n-index c.loop-n.invariant c.loop-n-test.true c.split_image.result.0.now c.split_image.ensures.image c.split_image.result.1.now c.split_image.ensures.behind

pub returns : goal.returns
returns c = sum_done c.args.images.now c.args.lengths.now c.loop-n.rest.now c.loop-n.sum c.loop-n.n-index c.loop-n.invariant c.loop-n-test.false
