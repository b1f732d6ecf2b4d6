use Rattle.area.proofs.OpeningLaws.{fit-many, fit-total}
use Rattle.area.proofs.opening.images_fit.Goals as goal

pub returns-then-lengths-le16 : goal.returns-then-lengths-le16
returns-then-lengths-le16 c = fit-total c.args.images.now c.args.lengths.now c.args.area c.if-lengths-le16.true c.images_total.result c.images_total.ensures.sum

pub returns-else-lengths-le16 : goal.returns-else-lengths-le16
returns-else-lengths-le16 c = fit-many c.args.images.now c.args.lengths.now c.args.area c.if-lengths-le16.false
