use Rattle.std.proofs.Common.{arith}
use Rattle.txn.proofs.Laying.{set_inside, set-lent}
use Rattle.txn.proofs.set.Goals as goal

pub overflow_add-result : goal.overflow_add-result
overflow_add-result c = omega (arith, set_inside c.args.place.now c.args.at c.requires.1 c.used_at.result c.used_at.ensures)

pub slice_bounds-result-end : goal.slice_bounds-result-end
slice_bounds-result-end c = omega (arith, set_inside c.args.place.now c.args.at c.requires.1 c.used_at.result c.used_at.ensures)

pub returns : goal.returns
returns c = set-lent c.args.place.now c.args.at c.requires.1 c.used_at.result c.used_at.ensures
