use Rattle.std.proofs.Common.{◌∙◌, arith}
use Rattle.txn.proofs.Laying.{own-inside, own-whole, own-part}
use Rattle.txn.proofs.own.Goals as goal

pub overflow_add-used_at : goal.overflow_add-used_at
overflow_add-used_at c = omega (arith, own-inside c.args.place.now c.requires.0 c.requires.1 c.used_at.result c.used_at.ensures)

pub slice_bounds-new-end : goal.slice_bounds-new-end
slice_bounds-new-end c = omega (arith, own-inside c.args.place.now c.requires.0 c.requires.1 c.used_at.result c.used_at.ensures)

pub new-requires : goal.new-requires
new-requires c = own-whole c.args.place.now c.requires.0 c.requires.1 c.used_at.result c.used_at.ensures

pub returns : goal.returns
returns c = c.new.ensures ∙ own-part c.args.place.now c.requires.0 c.requires.1 c.used_at.result c.used_at.ensures
