-- The answer among the own writes is the answer in the place that they are a part of.
use Rattle.std.proofs.Common.{arith}
use Rattle.overlay.proofs.Answering.{answer-within}
use Rattle.txn.specs.Place.{own_start, own_end}
use Rattle.txn.proofs.Holding.{own-parts}
use Rattle.txn.proofs.own_write.Goals as goal

pub returns : goal.returns
returns c =
    answer-within c.args.place.now own_start (own_end c.args.place.now) (omega arith) (own-parts c.args.place.now c.requires.1).0 c.own.result.bytes.now c.own.ensures c.args.key.now c.get.result c.get.ensures
