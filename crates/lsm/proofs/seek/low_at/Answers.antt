use Rattle.lsm.proofs.SeekLaws.{low-included, low-excluded, low-unbounded}
use Rattle.lsm.proofs.seek.low_at.Goals as goal

pub returns-in-Included : goal.returns-in-Included
returns-in-Included c =
    rw c.in-Included.is
    (low-included c.args.s.now c.in-Included.lo.now c.for_range_begin.result c.args.from c.args.end c.seek.result c.requires c.for_range_begin.ensures c.seek.ensures)

pub returns-in-Excluded : goal.returns-in-Excluded
returns-in-Excluded c =
    rw c.in-Excluded.is
    (low-excluded c.in-Excluded.lo.now c.for_range_end.result c.for_range_end.ensures c.args.s.now c.args.from c.args.end c.seek-last.result c.past_key.result c.requires c.seek-last.ensures c.past_key.ensures)

pub returns-in-Unbounded : goal.returns-in-Unbounded
returns-in-Unbounded c = rw c.in-Unbounded.is (low-unbounded c.args.s.now c.args.from c.args.end c.requires)
