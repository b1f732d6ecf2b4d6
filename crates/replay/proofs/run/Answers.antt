-- What was shown ends within the buffer.
use lib.ListN.{take}
use Rattle.paper.specs.Replay.{replayed}
use Rattle.replay.proofs.Within.{ends-within, taken}
use Rattle.replay.proofs.run.Goals as goal

pub slice_bounds-write_all-end : goal.slice_bounds-write_all-end
slice_bounds-write_all-end c =
    ends-within c.args.out.now (replayed (take c.read_full-n.result c.read_full-n.new.buf)) c.replay-end.new.out c.replay-end.result c.replay-end.ensures

pub slice_bounds-write_all-end-2 : goal.slice_bounds-write_all-end-2
slice_bounds-write_all-end-2 c =
    taken c.args.out.now (replayed (take c.read_full-n.result c.read_full-n.new.buf)) c.replay-end.new.out c.replay-end.result c.replay-end.ensures
