use Rattle.lsm.specs.Edges.{bound_of}
use Rattle.lsm.proofs.SeekLaws.{cursor-run, cursor-low}
use Rattle.lsm.proofs.seek.seek_low.Goals as goal

pub low_at-requires : goal.low_at-requires
low_at-requires c = cursor-run c.args.s.now c.args.c c.requires

pub returns : goal.returns
returns c = cursor-low c.args.s.now (bound_of c.args.low) c.args.c c.low_at.result c.requires c.low_at.ensures
