use mathlib.Core.Path.{◌∙◌}
use Rattle.merge.specs.Cursors.{left}
use Rattle.lsm.specs.Seeking.{run_in}
use Rattle.lsm.proofs.SeekLaws.{cursor-run, run-rises}
use Rattle.lsm.proofs.NewestLaws.{newest-sought}
use Rattle.lsm.proofs.get.newest_in.Goals as goal

pub seek-at-requires : goal.seek-at-requires
seek-at-requires c = cursor-run c.args.s.now c.args.c c.requires

pub returns : goal.returns
returns c = (
  c.first_of.ensures.is
      ∙ newest-sought c.args.key.now c.new.result c.args.read c.new.ensures (left c.args.s.now c.args.c) (run_in c.args.s.now c.seek-at.result c.args.c.end) (run-rises c.args.s.now c.args.c.at c.args.c.end (cursor-run c.args.s.now c.args.c c.requires)) c.seek-at.ensures.kept,
  c.first_of.ensures.inside,
)
