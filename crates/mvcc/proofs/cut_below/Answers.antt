use Rattle.std.proofs.Common.{arith}
use Rattle.mvcc.specs.Histories.{commit_of}
use Rattle.mvcc.proofs.Reading.{front}
use Rattle.mvcc.proofs.Pruning.{cut-start, cut-end, cut-stop, cut_on}
use Rattle.mvcc.proofs.cut_below.Goals as goal
use Rattle.mvcc.proofs.cut_below.Goals.{in-Some+then-watermark-entry, in_default}

pub loop-entry-init : goal.loop-entry-init
loop-entry-init c = cut-start c.args.history.now c.args.watermark c.requires

pub loop-entry-smaller : goal.loop-entry-smaller
loop-entry-smaller c =
    omega (arith, (front c.loop-entry.stays.now (commit_of c.in-Some.entry) c.in-Some.behind.now c.in-Some.ensures).long)

pub loop-entry-preserved : goal.loop-entry-preserved
loop-entry-preserved c =
    cut_on c.loop-entry.invariant (commit_of c.in-Some.entry) c.in-Some.behind.now c.in-Some.ensures c.if-watermark-entry.false

pub returns : goal.returns
returns c =
    elim c.match-split_entry.branch [
      | in-Some+then-watermark-entry w ↦ cut-stop c.loop-entry.invariant (commit_of w.in-Some.entry) w.in-Some.behind.now w.in-Some.ensures w.if-watermark-entry.true
      | in_default w ↦ cut-end c.loop-entry.invariant w.in_default.ensures
    ]
