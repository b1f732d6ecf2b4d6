-- What is known of the rows so far.
use Rattle.std.proofs.Common.{◌≡◌, true, Ok, length, get_or}
use Rattle.paper.specs.Readers.{row}
use Rattle.watermark.specs.Table.{up_to}
use Rattle.watermark.specs.Pass.{scanned}
use Rattle.watermark.proofs.scan.Given as goal

abbrev pub invariant-loop-t : goal.invariant-loop-t
invariant-loop-t l = Ok l.s ≡ scanned true l.time (up_to (length l.yielded) (λ i. row (get_or l.times i 0) (get_or l.counts i 0)))
