-- What is known of the rows before the index.
use Rattle.std.proofs.Common.{◌≡◌, true, Ok, get_or}
use Rattle.watermark.specs.Table.{up_to, as_row, no_row}
use Rattle.watermark.specs.Pass.{scanned}
use Rattle.watermark.proofs.rows.scan.Given as goal

abbrev pub invariant-loop-row : goal.invariant-loop-row
invariant-loop-row l = Ok l.s ≡ scanned true l.time (up_to l.row-index (λ i. as_row (get_or l.rows i no_row)))
