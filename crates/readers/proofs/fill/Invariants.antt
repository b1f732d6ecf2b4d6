-- The rows so far have their timestamps and counts.
use Rattle.std.proofs.Common.{◌≡◌, ℕ, ◌<◌, length, get_or}
use Rattle.watermark.specs.Table.{no_row}
use Rattle.readers.proofs.fill.Given as goal

abbrev pub invariant-loop-i : goal.invariant-loop-i
invariant-loop-i l =
    (length l.rows ≡ 4)
    × ((k : ℕ) → k < l.i → get_or l.rows k no_row ≡ record { time = get_or l.times k 0; count = get_or l.counts k 0 })
