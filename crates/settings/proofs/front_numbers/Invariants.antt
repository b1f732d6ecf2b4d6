-- The invariant: the numbers before the next one are those of the state.
use Rattle.std.proofs.Common.{◌≡◌, ℕ, ◌*◌, ◌<◌, length, get_or}
use Rattle.paper.specs.Image.{number_from}
use Rattle.raw.specs.Bytes.{part}
use Rattle.settings.proofs.front_numbers.Given as goal

abbrev pub invariant-loop-i : goal.invariant-loop-i
invariant-loop-i l = (length l.n-items ≡ 9) × ((k : ℕ) → k < l.i → get_or l.n-items k 0 ≡ number_from 0 (part l.state (8 * k) 8))
