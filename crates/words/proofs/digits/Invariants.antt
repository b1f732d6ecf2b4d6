-- n is the number of the digits before the index.
use Rattle.std.proofs.Common.{◌≡◌, ◌≤◌, drop}
use Rattle.paper.specs.Settings.{most_number}
use Rattle.words.specs.Fields.{digits_from}
use Rattle.words.proofs.digits.Given as goal

abbrev pub invariant-loop-b : goal.invariant-loop-b
invariant-loop-b l = record { sofar : digits_from 0 l.s ≡ digits_from l.n (drop l.b-index l.s); fits : l.n ≤ most_number }
