-- How many versions a run has, and its earliest and latest timestamps.
-- Assumes nothing.
use Rattle.std.specs.Prelude.{ℕ, ◌+◌, min, max, [], ◌∷◌, length}
use Rattle.paper.specs.Runs.{Run}
use Rattle.paper.specs.Settings.{most_number}
use Rattle.paper.specs.Store.{latest}
use Rattle.run.specs.declared.tally.Tally.{Tally}

-- the smallest timestamp among the versions, the largest of 64 bits if there are none
unfoldable pub earliest : Run → ℕ
earliest [] = most_number
earliest (v ∷ vs) = min v.time (earliest vs)

unfoldable pub tally_of : Run → Tally
tally_of r = record { count = length r; earliest = earliest r; latest = latest r }

-- with one more version
abbrev pub counted : Tally → ℕ → Tally
counted t time = record { count = t.count + 1; earliest = min t.earliest time; latest = max t.latest time }
