-- Where the sets of a transaction lie in a state, by its shape, and what stands in a list.
-- Assumes nothing.
use Rattle.std.specs.Prelude.{ℕ, ◌+◌, ◌*◌}
use Rattle.paper.specs.Keys.{Bytes}
use Rattle.raw.specs.Bytes.{part}
use Rattle.settings.specs.declared.Shape.{Shape}
use Rattle.txn.specs.Place.{used_at}
use Rattle.committing.specs.declared.history.SetStarts.{SetStarts}

-- the bytes of a list behind the number of them: the history's entries, or the hashes of a set
abbrev pub list_at : Bytes → ℕ → Bytes
list_at b at = part b (at + 8) (used_at b at)

-- the sets of the transaction at a place, each with the number of its bytes in front: the read set behind the own writes, then the write set
abbrev pub set_starts : Shape → ℕ → SetStarts
set_starts z place = record { reads = place + 32 + z.own; writes = place + 32 + z.own + 8 + 4 * z.reads }
