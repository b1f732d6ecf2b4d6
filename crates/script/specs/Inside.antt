-- That an answer's bytes lie within the out buffers.
-- Assumes nothing.
use Rattle.std.specs.Prelude.{ℕ, ◌≤◌, length}
use Rattle.std.proofs.Math.Option.{Option, none, some}
use Rattle.paper.specs.Keys.{Bytes}
use Rattle.reply.specs.Told.{Told, nothing, handle, value, pair, number, why}

-- k and v are the out buffers
abbrev pub ValueInside : Bytes → Option ℕ → Type 0
ValueInside v none = Unit
ValueInside v (some n) = n ≤ length v

abbrev pub PairInside : Bytes → Bytes → Option (ℕ × ℕ) → Type 0
PairInside k v none = Unit
PairInside k v (some p) = (p.0 ≤ length k) × (p.1 ≤ length v)

abbrev pub Inside : Bytes → Bytes → Told → Type 0
Inside k v nothing = Unit
Inside k v (handle h r) = Unit
Inside k v (value n) = ValueInside v n
Inside k v (pair p) = PairInside k v p
Inside k v (number n) = Unit
Inside k v (why r) = Unit
