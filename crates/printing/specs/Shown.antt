-- A text shown in an out buffer: as much of it as fits, and the index behind that.
-- Assumes nothing.
use Rattle.std.specs.Prelude.{ℕ, ◌+◌, ◌-◌, length, take}
use Rattle.paper.specs.Keys.{Bytes}
use Rattle.raw.specs.Bytes.{over}

-- the first bytes of x, as many as there is room for from index at on
unfoldable pub fitting : Bytes → ℕ → Bytes → Bytes
fitting out at x = take (length out - at) x

-- The buffer with x from index at on, and the index behind it. What does not fit is left out.
unfoldable pub shown : Bytes → ℕ → Bytes → Bytes × ℕ
shown out at x = (over out at (fitting out at x), at + length (fitting out at x))
