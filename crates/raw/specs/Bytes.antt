-- A part of some bytes, and bytes with a part replaced.
-- Assumes nothing.
use Rattle.std.specs.Prelude.{ℕ, ◌+◌, ◌++◌, length, take, drop}
use Rattle.paper.specs.Keys.{Bytes}

-- the n bytes from index at
abbrev pub part : Bytes → ℕ → ℕ → Bytes
part s at n = take n (drop at s)

-- l with x in place of as many bytes from index at
unfoldable pub over : Bytes → ℕ → Bytes → Bytes
over l at x = take at l ++ (x ++ drop (at + length x) l)
