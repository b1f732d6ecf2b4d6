-- How long the output of `replay` can be.
-- Assumes nothing.
use Rattle.std.specs.Prelude.{ℕ, ◌≤◌, length}
use Rattle.paper.specs.Keys.{Bytes}
use Rattle.paper.specs.Replay.{replayed}

-- 25 bytes for each byte of input and one more: 25 · (32,768 + 1).
-- The input has 'at most 32,768 bytes', and so fewer than 100,000 lines; 'the last may lack' its LF, which is the one byte more.
-- A line that is understood takes 2 bytes or more with its LF, and gives 50 at most: `b` gives a line number of 5 digits, 0, a handle and a read number of 20
-- digits, three spaces and an LF. Keys and values have at most 16 bytes, so `f` gives at most 42.
-- A line that is not understood takes 1 byte or more, and gives at most 9: a line number, a space, 13 and an LF.
abbrev pub most_output : ℕ
most_output = 819_225

abbrev pub Fits : Bytes → Type 0
Fits input = length (replayed input) ≤ most_output
