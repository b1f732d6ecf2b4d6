-- The lines of a script.
-- Assumes nothing.
use Rattle.std.specs.Prelude.{List}
use Rattle.paper.specs.Keys.{Bytes}
use Rattle.paper.specs.Replay.{pieces, lines_of}

-- the lines of a script's bytes, each without its LF
unfoldable pub lines_in : Bytes → List Bytes
lines_in s = lines_of (pieces 10 s)
