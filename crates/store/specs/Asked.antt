-- A get and a scan as the paper's calls: the room of an out buffer is its length.
-- Assumes nothing.
use Rattle.std.specs.Prelude.{ℕ, length}
use Rattle.paper.specs.Keys.{Bytes}
use Rattle.paper.specs.Bounds.{Bound}
use Rattle.paper.specs.Calls.{Call}

abbrev pub get_of : ℕ → Bytes → Bytes → Call
get_of handle key out = Call.get handle key (length out)

abbrev pub scan_of : ℕ → Bound → Bound → Bytes → Bytes → Call
scan_of handle low high key_out value_out = Call.scan handle low high (length key_out) (length value_out)
