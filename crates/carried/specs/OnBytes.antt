-- What is promised of any calls on the bytes that an accepted opening left.
-- Assumes nothing.
use Rattle.std.specs.Prelude.{ℕ, ◌≡◌, true, List, [], ◌∷◌}
use Rattle.paper.specs.Lists.{total}
use Rattle.paper.specs.Keys.{Bytes}
use Rattle.paper.specs.Calls.{Call}
use Rattle.layout.specs.Layout.{store_in, on_bytes}
use Rattle.layout.specs.Runs.{run_on}
use Rattle.serial.specs.Trace.{Event, event}
use Rattle.serial.specs.Line.{Accepted, accepted, line, stands, carried_all, alone_all}
use Rattle.serial.specs.Serial.{contents}

-- the calls on the bytes, refused ones included, each with its reply
unfoldable pub events_on : List Call → Bytes → List Event
events_on [] b = []
events_on (c ∷ cs) b = let further = events_on cs (on_bytes c b).1 in event c (on_bytes c b).0 ∷ further

abbrev pub line_on : List Call → Bytes → List Accepted
line_on cs b = line (accepted (events_on cs b))

-- The words are those of `Serial` in crate serial; b: the bytes that the opening left.
pub record SerialOn (b : Bytes) (cs : List Call) : Type 0 where
  pub each : (f : Accepted → ℕ) → total f (line_on cs b) ≡ total f (accepted (events_on cs b))
  pub placed : stands (store_in b).clock (line_on cs b) ≡ true
  pub same : alone_all (contents (store_in b)) (line_on cs b) ≡ true
  pub ends : (k : Bytes) → carried_all (contents (store_in b)) (line_on cs b) k ≡ contents (store_in (run_on cs b).1) k
