-- Demand 3, of what a host heard from an accepted opening on.
-- Assumes nothing.
use Rattle.std.specs.Prelude.{ℕ, ◌≡◌, true, List}
use Rattle.paper.specs.Lists.{total}
use Rattle.paper.specs.Keys.{Bytes}
use Rattle.layout.specs.Layout.{store_in}
use Rattle.serial.specs.Line.{Accepted, accepted, line, stands, carried_all, alone_all}
use Rattle.serial.specs.Serial.{contents}
use Rattle.heard.specs.Heard.{Heard, events_heard}

-- the accepted transactions in one line
abbrev pub line_heard : List Heard → List Accepted
line_heard hs = line (accepted (events_heard hs))

-- The words are those of `Serial` in crate serial; b: the bytes that the opening left, a: those that the last call left.
pub record SerialHeard (b : Bytes) (hs : List Heard) (a : Bytes) : Type 0 where
  -- the line has the accepted transactions and no others, each as often
  pub each : (f : Accepted → ℕ) → total f (line_heard hs) ≡ total f (accepted (events_heard hs))
  -- 'writers by commit number; those without writes right after the writer with their read number, or at the head if that is the opening clock'
  pub placed : stands (store_in b).clock (line_heard hs) ≡ true
  -- 'carried out alone on a plain map, every answered get and every scanned pair comes out the same'
  pub same : alone_all (contents (store_in b)) (line_heard hs) ≡ true
  -- 'and the map ends as the store's newest contents'
  pub ends : (k : Bytes) → carried_all (contents (store_in b)) (line_heard hs) k ≡ contents (store_in a) k
