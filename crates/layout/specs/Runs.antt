-- Calls one after the other: on a state's bytes, and on a store.
-- Assumes nothing.
use Rattle.std.specs.Prelude.{ℕ, Bool, true, false, ◌&&◌, List, [], ◌∷◌, eqb}
use Rattle.paper.specs.Keys.{Bytes}
use Rattle.paper.specs.Store.{Store}
use Rattle.paper.specs.Calls.{Reply, Call, opening, begin, get, scan, put, delete, commit, end, freeze, called, of_bytes}
use Rattle.layout.specs.Layout.{on_bytes}

-- the replies, refusals included, and the bytes after the last call
unfoldable pub run_on : List Call → Bytes → List Reply × Bytes
run_on [] b = ([], b)
run_on (c ∷ cs) b = let further = run_on cs (on_bytes c b).1 in ((on_bytes c b).0 ∷ further.0, further.1)

-- the same by the paper, on a store
unfoldable pub run_in : List Call → Store → List Reply × Store
run_in [] s = ([], s)
run_in (c ∷ cs) s = let further = run_in cs (called s c).store in ((called s c).reply ∷ further.0, further.1)

-- an opening anew, whatever its answer
unfoldable pub is_opening : Call → Bool
is_opening (opening st images lengths room) = true
is_opening begin = false
is_opening (get h k room) = false
is_opening (scan h lo hi key_room value_room) = false
is_opening (put h k b) = false
is_opening (delete h k) = false
is_opening (commit h) = false
is_opening (end h) = false
is_opening freeze = false

-- the room that an opening has is the buffer that is lent
unfoldable pub room_is : ℕ → Call → Bool
room_is n (opening st images lengths room) = eqb room n
room_is n begin = true
room_is n (get h k room) = true
room_is n (scan h lo hi key_room value_room) = true
room_is n (put h k b) = true
room_is n (delete h k) = true
room_is n (commit h) = true
room_is n (end h) = true
room_is n freeze = true

-- a call as a host makes it on a state of n bytes: what it hands over are bytes, and an opening has the whole buffer
unfoldable pub lent : ℕ → Call → Bool
lent n c = of_bytes c && room_is n c
