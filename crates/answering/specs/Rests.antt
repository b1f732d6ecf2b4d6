-- The rest of a get and of a scan, once the transaction's place and the answer are known.
-- Assumes nothing.
use Rattle.std.specs.Prelude.{ℕ, ◌≡◌}
use Rattle.std.proofs.Math.Option.{Option, some}
use Rattle.paper.specs.Keys.{Bytes, Pair}
use Rattle.paper.specs.Hash.{hash_of}
use Rattle.paper.specs.Refusals.{no_room, read_set, out_buffer, Try, stop, go, must, ◌>>◌}
use Rattle.paper.specs.Room.{answer_fits, pair_fits}
use Rattle.paper.specs.Calls.{Reply, found, answered, value_out, key_out}
use Rattle.settings.specs.declared.Shape.{Shape}
use Rattle.reply.specs.Told.{Told, told, why}
use Rattle.answering.specs.Places.{read_fits}

-- ---- 5: 'hash new and set full', then 'out buffer shorter than the answer'
-- a get's: the state's bytes, the place, the key's hash, the out buffer's room, the answer
unfoldable pub rest_of_get : Shape → Bytes → ℕ → ℕ → ℕ → Option Bytes → Try Reply
rest_of_get z b at hash room answer = do
  must (read_fits z b at hash) (no_room read_set)
  must (answer_fits room answer) (no_room out_buffer)
  go (found answer)

-- a scan's that hands out a pair, with room for its key and for its value
unfoldable pub rest_of_scan : Shape → Bytes → ℕ → ℕ → ℕ → Pair → Try Reply
rest_of_scan z b at key_room value_room p = do
  must (read_fits z b at (hash_of p.key)) (no_room read_set)
  must (pair_fits key_room value_room p) (no_room out_buffer)
  go (answered (some p))

-- ---- how it ends: 'refusals write nothing to any lent buffer'
-- what is told
abbrev pub told_by : Try Reply → Told
told_by (stop r) = why r
told_by (go a) = told a

-- the state's bytes: after an answer, those with its hash in the read set
abbrev pub state_by : Bytes → Bytes → Try Reply → Bytes
state_by b after (stop r) = b
state_by b after (go a) = after

-- the value's out buffer, and the key's
abbrev pub value_by : Try Reply → Bytes → Bytes
value_by (stop r) out = out
value_by (go a) out = value_out a out

abbrev pub key_by : Try Reply → Bytes → Bytes
key_by (stop r) out = out
key_by (go a) out = key_out a out

-- a get's rest m, on a state's bytes b and an out buffer, told t and left b' and out'
pub record GetEnded (m : Try Reply) (b after out : Bytes) (t : Told) (b' out' : Bytes) : Type 0 where
  pub tells : t ≡ told_by m
  pub state : b' ≡ state_by b after m
  pub value : out' ≡ value_by m out

-- a scan's likewise, with an out buffer for the key and one for the value
pub record ScanEnded (m : Try Reply) (b after keys values : Bytes) (t : Told) (b' keys' values' : Bytes) : Type 0 where
  pub tells : t ≡ told_by m
  pub state : b' ≡ state_by b after m
  pub key : keys' ≡ key_by m keys
  pub value : values' ≡ value_by m values
