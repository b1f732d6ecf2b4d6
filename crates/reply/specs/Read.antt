-- The reply that a host reads off: what the reply tells, with the bytes that stand in the out buffers.
-- Assumes nothing.
use Rattle.std.specs.Prelude.{ℕ, take}
use Rattle.std.proofs.Math.Option.{Option, none, some}
use Rattle.paper.specs.Keys.{Bytes, Pair}
use Rattle.paper.specs.Calls.{Reply, done, began, found, answered, committed, refused}
use Rattle.reply.specs.Told.{Told, nothing, handle, value, pair, number, why}

abbrev pub value_read : Option ℕ → Bytes → Option Bytes
value_read none out = none
value_read (some n) out = some (take n out)

abbrev pub pair_read : Option (ℕ × ℕ) → Bytes → Bytes → Option Pair
pair_read none k v = none
pair_read (some p) k v = some (record { key = take p.0 k; value = take p.1 v })

-- the reply that this is: an answer's bytes are the first of the out buffers, as many as the reply told
unfoldable pub reply_read : Told → Bytes → Bytes → Reply
reply_read nothing k v = done
reply_read (handle h r) k v = began h r
reply_read (value n) k v = found (value_read n v)
reply_read (pair p) k v = answered (pair_read p k v)
reply_read (number n) k v = committed n
reply_read (why r) k v = refused r
