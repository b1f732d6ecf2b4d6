-- What a host hears of a call: the reply's own words, and the out buffers.
-- Assumes nothing.
use Rattle.std.specs.Prelude.{◌≡◌, List, [], ◌∷◌, map}
use Rattle.paper.specs.Keys.{Bytes}
use Rattle.paper.specs.Calls.{Call}
use Rattle.reply.specs.Told.{Told}
use Rattle.reply.specs.OnBytes.{told_on, value_on, key_on}
use Rattle.reply.specs.Read.{reply_read}
use Rattle.serial.specs.Trace.{Event, event}

-- a call, what its reply told, and its out buffers after it
pub record Heard : Type 0 where
  pub call : Call
  pub told : Told
  pub key : Bytes
  pub value : Bytes

abbrev pub event_heard : Heard → Event
event_heard h = event h.call (reply_read h.told h.key h.value)

abbrev pub events_heard : List Heard → List Event
events_heard hs = map event_heard hs

abbrev pub calls_heard : List Heard → List Call
calls_heard hs = map (λ h. h.call) hs

-- One call on the bytes b, which leaves the bytes a: what the contracts of crate store say of it. The out buffers held key and value before it.
pub record Made (h : Heard) (b a key value : Bytes) : Type 0 where
  pub tells : ◌≡◌ {A = Told × Bytes} (h.told, a) (told_on h.call b)
  pub keys : h.key ≡ key_on h.call b key
  pub values : h.value ≡ value_on h.call b value

-- Calls one after the other, from the bytes b to the bytes a: nothing else writes the state between them.
pub data Session : Bytes → List Heard → Bytes → Type 0 where
  over : (b : Bytes) → Session b [] b
  next : (h : Heard) (hs : List Heard) (b c a key value : Bytes) → Made h b c key value → Session c hs a → Session b (h ∷ hs) a
