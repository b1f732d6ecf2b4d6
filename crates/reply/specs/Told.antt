-- What a reply tells, and which reply of the paper each answer and each refusal of the code is.
-- The bytes of an answer stand in the out buffers (`value_out`, `key_out`), so the reply itself tells how many they are.
-- Assumes nothing.
use Rattle.std.specs.Prelude as std
use Rattle.std.specs.Prelude.{ℕ, length, Some, None, Result, Ok, Err, ⊤}
use Rattle.std.proofs.Math.Option.{Option, none, some}
use Rattle.paper.specs.Keys.{Bytes, Pair}
use Rattle.paper.specs.Refusals as paper
use Rattle.paper.specs.Calls.{Reply, done, began, found, answered, committed, refused}
use Rattle.reply.specs.declared.Room.{Room}
use Rattle.reply.specs.declared.Room.TheVariants as room
use Rattle.reply.specs.declared.Refusal.{Refusal}
use Rattle.reply.specs.declared.Refusal.TheVariants as refusal
use Rattle.reply.specs.declared.Begun.{Begun}
use Rattle.reply.specs.declared.PairLengths.{PairLengths}

-- ---- what a reply tells
pub data Told : Type 0 where
  nothing : Told
  handle : ℕ → ℕ → Told
  value : Option ℕ → Told
  pair : Option (ℕ × ℕ) → Told
  number : Option ℕ → Told
  why : paper.Refusal → Told

abbrev pub value_length : Option Bytes → Option ℕ
value_length none = none
value_length (some b) = some (length b)

abbrev pub pair_lengths : Option Pair → Option (ℕ × ℕ)
pair_lengths none = none
pair_lengths (some p) = some (length p.key, length p.value)

unfoldable pub told : Reply → Told
told done = nothing
told (began h r) = handle h r
told (found b) = value (value_length b)
told (answered p) = pair (pair_lengths p)
told (committed n) = number n
told (refused r) = why r

-- the table 'numbers returned'
unfoldable pub told_number : Told → ℕ
told_number nothing = 0
told_number (handle h r) = 0
told_number (value n) = 0
told_number (pair p) = 0
told_number (number n) = 0
told_number (why r) = paper.refusal_number r

-- ---- the enums
abbrev pub room_of : Room → paper.Room
room_of room.Places = paper.places
room_of room.Overlay = paper.overlay
room_of room.ReadSet = paper.read_set
room_of room.WriteSet = paper.write_set
room_of room.OutBuffer = paper.out_buffer
room_of room.History = paper.history
room_of room.ActiveRun = paper.active_run
room_of room.RunArea = paper.run_area
room_of room.ReaderTable = paper.reader_table
room_of room.StateBuffer = paper.state_buffer

abbrev pub refusal_of : Refusal → paper.Refusal
refusal_of refusal.EmptyKey = paper.empty_key
refusal_of refusal.TooLong = paper.too_long
refusal_of refusal.NoHandle = paper.no_handle
refusal_of refusal.Closed = paper.is_closed
refusal_of (refusal.NoRoom r) = paper.no_room (room_of r)
refusal_of (refusal.Conflict n h) = paper.conflicts (record { number = n; hash = h })
refusal_of refusal.CounterFull = paper.counter_full
refusal_of refusal.Unsound = paper.unsound
refusal_of (refusal.BadRun n) = paper.bad_run n
refusal_of (refusal.ForeignRun n) = paper.foreign_run n
refusal_of refusal.BadSetting = paper.bad_setting

-- ---- what each answer tells
abbrev pub done_told : ⊤ → Told
done_told u = nothing

abbrev pub begun_told : Begun → Told
begun_told b = handle b.handle b.read

abbrev pub got_told : std.Option ℕ → Told
got_told (Some n) = value (some n)
got_told None = value none

abbrev pub scanned_told : std.Option PairLengths → Told
scanned_told (Some p) = pair (some (p.key, p.value))
scanned_told None = pair none

abbrev pub committed_told : std.Option ℕ → Told
committed_told (Some n) = number (some n)
committed_told None = number none

-- ---- the replies: what the answer tells, or why there is none
abbrev pub told_by : {A : Type 0} → (A → Told) → Result A Refusal → Told
told_by f (Ok x) = f x
told_by f (Err w) = why (refusal_of w)

abbrev pub told_settled : Result ⊤ Refusal → Told
told_settled = told_by done_told

abbrev pub told_begun : Result Begun Refusal → Told
told_begun = told_by begun_told

abbrev pub told_got : Result (std.Option ℕ) Refusal → Told
told_got = told_by got_told

abbrev pub told_scanned : Result (std.Option PairLengths) Refusal → Told
told_scanned = told_by scanned_told

abbrev pub told_committed : Result (std.Option ℕ) Refusal → Told
told_committed = told_by committed_told

-- a check's answer: whether the call goes on
abbrev pub try_of : {A : Type 0} → Result A Refusal → paper.Try A
try_of (Ok x) = paper.go x
try_of (Err w) = paper.stop (refusal_of w)

-- ---- the number of a reply, whatever it answers
abbrev pub number_of : {A : Type 0} → Result A Refusal → ℕ
number_of (Ok x) = 0
number_of (Err w) = paper.refusal_number (refusal_of w)
