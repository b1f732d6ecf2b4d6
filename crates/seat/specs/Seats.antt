-- The transaction of a handle, as code finds it.
-- Assumes nothing.
use Rattle.std.specs.Prelude as std
use Rattle.std.specs.Prelude.{ℕ, ◌<◌, ◌≡◌, Bool, true, get_or, set, Some, None, Result, Ok, Err}
use Rattle.std.proofs.Math.Option.{Option, none, some}
use Rattle.paper.specs.Refusals.{stop}
use Rattle.paper.specs.Store.{Txn, Store, find_txn, put_txn}
use Rattle.paper.specs.Calls.{in_open_txn}
use Rattle.layout.specs.Offsets.{place_at}
use Rattle.reply.specs.Told.{refusal_of}
use Rattle.reply.specs.declared.Refusal.{Refusal}
use Rattle.seat.specs.declared.Seat.{Seat}

-- the handle's transaction: its place, which begins at `at`, its read number, and whether it is open
pub record Seated (s : Store) (h at read : ℕ) (mark : Bool) : Type 0 where
  pub index : ℕ
  pub txn : Txn
  pub inside : index < s.settings.transactions
  pub start : at ≡ place_at s.settings index
  pub here : get_or s.places index none ≡ some txn
  pub handle : txn.handle ≡ h
  pub found : find_txn h s.places ≡ some txn
  -- what is at the handle's place is put anew there
  pub put : (n : Option Txn) → put_txn h n s.places ≡ set s.places index n
  pub reads : txn.read ≡ read
  pub marked : txn.open? ≡ mark

abbrev pub SeatTold : Store → ℕ → std.Option Seat → Type 0
SeatTold s h (Some seat) = Seated s h seat.place seat.read seat.open
SeatTold s h None = find_txn h s.places ≡ none

-- the open transaction, which is told as open, or why no call that needs one enters it
abbrev pub OpenTold : Store → ℕ → Result Seat Refusal → Type 0
OpenTold s h (Ok seat) = Seated s h seat.place seat.read true × (seat.open ≡ true)
OpenTold s h (Err w) = in_open_txn s h ≡ stop (refusal_of w)
