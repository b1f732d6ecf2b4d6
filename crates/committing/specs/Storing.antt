-- What holds where a commit goes on, step by step, and the active run that it leaves.
-- Assumes nothing.
use Rattle.std.specs.Prelude.{ℕ, ◌+◌, ◌<◌, ◌≡◌, true, false}
use Rattle.std.proofs.Math.Option.{Option, none}
use Rattle.paper.specs.Lists.{is_empty}
use Rattle.paper.specs.Keys.{Bytes}
use Rattle.paper.specs.Runs.{Run}
use Rattle.paper.specs.Image.{number_from}
use Rattle.paper.specs.History.{Opponent, opponent}
use Rattle.paper.specs.Refusals.{Try}
use Rattle.paper.specs.Settings.{most_number}
use Rattle.paper.specs.Room.{history_fits, active_fits}
use Rattle.paper.specs.Calls.{Outcome, history_after, active_after}
use Rattle.raw.specs.Bytes.{part}
use Rattle.layout.specs.Layout.{store_in, sound_state, settled_on}
use Rattle.settings.specs.Shapes.{shape_of}
use Rattle.settings.specs.declared.Shape.{Shape}
use Rattle.versions.specs.Absorbing.{Absorbable, absorbed}
use Rattle.reply.specs.Told.{Told}
use Rattle.reply.specs.OnBytes.{heard}
use Rattle.seat.specs.Seats.{Seated}
use Rattle.committing.specs.Held.{held_at}

-- what a host hears of the end of a call, and the bytes after it
abbrev pub heard_of : Bytes → Try Outcome → Told × Bytes
heard_of b m = heard (settled_on b m)

-- ---- the active run and the own writes
-- where a list ends that has the number of its bytes in front
abbrev pub end_at : Bytes → ℕ → ℕ
end_at b at = at + 8 + number_from 0 (part b at 8)

-- the active run's records and the own writes of the transaction at `place` lie where the numbers in front of them say, and may be joined under a number
abbrev pub Ready : Bytes → Shape → ℕ → ℕ → Type 0
Ready b z place n = Absorbable b (z.active + 8) (end_at b z.active) (place + 32) (end_at b (place + 24)) n

-- 'each overlay entry becomes a version with that timestamp in the active run'
abbrev pub run_with : Bytes → Shape → ℕ → ℕ → Run
run_with b z place n = absorbed b (z.active + 8) (end_at b z.active) (place + 32) (end_at b (place + 24)) n

-- ---- the steps
-- an open transaction at `place`: 'there are writes'
pub record MayCommit (b : Bytes) (z : Shape) (place : ℕ) : Type 0 where
  pub sound : sound_state b ≡ true
  pub shape : z ≡ shape_of (store_in b).settings
  pub handle : ℕ
  pub read : ℕ
  pub seat : Seated (store_in b) handle place read true
  pub writes : is_empty seat.txn.own ≡ false

-- who is in the way of the transaction at `place`
abbrev pub opponent_at : Bytes → ℕ → Option Opponent
opponent_at b place = opponent (held_at b place).read (held_at b place).reads (store_in b).history

-- nobody is
pub record MayStore (b : Bytes) (z : Shape) (place : ℕ) : Type 0 where
  pub commits : MayCommit b z place
  pub clear : opponent_at b place ≡ none

-- and there are a number and room for its writes
pub record MayWrite (b : Bytes) (z : Shape) (place n : ℕ) : Type 0 where
  pub stores : MayStore b z place
  pub next : n ≡ (store_in b).clock + 1
  pub number : (store_in b).clock < most_number
  pub history : history_fits (store_in b).settings (history_after (store_in b) (held_at b place)) ≡ true
  pub active : active_fits (store_in b).settings (active_after (store_in b) (held_at b place)) ≡ true
