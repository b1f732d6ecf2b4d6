-- What holds where a transaction enters a sound state, and where one leaves it.
-- Assumes nothing.
use Rattle.std.specs.Prelude.{ℕ, ◌+◌, ◌≡◌, Bool, true, Ok}
use Rattle.paper.specs.Keys.{Bytes}
use Rattle.paper.specs.Refusals.{Refusal, no_room, reader_table, counter_full, go}
use Rattle.paper.specs.Calls.{began, begun, try_begin, ended}
use Rattle.layout.specs.Offsets.{place_at, rows_part}
use Rattle.layout.specs.Layout.{store_in, sound_state, write_store}
use Rattle.settings.specs.Shapes.{shape_of}
use Rattle.settings.specs.declared.Shape.{Shape}
use Rattle.table.specs.Rows.{checked}
use Rattle.table.specs.declared.RowRefusal.{RowRefusal}
use Rattle.table.specs.declared.RowRefusal.TheVariants.{Full, Most}
use Rattle.table.proofs.PlacesLie.{FreeAt}
use Rattle.seat.specs.Seats.{Seated}

-- 'a reader table full for a new timestamp', and 'a reader's count there'
abbrev pub row_refusal : RowRefusal → Refusal
row_refusal Full = no_room reader_table
row_refusal Most = counter_full

-- nothing refuses a begin: the first free place begins at `start`, and there is a row for a reader at the clock
pub record MayBegin (b : Bytes) (z : Shape) (start handle clock : ℕ) : Type 0 where
  pub sound : sound_state b ≡ true
  pub shape : z ≡ shape_of (store_in b).settings
  pub index : ℕ
  pub free : FreeAt (store_in b).places index
  pub place : start ≡ place_at (store_in b).settings index
  pub row : checked (rows_part (store_in b).settings b) clock ≡ Ok tt
  pub next : handle ≡ (store_in b).counter + 1
  pub reads : clock ≡ (store_in b).clock
  pub begins : try_begin (store_in b) ≡ go (record { reply = began handle clock; store = begun (store_in b) })

-- a transaction at `place` reads at `read`
pub record MayEnd (b : Bytes) (z : Shape) (place read : ℕ) : Type 0 where
  pub sound : sound_state b ≡ true
  pub shape : z ≡ shape_of (store_in b).settings
  pub handle : ℕ
  pub mark : Bool
  pub seat : Seated (store_in b) handle place read mark

-- and that transaction is ended
abbrev pub HasEnded : Bytes → ℕ → ℕ → Bytes → Type 0
HasEnded b place read a = (h : ℕ) (mark : Bool) (p : Seated (store_in b) h place read mark) → a ≡ write_store (ended (store_in b) p.txn) b
